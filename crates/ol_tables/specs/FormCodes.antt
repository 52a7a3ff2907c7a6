-- The forms of expressions and their codes.
use Rattle.std.specs.Prelude.{◌≡◌, ℕ, ◌<◌, Result, Ok, Err}
use Rattle.ol_tables.specs.declared.form.Form.{Form}
use Rattle.ol_tables.specs.declared.form.Form.TheVariants as Frm
use Rattle.ol_tables.specs.declared.form.NoForm.{NoForm}

-- the code of a form
abbrev pub code_of_form : Form → ℕ
code_of_form Frm.Bool = 0
code_of_form Frm.Int = 1
code_of_form Frm.Float = 2
code_of_form Frm.Char = 3
code_of_form Frm.Var = 4
code_of_form Frm.Unary = 5
code_of_form Frm.Binary = 6
code_of_form Frm.If = 7
code_of_form Frm.Pre = 8
code_of_form Frm.Arrow = 9
code_of_form Frm.Cast = 10
code_of_form Frm.Call = 11
code_of_form Frm.Tuple = 12
code_of_form Frm.Index = 13
code_of_form Frm.Literal = 14
code_of_form Frm.Iterator = 15

-- a byte is the form's code; a byte that is no form's is above 15
abbrev pub FormDecodes : ℕ → Result Form NoForm → Type 0
FormDecodes code (Ok form) = code ≡ code_of_form form
FormDecodes code (Err e) = 15 < code
