-- A form and its code tell each other.
use Prim.Native.Nat.{ℕ, ◌<◌, min}
use mathlib.Core.List.{List, [], ◌∷◌}
use mathlib.Core.Path.{◌≡◌, refl, sym, ap, ◌∙◌}
use native.Mathlib.Omega.{arith}
use lib.ListN.{get_or}
use Rattle.ol_tables.specs.declared.form.Form.{Form}
use Rattle.ol_tables.specs.declared.form.Form.TheVariants as Frm
use Rattle.ol_tables.specs.FormCodes.{code_of_form}

-- the forms in the order of their codes
abbrev forms : List Form
forms = Frm.Bool ∷ Frm.Int ∷ Frm.Float ∷ Frm.Char ∷ Frm.Var ∷ Frm.Unary ∷ Frm.Binary ∷ Frm.If ∷ Frm.Pre ∷ Frm.Arrow ∷ Frm.Cast ∷ Frm.Call ∷ Frm.Tuple ∷ Frm.Index ∷ Frm.Literal ∷ Frm.Iterator ∷ []

back : (f : Form) → get_or forms (code_of_form f) Frm.Iterator ≡ f
back Frm.Bool = refl
back Frm.Int = refl
back Frm.Float = refl
back Frm.Char = refl
back Frm.Var = refl
back Frm.Unary = refl
back Frm.Binary = refl
back Frm.If = refl
back Frm.Pre = refl
back Frm.Arrow = refl
back Frm.Cast = refl
back Frm.Call = refl
back Frm.Tuple = refl
back Frm.Index = refl
back Frm.Literal = refl
back Frm.Iterator = refl

low : (f : Form) → min (code_of_form f) 15 ≡ code_of_form f
low Frm.Bool = refl
low Frm.Int = refl
low Frm.Float = refl
low Frm.Char = refl
low Frm.Var = refl
low Frm.Unary = refl
low Frm.Binary = refl
low Frm.If = refl
low Frm.Pre = refl
low Frm.Arrow = refl
low Frm.Cast = refl
low Frm.Call = refl
low Frm.Tuple = refl
low Frm.Index = refl
low Frm.Literal = refl
low Frm.Iterator = refl

-- a code is read as its form
pub form_is : {code : ℕ} {f : Form} (g : Form) → min code 15 ≡ code_of_form f → code ≡ code_of_form g → f ≡ g
form_is {f = f} g h e = sym (back f) ∙ ap (λ n. get_or forms n Frm.Iterator) (sym h ∙ ap (λ n. min n 15) e ∙ low g) ∙ back g

-- and a form was read from its code
pub code_is : {code : ℕ} {f : Form} (g : Form) → code < 16 → min code 15 ≡ code_of_form f → f ≡ g → code ≡ code_of_form g
code_is {code} {f} g l h e = omega (arith, l, h ∙ ap code_of_form e)
