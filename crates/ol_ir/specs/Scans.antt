-- What a scan for reads finds.
use Rattle.std.specs.Prelude.{ℕ, suc, ◌+◌, cond, List, ltb, eqb, length, get_or}
use Rattle.ol_spec.specs.Syntax.{Expr, bool_lit, int_lit, float_lit, char_lit, var, unary, binary, if_then_else, pre, arrow, cast, call, tuple, index, literal, map_over, fold_over, count}
use Rattle.ol_spec.specs.Places.{ty_size, expr_size}
use Rattle.ol_tables.specs.Heads.{name_at, parts_at, next_at}
use Rattle.ol_tables.specs.Walks.{skip_at}
use Rattle.ol_ir.specs.declared.Scan.{Scan}
use Rattle.ol_ir.specs.declared.Scan.TheVariants as Scn

-- What a scan for reads finds at an expression that starts at `at`: a Var's name; nothing under Pre, whose operand is passed over; the parts of any other
abbrev pub scan_of : ℕ → Expr → Scan
scan_of at (bool_lit b) = Scn.Parts 0 (at + 2)
scan_of at (int_lit i) = Scn.Parts 0 (at + 9)
scan_of at (float_lit b) = Scn.Parts 0 (at + 9)
scan_of at (char_lit c) = Scn.Parts 0 (at + 2)
scan_of at (var x) = Scn.Name x (at + 3)
scan_of at (unary op e) = Scn.Parts 1 (at + 2)
scan_of at (binary op l r) = Scn.Parts 2 (at + 2)
scan_of at (if_then_else c t e) = Scn.Parts 3 (at + 1)
scan_of at (pre e) = Scn.Parts 0 (at + 1 + expr_size e)
scan_of at (arrow a b) = Scn.Parts 2 (at + 1)
scan_of at (cast t e) = Scn.Parts 1 (at + (1 + ty_size t))
scan_of at (call k es) = Scn.Parts (count es) (at + 3)
scan_of at (tuple es) = Scn.Parts (count es) (at + 2)
scan_of at (index a i) = Scn.Parts 2 (at + 1)
scan_of at (literal es) = Scn.Parts (count es) (at + 2)
scan_of at (map_over k es) = Scn.Parts (count es) (at + 4)
scan_of at (fold_over k e es) = Scn.Parts (suc (count es)) (at + 4)

-- the same by the bytes, whatever they are: in the file; and at any place, with no part and no byte where the file ends
abbrev pub scan_inside : List ℕ → ℕ → Scan
scan_inside s at =
    cond (eqb (get_or s at 0) 4) (Scn.Name (name_at s (at + 1)) (at + 3))
    (cond (eqb (get_or s at 0) 8) (Scn.Parts 0 (skip_at s 1 (at + 1))) (Scn.Parts (parts_at s at) (next_at s at)))

unfoldable pub scan_at : List ℕ → ℕ → Scan
scan_at s at = cond (ltb at (length s)) (scan_inside s at) (Scn.Parts 0 at)
