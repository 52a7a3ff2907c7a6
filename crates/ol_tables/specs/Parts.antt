-- An expression's own call site, and the types that a file can hold.
use Rattle.std.specs.Prelude.{ℕ, ◌≤◌, List, [], ◌∷◌}
use Rattle.ol_spec.specs.Syntax.{Expr, bool_lit, int_lit, float_lit, char_lit, var, unary, binary, if_then_else, pre, arrow, cast, call, tuple, index, literal, map_over, fold_over}
use Rattle.ol_spec.specs.Syntax.{Ty, bool, int, float32, float64, char, enum}

-- the callee, if it is a call
abbrev pub own_sites : Expr → List ℕ
own_sites (bool_lit b) = []
own_sites (int_lit i) = []
own_sites (float_lit b) = []
own_sites (char_lit c) = []
own_sites (var x) = []
own_sites (unary op e) = []
own_sites (binary op l r) = []
own_sites (if_then_else c t e) = []
own_sites (pre e) = []
own_sites (arrow a b) = []
own_sites (cast t e) = []
own_sites (call k es) = k ∷ []
own_sites (tuple es) = []
own_sites (index a i) = []
own_sites (literal es) = []
own_sites (map_over k es) = []
own_sites (fold_over k s es) = []

-- an integer type has a code from 1 to 8
abbrev pub Proper : Ty → Type 0
Proper bool = Unit {0}
Proper (int c) = (1 ≤ c) × (c ≤ 8)
Proper float32 = Unit {0}
Proper float64 = Unit {0}
Proper char = Unit {0}
Proper (enum e) = Unit {0}
