-- What docs/DIFFERENCES says of the 1991 paper and of the sources' own comments, executed on its smallest inputs (K's row is in Examples).
use Rattle.std.specs.Prelude.{true, false, [], ◌∷◌, ◌++◌, ◌≡◌, refl}
use Rattle.ol_spec.specs.Real as R
use Rattle.ol_spec.specs.Syntax.{bool, int, float32, char, Function, Operator, Neg, Add, Div, Shr, float_lit, var, unary, binary, if_then_else, pre, arrow, call, nil}
use Rattle.ol_spec.specs.Build.{everything, x, ◌≔◌, node, file, num, i, neg, v1, counts, left, trace}
use Rattle.ol_spec.specs.Examples.{bd}
use Rattle.ol_spec.specs.declared.Value.TheVariants as Val

-- a Function is at its first instant at each call
functions_start : trace (file (node Function [] (x 3 (int 4) ∷ []) [] (3 ≔ arrow (num 0) (binary Add (pre (var 3)) (num 1)) ∷ []) ∷ node Operator [] (x 1 (int 4) ∷ []) [] (1 ≔ call 0 nil ∷ []) ∷ []))
    ([] ∷ [] ∷ [] ∷ [])
    ≡ (0, 0, i 0 ∷ []) ∷ (0, 0, i 0 ∷ []) ∷ (0, 0, i 0 ∷ []) ∷ []
unfolding everything
functions_start = refl

-- a stopped cycle moves instances, but is no instant of main
stops_between : trace (file (counts ∷ node Operator (x 5 (int 4) ∷ []) (x 1 (int 4) ∷ x 2 (int 4) ∷ x 4 (int 4) ∷ []) []
    (1 ≔ call 0 nil ∷ 2 ≔ arrow (num 0) (binary Add (pre (var 2)) (num 1)) ∷ 4 ≔ binary Div (num 1) (var 5) ∷ []) ∷ [])) ((i 1 ∷ []) ∷ (i 0 ∷ []) ∷ (i 1 ∷ []) ∷ [])
    ≡ (0, 0, i 1 ∷ i 0 ∷ i 0 ∷ i 1 ∷ []) ∷ (20, 2, left 4) ∷ (0, 0, i 1 ∷ i 2 ∷ i 1 ∷ i 1 ∷ []) ∷ []
unfolding everything
stops_between = refl

-- a cycle that overflows moves nothing: the step of n0 in it is undone
overflow_between : trace (file (counts ∷ node Operator (x 4 (int 4) ∷ []) (x 1 (int 4) ∷ x 2 (int 4) ∷ []) [] (1 ≔ call 0 nil ∷ 2 ≔ binary Add (var 4) (num 1) ∷ []) ∷ []))
    ((i 0 ∷ []) ∷ (i 9223372036854775807 ∷ []) ∷ (i 0 ∷ []) ∷ [])
    ≡ (0, 0, i 0 ∷ i 0 ∷ i 1 ∷ []) ∷ (19, 1, left 3) ∷ (0, 0, i 0 ∷ i 1 ∷ i 1 ∷ []) ∷ []
unfolding everything
overflow_between = refl

-- an instance that was not entered takes its first side later, though the cycle was answered and what stands before its call failed
enters_later : trace (file (counts ∷ node Operator (x 4 bool ∷ x 5 (int 4) ∷ []) (x 1 (int 4) ∷ []) []
    (1 ≔ if_then_else (var 4) (num 0) (binary Add (binary Div (num 10) (var 5)) (call 0 nil)) ∷ []) ∷ [])) (bd true 0 ∷ bd false 1 ∷ bd false 1 ∷ [])
    ≡ (0, 0, bd true 0 ++ i 0 ∷ []) ∷ (0, 0, bd false 1 ++ i 10 ∷ []) ∷ (0, 0, bd false 1 ++ i 11 ∷ []) ∷ []
unfolding everything
enters_later = refl

-- a call behind a failure is not made
skips_call : trace (file (counts ∷ node Operator (x 2 (int 4) ∷ []) (x 1 (int 4) ∷ []) [] (1 ≔ binary Add (binary Div (num 1) (var 2)) (call 0 nil) ∷ []) ∷ []))
    ((i 1 ∷ []) ∷ (i 0 ∷ []) ∷ (i 1 ∷ []) ∷ [])
    ≡ (0, 0, i 1 ∷ i 1 ∷ []) ∷ (20, 0, left 2) ∷ (0, 0, i 1 ∷ i 2 ∷ []) ∷ []
unfolding everything
skips_call = refl

-- a Float32 beside a Double widens; the untaken side of an arrow is not evaluated if it has no call
widens_beside : trace (file (node Operator (x 2 float32 ∷ []) (x 1 (int 4) ∷ []) [] (1 ≔ arrow (var 2) (float_lit 0) ∷ []) ∷ [])) ((Val.Float32 R.zero_r ∷ []) ∷ [])
    ≡ (0, 0, Val.Float32 R.zero_r ∷ Val.Float R.zero_r ∷ []) ∷ []
unfolding everything
widens_beside = refl

untaken_side : trace (v1 (1 ≔ arrow (num 0) (binary Div (num 1) (num 0)) ∷ [])) ([] ∷ [] ∷ []) ≡ (0, 0, i 0 ∷ []) ∷ (20, 0, left 1) ∷ []
unfolding everything
untaken_side = refl

-- and on the sources' own comments: an unsigned shift keeps the sign, and a Char is not narrowed
shifts_signed : trace (file (node Operator [] (x 1 (int 8) ∷ x 2 char ∷ []) [] (1 ≔ binary Shr (unary Neg (num 8)) (num 1) ∷ 2 ≔ num 300 ∷ []) ∷ [])) ([] ∷ []) ≡ (0, 0, neg 4 ∷ i 300 ∷ []) ∷ []
unfolding everything
shifts_signed = refl
