-- Arrays, map and fold: the readings of request (ii), each executed at its smallest example. The numbers are those that docs/DECISIONS.md gives them there.
use Rattle.std.specs.Prelude.{ℕ, zero, suc, Bool, true, false, List, [], ◌∷◌, ◌++◌, map, ◌≡◌, refl, negsuc, replicate, Ok}
use Rattle.std.proofs.Math.Option.{Option, none, some}
use Rattle.ol_spec.specs.Limits.{relay_loader}
use Rattle.ol_spec.specs.Shapes.{shape}
use Rattle.ol_spec.specs.Syntax.{Ty, bool, int, float32, float64, char, enum, Function, Operator, Imported, Neg, Eq, Neq, Add, Sub, Mul, Div}
use Rattle.ol_spec.specs.Syntax.{Expr, bool_lit, int_lit, float_lit, var, unary, binary, if_then_else, pre, arrow, cast, call, index, literal, map_over, fold_over, Exprs, nil, cons}
use Rattle.ol_spec.specs.Syntax.{Variable, Equation, Node, Constant, File}
use Rattle.ol_spec.specs.Read.{got, read_file}
use Rattle.ol_spec.specs.Encode.{encode}
use Rattle.ol_spec.specs.Within.{within}
use Rattle.ol_spec.specs.Cell.{cells}
use Rattle.ol_spec.specs.Admission.{admission}
use Rattle.ol_spec.specs.State.{fresh_state}
use Rattle.ol_spec.specs.Cycle.{ordering, cycle}
use Rattle.ol_spec.specs.declared.Value.{Value}
use Rattle.ol_spec.specs.declared.Value.TheVariants as Val
use Rattle.ol_spec.specs.Answers.{Verdict}
use Rattle.ol_spec.specs.Build.{everything, nots, x, xs, ◌≔◌, ◌&◌≔◌, node, file, file_of, k, ks, two, num, Shown, trace, trace_from, i, refusal, v1, counts, left, admit, cycle_on, neg, real_of, single_of}

-- ---- short ways to write arrays

abbrev arr1 : Expr → Expr
arr1 a = literal (cons a nil)

abbrev arr2 : Expr → Expr → Expr
arr2 a b = literal (cons a (cons b nil))

abbrev arr3 : Expr → Expr → Expr → Expr
arr3 a b c = literal (cons a (cons b (cons c nil)))

-- a main node with the output 1, after these nodes
abbrev out : List Node → Variable → List Equation → File
out ns v qs = file (ns ++ node Operator [] (v ∷ []) [] qs ∷ [])

-- v1, an Int64, is this
abbrev gives1 : List Node → Expr → File
gives1 ns e = out ns (x 1 (int 4)) (1 ≔ e ∷ [])

-- a cycle of it
abbrev once : List Node → Expr → List Shown
once ns e = trace (gives1 ns e) ([] ∷ [])

abbrev stop : ℕ → List Shown
stop n = (n, 0, left 1) ∷ []

abbrev value : Value → List Shown
value v = (0, 0, v ∷ []) ∷ []

-- a Function of two inputs, 5 and 6, and the output 7
abbrev fun2 : Ty → Ty → Ty → Expr → Node
fun2 a b c e = node Function (x 5 a ∷ x 6 b ∷ []) (x 7 c ∷ []) [] (7 ≔ e ∷ [])

abbrev fun1 : Ty → Ty → Expr → Node
fun1 a c e = node Function (x 5 a ∷ []) (x 7 c ∷ []) [] (7 ≔ e ∷ [])

abbrev add : Node
add = fun2 (int 4) (int 4) (int 4) (binary Add (var 5) (var 6))

abbrev same1 : Node
same1 = fun1 (int 4) (int 4) (var 5)

abbrev largest : Expr
largest = num 9223372036854775807

abbrev above : Expr
above = binary Add largest (num 1)

abbrev by_zero : Expr
by_zero = binary Div (num 1) (num 0)

-- ==== reading

-- 1: a length of 0 or 33 is 4 at the length, an array as its own element 3 at the element's code, an unknown enum 3 at its number; a cast to 13 is 3
abbrev typed : List ℕ → Verdict
typed bs = admission relay_loader (1 ∷ 0 ∷ 0 ∷ 1 ∷ 1 ∷ 0 ∷ 1 ∷ 0 ∷ 1 ∷ bs)

read_types :
    typed (13 ∷ 0 ∷ []) ∷ typed (13 ∷ 33 ∷ 13 ∷ []) ∷ typed (13 ∷ 2 ∷ 13 ∷ []) ∷ typed (13 ∷ 2 ∷ 12 ∷ 0 ∷ []) ∷ typed (4 ∷ 0 ∷ 1 ∷ 1 ∷ 0 ∷ 1 ∷ 10 ∷ 13 ∷ []) ∷ typed (14 ∷ []) ∷ []
    ≡ refusal 4 10 ∷ refusal 4 10 ∷ refusal 3 11 ∷ refusal 3 12 ∷ refusal 3 16 ∷ refusal 3 9 ∷ []
unfolding everything
read_types = refl

-- in constants, inputs and locals as in outputs
read_everywhere :
    admission relay_loader (1 ∷ 0 ∷ 1 ∷ 0 ∷ 9 ∷ 13 ∷ 0 ∷ []) ∷ admission relay_loader (1 ∷ 0 ∷ 0 ∷ 1 ∷ 1 ∷ 1 ∷ 0 ∷ 1 ∷ 13 ∷ 33 ∷ []) ∷ admission relay_loader (1 ∷ 0 ∷ 0 ∷ 1 ∷ 1 ∷ 0 ∷ 1 ∷ 0 ∷ 1 ∷ 4 ∷ 1 ∷ 0 ∷ 2 ∷ 13 ∷ 1 ∷ 13 ∷ []) ∷ []
    ≡ refusal 4 6 ∷ refusal 4 9 ∷ refusal 3 15 ∷ []
unfolding everything
read_everywhere = refl

-- 2: an unknown iterator is 3, a count outside its limits 4; the node's byte is not judged; the parts are one level below
read_forms :
    typed (4 ∷ 0 ∷ 1 ∷ 1 ∷ 0 ∷ 1 ∷ 15 ∷ 2 ∷ []) ∷ typed (4 ∷ 0 ∷ 1 ∷ 1 ∷ 0 ∷ 1 ∷ 15 ∷ 1 ∷ 255 ∷ 33 ∷ []) ∷ typed (4 ∷ 0 ∷ 1 ∷ 1 ∷ 0 ∷ 1 ∷ 14 ∷ 0 ∷ [])
    ∷ typed (4 ∷ 0 ∷ 1 ∷ 1 ∷ 0 ∷ 1 ∷ 14 ∷ 33 ∷ []) ∷ admit (v1 (1 ≔ nots 23 (arr1 (num 1)) ∷ [])) ∷ []
    ≡ refusal 3 16 ∷ refusal 4 18 ∷ refusal 4 16 ∷ refusal 4 16 ∷ refusal 5 63 ∷ []
unfolding everything
read_forms = refl

-- every form, read back from its bytes
abbrev forms : Expr
forms = index (arr2 (fold_over 255 (num 1) (cons (map_over 3 (cons (var 2) (cons (var 2) nil))) nil)) (num 2)) (map_over 4 nil)

read_back : read_file (encode (gives1 [] forms)) relay_loader ≡ got (gives1 [] forms) 54
unfolding everything
read_back = refl

within_back : within relay_loader (gives1 [] forms) ≡ true
unfolding within everything
within_back = refl

-- 3: v1 : Int8^2 = [200; 1]
abbrev small_bytes : List ℕ
small_bytes =
    0x01 ∷ 0x00 ∷ 0x00 ∷ 0x01 ∷ 0x01 ∷ 0x00 ∷ 0x01 ∷ 0x00 ∷ 0x01 ∷ 0x0D ∷ 0x02 ∷ 0x01 ∷ 0x00 ∷ 0x01 ∷ 0x01 ∷ 0x00 ∷ 0x01 ∷ 0x0E ∷ 0x02 ∷ 0x01 ∷ 0 ∷ 0 ∷ 0 ∷ 0 ∷ 0 ∷ 0 ∷ 0 ∷ 0xC8
    ∷ 0x01 ∷ 0 ∷ 0 ∷ 0 ∷ 0 ∷ 0 ∷ 0 ∷ 0 ∷ 1 ∷ []

abbrev small : File
small = out [] (xs 1 2 (int 1)) (1 ≔ (arr2 (num 200) (num 1)) ∷ [])

small_read : read_file small_bytes relay_loader ≡ got small 37
unfolding everything
small_read = refl

small_runs : trace small ([] ∷ []) ≡ (0, 0, neg 56 ∷ i 1 ∷ []) ∷ []
unfolding everything
small_runs = refl

small_state : admit small ≡ Ok 19
unfolding everything
small_state = refl

-- ==== cells

-- so many arrays of 32, named from n on
abbrev many : ℕ → ℕ → List Variable
many n zero = []
many n (suc m) = xs n 32 (int 4) ∷ many (suc n) m

abbrev wide : List Constant → File
wide cs = file_of [] cs (node Operator (many 100 32) (many 200 16) (many 300 64) [] ∷ [])

-- 4: a cell for each element: 112 arrays of 32 have 32,257 bytes of state
array_limits : admit (wide []) ≡ Ok 32257
unfolding everything
array_limits = refl

-- so many zeros
abbrev zeros_in : ℕ → Exprs
zeros_in zero = nil
zeros_in (suc m) = cons (num 0) (zeros_in m)

-- two array constants of 32 more
array_13 : admit (wide (ks 1 32 (int 4) (literal (zeros_in 32)) ∷ ks 2 32 (int 4) (literal (zeros_in 32)) ∷ [])) ≡ refusal 13 594
unfolding everything
array_13 = refl

abbrev echo : Ty → File
echo t = file (node Operator (xs 2 2 t ∷ []) (xs 1 2 t ∷ []) [] (1 ≔ var 2 ∷ []) ∷ [])

abbrev fed : Ty → List Value → ℕ × ℕ
fed t vs = cycle_on (echo t) (fresh_state (echo t) []) (cells vs) 37 36

-- inputs: the length, and each element's kind and range; a bad second cell of an old state; a constant's second cell
array_16 : fed (int 1) (i 1 ∷ i 127 ∷ []) ∷ fed (int 1) (i 1 ∷ i 128 ∷ []) ∷ fed (int 1) (i 1 ∷ Val.Bool true ∷ []) ∷ fed (int 1) (i 1 ∷ []) ∷ [] ≡ (0, 0) ∷ (16, 0) ∷ (16, 0) ∷ (16, 0) ∷ []
unfolding everything
array_16 = refl

abbrev constant_two : File
constant_two = file_of [] (ks 9 2 (int 4) (arr2 (num 1) (num 2)) ∷ []) (node Operator [] (x 1 (int 4) ∷ []) [] (1 ≔ arrow (num 0) (index (pre (var 9)) (num 1)) ∷ []) ∷ [])

-- an element's enum: a variant of another one is 16
abbrev echo_enum : File
echo_enum = file_of ((5 ∷ 6 ∷ []) ∷ (7 ∷ []) ∷ []) [] (node Operator (xs 2 2 (enum 0) ∷ []) (xs 1 2 (enum 0) ∷ []) [] (1 ≔ var 2 ∷ []) ∷ [])

array_16_enum :
    cycle_on echo_enum (fresh_state echo_enum []) (cells (Val.Enum 6 ∷ Val.Enum 5 ∷ [])) 37 36 ∷ cycle_on echo_enum (fresh_state echo_enum []) (cells (Val.Enum 6 ∷ Val.Enum 7 ∷ [])) 37 36 ∷ [] ≡ (0, 0) ∷ (16, 0) ∷ []
unfolding everything
array_16_enum = refl

array_15 :
    cycle_on small (1 ∷ cells (i 1 ∷ []) ++ 5 ∷ replicate 8 0) [] 19 18 ∷ cycle_on small (0 ∷ cells (i 0 ∷ i 1 ∷ [])) [] 19 18
    ∷ cycle_on constant_two (cells (i 1 ∷ i 3 ∷ []) ++ 0 ∷ cells (i 0 ∷ [])) [] 28 9 ∷ [] ≡ (15, 0) ∷ (15, 0) ∷ (15, 0) ∷ []
unfolding everything
array_15 = refl

-- defaults, held cells: an undefined array of an enum, then what the old state has
abbrev undefined : File
undefined = file_of ((5 ∷ 6 ∷ []) ∷ []) [] (node Operator [] (xs 1 2 (enum 0) ∷ []) [] [] ∷ [])

array_held :
    trace undefined ([] ∷ []) ++ trace_from undefined (1 ∷ cells (Val.Enum 6 ∷ Val.Enum 5 ∷ [])) ([] ∷ [])
    ≡ (0, 0, Val.Enum 5 ∷ Val.Enum 5 ∷ []) ∷ (0, 0, Val.Enum 6 ∷ Val.Enum 5 ∷ []) ∷ []
unfolding everything
array_held = refl

-- 5: no kind is asked on storing; Char elements are not narrowed
mixed_kinds :
    trace (out [] (xs 1 2 (int 1)) (1 ≔ (arr2 (num 200) (float_lit 0x3FE0_0000_0000_0000)) ∷ [])) ([] ∷ []) ++ trace (out [] (xs 1 1 char) (1 ≔ (arr1 (num 300)) ∷ [])) ([] ∷ [])
    ≡ (0, 0, neg 56 ∷ real_of 0x3FE0_0000_0000_0000 ∷ []) ∷ (0, 0, i 300 ∷ []) ∷ []
unfolding everything
mixed_kinds = refl

-- 6: an array constant: 18 bytes of state, and `pre` gives it from the second cycle on
array_constant : trace constant_two ([] ∷ [] ∷ []) ≡ (0, 0, i 0 ∷ []) ∷ (0, 0, i 2 ∷ []) ∷ []
unfolding everything
array_constant = refl

array_constant_state : admit constant_two ≡ Ok 28
unfolding everything
array_constant_state = refl

-- ==== evaluation

-- 7: a fold's arrays come first, then its seed
fold_arrays_first : once (add ∷ []) (fold_over 0 by_zero (cons (arr1 above) nil)) ++ once (add ∷ []) (fold_over 0 above (cons (arr1 by_zero) nil)) ≡ stop 19 ++ stop 20
unfolding everything
fold_arrays_first = refl

-- the records follow the file: the seed's first. A node that gives 7, and one that counts
abbrev seven : Node
seven = node Operator [] (x 3 (int 4) ∷ []) [] (3 ≔ num 7 ∷ [])

abbrev two_sites : File
two_sites = gives1 (add ∷ counts ∷ seven ∷ []) (fold_over 0 (call 1 nil) (cons (arr1 (call 2 nil)) nil))

fold_records : (cycle relay_loader (encode two_sites) (fresh_state two_sites []) [] (replicate 30 0) (replicate 9 0)).new ≡ (1 ∷ cells (i 7 ∷ [])) ++ ((1 ∷ cells (i 0 ∷ [])) ++ (1 ∷ cells (i 7 ∷ [])))
unfolding everything
fold_records = refl

-- where the arrays fail, the seed's records have not moved; where the seed fails, the arrays' have
abbrev seed_stays : Expr → File
seed_stays e = gives1 (add ∷ counts ∷ seven ∷ []) (fold_over 0 (binary Add e (call 1 nil)) (cons (arr1 (call 2 nil)) (cons (arr1 by_zero) nil)))

abbrev seed_fails : File
seed_fails = gives1 (add ∷ counts ∷ seven ∷ []) (fold_over 0 (binary Add (call 1 nil) by_zero) (cons (arr1 (call 2 nil)) nil))

fold_moves :
    (cycle relay_loader (encode (seed_stays (num 0))) (fresh_state (seed_stays (num 0)) []) [] (replicate 30 0) (replicate 9 0)).new
    ∷ (cycle relay_loader (encode seed_fails) (fresh_state seed_fails []) [] (replicate 30 0) (replicate 9 0)).new ∷ []
    ≡ ((0 ∷ cells (i 0 ∷ [])) ++ ((0 ∷ cells (i 0 ∷ [])) ++ (1 ∷ cells (i 7 ∷ [])))) ∷ ((0 ∷ cells (i 0 ∷ [])) ++ ((1 ∷ cells (i 0 ∷ [])) ++ (1 ∷ cells (i 7 ∷ [])))) ∷ []
unfolding everything
fold_moves = refl

-- 8: any other array of a fold is only evaluated
fold_others : once (add ∷ []) (fold_over 0 (num 0) (cons (arr1 (num 1)) (cons (arr1 by_zero) nil))) ++ once (add ∷ []) (fold_over 0 (num 0) (cons (arr1 (num 1)) (cons (arr1 (num 9)) nil))) ≡ stop 20 ++ value (i 1)
unfolding everything
fold_others = refl

-- 9: a map goes up to the first element that fails; elements are fitted to the function's inputs, and the output inside it
abbrev ten_by : Node
ten_by = fun1 (int 4) (int 4) (binary Div (num 10) (var 5))

abbrev mapped : List Node → ℕ → Ty → Expr → List Shown
mapped ns n t e = trace (out ns (xs 1 n t) (1 ≔ e ∷ [])) ([] ∷ [])

map_elements :
    mapped (ten_by ∷ []) 3 (int 4) (map_over 0 (cons (arr3 (num 5) (num 2) (num 10)) nil)) ++ mapped (ten_by ∷ []) 3 (int 4) (map_over 0 (cons (arr3 (num 5) (num 0) (num 2)) nil))
    ++ mapped (add ∷ []) 2 (int 4) (map_over 0 (cons (arr2 (num 1) (num 2)) (cons (arr2 (num 10) (num 20)) nil)))
    ++ mapped (fun1 (int 1) (int 4) (var 5) ∷ []) 1 (int 4) (map_over 0 (cons (arr1 (num 200)) nil)) ++ mapped (fun1 (int 4) (int 1) (var 5) ∷ []) 1 float64 (map_over 0 (cons (arr1 (num 200)) nil))
    ≡ (0, 0, i 2 ∷ i 5 ∷ i 1 ∷ []) ∷ (20, 0, left 3) ∷ (0, 0, i 11 ∷ i 22 ∷ []) ∷ (0, 0, neg 56 ∷ []) ∷ (0, 0, real_of 0xC04C_0000_0000_0000 ∷ []) ∷ []
unfolding everything
map_elements = refl

-- 10: a fold goes left, the running value fitted to input 0 before each step
fold_left :
    once (fun2 (int 1) (int 1) (int 4) (binary Add (var 5) (var 6)) ∷ []) (fold_over 0 (num 100) (cons (arr2 (num 100) (num 100)) nil))
    ++ once (fun2 (int 4) (int 4) (int 4) (binary Sub (var 5) (var 6)) ∷ []) (fold_over 0 (num 10) (cons (arr3 (num 1) (num 2) (num 3)) nil))
    ++ once (fun2 (int 4) (int 4) (int 4) (binary Add (binary Mul (num 10) (var 5)) (var 6)) ∷ []) (fold_over 0 (num 0) (cons (arr3 (num 1) (num 2) (num 3)) nil))
    ≡ value (i 44) ++ value (i 4) ++ value (i 123)
unfolding everything
fold_left = refl

-- 11: the function is always at its first cycle; its undefined output is the default; constants are visible
map_function :
    mapped (node Function (x 5 (int 4) ∷ []) (x 7 float64 ∷ []) [] [] ∷ []) 2 float64 (map_over 0 (cons (arr2 (num 1) (num 2)) nil))
    ++ mapped (fun1 (int 4) (int 4) (pre (var 5)) ∷ []) 1 (int 4) (map_over 0 (cons (arr1 (num 1)) nil))
    ++ trace (file_of [] (k 9 (int 4) (num 8) ∷ []) (fun1 (int 4) (int 4) (binary Add (var 5) (var 9)) ∷ node Operator [] (xs 1 1 (int 4) ∷ []) [] (1 ≔ map_over 0 (cons (arr1 (num 1)) nil) ∷ []) ∷ [])) ([] ∷ [])
    ≡ (0, 0, real_of 0 ∷ real_of 0 ∷ []) ∷ (18, 0, left 1) ∷ (0, 0, i 9 ∷ []) ∷ []
unfolding everything
map_function = refl

-- 12: the base, then the index, both always; outside its array it is 20, no Int 21; a scalar base is 21, but its parts' failures come first
index_answers :
    once [] (index (arr2 (num 7) (num 8)) (num 1)) ++ (once [] (index (arr2 by_zero (num 5)) (num 1)) ++ (once [] (index (arr2 (num 7) (num 8)) (num 2)) ++ (once [] (index (arr2 (num 7) (num 8)) (int_lit (negsuc 0)))
    ++ (once [] (index (arr1 (num 7)) (bool_lit true)) ++ (once [] (index (num 7) (num 0)) ++ (once [] (index by_zero (num 0)) ++ (once [] (index (num 7) above) ++ once [] (index (num 7) by_zero))))))))
    ≡ value (i 8) ++ (stop 20 ++ (stop 20 ++ (stop 20 ++ (stop 21 ++ (stop 21 ++ (stop 20 ++ (stop 19 ++ stop 20)))))))
unfolding everything
index_answers = refl

-- 13: an iterator is no call for the untaken branch; a call inside it is, and then the iteration runs too
abbrev zero0 : Node
zero0 = node Operator [] (x 3 (int 4) ∷ []) [] (3 ≔ num 0 ∷ [])

untaken_iterator :
    once (add ∷ []) (if_then_else (bool_lit true) (num 0) (fold_over 0 largest (cons (arr1 (num 1)) nil)))
    ++ once (add ∷ zero0 ∷ []) (if_then_else (bool_lit true) (num 0) (fold_over 0 largest (cons (arr1 (binary Add (call 1 nil) (num 1))) nil)))
    ≡ value (i 0) ++ stop 19
unfolding everything
untaken_iterator = refl

-- 14: index, literal and iterator count as no real, nor does an array, nor a call whose output is one
abbrev chosen : Expr → List Shown
chosen e =
    trace (file (node Function [] (xs 3 1 float64 ∷ []) [] [] ∷ fun2 float64 float64 float64 (var 5) ∷ node Operator [] (x 1 (int 1) ∷ x 2 float32 ∷ xs 4 2 float64 ∷ []) [] (1 ≔ if_then_else (bool_lit true) (var 2) e ∷ []) ∷ [])) ([] ∷ [])

abbrev kept : Value → List Shown
kept v = (0, 0, v ∷ single_of 0 ∷ real_of 0 ∷ real_of 0 ∷ []) ∷ []

no_reals :
    chosen (index (var 4) (num 0)) ++ (chosen (float_lit 0x3FE0_0000_0000_0000) ++ (chosen (fold_over 1 (float_lit 0) (cons (var 4) nil)) ++ (chosen (index (call 0 nil) (num 0)) ++ chosen (binary Add (index (var 4) (num 0)) (float_lit 0)))))
    ≡ kept (single_of 0) ++ (kept (real_of 0) ++ (kept (single_of 0) ++ (kept (single_of 0) ++ kept (real_of 0))))
unfolding everything
no_reals = refl

-- 15: reads go through index, literal and iterators; a name is read whole
array_ring :
    admit (out [] (xs 1 2 (int 4)) (1 ≔ (arr2 (num 0) (index (var 1) (num 0))) ∷ [])) ∷ admit (gives1 (add ∷ []) (fold_over 0 (var 1) (cons (arr1 (num 0)) nil))) ∷ admit (gives1 [] (index (arr1 (num 0)) (var 1)))
    ∷ admit (out (same1 ∷ []) (xs 1 2 (int 4)) (1 ≔ map_over 0 (cons (var 1) nil) ∷ [])) ∷ [] ≡ refusal 11 14 ∷ refusal 11 37 ∷ refusal 11 12 ∷ refusal 11 31 ∷ []
unfolding everything
array_ring = refl

-- 16: arrays are equal if their lengths, kinds and elements are: a single and a double are not, a NaN is not to itself, the zeros are
abbrev single1 : Expr
single1 = cast float32 (float_lit 0x3FF8_0000_0000_0000)

abbrev double1 : Expr
double1 = float_lit 0x3FF8_0000_0000_0000

abbrev nan1 : Expr
nan1 = float_lit 0x7FF8_0000_0000_0000

abbrev truth : Bool → List Shown
truth b = (0, 0, Val.Bool b ∷ []) ∷ []

abbrev compared : Expr → List Shown
compared e = trace (out [] (x 1 bool) (1 ≔ e ∷ [])) ([] ∷ [])

array_equality :
    compared (binary Eq (arr1 single1) (arr1 double1)) ++ (compared (binary Eq single1 double1) ++ (compared (binary Neq (arr1 nan1) (arr1 nan1)) ++ (compared (binary Eq (arr1 (float_lit 0)) (arr1 (float_lit 0x8000_0000_0000_0000)))
    ++ (compared (binary Eq (arr1 (num 1)) (arr2 (num 1) (num 1))) ++ (compared (binary Eq (arr2 (num 1) (bool_lit true)) (arr2 (num 1) (bool_lit true))) ++ (compared (binary Eq (arr1 (num 1)) (arr1 (float_lit 0x3FF0_0000_0000_0000)))
    ++ (compared (binary Neq (arr1 (num 1)) (arr1 by_zero)) ++ compared (binary Eq (arr1 above) (arr1 by_zero)))))))))
    ≡ truth false ++ (truth true ++ (truth true ++ (truth true ++ (truth false ++ (truth true ++ (truth false ++ (stop 20 ++ stop 19)))))))
unfolding everything
array_equality = refl

-- 17: `pre` of an array's name: 18 at a first cycle, then the old cells
readback : List Equation → File
unfolding everything
readback qs = file (node Operator [] (xs 1 2 (int 1) ∷ x 2 (int 4) ∷ []) [] (1 ≔ (arr2 (num 200) (num 1)) ∷ qs) ∷ [])

array_pre :
    trace (readback (2 ≔ arrow (num 0) (index (pre (var 1)) (num 0)) ∷ [])) ([] ∷ [] ∷ []) ++ trace (readback (2 ≔ index (pre (var 1)) (num 0) ∷ [])) ([] ∷ [])
    ≡ (0, 0, neg 56 ∷ i 1 ∷ i 0 ∷ []) ∷ (0, 0, neg 56 ∷ i 1 ∷ neg 56 ∷ []) ∷ (18, 1, left 3) ∷ []
unfolding readback everything
array_pre = refl

-- and not the present ones
array_pre_old :
    trace (file (node Operator [] (xs 1 1 (int 4) ∷ x 2 (int 4) ∷ []) [] (1 ≔ arr1 (arrow (num 5) (num 6)) ∷ 2 ≔ arrow (num 0) (index (pre (var 1)) (num 0)) ∷ []) ∷ [])) ([] ∷ [] ∷ [])
    ≡ (0, 0, i 5 ∷ i 0 ∷ []) ∷ (0, 0, i 6 ∷ i 5 ∷ []) ∷ []
unfolding everything
array_pre_old = refl

-- arrays are passed to calls and come back from them, beside scalars
abbrev swapped : Node
swapped = node Operator (xs 5 2 (int 1) ∷ x 6 (int 4) ∷ []) (x 7 (int 4) ∷ xs 8 2 (int 4) ∷ []) [] (7 & 8 ≔ two (var 6) (var 5) ∷ [])

array_call :
    trace (file (swapped ∷ node Operator [] (x 1 (int 4) ∷ xs 2 2 (int 4) ∷ x 3 (int 4) ∷ []) [] (1 & 2 ≔ call 0 (cons (arr2 (num 200) (num 3)) (cons (num 9) nil)) ∷ 3 ≔ index (var 2) (num 1) ∷ []) ∷ [])) ([] ∷ [])
    ≡ (0, 0, i 9 ∷ neg 56 ∷ i 3 ∷ i 3 ∷ []) ∷ []
unfolding everything
array_call = refl

-- ==== 9 and 10

-- an iterator in a constant, or with a node not of a lower number, is 9; an Operator or Imported node, and other arity, are 22. Several names with an iterator are 10
abbrev operator1 : Node
operator1 = node Operator (x 5 (int 4) ∷ []) (x 7 (int 4) ∷ []) [] (7 ≔ var 5 ∷ [])

abbrev imported1 : Node
imported1 = node Imported (x 5 (int 4) ∷ []) (x 7 (int 4) ∷ []) [] []

abbrev into1 : List Node → Expr → Verdict
into1 ns e = admit (out ns (xs 1 1 (int 4)) (1 ≔ e ∷ []))

iterator_9 :
    admit (file_of [] (k 9 (int 4) (fold_over 0 (num 1) (cons (arr1 (num 1)) nil)) ∷ []) (add ∷ node Operator [] (x 1 (int 4) ∷ []) [] [] ∷ []))
    ∷ into1 [] (map_over 0 (cons (arr1 (num 1)) nil)) ∷ into1 [] (map_over 7 (cons (arr1 (num 1)) nil)) ∷ into1 (operator1 ∷ []) (map_over 0 (cons (arr1 (num 1)) nil)) ∷ into1 (imported1 ∷ []) (map_over 0 (cons (arr1 (num 1)) nil))
    ∷ into1 (add ∷ []) (map_over 0 (cons (arr1 (num 1)) nil)) ∷ [] ≡ refusal 9 6 ∷ refusal 9 17 ∷ refusal 9 17 ∷ refusal 22 34 ∷ refusal 22 28 ∷ refusal 22 42 ∷ []
unfolding everything
iterator_9 = refl

-- calls and iterators are one list, in file order
one_list_9 :
    admit (gives1 [] (binary Add (fold_over 7 (num 1) (cons (arr1 (num 1)) nil)) (call 9 nil))) ∷ admit (gives1 [] (binary Add (call 9 nil) (fold_over 7 (num 1) (cons (arr1 (num 1)) nil))))
    ∷ admit (gives1 [] (fold_over 7 (call 9 nil) (cons (arr1 (num 1)) nil))) ∷ [] ≡ refusal 9 17 ∷ refusal 9 17 ∷ refusal 9 15 ∷ []
unfolding everything
one_list_9 = refl

iterator_10 :
    admit (file (same1 ∷ node Operator [] (xs 1 1 (int 4) ∷ xs 2 1 (int 4) ∷ []) [] (1 & 2 ≔ map_over 0 (cons (arr1 (num 1)) nil) ∷ []) ∷ [])) ∷ admit (gives1 [] (index (arr1 (two (num 1) (num 2))) (num 0))) ∷ []
    ≡ refusal 10 36 ∷ refusal 10 18 ∷ []
unfolding everything
iterator_10 = refl

-- ==== 22

abbrev two_out : Node
two_out = node Function (x 5 (int 4) ∷ []) (x 7 (int 4) ∷ x 8 (int 4) ∷ []) [] []

abbrev array_out : Node
array_out = node Function (x 5 (int 4) ∷ []) (xs 7 1 (int 4) ∷ []) [] []

-- it is judged everywhere: in nodes that nothing calls, and in Imported ones
everywhere_22 :
    admit (gives1 (fun1 (int 4) (int 4) (arr1 (num 1)) ∷ []) (num 1)) ∷ admit (gives1 (node Imported [] (x 7 (int 4) ∷ []) [] (7 ≔ arr1 (num 1) ∷ []) ∷ []) (num 1)) ∷ [] ≡ refusal 22 18 ∷ refusal 22 15 ∷ []
unfolding everything
everywhere_22 = refl

-- 18: a shape is read off the form: of a Var by its declaration, of a literal, of a map by its first array, of a call by its one output, of `pre` of a Var as the Var's; all else is scalar
abbrev shaped : Expr → Option ℕ
shaped e = shape (same1 ∷ array_out ∷ two_out ∷ []) ((1, 3) ∷ []) ((9, 2) ∷ []) e

shapes_by_form :
    map shaped
    (var 1 ∷ var 9 ∷ var 2 ∷ arr2 (num 1) (arr1 (num 1)) ∷ map_over 0 (cons (var 1) (cons (num 1) nil)) ∷ map_over 0 (cons (num 1) (cons (var 1) nil)) ∷ call 1 nil ∷ call 0 nil ∷ call 2 nil ∷ pre (var 9) ∷ pre (arr1 (num 1)) ∷ pre (pre (var 1))
    ∷ unary Neg (var 1) ∷ binary Eq (var 1) (var 1) ∷ if_then_else (bool_lit true) (var 1) (var 1) ∷ arrow (var 1) (var 1) ∷ cast float64 (var 1) ∷ two (var 1) (var 1) ∷ index (var 1) (num 0) ∷ fold_over 0 (var 1) (cons (var 1) nil) ∷ num 1 ∷ [])
    ≡ some 3 ∷ some 2 ∷ none ∷ some 2 ∷ some 3 ∷ some 0 ∷ some 1 ∷ none ∷ none ∷ some 2 ∷ replicate 11 none
shapes_by_form = refl

-- 19: arrays as a whole right side, a Tuple's item, a constant, an argument, an index's base, an iterator's array, on either side of Eq and Neq, and as a Var under Pre
abbrev pass : Node
pass = node Function (xs 5 2 (int 4) ∷ []) (xs 7 2 (int 4) ∷ []) [] (7 ≔ var 5 ∷ [])

arrays_placed :
    admit
    (file_of [] (ks 9 2 (int 4) (arr2 (num 1) (num 2)) ∷ [])
    (add ∷ pass ∷ node Operator [] (xs 11 2 (int 4) ∷ []) (xs 12 2 (int 4) ∷ x 13 (int 4) ∷ x 14 bool ∷ x 15 bool ∷ x 16 (int 4) ∷ x 17 (int 4) ∷ [])
    (11 ≔ var 9 ∷ 12 & 13 ≔ two (call 1 (cons (var 11) nil)) (num 1) ∷ 14 ≔ binary Eq (var 11) (arr1 (num 1)) ∷ 15 ≔ binary Neq (call 1 (cons (var 9) nil)) (var 12) ∷ 16 ≔ arrow (num 0) (index (pre (var 11)) (num 0))
    ∷ 17 ≔ fold_over 0 (num 0) (cons (map_over 0 (cons (var 11) (cons (var 12) nil))) nil) ∷ []) ∷ []))
    ≡ Ok 100
unfolding everything
arrays_placed = refl

-- and in every other place an array is the item: an operand of a Unary, of a Cast and of the other Binary forms, each part of an IfThenElse and an Arrow, an index, a literal's item, a seed
scalars_only :
    map (λ e. admit (gives1 [] e))
    (unary Neg (arr1 (num 1)) ∷ cast (int 4) (arr1 (num 1)) ∷ binary Add (arr1 (num 1)) (num 1) ∷ binary Mul (num 1) (arr1 (num 1)) ∷ if_then_else (arr1 (num 1)) (num 1) (num 1) ∷ if_then_else (bool_lit true) (arr1 (num 1)) (num 1)
    ∷ if_then_else (bool_lit true) (num 1) (arr1 (num 1)) ∷ arrow (arr1 (num 1)) (num 1) ∷ arrow (num 1) (arr1 (num 1)) ∷ index (arr1 (num 1)) (arr1 (num 1)) ∷ index (arr1 (arr1 (num 1))) (num 0) ∷ [])
    ++ admit (gives1 (add ∷ []) (fold_over 0 (arr1 (num 1)) (cons (arr1 (num 1)) nil))) ∷ []
    ≡ map (refusal 22) (17 ∷ 17 ∷ 17 ∷ 26 ∷ 16 ∷ 18 ∷ 27 ∷ 16 ∷ 25 ∷ 27 ∷ 18 ∷ 44 ∷ [])
unfolding everything
scalars_only = refl

-- 20: an iterator's array that is a scalar
scalar_iterated : admit (file (same1 ∷ node Operator [] (xs 1 1 (int 4) ∷ []) (x 2 (int 4) ∷ []) (1 ≔ map_over 0 (cons (var 2) nil) ∷ []) ∷ [])) ≡ refusal 22 41
unfolding everything
scalar_iterated = refl

-- 21: the faulted expression without a faulted part: a fold's seed, an arrow's branch, the first branch of an if (and not 11), an array under a scalar name
innermost :
    admit (gives1 (add ∷ []) (fold_over 0 (arr1 (num 1)) nil)) ∷ admit (out [] (xs 1 1 (int 4)) (1 ≔ arrow (arr1 (num 1)) (pre (var 1)) ∷ [])) ∷ admit (out [] (xs 1 2 (int 4)) (1 ≔ if_then_else (bool_lit true) (var 1) (var 1) ∷ []))
    ∷ admit (gives1 [] (arr2 (num 7) (num 8))) ∷ [] ≡ refusal 22 44 ∷ refusal 22 18 ∷ refusal 22 20 ∷ refusal 22 15 ∷ []
unfolding everything
innermost = refl

-- 22: beside a scalar in Eq or Neq, the array; a shape is read off the form, though a part of it is faulted
beside_scalar :
    admit (file (node Operator [] (x 1 bool ∷ []) (xs 2 2 (int 4) ∷ []) (1 ≔ binary Eq (num 1) (var 2) ∷ []) ∷ [])) ∷ admit (out [] (x 1 bool) (1 ≔ binary Eq (arr2 (num 1) (num 2)) (binary Add (num 1) (arr1 (num 3))) ∷ []))
    ∷ admit (out [] (x 1 bool) (1 ≔ binary Eq (arr2 (num 7) (num 8)) (index (arr2 (num 7) (num 8)) (arr1 (num 1))) ∷ []))
    ∷ admit (out [] (x 1 bool) (1 ≔ binary Add (arr1 (num 1)) (arr1 (num 2)) ∷ [])) ∷ [] ≡ refusal 22 31 ∷ refusal 22 17 ∷ refusal 22 17 ∷ refusal 22 17 ∷ []
unfolding everything
beside_scalar = refl

-- 23: under a name of another length: a literal, an argument, a constant; a call with several outputs is the item
other_length :
    admit (out [] (xs 1 3 (int 4)) (1 ≔ (arr2 (num 1) (num 2)) ∷ [])) ∷ admit (gives1 (node Function (xs 5 2 (int 4) ∷ []) (x 7 (int 4) ∷ []) [] [] ∷ []) (call 0 (cons (arr1 (num 1)) nil)))
    ∷ admit (file_of [] (ks 9 2 (int 4) (arr1 (num 1)) ∷ []) (node Operator [] (x 1 (int 4) ∷ []) [] [] ∷ []))
    ∷ admit (file (swapped ∷ node Operator [] (x 1 (int 4) ∷ xs 2 3 (int 4) ∷ []) [] (1 & 2 ≔ call 0 (cons (arr2 (num 200) (num 3)) (cons (num 9) nil)) ∷ []) ∷ []))
    ∷ admit (out [] (xs 1 1 (int 4)) (1 ≔ num 1 ∷ [])) ∷ [] ≡ refusal 22 17 ∷ refusal 22 31 ∷ refusal 22 8 ∷ refusal 22 56 ∷ refusal 22 17 ∷ []
unfolding everything
other_length = refl

-- 24: Pre takes an array only as a name, and is itself an array then
pre_of_array :
    admit (out [] (xs 1 1 (int 4)) (1 ≔ pre (arr1 (num 1)) ∷ [])) ∷ admit (out [] (xs 1 1 (int 4)) (1 ≔ pre (pre (var 1)) ∷ [])) ∷ admit (out [] (xs 1 1 (int 4)) (1 ≔ (arr1 (unary Neg (pre (var 1)))) ∷ []))
    ∷ admit (out (same1 ∷ []) (xs 1 1 (int 4)) (1 ≔ pre (map_over 0 (cons (arr1 (num 1)) nil)) ∷ [])) ∷ admit (out [] (xs 1 1 (int 4)) (1 ≔ pre (var 1) ∷ []))
    ∷ admit (gives1 [] (pre (binary Add (num 1) (num 1)))) ∷ []
    ≡ refusal 22 18 ∷ refusal 22 18 ∷ refusal 22 21 ∷ refusal 22 35 ∷ Ok 10 ∷ Ok 10 ∷ []
unfolding everything
pre_of_array = refl

-- 25: an iterator with no array, unequal lengths, a callee with other arity, several outputs, an array input or an array output
abbrev array_input : Node
array_input = node Function (xs 5 1 (int 4) ∷ []) (x 7 (int 4) ∷ []) [] []

abbrev no_input : Node
no_input = node Function [] (x 7 (int 4) ∷ []) [] []

bad_iterators :
    into1 (no_input ∷ []) (map_over 0 nil) ∷ into1 (add ∷ []) (map_over 0 (cons (arr1 (num 1)) (cons (arr2 (num 1) (num 2)) nil))) ∷ admit (gives1 (add ∷ []) (fold_over 0 (num 1) (cons (arr1 (num 1)) (cons (arr2 (num 1) (num 2)) nil))))
    ∷ admit (gives1 (same1 ∷ []) (fold_over 0 (num 1) (cons (arr1 (num 1)) nil))) ∷ into1 (two_out ∷ []) (map_over 0 (cons (arr1 (num 1)) nil)) ∷ into1 (array_input ∷ []) (map_over 0 (cons (arr1 (num 1)) nil)) ∷ into1 (array_out ∷ []) (map_over 0 (cons (arr1 (num 1)) nil)) ∷ []
    ≡ refusal 22 25 ∷ refusal 22 42 ∷ refusal 22 40 ∷ refusal 22 32 ∷ refusal 22 31 ∷ refusal 22 30 ∷ refusal 22 30 ∷ []
unfolding everything
bad_iterators = refl

-- 26: elements are of any kinds at admission
mixed_admitted : into1 [] (arr1 (bool_lit true)) ∷ admit (out [] (xs 1 2 (int 4)) (1 ≔ (arr2 (num 1) (bool_lit true)) ∷ [])) ∷ [] ≡ Ok 10 ∷ Ok 19 ∷ []
unfolding everything
mixed_admitted = refl

-- 27: in a constant each of these is 12
abbrev constant1 : List Constant → Verdict
constant1 cs = admit (file_of [] cs (node Operator [] (x 1 (int 4) ∷ []) [] [] ∷ []))

constants_12 :
    constant1 (k 9 (int 4) (index (arr2 (num 1) (num 2)) (num 2)) ∷ []) ∷ constant1 (k 9 (int 4) (index (num 7) (num 0)) ∷ []) ∷ constant1 (ks 8 1 (int 4) (arr1 (num 1)) ∷ ks 9 1 (int 4) (pre (var 8)) ∷ [])
    ∷ constant1 (ks 8 2 (int 4) (arr2 (num 1) (num 2)) ∷ k 9 (int 4) (index (var 8) (num 1)) ∷ []) ∷ []
    ≡ refusal 12 3 ∷ refusal 12 3 ∷ refusal 12 19 ∷ Ok 37 ∷ []
unfolding everything
constants_12 = refl

-- the ordering never asks 22
order_22 : ordering relay_loader (encode (gives1 [] (arr2 (num 7) (num 8)))) 0 (9 ∷ []) ≡ record { answer = Ok tt; buffer = 0 ∷ [] }
unfolding everything
order_22 = refl
