-- What fault 22 is judged with: a file that reads without fault and without 6 to 10, with its rows and with the types, slots and plans of its tables.
use Rattle.std.specs.Prelude.{ℕ, ◌+◌, ◌*◌, ◌<◌, Bool, List, [], map, ◌≡◌, Result, length, get_or}
use Rattle.std.proofs.Math.Option.{none}
use Rattle.ol_spec.specs.Syntax.{Exprs, cons, nil, count, Equation, File, variables, variable_names, length_in, call, outputs_of, rhs_of}
use Rattle.ol_spec.specs.Places.{placed_nodes, placed_equations, placed_names, rhs_place}
use Rattle.ol_spec.specs.Shapes.{arrays_in}
use Rattle.ol_spec.specs.Admission.{constant_names, used, value_place, arity, callee_in, suit_all, under_name, misplaced_all, misplaced_rhs, misplaced_in, fault6, fault7, fault8, fault9, fault10}
use Rattle.ol_tables.specs.At.{file_at}
use Rattle.ol_tables.specs.Stands.{FileReads}
use Rattle.ol_tables.specs.Tables.{Each, node_of, place_of, var_ty_at, two_at, slot_of, lengths_in, plan_in, equation_place, constant_of}
use Rattle.ol_shapes.specs.Codes.{fault_of}
use Rattle.ol_shapes.specs.declared.places.Misplaced.{Misplaced}
use Rattle.ol_shapes.specs.Sits.{Typed, Scoped, HasLength, long_in, Sits}

-- none of 6 to 10 holds
pub record Clear (f : File) : Type 0 where
  pub no6 : fault6 f ≡ none
  pub no7 : fault7 f ≡ none
  pub no8 : fault8 f ≡ none
  pub no9 : fault9 f ≡ none
  pub no10 : fault10 f ≡ none

-- the name that an equation defines at p.0 has its slot there, if it is in the file
pub record Defined (s slots variables constants : List ℕ) (p : ℕ × ℕ) : Type 0 where
  pub slot : p.0 < length s → get_or slots p.0 0 ≡ slot_of variables constants p.1

-- node k's slots and places of equations
pub record NodeLaid (f : File) (s slots plans : List ℕ) (k : ℕ) : Type 0 where
  pub lengths : Each (λ q. Each (HasLength s slots (lengths_in f (variables (node_of f k)))) (used (rhs_place q.0 q.1) q.1.rhs)) (placed_equations (place_of (placed_nodes f) k) (node_of f k))
  pub defined : Each (λ q. Each (Defined s slots (variable_names (node_of f k)) (constant_names f)) (placed_names (q.0 + 1) q.1.names)) (placed_equations (place_of (placed_nodes f) k) (node_of f k))
  pub places : (i : ℕ) → i < length (node_of f k).equations → two_at plans (plan_in f k + 2 * i) ≡ equation_place f k i

-- `slots` and `plans` are those of the file's table
pub record Laid (s rows slots plans : List ℕ) : Type 0 where
  pub reads : FileReads s
  pub clear : Clear (file_at s)
  pub typed : Typed s rows plans
  pub nodes : (k : ℕ) → k < length (file_at s).nodes → NodeLaid (file_at s) s slots plans k
  -- a constant's expression
  pub constants : (i : ℕ) → i < length (file_at s).constants → Each (HasLength s slots (lengths_in (file_at s) [])) (used (value_place (constant_of (file_at s) i).0 (constant_of (file_at s) i).1) (constant_of (file_at s) i).1.value)

-- ---- equations

-- the names xs that node k defines have slots two by two from p on, each that of the variable: its shape is the name's
pub record NamesTold (s slots : List ℕ) (k p : ℕ) (xs : List ℕ) : Type 0 where
  pub low : (i : ℕ) → i < length xs → get_or slots (p + 2 * i) 0 < length (variables (node_of (file_at s) k))
  pub shape : (i : ℕ) → i < length xs → length_in (var_ty_at (variables (node_of (file_at s) k)) (get_or slots (p + 2 * i) 0)) ≡ long_in s (arrays_in (variables (node_of (file_at s) k))) (get_or xs i 0)

-- an equation of node k stands at `at`, with as many names as its right side has values
pub record EquationSits (s rows slots plans : List ℕ) (k at : ℕ) (q : Equation) : Type 0 where
  pub low : k < length (file_at s).nodes
  pub many : get_or s at 0 ≡ length q.names
  pub names : NamesTold s slots k (at + 1) q.names
  pub rhs : Sits s rows slots plans k (arrays_in (variables (node_of (file_at s) k))) 24 (rhs_place at q) (cons q.rhs nil)
  pub arity : arity (file_at s) (rhs_of q.rhs) ≡ length q.names

module _ (s rows slots plans : List ℕ) (k : ℕ) where
  -- the items of a Tuple at `at`, under the names whose slots stand from p on
  pub record ItemsJudged (p at : ℕ) (r : Result (Unit {0}) Misplaced) : Type 0 where
    pub are : (xs : List ℕ) (es : Exprs) → k < length (file_at s).nodes → NamesTold s slots k p xs → count es ≡ length xs → get_or s (at + 1) 0 ≡ count es
        → Sits s rows slots plans k (arrays_in (variables (node_of (file_at s) k))) 23 (at + 2) es
        → fault_of r ≡ misplaced_all (file_at s) (arrays_in (variables (node_of (file_at s) k))) (map (under_name (file_at s) (arrays_in (variables (node_of (file_at s) k)))) xs) (at + 2) es

  -- the call at `at` as a whole right side, under the names whose slots stand from p on, so many
  pub record OutputsJudged (p many at : ℕ) (r : Result (Unit {0}) Misplaced) : Type 0 where
    pub is : (xs : List ℕ) (c : ℕ) (es : Exprs) → k < length (file_at s).nodes → NamesTold s slots k p xs → many ≡ length xs → length (callee_in (file_at s) c).outputs ≡ length xs
        → Sits s rows slots plans k (arrays_in (variables (node_of (file_at s) k))) 24 at (cons (call c es) nil)
        → fault_of r ≡ misplaced_rhs (file_at s) (arrays_in (variables (node_of (file_at s) k))) (map (under_name (file_at s) (arrays_in (variables (node_of (file_at s) k)))) xs) at (outputs_of c es)

  pub record EquationJudged (at : ℕ) (r : Result (Unit {0}) Misplaced) : Type 0 where
    pub is : (q : Equation) → EquationSits s rows slots plans k at q → fault_of r ≡ misplaced_in (file_at s) (arrays_in (variables (node_of (file_at s) k))) (at, q)

-- whether the outputs of node c suit the names of node k, so many
pub record OutputsSuit (rows slots plans : List ℕ) (k p many c : ℕ) (r : Bool) : Type 0 where
  pub is : (s xs : List ℕ) → Scoped s rows slots plans k (arrays_in (variables (node_of (file_at s) k))) → k < length (file_at s).nodes → c < length (file_at s).nodes → NamesTold s slots k p xs → many ≡ length xs
      → length (callee_in (file_at s) c).outputs ≡ length xs → r ≡ suit_all (map (under_name (file_at s) (arrays_in (variables (node_of (file_at s) k)))) xs) (callee_in (file_at s) c).outputs
