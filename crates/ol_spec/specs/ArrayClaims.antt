-- What holds of arrays, map and fold: document 02, "Arrays, map and fold". Map and fold for any meaning of the iterated function and any number of elements, the order of a fold, the branch
-- not taken, that every right side fills exactly its names' cells, and that files without arrays evaluate as before. Types only: proofs/Iterating, Fills and Plainly prove the claims.
use Rattle.std.specs.Prelude.{ℕ, suc, ◌+◌, ◌<◌, Bool, true, false, ◌&&◌, List, [], ◌∷◌, ◌++◌, map, ◌↔◌, ◌≡◌, T, length, take, drop, get_or}
use Rattle.std.proofs.Math.Option.{Option, none, some}
use Rattle.std.proofs.Math.ListN.{get_elem?}
use Rattle.ol_theory.specs.Member.{Distinct}
use Rattle.ol_spec.specs.Lists.{maybe, all_of, position, positions}
use Rattle.ol_spec.specs.Syntax.{Expr, bool_lit, int_lit, float_lit, char_lit, var, unary, binary, if_then_else, pre, arrow, cast, call, tuple, index, literal, map_over, fold_over, Exprs, nil, cons, BinOp}
use Rattle.ol_spec.specs.Syntax.{scalar, Variable, Equation, Node, no_node, Constant, File, name_of, variables, cell_names, length_in}
use Rattle.ol_spec.specs.Read.{then_read, give, ty_r, var_ty_r}
use Rattle.ol_spec.specs.Limits.{Loader}
use Rattle.ol_spec.specs.declared.Limits.{Limits}
use Rattle.ol_spec.specs.Operators.{binary_of}
use Rattle.ol_spec.specs.Shapes.{output_shape}
use Rattle.ol_spec.specs.Eval.{Globals, Scope, Calls, Results, values, failure, overflow, Outcomes, Eval, Evals, then_results, then_out, cons_out, map_eval, elements_at, no_value_of, map_from, fold_from, callees, common_real, is_double?, real_kind, branch, choose, next, several_eval, seg_size, eval, eval_each, eval_cells, eval_all}
use Rattle.ol_spec.specs.Step.{globals, cell_count, slots_of, equation_at, scope, eval_equation, calls_at}
use Rattle.ol_spec.specs.Admission.{calls_where, uses_where, takes, scalars, is_scalar, fault22, no_variables, judge, admitted}
use Rattle.ol_spec.specs.State.{globals_of}
use Rattle.ol_spec.specs.Demand3.{Bytes}
use Rattle.ol_spec.specs.declared.Value.{Value}
use Rattle.ol_spec.specs.declared.Cause.{Cause}
use Rattle.ol_spec.specs.declared.Outcome.{Outcome}
use Rattle.ol_spec.specs.declared.Outcome.TheVariants as Out

-- ---- map and fold, f being the meaning of one call of the iterated function

-- an evaluation that gives no values: an overflow, or a failure by its cause
abbrev pub stop_of : {A : Type 0} → Option Cause → Results A
stop_of none = overflow
stop_of (some c) = failure c

abbrev pub stop_out : Option Cause → Outcome
stop_out none = Out.Overflow
stop_out (some c) = Out.Failure c

module _ (f : List Value → Outcome) where
  -- n values, the k-th being what f gives of the k-th elements
  abbrev pub MapGives : List (List Value) → ℕ → List Value → Type 0
  MapGives vss n ws = (length ws ≡ n) × ((k : ℕ) → k < n → f (elements_at k vss) ≡ Out.Value (get_or ws k no_value_of))

  -- the first of n elements at which f stops so
  pub record MapStops (vss : List (List Value)) (s : Option Cause) (n : ℕ) : Type 0 where
    pub place : ℕ
    pub inside : place < n
    pub before : (i : ℕ) → i < place → (v : Value) × (f (elements_at i vss) ≡ Out.Value v)
    pub there : f (elements_at place vss) ≡ stop_out s

  -- running values from the seed on, each made by f of the one before and the next element, as far as n
  pub record Runs (r : Value) (vs : List Value) (n : ℕ) : Type 0 where
    pub running : ℕ → Value
    pub seed : running 0 ≡ r
    pub steps : (k : ℕ) → k < n → f (running k ∷ get_or vs k no_value_of ∷ []) ≡ Out.Value (running (suc k))

  -- w is the last of them, over all elements
  abbrev pub FoldGives : Value → List Value → Value → Type 0
  FoldGives r vs w = (t : Runs r vs (length vs)) × (w ≡ t.running (length vs))

  -- the first element at which f stops so
  pub record FoldStops (s : Option Cause) (r : Value) (vs : List Value) : Type 0 where
    pub place : ℕ
    pub inside : place < length vs
    pub runs : Runs r vs place
    pub there : f (runs.running place ∷ get_or vs place no_value_of ∷ []) ≡ stop_out s

-- one list of values behind another, if both are there
abbrev pub join_out : Outcomes → Outcomes → Outcomes
join_out a b = then_results (λ ws. then_results (λ us. values (ws ++ us)) b) a

-- a value as it is beside a branch that counts as Double or not
abbrev pub widened : Bool → Outcome → Outcome
widened b (Out.Value v) = Out.Value (common_real b v)
widened b (Out.Failure c) = Out.Failure c
widened b Out.Overflow = Out.Overflow

abbrev pub beside_of : Globals → Scope → Expr → Outcome → Outcome
beside_of g s e o = widened (is_double? (real_kind g s e)) o

-- For every f and every number of elements: a map gives ws exactly if they are f's, and stops exactly at the first element where f stops; so does a fold, from the left. A map of m + n elements
-- is that of the first m with that of the other n behind it, a fold over a joined list the fold over the second from what the first gives.
-- Where the arrays of a fold stop, its outcome and its records are theirs, whatever the seed. Of a branch that is not taken and has no call site, iterators or not, only the kind counts.
pub record IterateClaim : Type 0 where
  pub map_any : (f : List Value → Outcome) (vss : List (List Value)) (n : ℕ) (ws : List Value) → (map_from f vss 0 n ≡ values ws) ↔ MapGives f vss n ws
  pub map_any_stops : (f : List Value → Outcome) (vss : List (List Value)) (s : Option Cause) (n : ℕ) → (map_from f vss 0 n ≡ stop_of s) ↔ MapStops f vss s n
  pub fold_any : (f : List Value → Outcome) (r : Value) (vs : List Value) (w : Value) → (fold_from f r vs ≡ Out.Value w) ↔ FoldGives f r vs w
  pub fold_any_stops : (f : List Value → Outcome) (s : Option Cause) (r : Value) (vs : List Value) → (fold_from f r vs ≡ stop_out s) ↔ FoldStops f s r vs
  pub map_join : (f : List Value → Outcome) (vss : List (List Value)) (m n j : ℕ) → map_from f vss j (m + n) ≡ join_out (map_from f vss j m) (map_from f vss (j + m) n)
  pub fold_join : (f : List Value → Outcome) (vs us : List Value) (r : Value) → fold_from f r (vs ++ us) ≡ then_out (λ w. fold_from f w us) (fold_from f r vs)
  pub fold_order : (g : Globals) (s : Scope) (calls : Calls) (k : ℕ) (e : Expr) (es : Exprs) (seg : List ℕ) (w : Option Cause) → (eval_each g s calls es (drop (seg_size g e) seg)).out ≡ stop_of w
      → eval g s calls (fold_over k e es) seg ≡ record { out = stop_out w; seg = take (seg_size g e) seg ++ (eval_each g s calls es (drop (seg_size g e) seg)).seg }
  pub iterator_no_call : (g : Globals) (s : Scope) (a b : Expr) (taken other : List ℕ → Eval) (p q : List ℕ)
      → (callees b ≡ [] → choose true (branch g s a taken p) (branch g s b other q) ≡ record { out = beside_of g s b (taken p).out; seg = (taken p).seg ++ q })
      × (callees a ≡ [] → choose false (branch g s a other p) (branch g s b taken q) ≡ record { out = beside_of g s a (taken q).out; seg = p ++ (taken q).seg })

-- ---- cells

-- In an admitted file the right side of every equation, on any cells and records and at every depth of calls, gives exactly as many values as its names have cells, if it gives values.
unfoldable pub FillsClaim : Loader → Type 0
FillsClaim ld =
    (s : List ℕ) (f : File) (vs : List Value) → Bytes s → judge ld s ≡ admitted f vs → (k : ℕ) (n : Node) → get_elem? f.nodes k ≡ some n → (i : ℕ) → i < length n.equations
    → (d : ℕ) (first : Bool) (before cs : List Value) (seg : List ℕ) (ws : List Value) → (eval_equation (globals_of f vs) (calls_at (globals_of f vs) d) n first before cs i seg).out ≡ values ws
    → length ws ≡ length (slots_of n (equation_at n i).names)

-- ---- files without arrays

-- no index, literal, map or fold
abbrev pub PlainForm : Expr → Type 0
PlainForm (bool_lit b) = Unit {0}
PlainForm (int_lit i) = Unit {0}
PlainForm (float_lit b) = Unit {0}
PlainForm (char_lit c) = Unit {0}
PlainForm (var x) = Unit {0}
PlainForm (unary op e) = Unit {0}
PlainForm (binary op l r) = Unit {0}
PlainForm (if_then_else c t e) = Unit {0}
PlainForm (pre e) = Unit {0}
PlainForm (arrow a b) = Unit {0}
PlainForm (cast t e) = Unit {0}
PlainForm (call k es) = Unit {0}
PlainForm (tuple es) = Unit {0}
PlainForm (index a i) = ⊥
PlainForm (literal es) = ⊥
PlainForm (map_over k es) = ⊥
PlainForm (fold_over k s es) = ⊥

-- no index, literal, map or fold in an expression, at any depth
abbrev mutual
  pub plain_expr : Expr → Bool
  plain_expr (bool_lit b) = true
  plain_expr (int_lit i) = true
  plain_expr (float_lit b) = true
  plain_expr (char_lit c) = true
  plain_expr (var x) = true
  plain_expr (unary op e) = plain_expr e
  plain_expr (binary op l r) = plain_expr l && plain_expr r
  plain_expr (if_then_else c t e) = plain_expr c && (plain_expr t && plain_expr e)
  plain_expr (pre e) = plain_expr e
  plain_expr (arrow a b) = plain_expr a && plain_expr b
  plain_expr (cast t e) = plain_expr e
  plain_expr (call k es) = plain_exprs es
  plain_expr (tuple es) = plain_exprs es
  plain_expr (index a i) = false
  plain_expr (literal es) = false
  plain_expr (map_over k es) = false
  plain_expr (fold_over k s es) = false

  pub plain_exprs : Exprs → Bool
  plain_exprs nil = true
  plain_exprs (cons e es) = plain_expr e && plain_exprs es

-- nor in a file, whose names are scalars
abbrev pub plain_constant : Constant → Bool
plain_constant c = takes scalars (length_in c.ty) && plain_expr c.value

abbrev pub plain_equation : Equation → Bool
plain_equation q = plain_expr q.rhs

abbrev pub plain_node : Node → Bool
plain_node n = all_of is_scalar (variables n) && all_of plain_equation n.equations

abbrev pub plain_file : File → Bool
plain_file f = all_of plain_constant f.constants && all_of plain_node f.nodes

-- the file's names and outputs are scalars
pub record PlainScope (g : Globals) (s : Scope) : Type 0 where
  pub constants : g.arrays ≡ []
  pub variables : s.arrays ≡ []
  pub outputs : (k : ℕ) → output_shape (get_or g.nodes k no_node).outputs ≡ none

-- the first of several arguments, as scalars have it
abbrev pub next_argument_on : Outcome → List ℕ → (List ℕ → Evals) → List ℕ → Evals
next_argument_on (Out.Value v) seg k rest = let r = k rest in record { out = cons_out v r.out; seg = seg ++ r.seg }
next_argument_on (Out.Failure c) seg k rest = record { out = failure c; seg = seg ++ rest }
next_argument_on Out.Overflow seg k rest = record { out = overflow; seg = seg ++ rest }

-- Where no name and no output is an array, the equations of evaluation without arrays hold: a binary form evaluates its sides as scalars, a right side and each argument are one value (the other
-- forms have the same clauses). A scalar has one cell, which bears its name, so that a node has as many cells as variables, and a name that stands once is found at its position.
-- So it is in every node and constant of a file without arrays. There 22 does not hold, and 9 asks of calls alone; and a type that does not start with 13 is read as a scalar's.
pub record PlainClaim : Type 0 where
  pub binary_plain : (g : Globals) (s : Scope) (calls : Calls) → PlainScope g s → (op : BinOp) (l r : Expr) (seg : List ℕ) → PlainForm l
      → eval g s calls (binary op l r) seg
      ≡ next (eval g s calls l (take (seg_size g l) seg)) (λ v rest. map_eval (binary_of op v) (eval g s calls r rest)) (drop (seg_size g l) seg)
  pub cells_plain : (g : Globals) (s : Scope) (calls : Calls) → PlainScope g s → (e : Expr) (seg : List ℕ) → PlainForm e → eval_cells g s calls e seg ≡ several_eval (eval g s calls e seg)
  pub arguments_plain : (g : Globals) (s : Scope) (calls : Calls) → PlainScope g s → (e : Expr) (es : Exprs) (seg : List ℕ) → PlainForm e
      → let r = eval g s calls e (take (seg_size g e) seg) in
      eval_all g s calls (cons e es) seg ≡ next_argument_on r.out r.seg (eval_all g s calls es) (drop (seg_size g e) seg)
  pub names_plain : (vs : List Variable) → T (all_of is_scalar vs) → cell_names vs ≡ map name_of vs
  pub count_plain : (n : Node) → T (all_of is_scalar (variables n)) → cell_count n ≡ length (variables n)
  pub positions_plain : (x : ℕ) (ns : List ℕ) → Distinct ns → positions x ns ≡ maybe [] (λ j. j ∷ []) (position x ns)
  pub scopes_plain : (f : File) → T (plain_file f) → (xs : List ℕ) (vs : List Value) (k : ℕ) (first : Bool) (before cs : List Value)
      → PlainScope (globals f xs vs) (scope (get_or f.nodes k no_node) first before cs) × PlainScope (globals f xs vs) no_variables
  pub judging_plain : (f : File) → T (plain_file f) → fault22 f ≡ none
  pub uses_plain : (p : ℕ → ℕ → Bool) (q : ℕ → Bool) (at : ℕ) (e : Expr) → PlainForm e → uses_where p q at e ≡ calls_where p at e
  pub types_plain : (s : List ℕ) (l : Limits) (enums at : ℕ) → ¬ (get_elem? s at ≡ some 13) → var_ty_r s l enums at ≡ then_read (ty_r s l enums at) (λ t. give (scalar t))
