-- What is asked of expressions: literals within their ranges (reading), and calls, literals and iterators of fitting shapes (9, 10 and 22). How many cells an expression has.
use Prim.Native.Nat.{ℕ, zero, suc, ◌<◌}
use mathlib.Core.Bool.{Bool, ◌&&◌}
use mathlib.Core.List.Memᴰ.{append_cases as in_append}
use mathlib.Core.List.Memᴰ.{append_left as in_left}
use mathlib.Core.List.Memᴰ.{append_right as in_right}
use mathlib.Core.List.Memᴰ.{cases_cons as in_cons}
use mathlib.Core.List.Memᴰ.{head as here}
use mathlib.Core.List.Memᴰ.{not-nil as in_nil}
use mathlib.Core.List.Memᴰ.{tail as there}
use mathlib.Core.List.{List, [], ◌∷◌, ◌++◌, map}
use mathlib.Core.Logic.{⊎_elim}
use mathlib.Core.Path.{◌≡◌}
use lib.Dec.{T, ltb, eqb}
use lib.ListN.{length, get_or}
use Rattle.ol_theory.specs.Member.{◌∈◌}
use Rattle.ol_spec.specs.Lists.{maybe, sum, concat}
use Rattle.ol_spec.specs.Syntax.{Expr, bool_lit, int_lit, float_lit, char_lit, var, unary, binary, if_then_else, pre, arrow, cast, call, tuple, index, literal}
use Rattle.ol_spec.specs.Syntax.{map_over, fold_over, Exprs, nil, cons, count, Equation, Node, no_node, Rhs, items, outputs_of, one}
use Rattle.ol_spec.specs.Shapes.{Sized, shape, first_length}
use Rattle.ol_spec.specs.Admission.{iterable}
use Rattle.ol_spec.specs.Eval.{callees, callees_all}
use Rattle.ol_spec.specs.Step.{equation_sites, input_count, output_count, no_equation}
use Rattle.ol_spec.proofs.Values.{Small}
use Rattle.ol_spec.proofs.Lists.{in_concat}

-- ---- literals

abbrev mutual
  pub Plain : Expr → Type 0
  Plain (bool_lit b) = Unit {0}
  Plain (int_lit i) = Small i
  Plain (float_lit b) = Unit {0}
  Plain (char_lit c) = c < 256
  Plain (var x) = Unit {0}
  Plain (unary op e) = Plain e
  Plain (binary op l r) = Plain l × Plain r
  Plain (if_then_else c t e) = Plain c × Plain t × Plain e
  Plain (pre e) = Plain e
  Plain (arrow a b) = Plain a × Plain b
  Plain (cast t e) = Plain e
  Plain (call k es) = PlainAll es
  Plain (tuple es) = PlainAll es
  Plain (index a i) = Plain a × Plain i
  Plain (literal es) = PlainAll es
  Plain (map_over k es) = PlainAll es
  Plain (fold_over k e es) = Plain e × PlainAll es

  pub PlainAll : Exprs → Type 0
  PlainAll nil = Unit {0}
  PlainAll (cons e es) = Plain e × PlainAll es

-- ---- shapes

module _ (nodes : List Node) (locals globals : List Sized) where
  -- how many cells an expression has, and each of several
  abbrev pub cells_in : Expr → ℕ
  cells_in e = maybe 1 (λ n. n) (shape nodes locals globals e)

  abbrev pub cell_counts : Exprs → List ℕ
  cell_counts nil = []
  cell_counts (cons e es) = cells_in e ∷ cell_counts es

  abbrev pub cells_all : Exprs → ℕ
  cells_all es = sum (cell_counts es)

  -- how many values a right side gives
  abbrev pub arity_in : Rhs → ℕ
  arity_in (items es) = cells_all es
  arity_in (outputs_of k es) = output_count (get_or nodes k no_node)
  arity_in (one e) = cells_in e

  -- `ok` tells of a callee and a number of values whether it may be called so, `fn` of a node and a number of values whether it may be iterated
  module _ (ok fn : ℕ → ℕ → Bool) where
    abbrev mutual
      pub Allowed : Expr → Type 0
      Allowed (bool_lit b) = Unit {0}
      Allowed (int_lit i) = Unit {0}
      Allowed (float_lit b) = Unit {0}
      Allowed (char_lit c) = Unit {0}
      Allowed (var x) = Unit {0}
      Allowed (unary op e) = Allowed e
      Allowed (binary op l r) = Allowed l × Allowed r
      Allowed (if_then_else c t e) = Allowed c × Allowed t × Allowed e
      Allowed (pre e) = Allowed e
      Allowed (arrow a b) = Allowed a × Allowed b
      Allowed (cast t e) = Allowed e
      Allowed (call k es) = T (ok k (cells_all es)) × AllowedAll es
      Allowed (tuple es) = AllowedAll es
      Allowed (index a i) = Allowed a × Allowed i
      Allowed (literal es) = (cells_all es ≡ count es) × AllowedAll es
      Allowed (map_over k es) = T (fn k (count es)) × (first_length nodes locals globals es ≡ get_or (cell_counts es) 0 0) × AllowedAll es
      Allowed (fold_over k e es) = T (fn k 2) × Allowed e × AllowedAll es

      pub AllowedAll : Exprs → Type 0
      AllowedAll nil = Unit {0}
      AllowedAll (cons e es) = Allowed e × AllowedAll es

-- a node that every node may call with so many values, and one that may be iterated over so many
abbrev pub may_be : List Node → ℕ → ℕ → Bool
may_be ns c m = ltb c (length ns) && eqb m (input_count (get_or ns c no_node))

abbrev pub may_iterate : List Node → ℕ → ℕ → Bool
may_iterate ns c m = ltb c (length ns) && iterable m (get_or ns c no_node)

-- equations that may be run
module _ (ns : List Node) (locals globals : List Sized) where
  abbrev pub Runnable : Expr → Type 0
  Runnable e = Plain e × Allowed ns locals globals (may_be ns) (may_iterate ns) e

  abbrev pub RunnableEqs : List Equation → Type 0
  RunnableEqs [] = Unit {0}
  RunnableEqs (q ∷ qs) = Runnable q.rhs × RunnableEqs qs

  pub runnable_at : (qs : List Equation) (i : ℕ) → RunnableEqs qs → Runnable (get_or qs i no_equation).rhs
  runnable_at [] i h = (tt, tt)
  runnable_at (q ∷ qs) zero h = h.0
  runnable_at (q ∷ qs) (suc i) h = runnable_at qs i h.1

-- ---- the nodes that an expression calls or iterates

abbrev mutual
  pub uses : Expr → List ℕ
  uses (bool_lit b) = []
  uses (int_lit i) = []
  uses (float_lit b) = []
  uses (char_lit c) = []
  uses (var x) = []
  uses (unary op e) = uses e
  uses (binary op l r) = uses l ++ uses r
  uses (if_then_else c t e) = uses c ++ (uses t ++ uses e)
  uses (pre e) = uses e
  uses (arrow a b) = uses a ++ uses b
  uses (cast t e) = uses e
  uses (call k es) = k ∷ uses_all es
  uses (tuple es) = uses_all es
  uses (index a i) = uses a ++ uses i
  uses (literal es) = uses_all es
  uses (map_over k es) = k ∷ uses_all es
  uses (fold_over k e es) = k ∷ (uses e ++ uses_all es)

  pub uses_all : Exprs → List ℕ
  uses_all nil = []
  uses_all (cons e es) = uses e ++ uses_all es

abbrev pub uses_in : Equation → List ℕ
uses_in q = uses q.rhs

-- the nodes that a node's equations call or iterate
abbrev pub used_by : Node → List ℕ
used_by n = concat (map uses_in n.equations)

pub either : (P : Type 0) (a b : List ℕ) (c : ℕ) → (c ∈ a → P) → (c ∈ b → P) → c ∈ (a ++ b) → P
either P a b c f g m = ⊎_elim f g (in_append a m)

-- callees are among them
mutual
  pub callee_used : (e : Expr) (c : ℕ) → c ∈ callees e → c ∈ uses e
  callee_used (bool_lit b) c m = m
  callee_used (int_lit i) c m = m
  callee_used (float_lit b) c m = m
  callee_used (char_lit x) c m = m
  callee_used (var x) c m = m
  callee_used (unary op e) c m = callee_used e c m
  callee_used (binary op l r) c m = either (c ∈ (uses l ++ uses r)) (callees l) (callees r) c (λ k. in_left (uses r) (callee_used l c k)) (λ k. in_right (uses l) (callee_used r c k)) m
  callee_used (if_then_else x t e) c m =
      either (c ∈ (uses x ++ (uses t ++ uses e))) (callees x) (callees t ++ callees e) c (λ k. in_left (uses t ++ uses e) (callee_used x c k))
      (either (c ∈ (uses x ++ (uses t ++ uses e))) (callees t) (callees e) c (λ k. in_right (uses x) (in_left (uses e) (callee_used t c k))) (λ k. in_right (uses x) (in_right (uses t) (callee_used e c k)))) m
  callee_used (pre e) c m = callee_used e c m
  callee_used (arrow l r) c m = either (c ∈ (uses l ++ uses r)) (callees l) (callees r) c (λ k. in_left (uses r) (callee_used l c k)) (λ k. in_right (uses l) (callee_used r c k)) m
  callee_used (cast t e) c m = callee_used e c m
  callee_used (call k es) c m = ⊎_elim (λ e. here e) (λ n. there (callees_used es c n)) (in_cons m)
  callee_used (tuple es) c m = callees_used es c m
  callee_used (index l r) c m = either (c ∈ (uses l ++ uses r)) (callees l) (callees r) c (λ k. in_left (uses r) (callee_used l c k)) (λ k. in_right (uses l) (callee_used r c k)) m
  callee_used (literal es) c m = callees_used es c m
  callee_used (map_over k es) c m = there (callees_used es c m)
  callee_used (fold_over k e es) c m =
      there (either (c ∈ (uses e ++ uses_all es)) (callees e) (callees_all es) c (λ k. in_left (uses_all es) (callee_used e c k)) (λ k. in_right (uses e) (callees_used es c k)) m)

  pub callees_used : (es : Exprs) (c : ℕ) → c ∈ callees_all es → c ∈ uses_all es
  callees_used nil c m = m
  callees_used (cons e es) c m = either (c ∈ (uses e ++ uses_all es)) (callees e) (callees_all es) c (λ k. in_left (uses_all es) (callee_used e c k)) (λ k. in_right (uses e) (callees_used es c k)) m

pub sites_used : (qs : List Equation) (c : ℕ) → c ∈ concat (map equation_sites qs) → c ∈ concat (map uses_in qs)
sites_used [] c m = m
sites_used (q ∷ qs) c m =
    either (c ∈ (uses q.rhs ++ concat (map uses_in qs))) (callees q.rhs) (concat (map equation_sites qs)) c (λ k. in_left _ (callee_used q.rhs c k)) (λ k. in_right (uses q.rhs) (sites_used qs c k)) m

-- what an equation uses, its node uses
pub use_in : (qs : List Equation) (i c : ℕ) → c ∈ uses (get_or qs i no_equation).rhs → c ∈ concat (map uses_in qs)
use_in = in_concat uses_in no_equation (λ w. in_nil w.1)
