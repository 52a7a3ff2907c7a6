-- Whole right sides, under the names that their equations define.
use Prim.Native.Nat.{ℕ, zero, suc, ◌+◌, ◌*◌, ◌≤◌, ◌<◌}
use mathlib.Core.Bool.{Bool, true, false, ◌&&◌}
use mathlib.Core.List.{List, [], ◌∷◌, map}
use mathlib.Core.Option.{Option, some}
use mathlib.Core.Path.{◌≡◌, refl, sym, ap, ap₂, subst, ◌∙◌}
use native.Mathlib.Omega.{arith}
use native.Mathlib.Numerals.{add-one}
use lib.ListN.{length, get_or, drop, length-map}
use lib.Seq.{drop-cons}
use Rattle.ol_spec.specs.Syntax.{Expr, bool_lit, int_lit, float_lit, char_lit, var, unary, binary, if_then_else, pre, arrow, cast, call, tuple, index, literal, map_over, fold_over, Exprs, nil, cons, Equation, Variable, scalar, bool, length_in, variables, outputs_of, one, rhs_of}
use Rattle.std.specs.Prelude.{Result, Ok, Err}
use Rattle.ol_spec.specs.Places.{rhs_place}
use Rattle.ol_spec.specs.Shapes.{Sized, arrays_in}
use Rattle.ol_spec.specs.Admission.{Place, anything, takes, under, under_variable, suit_all, unless, arity, callee_in, misplaced, misplaced_rhs, misplaced_in, under_name}
use Rattle.ol_tables.specs.At.{file_at}
use Rattle.ol_tables.specs.Heads.{code_of, Byte}
use Rattle.ol_tables.specs.Tables.{node_of, row_at, var_ty_at}
use Rattle.ol_shapes.specs.Codes.{fault_of, type_shape}
use Rattle.ol_shapes.specs.Sits.{Scoped, long_in, Sits}
use Rattle.ol_shapes.specs.Judges.{AllJudged, PartsJudged, ExprJudged}
use Rattle.ol_shapes.specs.Laid.{NamesTold, EquationSits, ItemsJudged, OutputsSuit, OutputsJudged}
use Rattle.ol_shapes.specs.declared.places.Misplaced.{Misplaced}
use Rattle.ol_shapes.proofs.Codes.{code_told, only_tuple, only_call}
use Rattle.ol_shapes.proofs.Sitting.{sits_head, sits_parts}
use Rattle.ol_shapes.proofs.Shaping.{type_shape_lem, output_shape_lem, few_nodes_lem, call_low}
use Rattle.ol_shapes.proofs.Judging.{or_none_lem, or_some}

-- ---- the place under a name

-- the arrays among node k's variables
abbrev pub locals_of : List ℕ → ℕ → List Sized
locals_of s k = arrays_in (variables (node_of (file_at s) k))

-- the places under these names
abbrev pub places_of : List ℕ → ℕ → List ℕ → List Place
places_of s k xs = map (under_name (file_at s) (locals_of s k)) xs

place_at_lem : (s : List ℕ) (k : ℕ) (xs : List ℕ) (i : ℕ) → i < length xs → get_or (places_of s k xs) i anything ≡ under (long_in s (locals_of s k) (get_or xs i 0))
place_at_lem s k [] i h = absurd (omega arith)
place_at_lem s k (x ∷ xs) zero h = refl
place_at_lem s k (x ∷ xs) (suc i) h = place_at_lem s k xs i (omega arith)

pub name_place : {s rows slots plans : List ℕ} {k p : ℕ} {locals : List Sized} {xs : List ℕ} (i : ℕ) {q : Place} → Scoped s rows slots plans k locals → k < length (file_at s).nodes → NamesTold s slots k p xs → i < length xs
    → (k < 32 → q ≡ under (type_shape rows plans k (get_or slots (p + 2 * i) 0))) → q ≡ get_or (places_of s k xs) i anything
name_place {s} {slots = slots} {k} {p} {xs = xs} i sc low t h e =
    let j = get_or slots (p + 2 * i) 0 in
    e (omega (arith, low, few_nodes_lem sc)) ∙ ap under (type_shape_lem sc k low j (t.low i h) ∙ t.shape i h) ∙ sym (place_at_lem s k xs i h)

-- ---- the outputs of a call

no_variable : Variable
no_variable = record { name = 0; ty = scalar bool }

type_of_lem : (vs : List Variable) (i : ℕ) → i < length vs → (get_or vs i no_variable).ty ≡ var_ty_at vs i
type_of_lem [] i h = absurd (omega arith)
type_of_lem (v ∷ vs) zero h = refl
type_of_lem (v ∷ vs) (suc i) h = type_of_lem vs i (omega arith)

-- the outputs before number i suit their names
abbrev pub SuitLeft : List Place → List Variable → ℕ → Type 0
SuitLeft ps vs i = suit_all ps vs ≡ suit_all (drop i ps) (drop i vs)

module _ (ps : List Place) (vs : List Variable) (i : ℕ) where
  suit_step : i < length ps → i < length vs → suit_all (drop i ps) (drop i vs) ≡ takes (get_or ps i anything) (length_in (var_ty_at vs i)) && suit_all (drop (i + 1) ps) (drop (i + 1) vs)
  suit_step a b =
      ap₂ suit_all (drop-cons ps i anything a) (drop-cons vs i no_variable b)
      ∙ ap₂ (λ t n. takes (get_or ps i anything) (length_in t) && suit_all (drop n ps) (drop n vs)) (type_of_lem vs i b) (sym (add-one i))

  pub suit_turn : SuitLeft ps vs i → i < length ps → i < length vs → {t : Bool} → t ≡ takes (get_or ps i anything) (length_in (var_ty_at vs i)) → t ≡ true → SuitLeft ps vs (i + 1)
  suit_turn l a b e q = l ∙ suit_step a b ∙ ap (λ x. x && suit_all (drop (i + 1) ps) (drop (i + 1) vs)) (sym e ∙ q)

  pub suit_stop : SuitLeft ps vs i → i < length ps → i < length vs → {t : Bool} → t ≡ takes (get_or ps i anything) (length_in (var_ty_at vs i)) → t ≡ false → false ≡ suit_all ps vs
  suit_stop l a b e q = sym (l ∙ suit_step a b ∙ ap (λ x. x && suit_all (drop (i + 1) ps) (drop (i + 1) vs)) (sym e ∙ q))

  pub suit_end : SuitLeft ps vs i → length ps ≤ i → true ≡ suit_all ps vs
  suit_end l h = sym (l ∙ ap (λ x. suit_all x (drop i vs)) (drop_all ps i h))
    where
      drop_all : (ps : List Place) (i : ℕ) → length ps ≤ i → drop i ps ≡ []
      drop_all [] zero h = refl
      drop_all [] (suc i) h = refl
      drop_all (p ∷ ps) zero h = absurd (omega arith)
      drop_all (p ∷ ps) (suc i) h = drop_all ps i (omega arith)

pub places_many : (s : List ℕ) (k : ℕ) (xs : List ℕ) → length (places_of s k xs) ≡ length xs
places_many s k xs = length-map xs (under_name (file_at s) (locals_of s k))

-- what an output's shape is told to be
pub output_told : {s rows slots plans : List ℕ} {k : ℕ} {locals : List Sized} (sc : Scoped s rows slots plans k locals) (c : ℕ) → c < length (file_at s).nodes → {i : ℕ} {o : Option ℕ} → i < length (node_of (file_at s) c).outputs
    → (c < 32 → o ≡ type_shape rows plans c (row_at rows c 2 + i)) → o ≡ length_in (var_ty_at (node_of (file_at s) c).outputs i)
output_told {rows = rows} {plans = plans} sc c low {i} h e =
    e (omega (arith, low, few_nodes_lem sc)) ∙ ap (λ n. type_shape rows plans c (n + i)) (sc.typed.row c low).inputs ∙ output_shape_lem sc c low i h

-- ---- a call as a whole right side

module _ {s rows slots plans : List ℕ} {k at : ℕ} (c : ℕ) (es : Exprs) (h : Sits s rows slots plans k (locals_of s k) 24 at (cons (call c es) nil)) {r : Result ℕ Misplaced} (parts : PartsJudged s rows slots plans 23 at r) where
  arguments : AllJudged (file_at s) (locals_of s k) (map under_variable (callee_in (file_at s) c).inputs) (at + 3) es r
  arguments = parts.are k (locals_of s k) (call c es) nil h

  pub outputs_inner : (xs : List ℕ) {m : Misplaced} → r ≡ Err m → some m.at ≡ misplaced_rhs (file_at s) (locals_of s k) (places_of s k xs) at (outputs_of c es)
  outputs_inner xs z = sym (or_some (unless (suit_all (places_of s k xs) (callee_in (file_at s) c).outputs) at) (sym arguments.found ∙ ap fault_of z))

  pub outputs_own : (xs : List ℕ) {end : ℕ} {t : Bool} → r ≡ Ok end → t ≡ suit_all (places_of s k xs) (callee_in (file_at s) c).outputs → unless t at ≡ misplaced_rhs (file_at s) (locals_of s k) (places_of s k xs) at (outputs_of c es)
  outputs_own xs z e = ap (λ t. unless t at) e ∙ sym (or_none_lem (unless (suit_all (places_of s k xs) (callee_in (file_at s) c).outputs) at) (sym arguments.found ∙ ap fault_of z))

-- whether its outputs suit, by its own byte
pub suit_told : {s rows slots plans : List ℕ} {k at p many d : ℕ} {xs : List ℕ} {t : Bool} (c : ℕ) (es : Exprs) → Sits s rows slots plans k (locals_of s k) 24 at (cons (call c es) nil) → k < length (file_at s).nodes → NamesTold s slots k p xs
    → many ≡ length xs → length (callee_in (file_at s) c).outputs ≡ length xs → d ≡ get_or s (at + 1) 0 → OutputsSuit rows slots plans k p many d t → t ≡ suit_all (places_of s k xs) (callee_in (file_at s) c).outputs
suit_told {s} {rows} {slots} {plans} {k} {at} {p} {many} {d} {xs} {t} c es h low names m o e su =
    let same : d ≡ c = e ∙ (sits_head h).1 in
    (subst (λ n. OutputsSuit rows slots plans k p many n t) same su).is s xs h.scope low (call_low c es nil h).0 names m o

-- ---- an equation

pub one_of : (e : Expr) → ¬ (code_of e ≡ 11) → ¬ (code_of e ≡ 12) → rhs_of e ≡ one e
one_of (bool_lit b) n m = refl
one_of (int_lit i) n m = refl
one_of (float_lit b) n m = refl
one_of (char_lit c) n m = refl
one_of (var x) n m = refl
one_of (unary op e) n m = refl
one_of (binary op l r) n m = refl
one_of (if_then_else c t e) n m = refl
one_of (pre e) n m = refl
one_of (arrow a b) n m = refl
one_of (cast t e) n m = refl
one_of (call k es) n m = absurd (n refl)
one_of (tuple es) n m = absurd (m refl)
one_of (index a i) n m = refl
one_of (literal es) n m = refl
one_of (map_over k es) n m = refl
one_of (fold_over k s es) n m = refl

module _ {s rows slots plans : List ℕ} {k at : ℕ} (q : Equation) (e : EquationSits s rows slots plans k at q) where
  abbrev R : Expr → Option ℕ
  R x = misplaced_rhs (file_at s) (locals_of s k) (places_of s k q.names) (rhs_place at q) (rhs_of x)

  told : get_or s (rhs_place at q) 0 ≡ code_of q.rhs
  told = code_told s (rhs_place at q) q.rhs (sits_head e.rhs)

  -- where its right side stands, by its own byte
  pub rhs_at : {m : ℕ} → Byte s at m → at + 1 + 2 * m ≡ rhs_place at q
  rhs_at b = ap (λ n. at + 1 + 2 * n) (b.is ∙ e.many)

  module _ {p : ℕ} (w : p ≡ rhs_place at q) where
    coded : get_or s p 0 ≡ code_of q.rhs
    coded = ap (λ n. get_or s n 0) w ∙ told

    pub equation_tuple : {r : Result (Unit {0}) Misplaced} → get_or s p 0 ≡ 12 → ItemsJudged s rows slots plans k (at + 1) p r → fault_of r ≡ misplaced_in (file_at s) (locals_of s k) (at, q)
    equation_tuple {r} c j =
        only_tuple (λ x. Sits s rows slots plans k (locals_of s k) 24 (rhs_place at q) (cons x nil) → arity (file_at s) (rhs_of x) ≡ length q.names → fault_of r ≡ R x)
        (λ es h a. (subst (λ n. ItemsJudged s rows slots plans k (at + 1) n r) w j).are q.names es e.low e.names a (sits_head h).1 (sits_parts h)) q.rhs (sym coded ∙ c) e.rhs e.arity

    pub equation_call : {m : ℕ} {r : Result (Unit {0}) Misplaced} → get_or s p 0 ≡ 11 → Byte s at m → OutputsJudged s rows slots plans k (at + 1) m p r → fault_of r ≡ misplaced_in (file_at s) (locals_of s k) (at, q)
    equation_call {m} {r} c mb j =
        only_call (λ x. Sits s rows slots plans k (locals_of s k) 24 (rhs_place at q) (cons x nil) → arity (file_at s) (rhs_of x) ≡ length q.names → fault_of r ≡ R x)
        (λ g es h a. (subst (λ n. OutputsJudged s rows slots plans k (at + 1) m n r) w j).is q.names g es e.low e.names (mb.is ∙ e.many) a h) q.rhs (sym coded ∙ c) e.rhs e.arity

    pub equation_one : {place : Place} {r : Result ℕ Misplaced} → ¬ (get_or s p 0 ≡ 12) → ¬ (get_or s p 0 ≡ 11) → (k < 32 → place ≡ under (type_shape rows plans k (get_or slots (at + 1) 0))) → ExprJudged s rows slots plans 24 p place r
        → fault_of r ≡ misplaced_in (file_at s) (locals_of s k) (at, q)
    equation_one {place} {r} m n t j =
        let o : rhs_of q.rhs ≡ one q.rhs = one_of q.rhs (λ z. n (coded ∙ z)) (λ z. m (coded ∙ z)) in
        let single : 1 ≡ length q.names = ap (arity (file_at s)) (sym o) ∙ e.arity in
        let z : at + 1 ≡ at + 1 + 2 * 0 = omega arith in
        let here : place ≡ get_or (places_of s k q.names) 0 anything = name_place 0 e.rhs.scope e.low e.names (omega (arith, single)) (λ few. t few ∙ ap (λ n. under (type_shape rows plans k (get_or slots n 0))) z) in
        ((subst (λ n. ExprJudged s rows slots plans 24 n place r) w j).is k (locals_of s k) q.rhs nil e.rhs).found
        ∙ ap (λ x. misplaced (file_at s) (locals_of s k) x (rhs_place at q) q.rhs) here ∙ ap (misplaced_rhs (file_at s) (locals_of s k) (places_of s k q.names) (rhs_place at q)) (sym o)
