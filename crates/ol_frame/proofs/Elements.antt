-- The cells of arrays in bytes: those of a name, elements, comparison, and elements put together for a call.
use Prim.Native.Nat.{ℕ, zero, suc, ◌+◌, ◌-◌, ◌*◌, ◌<◌, ◌≤◌, min}
use mathlib.Core.Bool.{Bool, true, false, ◌&&◌, cond}
use mathlib.Core.List.{List, [], ◌∷◌, ◌++◌, map}
use mathlib.Core.Path.{◌≡◌, refl, sym, ap, ◌∙◌}
use native.Mathlib.Nat.{mul-add, mul_assoc, mul-le-mul_left}
use native.Mathlib.Omega.{arith}
use lib.Dec.{eqb}
use lib.ListN.{length, take, drop, get_or, length-append, length-drop, length-take}
use lib.Seq.{get_or-take, get_or-drop, take-take, take-suc, take_all, drop-drop, length-take-le}
use borrow.Author.Tests.{lt-ltb, le-ltb, eq-eqb, ne_eqb}
use Rattle.ol_spec.specs.Syntax.{Ty, bool, Variable, Node, variables}
use Rattle.ol_spec.specs.Types.{fit}
use Rattle.ol_spec.specs.Cell.{tag, cell, value_by, value_of, values_of}
use Rattle.ol_spec.specs.Eval.{equal_cells, elements_at, no_value_of}
use Rattle.ol_spec.specs.Step.{fit_all}
use Rattle.ol_spec.specs.Operators.{pair, equal}
use Rattle.ol_spec.specs.declared.Value.{Value}
use Rattle.ol_spec.proofs.CellLengths.{length_values}
use Rattle.ol_spec.proofs.Cells.{length_cell}
use Rattle.ol_tables.proofs.Lending.{drop_take}
use Rattle.ol_tables.specs.Table.{consts_from, consts_of, known_of}
use Rattle.ol_tables.specs.Tables.{element_of, var_ty_at}
use Rattle.ol_frame.specs.Arrays.{named_from, equal_cell}
use Rattle.ol_frame.specs.Stores.{Typed, groups, element_type, PassedOn, Gathers}
use Rattle.std.specs.Prelude.{Some}
use Rattle.ol_frame.proofs.Storing.{values_next, fit_snoc, passed_as}

-- ---- the bytes from a name's cell on

module _ (cells consts : List ℕ) (c : ℕ) where
  pub from_cells : c < 3584 → named_from cells consts c ≡ drop (9 * c) cells
  from_cells h = ap (λ b. cond b (drop (9 * c) cells) (drop (9 * (c - 3584)) consts)) (lt-ltb c 3584 h)

  pub from_consts : 3584 ≤ c → named_from cells consts c ≡ drop (9 * (c - 3584)) consts
  from_consts h = ap (λ b. cond b (drop (9 * c) cells) (drop (9 * (c - 3584)) consts)) (le-ltb c 3584 h)

-- so many bytes of the first ones
take_front : (m n k : ℕ) (s : List ℕ) → k ≤ length (drop m (take n s)) → take k (drop m (take n s)) ≡ take k (drop m s)
take_front m n k s h = ap (take k) (drop_take m n s) ∙ take-take k (n - m) (drop m s) (omega (arith, ap length (drop_take m n s), length-take (n - m) (drop m s)))

-- ---- the cells of a name, where they are lent

module _ (cells t : List ℕ) (c n : ℕ) (some : 1 ≤ n) (room : 9 * n ≤ length (named_from cells (consts_of t) c)) where
  pub cells_lent : c < 3584 → take (9 * (c + n) - 9 * c) (drop (9 * c) cells) ≡ take (9 * n) (named_from cells (consts_of t) c)
  cells_lent h =
      let e : 9 * (c + n) - 9 * c ≡ 9 * n = omega arith in
      ap (λ m. take m (drop (9 * c) cells)) e ∙ ap (take (9 * n)) (sym (from_cells cells (consts_of t) c h))

  consts_long : 3584 ≤ c → 9 * n ≤ length (drop (9 * (c - 3584)) (consts_of t))
  consts_long h = omega (arith, room, ap length (from_consts cells (consts_of t) c h))

  pub consts_lent : 3584 ≤ c → {a : ℕ} → a ≡ consts_from t + 9 * (c - 3584) → take (a + 9 * n - a) (drop a t) ≡ take (9 * n) (named_from cells (consts_of t) c)
  consts_lent h {a} ea =
      let e : a + 9 * n - a ≡ 9 * n = omega arith in
      (λ j. take (e j) (drop (ea j) t)) ∙ sym (ap (take (9 * n)) (from_consts cells (consts_of t) c h)
      ∙ take_front (9 * (c - 3584)) (9 * known_of t) (9 * n) (drop (consts_from t) t) (consts_long h) ∙ ap (take (9 * n)) (drop-drop (9 * (c - 3584)) (consts_from t) t))

-- ---- elements

-- value i of n
pub get_cell : (n i : ℕ) (s : List ℕ) → i < n → get_or (values_of n s) i no_value_of ≡ value_of (take 9 (drop (9 * i) s))
get_cell zero i s h = absurd (omega arith)
get_cell (suc n) zero s h = refl
get_cell (suc n) (suc i) s h =
    let e : 9 + 9 * i ≡ 9 * suc i = omega arith in
    get_cell n i (drop 9 s) (omega arith) ∙ ap (λ l. value_of (take 9 l)) (drop-drop (9 * i) 9 s ∙ ap (λ m. drop m s) e)

-- ---- comparison

-- a tag above the last is read as it
tag_is : (t p : ℕ) → tag (value_by t p) ≡ min t 4
tag_is zero p = refl
tag_is (suc zero) p = refl
tag_is (suc (suc zero)) p = refl
tag_is (suc (suc (suc zero))) p = refl
tag_is (suc (suc (suc (suc t)))) p = omega arith

tag_at : (s : List ℕ) (at : ℕ) → tag (value_of (take 9 (drop at s))) ≡ min (get_or s at 0) 4
tag_at s at =
    let e : at + 0 ≡ at = omega arith in
    tag_is (get_or (take 9 (drop at s)) 0 0) _ ∙ ap (λ t. min t 4) (get_or-take 9 (drop at s) 0 0 (omega arith) ∙ get_or-drop at s 0 0 ∙ ap (λ n. get_or s n 0) e)

-- of two cells, each at `at`, by their tags
module _ (left right : List ℕ) (at : ℕ) where
  abbrev v : Value
  v = value_of (take 9 (drop at left))

  abbrev w : Value
  w = value_of (take 9 (drop at right))

  pub tags_same : {a b : ℕ} → a ≡ min (get_or left at 0) 4 → b ≡ min (get_or right at 0) 4 → a ≡ b → equal (pair v w) ≡ equal_cell v w
  tags_same ea eb e = ap (λ c. c && equal (pair v w)) (sym (eq-eqb (tag v) (tag w) (tag_at left at ∙ sym ea ∙ e ∙ eb ∙ sym (tag_at right at))))

  pub tags_differ : {a b : ℕ} → a ≡ min (get_or left at 0) 4 → b ≡ min (get_or right at 0) 4 → ¬ (a ≡ b) → false ≡ equal_cell v w
  tags_differ ea eb h = ap (λ c. c && equal (pair v w)) (sym (ne_eqb (tag v) (tag w) (λ e. h (ea ∙ sym (tag_at left at) ∙ e ∙ tag_at right at ∙ sym eb))))

module _ (left right : List ℕ) where
  -- k cells from index i on
  abbrev pub equal_from : ℕ → ℕ → Bool
  equal_from k i = equal_cells (values_of k (drop (9 * i) left)) (values_of k (drop (9 * i) right))

  abbrev pub equal_at : ℕ → Bool
  equal_at i = equal_cell (value_of (take 9 (drop (9 * i) left))) (value_of (take 9 (drop (9 * i) right)))

  and_assoc : (a b c : Bool) → a && (b && c) ≡ a && b && c
  and_assoc true b c = refl
  and_assoc false b c = refl

  equal_step : (k i : ℕ) → equal_from (suc k) i ≡ equal_at i && equal_from k (i + 1)
  equal_step k i =
      let a : 9 * i + 9 ≡ 9 * (i + 1) = omega arith in
      let v = value_of (take 9 (drop (9 * i) left)) in
      let w = value_of (take 9 (drop (9 * i) right)) in
      (λ j. eqb (tag v) (tag w) && (equal (pair v w) && equal_cells (values_of k ((drop-drop 9 (9 * i) left ∙ ap (λ m. drop m left) a) j)) (values_of k ((drop-drop 9 (9 * i) right ∙ ap (λ m. drop m right) a) j))))
      ∙ and_assoc (eqb (tag v) (tag w)) (equal (pair v w)) (equal_from k (i + 1))

  pub equal_start : (n : ℕ) → equal_cells (values_of n left) (values_of n right) ≡ equal_from (n - 0) 0
  equal_start n = let a : n ≡ n - 0 = omega arith in ap (λ k. equal_cells (values_of k left) (values_of k right)) a

  -- one cell more was compared
  module _ (n i : ℕ) (l : i < n) {b : Bool} (h : b ≡ equal_from (n - i) i) where
    pub turn_equal : true ≡ equal_at i → b ≡ equal_from (n - (i + 1)) (i + 1)
    turn_equal e =
        let a : n - i ≡ suc (n - (i + 1)) = omega arith in
        h ∙ ap (λ k. equal_from k i) a ∙ equal_step (n - (i + 1)) i ∙ ap (λ c. c && equal_from (n - (i + 1)) (i + 1)) (sym e)

    pub turn_unequal : false ≡ equal_at i → false ≡ b
    turn_unequal e =
        let a : n - i ≡ suc (n - (i + 1)) = omega arith in
        sym (h ∙ ap (λ k. equal_from k i) a ∙ equal_step (n - (i + 1)) i ∙ ap (λ c. c && equal_from (n - (i + 1)) (i + 1)) (sym e))

  pub turn_done : (n i : ℕ) {b : Bool} → n ≤ i → b ≡ equal_from (n - i) i → true ≡ b
  turn_done n i l h = let a : n - i ≡ 0 = omega arith in sym (h ∙ ap (λ k. equal_from k i) a)

  -- arrays of two lengths differ
  pub lengths_differ : (n m : ℕ) → ¬ (n ≡ m) → false ≡ equal_cells (values_of n left) (values_of m right)
  lengths_differ n m h = go (values_of n left) (values_of m right) (λ e. h (sym (length_values n left) ∙ e ∙ length_values m right))
    where
      go : (vs ws : List Value) → ¬ (length vs ≡ length ws) → false ≡ equal_cells vs ws
      go [] [] k = absurd (k refl)
      go [] (w ∷ ws) k = refl
      go (v ∷ vs) [] k = refl
      go (v ∷ vs) (w ∷ ws) k = none (eqb (tag v) (tag w)) (equal (pair v w)) (equal_cells vs ws) (go vs ws (λ e. k (ap suc e)))
        where
          none : (a b c : Bool) → false ≡ c → false ≡ a && (b && c)
          none true true c e = e
          none true false c e = refl
          none false b c e = refl

-- ---- elements put together

-- element j of array i of c
pub inside_arrays : (n c i j : ℕ) → i < c → j < n → 9 * (n * i + j) + 9 ≤ 9 * n * c
inside_arrays n c i j h l =
    let a : i + 1 ≤ c = omega arith in
    let w : n * (i + 1) ≤ n * c = mul-le-mul_left n a in
    omega (arith, w, mul-add n i 1, mul_assoc 9 n c)

group_element : (n c i j : ℕ) (s : List ℕ) → i < c → j < n → get_or (elements_at j (groups n c s)) i no_value_of ≡ value_of (take 9 (drop (9 * (n * i + j)) s))
group_element n zero i j s h l = absurd (omega arith)
group_element n (suc c) zero j s h l = get_cell n j s l ∙ ap (λ m. value_of (take 9 (drop (9 * m) s))) (let z : j ≡ n * 0 + j = omega arith in z)
group_element n (suc c) (suc i) j s h l =
    let z : 9 * n + 9 * (n * i + j) ≡ 9 * (n * suc i + j) = omega (arith, mul-add n i 1, ap (λ k. n * k) (let e : suc i ≡ i + 1 = omega arith in e)) in
    group_element n c i j (drop (9 * n) s) (omega arith) l ∙ ap (λ x. value_of (take 9 x)) (drop-drop (9 * (n * i + j)) (9 * n) s ∙ ap (λ m. drop m s) z)

elements_long : (n c j : ℕ) (s : List ℕ) → length (elements_at j (groups n c s)) ≡ c
elements_long n zero j s = refl
elements_long n (suc c) j s = ap suc (elements_long n c j (drop (9 * n) s))

-- the first i of them were put
pub record GatheredTo (tab rows : List ℕ) (k n c j : ℕ) (arrays : List ℕ) (i : ℕ) (old new : List ℕ) : Type 0 where
  pub long : length new ≡ length old
  pub values : (node : Node) → Typed tab rows k node → c ≤ length (variables node) → values_of i new ≡ fit_all (map element_type (take c (variables node))) (take i (elements_at j (groups n c arrays)))

nothing_fitted : (ts : List Ty) → fit_all ts [] ≡ []
unfolding fit_all
nothing_fitted [] = refl
nothing_fitted (t ∷ ts) = refl

pub gathered_none : (tab rows : List ℕ) (k n c j : ℕ) (arrays old : List ℕ) → GatheredTo tab rows k n c j arrays 0 old old
gathered_none tab rows k n c j arrays old = record { long = refl; values = λ node t l. sym (nothing_fitted (map element_type (take c (variables node)))) }

-- the type of variable i
type_get : (vs : List Variable) (c i : ℕ) → i < c → c ≤ length vs → get_or (map element_type (take c vs)) i bool ≡ element_of (var_ty_at vs i)
type_get [] c i h l = absurd (omega arith)
type_get (v ∷ vs) zero i h l = absurd (omega arith)
type_get (v ∷ vs) (suc c) zero h l = refl
type_get (v ∷ vs) (suc c) (suc i) h l = type_get vs c i (omega arith) (omega arith)

types_long : (vs : List Variable) (c : ℕ) → c ≤ length vs → length (map element_type (take c vs)) ≡ c
types_long vs zero l = none vs
  where
    none : (vs : List Variable) → length (map element_type (take 0 vs)) ≡ 0
    none [] = refl
    none (v ∷ vs) = refl
types_long [] (suc c) l = absurd (omega arith)
types_long (v ∷ vs) (suc c) l = ap suc (types_long vs c (omega arith))

module _ {tab rows : List ℕ} {k n c j : ℕ} {arrays : List ℕ} {i : ℕ} {old mid : List ℕ} (g : GatheredTo tab rows k n c j arrays i old mid) where
  pub gathered_turn : (new : List ℕ) (v u : Value) → i < c → j < n → 9 * c ≤ length old → v ≡ value_of (take 9 (drop (9 * (n * i + j)) arrays)) → PassedOn tab (Some k) i v u → value_of (cell u) ≡ u → new ≡ take (9 * i) mid ++ (cell u ++ drop (9 * i + 9) mid) → GatheredTo tab rows k n c j arrays (i + 1) old new
  gathered_turn new v u h l room iv f b w =
      let A = take (9 * i) mid in
      let C = drop (9 * i + 9) mid in
      let la : length A ≡ 9 * i = length-take-le (9 * i) mid (omega (arith, g.long)) in
      let p : suc i ≡ i + 1 = omega arith in
      let E = elements_at j (groups n c arrays) in
      record {
        long = ap length w ∙ length-append A (cell u ++ C) ∙ omega (arith, la, length-append (cell u) C, length_cell u, length-drop (9 * i + 9) mid, g.long);
        values = λ node t m.
            let ts = map element_type (take c (variables node)) in
            let lE : length (take i E) ≡ i = length-take-le i E (omega (arith, elements_long n c j arrays)) in
            let is : v ≡ get_or E i no_value_of = iv ∙ sym (group_element n c i j arrays h l) in
            let fitted : u ≡ fit (get_or ts (length (take i E)) bool) (get_or E i no_value_of) =
            passed_as i v u t (omega arith) f ∙ (λ a. fit ((sym (type_get (variables node) c i h m) ∙ ap (λ x. get_or ts x bool) (sym lE)) a) (is a)) in
            ap (values_of (i + 1)) w ∙ values_next i mid u (omega (arith, g.long)) b
            ∙ (λ a. g.values node t m a ++ fitted a ∷ []) ∙ sym (fit_snoc ts (take i E) (get_or E i no_value_of) (omega (arith, lE, types_long (variables node) c m)))
            ∙ ap (fit_all ts) (sym (take-suc E i no_value_of (omega (arith, elements_long n c j arrays))) ∙ ap (λ x. take x E) p);
      }

  pub gathered_all : c ≤ i → i ≤ c → Gathers tab rows k n c j arrays mid
  gathered_all l h node t m =
      let e : c ≡ i = omega arith in
      ap (λ x. values_of x mid) e ∙ g.values node t m ∙ ap (fit_all (map element_type (take c (variables node)))) (take_all i (elements_at j (groups n c arrays)) (omega (arith, elements_long n c j arrays)))
