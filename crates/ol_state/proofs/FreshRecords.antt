-- Fresh records: as deep as there are nodes suffices, and a record is written from the front on.
use Prim.Native.Nat.{ℕ, zero, suc, ◌+◌, ◌-◌, ◌*◌, ◌<◌, ◌≤◌}
use mathlib.Core.List.Memᴰ.{head as here}
use mathlib.Core.List.Memᴰ.{tail as there}
use mathlib.Core.List.{List, [], ◌∷◌, ◌++◌, map}
use mathlib.Core.Path.{◌≡◌, refl, sym, ap, ap₂, ◌∙◌}
use native.Mathlib.Omega.{arith}
use lib.ListN.{length, take, drop, drop_of_length-le}
use Rattle.ol_theory.specs.Member.{◌∈◌}
use Rattle.ol_spec.specs.Lists.{concat}
use Rattle.ol_spec.specs.Syntax.{NodeKind, Function, Operator, Imported, Node, File, variables, cell_types, main}
use Rattle.ol_spec.specs.Cell.{cells}
use Rattle.ol_spec.specs.Types.{defaults}
use Rattle.ol_spec.specs.Eval.{Globals, node_at}
use Rattle.ol_spec.specs.Step.{sites, fresh_instance, fresh_by, fresh_at, fresh_record}
use Rattle.ol_spec.specs.State.{globals_of, fresh_state}
use Rattle.ol_spec.specs.declared.Value.{Value}
use Rattle.ol_tables.specs.Tables.{row_at, node_of, size_cap}
use Rattle.ol_state.specs.Known.{Known, Sited}
use Rattle.ol_state.specs.Defaults.{own_count, own_cells}
use Rattle.ol_state.proofs.DefaultCells.{length_cells_at}
use Rattle.ol_state.proofs.Filling.{Filling, put_part, fill_none, fill_at, fill_left, fill_more, fill_part, fill_done}
use Rattle.ol_state.specs.Ahead.{ahead}
use Rattle.ol_state.proofs.Instances.{Rest, Turn, sites_start, rest_start, next_turn, default_cells_lem, own_room, is_operator_lem, no_operator, no_size_lem, all_used, part_long, main_is}

map_same : (p p' : ℕ → List ℕ) (ks : List ℕ) → ((c : ℕ) → c ∈ ks → p c ≡ p' c) → concat (map p ks) ≡ concat (map p' ks)
map_same p p' [] h = refl
map_same p p' (k ∷ ks) h = ap₂ {C = List ℕ} (λ a b. a ++ b) (h k (here refl)) (map_same p p' ks (λ c m. h c (there m)))

module _ (f : File) (vs : List Value) (lower : (k c : ℕ) → c ∈ sites (node_of f k) → c < k) where
  abbrev g : Globals
  g = globals_of f vs

  fresh_by_same : (t : NodeKind) (p p' : ℕ → List ℕ) (n : Node) → ((c : ℕ) → c ∈ sites n → p c ≡ p' c) → fresh_by g t p n ≡ fresh_by g t p' n
  fresh_by_same Function p p' n h = refl
  fresh_by_same Operator p p' n h = ap (λ l. 0 ∷ cells (defaults f.enums (cell_types (variables n))) ++ l) (map_same p p' (sites n) h)
  fresh_by_same Imported p p' n h = refl

  fresh_stable : (d d' k : ℕ) → k < d → k < d' → fresh_at g d k ≡ fresh_at g d' k
  unfolding fresh_at
  fresh_stable zero d' k h h' = absurd (omega arith)
  fresh_stable (suc d) zero k h h' = absurd (omega arith)
  fresh_stable (suc d) (suc d') k h h' =
      fresh_by_same (node_at g k).kind (fresh_at g d) (fresh_at g d') (node_at g k) (λ c m. fresh_stable d d' c (omega (arith, lower k c m)) (omega (arith, lower k c m)))

  -- a call site's fresh record, by those of its own call sites
  pub fresh_of_lem : (k : ℕ) → k < length f.nodes → fresh_at g (length f.nodes) k ≡ fresh_by g (node_of f k).kind (fresh_at g (length f.nodes)) (node_of f k)
  unfolding fresh_at
  fresh_of_lem k h = fresh_stable (length f.nodes) (suc (length f.nodes)) k h (omega arith)

  -- an Operator's is that of its instance
  pub fresh_record_lem : (k : ℕ) → k < length f.nodes → (node_of f k).kind ≡ Operator → fresh_at g (length f.nodes) k ≡ fresh_instance g (fresh_at g (length f.nodes)) (node_of f k)
  fresh_record_lem k h o = fresh_of_lem k h ∙ ap (λ t. fresh_by g t (fresh_at g (length f.nodes)) (node_of f k)) o

-- the fresh records of these call sites
abbrev pub fresh_of : File → List Value → ℕ → List ℕ
fresh_of f vs k = fresh_at (globals_of f vs) (length f.nodes) k

abbrev pub fresh_all : File → List Value → List ℕ → List ℕ
fresh_all f vs ks = concat (map (fresh_of f vs) ks)

length_empty : (l : List ℕ) → length l ≡ 0 → l ≡ []
length_empty [] e = refl
length_empty (x ∷ l) e = absurd (omega arith)

module _ {f : File} {s tab rows : List ℕ} {k : ℕ} {out₀ : List ℕ} (h : Sited f s tab rows k out₀) where
  -- no Operator: there is no record
  pub none_written : (row_at rows k 0 ≡ 1 → ⊥) → (vs : List Value) → out₀ ≡ fresh_of f vs k
  none_written other vs =
      let no_one = no_operator h.known h.below other in
      length_empty out₀ (h.sized ∙ no_size_lem h.known h.below no_one) ∙ sym (fresh_of_lem f vs h.known.lower k h.below ∙ go (node_of f k).kind no_one)
    where
      go : (t : NodeKind) → (t ≡ Operator → ⊥) → fresh_by (globals_of f vs) t (fresh_at (globals_of f vs) (length f.nodes)) (node_of f k) ≡ []
      go Function q = refl
      go Operator q = absurd (q refl)
      go Imported q = refl

  -- the started byte and the cells are written
  pub own_fresh : {out : List ℕ} → row_at rows k 0 ≡ 1 → 1 + 9 * own_count tab rows k ≤ length out₀ → out ≡ 0 ∷ own_cells tab rows k ++ drop (1 + 9 * own_count tab rows k) out₀ → (vs : List Value) → Filling (fresh_of f vs k) out₀ (1 + 9 * own_count tab rows k) out (fresh_all f vs (sites (node_of f k)))
  own_fresh {out} o room e vs =
      let n = 9 * own_count tab rows k in
      let c = own_cells tab rows k in
      let z : 0 + (1 + n) ≡ 1 + n = omega arith in
      let w : fresh_of f vs k ≡ 0 ∷ c ++ fresh_all f vs (sites (node_of f k)) =
      fresh_record_lem f vs h.known.lower k h.below (is_operator_lem h.known h.below o) ∙ ap (λ l. 0 ∷ l ++ fresh_all f vs (sites (node_of f k))) (sym (default_cells_lem h.known h.below)) in
      fill_at z (fill_more (0 ∷ c) _ (1 + n) (omega (arith, length_cells_at tab rows k 0 (row_at rows k 4))) (omega arith) out e (fill_left w fill_none))

-- Of node k's record, which is all of `base`, the part up to `used` is written; call sites of these nodes are left.
pub record Going (f : File) (k : ℕ) (base : List ℕ) (used : ℕ) (out cs : List ℕ) : Type 0 where
  pub rest : Rest f k (length base) used cs
  pub small : length base ≤ size_cap
  pub filled : (vs : List Value) → Filling (fresh_of f vs k) base used out (fresh_all f vs cs)

pub going_start : {f : File} {s tab rows : List ℕ} {k : ℕ} {out₀ : List ℕ} (h : Sited f s tab rows k out₀) {out cs : List ℕ} {n : ℕ} → row_at rows k 0 ≡ 1 → n ≡ own_count tab rows k → cs ≡ ahead s (row_at rows k 1) (row_at rows k 5) 0 → out ≡ 0 ∷ own_cells tab rows k ++ drop (1 + 9 * own_count tab rows k) out₀ → Going f k out (1 + 9 * n) out cs
going_start {f} {s} {tab} {rows} {k} {out₀} h {out} {cs} one e₁ e₂ e =
    let o = is_operator_lem h.known h.below one in
    let room : 1 + 9 * own_count tab rows k ≤ length out₀ = omega (arith, own_room h.known h.below o, h.sized) in
    let w = own_fresh h one room e in
    let long = (w []).long in
    let l : sites (node_of f k) ≡ cs = sites_start h.known h.below ∙ sym e₂ in
    rw e₁
    (record {
      rest = rest_start h.known h.below o (long ∙ h.sized) e₂;
      small = omega (arith, long, h.small);
      filled = λ vs. record { is = (w vs).is ∙ ap (λ ks. take (1 + 9 * own_count tab rows k) out ++ fresh_all f vs ks) l; behind = refl; long = refl };
    })

module _ {f : File} {s tab rows : List ℕ} (known : Known f s tab rows) {k : ℕ} (below : k < length f.nodes) {base out all : List ℕ} {used : ℕ} (going : Going f k base used out all) where
  module _ {c : ℕ} {cs : List ℕ} (is : all ≡ c ∷ cs) where
    -- the record of the next call site
    pub turn_of : Turn f rows k (length base) used c cs
    turn_of = next_turn known below going.rest going.small is

    -- it is written
    pub going_on : {z : ℕ} → z ≡ row_at rows c 6 → (x : List ℕ) → length x ≡ length (take (used + z - used) (drop used out)) → ((vs : List Value) → x ≡ fresh_of f vs c) → Going f k base (used + z) (put_part used (used + z - used) out x) cs
    going_on {z} size x kept fresh =
        let t = turn_of in
        let a = row_at rows c 6 in
        let m : used + a - used ≡ a = omega arith in
        let q : used + row_at rows c 6 ≡ used + z = omega (arith, size) in
        rw (← q)
        (record {
          rest = t.next;
          small = going.small;
          filled = λ vs. fill_part (fresh_of f vs c) _ a (sym (ap length (fresh vs)) ∙ kept ∙ part_long known below t going.small size out (going.filled []).long ∙ size) t.room (used + a - used) m x (fresh vs) (fill_left (ap (fresh_all f vs) is) (going.filled vs));
        })

  -- all are written
  pub going_done : all ≡ [] → (vs : List Value) → out ≡ fresh_of f vs k
  going_done none vs =
      fill_done (going.filled vs) (ap (fresh_all f vs) none ∙ sym (drop_of_length-le base {i = used} (omega (arith, all_used going.rest none))))

-- the main node's fresh record is that of a call site of its number
pub fresh_main : (f : File) (vs : List Value) → ((k c : ℕ) → c ∈ sites (node_of f k) → c < k) → (k : ℕ) → k + 1 ≡ length f.nodes → (main f).kind ≡ Operator → fresh_state f vs ≡ cells vs ++ fresh_of f vs k
unfolding fresh_state
fresh_main f vs lower k last o =
    let m = main_is f k last in
    ap (λ r. cells vs ++ r)
    (ap (fresh_record (globals_of f vs)) m ∙ sym (fresh_record_lem f vs lower k (omega arith) (ap (λ (n : Node). n.kind) (sym m) ∙ o)))
