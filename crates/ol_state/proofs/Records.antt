-- Records judged: a record's own bytes, then the records of its call sites, one after the other.
use Prim.Native.Nat.{ℕ, ◌+◌, ◌-◌, ◌*◌, ◌<◌, ◌≤◌}
use mathlib.Core.Bool.{Bool, true, false, ◌&&◌}
use mathlib.Core.List.Memᴰ.{head as here}
use mathlib.Core.List.Memᴰ.{tail as there}
use mathlib.Core.List.{List, [], ◌∷◌}
use mathlib.Core.Path.{◌≡◌, refl, sym, ap, ◌∙◌}
use native.Mathlib.Omega.{arith}
use lib.ListN.{length, take, drop}
use lib.Seq.{drop-drop}
use Rattle.ol_theory.specs.Member.{◌∈◌}
use Rattle.ol_spec.specs.Syntax.{NodeKind, Function, Operator, Imported, File}
use Rattle.ol_spec.specs.Eval.{sites_size}
use Rattle.ol_spec.specs.Step.{sites}
use Rattle.ol_spec.specs.State.{globals_of, good_own, good_sites, good_by, good_at}
use Rattle.ol_spec.specs.Admission.{variants}
use Rattle.ol_spec.specs.declared.Value.{Value}
use Rattle.ol_spec.proofs.Segments.{sites_cons}
use Rattle.ol_spec.proofs.Calls.{good_site}
use Rattle.ol_tables.specs.Tables.{row_at, node_of, site_bytes}
use Rattle.ol_state.specs.Known.{Known, Sited}
use Rattle.ol_state.specs.Ahead.{ahead}
use Rattle.ol_state.specs.Defaults.{own_count, own_cells}
use Rattle.ol_state.proofs.Instances.{Rest, Turn, sizes_of, sites_start, rest_start, next_turn, default_cells_lem, own_room, is_operator_lem, no_operator, own_count_lem}
use Rattle.ol_state.specs.Own.{good_bytes}
use Rattle.ol_state.proofs.Judged.{and_pass, and_stop}

-- the record of a call site of node k is good
abbrev pub good_of : File → List Value → ℕ → List ℕ → Bool
good_of f vs k r = good_at (globals_of f vs) (length f.nodes) k r

-- and those of these call sites
abbrev pub good_all : File → List Value → List ℕ → List ℕ → Bool
good_all f vs ks s = good_sites (globals_of f vs) (good_of f vs) ks s

-- Node k's record r is good exactly if the records from `used` on are, those of the call sites that are left, of these nodes.
pub record Judging (f : File) (k : ℕ) (r : List ℕ) (used : ℕ) (cs : List ℕ) : Type 0 where
  pub rest : Rest f k (length r) used cs
  pub left : (vs : List Value) → good_of f vs k r ≡ good_all f vs cs (drop used r)

-- a record's own bytes are good, by the tables
abbrev pub bytes_good : File → List ℕ → List ℕ → ℕ → List ℕ → Bool
bytes_good f tab rows k r = good_bytes (variants f) (own_cells tab rows k) (own_count tab rows k) r

module _ {f : File} {s tab rows : List ℕ} (known : Known f s tab rows) (vs : List Value) where
  -- no Operator: every record is good
  other_good : (k : ℕ) (r : List ℕ) → k < length f.nodes → ((node_of f k).kind ≡ Operator → ⊥) → good_of f vs k r ≡ true
  other_good k r below other = good_site f vs known.lower k r below ∙ go (node_of f k).kind other
    where
      go : (t : NodeKind) → (t ≡ Operator → ⊥) → good_by (globals_of f vs) t (good_of f vs) (node_of f k) r ≡ true
      go Function q = refl
      go Operator q = absurd (q refl)
      go Imported q = refl

  -- a call site without bytes is of no Operator
  no_bytes : (k : ℕ) (r : List ℕ) → k < length f.nodes → site_bytes f k ≡ 0 → good_of f vs k r ≡ true
  no_bytes k r below z = other_good k r below (λ o. let e = own_room known below o in omega arith)

  -- call sites without bytes have no record that could be bad
  none_left : (cs r : List ℕ) → ((c : ℕ) → c ∈ cs → c < length f.nodes) → sites_size (sizes_of f) cs ≡ 0 → good_all f vs cs r ≡ true
  unfolding good_sites
  none_left [] r below z = refl
  none_left (c ∷ cs) r below z =
      let e : site_bytes f c + sites_size (sizes_of f) cs ≡ 0 = sym (sites_cons (sizes_of f) c cs) ∙ z in
      and_pass (no_bytes c (take (site_bytes f c) r) (below c (here refl)) (omega arith))
      ∙ none_left cs (drop (site_bytes f c) r) (λ d m. below d (there m)) (omega arith)

module _ {f : File} {s tab rows : List ℕ} {k : ℕ} {r : List ℕ} (h : Sited f s tab rows k r) where
  -- no Operator: there is no record
  pub none_judged : (row_at rows k 0 ≡ 1 → ⊥) → (vs : List Value) → true ≡ good_of f vs k r
  none_judged other vs = sym (other_good h.known vs k r h.below (no_operator h.known h.below other))

  -- all bytes are used
  pub judging_full : {used : ℕ} {cs : List ℕ} → Judging f k r used cs → length r ≤ used → (vs : List Value) → true ≡ good_of f vs k r
  judging_full {used} {cs} j full vs =
      sym (j.left vs
      ∙ none_left h.known vs cs (drop used r) (λ c m. omega (arith, j.rest.lower c m, h.below)) (omega (arith, j.rest.room, full)))

  -- an Operator's: its own bytes, and the records of its call sites
  operator_good : row_at rows k 0 ≡ 1 → (vs : List Value) → good_of f vs k r ≡ bytes_good f tab rows k r && good_all f vs (sites (node_of f k)) (drop (1 + 9 * own_count tab rows k) r)
  unfolding good_own
  operator_good one vs =
      let o = is_operator_lem h.known h.below one in
      let n = node_of f k in
      let v = own_count_lem h.known h.below in
      good_site f vs h.known.lower k r h.below
      ∙ ap (λ t. good_by (globals_of f vs) t (good_of f vs) n r) o
      ∙ (λ i. good_bytes (variants f) (sym (default_cells_lem h.known h.below) i) (sym v i) r && good_all f vs (sites n) (drop (1 + 9 * sym v i) r))

  pub own_bad : row_at rows k 0 ≡ 1 → false ≡ bytes_good f tab rows k r → (vs : List Value) → false ≡ good_of f vs k r
  own_bad one b vs = sym (operator_good one vs ∙ and_stop _ (sym b))

  pub judging_start : {n : ℕ} {cs : List ℕ} → row_at rows k 0 ≡ 1 → true ≡ bytes_good f tab rows k r → n ≡ own_count tab rows k → cs ≡ ahead s (row_at rows k 1) (row_at rows k 5) 0 → Judging f k r (1 + 9 * n) cs
  judging_start {n} {cs} one b e₁ e₂ =
      let l : sites (node_of f k) ≡ cs = sites_start h.known h.below ∙ sym e₂ in
      rw e₁
      (record {
        rest = rest_start h.known h.below (is_operator_lem h.known h.below one) h.sized e₂;
        left = λ vs. operator_good one vs ∙ and_pass (sym b) ∙ ap (λ ks. good_all f vs ks (drop (1 + 9 * own_count tab rows k) r)) l;
      })

module _ {f : File} {s tab rows : List ℕ} {k : ℕ} {r : List ℕ} (h : Sited f s tab rows k r) {used : ℕ} {all : List ℕ} (judging : Judging f k r used all) where
  module _ {c : ℕ} {cs : List ℕ} (is : all ≡ c ∷ cs) where
    -- the record of the next call site
    pub turn_of : Turn f rows k (length r) used c cs
    turn_of = next_turn h.known h.below judging.rest h.small is

    module _ {z : ℕ} (size : z ≡ row_at rows c 6) where
      -- the first of the records that are left, and the others
      next_good : (vs : List Value) → good_of f vs k r ≡ good_of f vs c (take (used + z - used) (drop used r)) && good_all f vs cs (drop (used + z) r)
      unfolding good_sites
      next_good vs =
          let t = turn_of in
          let m : site_bytes f c ≡ used + z - used = omega (arith, size, t.size) in
          let q : site_bytes f c ≡ z = sym (size ∙ t.size) in
          judging.left vs
          ∙ ap (λ ks. good_all f vs ks (drop used r)) is
          ∙ (λ i. good_of f vs c (take (m i) (drop used r)) && good_all f vs cs (drop (q i) (drop used r)))
          ∙ ap (λ l. good_of f vs c (take (used + z - used) (drop used r)) && good_all f vs cs l) (drop-drop z used r)

      -- it is good, or bad
      pub judging_on : ((vs : List Value) → true ≡ good_of f vs c (take (used + z - used) (drop used r))) → Judging f k r (used + z) cs
      judging_on good =
          let t = turn_of in
          record {
            rest = record { lower = t.next.lower; room = omega (arith, t.next.room, size) };
            left = λ vs. next_good vs ∙ and_pass (sym (good vs));
          }

      pub judging_stop : ((vs : List Value) → false ≡ good_of f vs c (take (used + z - used) (drop used r))) → (vs : List Value) → false ≡ good_of f vs k r
      judging_stop bad vs = sym (next_good vs ∙ and_stop _ (sym (bad vs)))

  -- all are good
  pub judging_done : all ≡ [] → (vs : List Value) → true ≡ good_of f vs k r
  unfolding good_sites
  judging_done none vs = sym (judging.left vs ∙ ap (λ ks. good_all f vs ks (drop used r)) none)
