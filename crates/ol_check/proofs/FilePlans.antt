-- The plans of a whole file: the types of the variables and of the constants stand there, before and after the walks.
use Prim.Native.Nat.{ℕ, ◌+◌, ◌*◌, ◌≤◌, ◌<◌}
use mathlib.Core.Bool.{Bool, true, false, cond}
use mathlib.Core.List.{List}
use mathlib.Core.Path.{◌≡◌, sym, ap, subst, ◌∙◌}
use native.Mathlib.Omega.{arith}
use lib.ListN.{length, get_or}
use Rattle.ol_spec.specs.Lists.{member}
use Rattle.ol_spec.specs.Syntax.{Constant}
use Rattle.ol_spec.specs.Places.{constants_start, constant_size}
use Rattle.ol_spec.specs.Admission.{variants}
use Rattle.ol_tables.specs.At.{file_at}
use Rattle.ol_tables.specs.Tables.{Told, constant_of}
use Rattle.ol_tables.specs.Stands.{FileReads, FileStands}
use Rattle.ol_check.specs.RowsDone.{no_constant}
use Rattle.ol_check.specs.Judging.{Undeclared}
use Rattle.ol_check.specs.NodesJudged.{place_in, PlansTyped, PlansReady, TypesLeft, ConstantsLeft}
use Rattle.ol_check.specs.ConstantsJudged.{ConstantsTyped, ConstantRoom}
use Rattle.ol_check.specs.FileJudged.{NamesWithin, variant_table}
use Rattle.ol_check.proofs.NodeLaws.{placed_get}
use Rattle.ol_check.proofs.PlanLaws.{node_inside, constants_apart}
use Rattle.ol_check.proofs.RowLoops.{type_same}
use Rattle.ol_check.proofs.SlotEntries.{variant_told}

module _ {s : List ℕ} (st : FileStands s (file_at s)) {p : ℕ} (ep : p ≡ constants_start (file_at s)) {plans : List ℕ} (typed : PlansTyped s plans) where
  constants_inside : p + 2 * length (file_at s).constants ≤ length s
  constants_inside = omega (arith, ep, constants_apart st 0 st.some_node, node_inside st 0 st.some_node)

  pub constants_room : {arrays : Bool} → FileReads s → (names : List ℕ) {names₁ : List ℕ} → ((x : ℕ) → get_or names x 0 ≡ 0) → NamesWithin (length names) (file_at s) → names₁ ≡ variant_table names (file_at s) → Undeclared arrays (file_at s) → ConstantRoom s names₁ p arrays plans
  constants_room reads names {names₁} empty within en none =
      record {
        reads = reads;
        near = omega (arith, constants_inside, st.short);
        room = omega (arith, constants_inside, typed.room);
        unentered = λ x h. go (member x (variants (file_at s))) (ap (λ l. get_or l x 0) en ∙ variant_told names (file_at s) empty within x) h;
        scalars = none;
      }
    where
      go : (b : Bool) {e : ℕ} → e ≡ cond b 255 0 → 1 ≤ e → 255 ≤ e
      go true q h = omega arith
      go false q h = absurd (omega arith)

  module _ {plans₁ : List ℕ} (w : ConstantsTyped p (file_at s).constants plans plans₁) where
    -- the types of the variables stand behind those of the constants
    pub types_kept : TypesLeft (file_at s) plans plans₁
    types_kept = record { left = λ k lt x a b. w.behind x (omega (arith, ep, constants_apart st k lt)) }

    pub plans_ready : {arrays : Bool} → Undeclared arrays (file_at s) → PlansReady s p arrays plans₁
    plans_ready none =
        record {
          typed = record { room = omega (arith, typed.room, w.long); lengths = λ k lt i low. types_kept.left k lt (place_in (file_at s) k + 2 * i + 1) (omega arith) (omega arith) ∙ typed.lengths k lt i low };
          place = ep;
          lengths = λ i lt. ap (λ q. get_or plans₁ (q + 2 * i + 1) 0) (sym ep) ∙ (w.told i lt).length;
          scalars = none;
        }

    -- and those of the constants are left by the walk over the nodes
    pub constants_told : {plans₂ : List ℕ} → ConstantsLeft (file_at s) plans₁ plans₂ → (i : ℕ) → i < length (file_at s).constants → Told plans₂ (constants_start (file_at s) + 2 * i) (constant_of (file_at s) i).1.ty
    constants_told {plans₂} left i lt =
        let one : (constant_of (file_at s) i).1 ≡ get_or (file_at s).constants i no_constant = ap (λ (q : ℕ × Constant). q.1) (placed_get constant_size no_constant (file_at s).constants (constants_start (file_at s)) i lt) in
        rw one
        (type_same (constants_start (file_at s) + 2 * i) (left.left _ (omega arith) (omega arith)) (left.left _ (omega arith) (omega arith))
        (subst (λ q. Told plans₁ (q + 2 * i) (get_or (file_at s).constants i no_constant).ty) ep (w.told i lt)))

    -- nor does it change those of the variables
    pub types_through : {plans₂ : List ℕ} → TypesLeft (file_at s) plans₁ plans₂ → TypesLeft (file_at s) plans plans₂
    types_through on = record { left = λ k lt x a b. on.left k lt x a b ∙ types_kept.left k lt x a b }
