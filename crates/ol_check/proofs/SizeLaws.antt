-- Fault 14, and the length of a call site's record.
use Prim.Native.Nat.{ℕ, zero, suc, ◌+◌, ◌-◌, ◌*◌, ◌≤◌, min}
use mathlib.Core.Bool.{true, false, not}
use mathlib.Core.List.{List, [], ◌∷◌, map}
use mathlib.Core.Option.{none, some}
use mathlib.Core.Path.{◌≡◌, refl, sym, ap, ◌∙◌}
use native.Mathlib.Omega.{arith}
use lib.ListN.{length, get_or}
use Rattle.ol_spec.specs.Syntax.{NodeKind, Function, Operator, Imported, Node, no_node, last_of, main}
use Rattle.ol_spec.specs.Places.{placed_nodes, node_size, nodes_start, main_place}
use Rattle.ol_spec.specs.Encode.{kind_code}
use Rattle.ol_spec.specs.Step.{instance_size, sizes_at}
use Rattle.ol_spec.specs.Admission.{is_operator, at_main, fault14, state_size}
use Rattle.ol_spec.proofs.Admitted.{length_placed}
use Rattle.ol_tables.specs.At.{file_at}
use Rattle.ol_tables.specs.Tables.{row_at, node_of}
use Rattle.ol_check.specs.NodesJudged.{place_in, RowsReady}
use Rattle.ol_check.specs.Sizes.{StateSized}

-- ---- the last node

last_node : (ns : List Node) (k : ℕ) → length ns ≡ suc k → last_of ns ≡ get_or ns k no_node
last_node [] k e = absurd (omega arith)
last_node (n ∷ []) zero e = refl
last_node (n ∷ []) (suc k) e = absurd (omega arith)
last_node (n ∷ m ∷ ns) zero e = absurd (omega arith)
last_node (n ∷ m ∷ ns) (suc k) e = last_node (m ∷ ns) k (omega arith)

last_place : (ps : List (ℕ × Node)) (k : ℕ) → length ps ≡ suc k → main_place ps ≡ get_or (map (λ p. p.0) ps) k 0
last_place [] k e = absurd (omega arith)
last_place (p ∷ []) zero e = refl
last_place (p ∷ []) (suc k) e = absurd (omega arith)
last_place (p ∷ q ∷ ps) zero e = absurd (omega arith)
last_place (p ∷ q ∷ ps) (suc k) e = last_place (q ∷ ps) k (omega arith)

operator_is : (a : NodeKind) → kind_code a ≡ 1 → is_operator a ≡ true
operator_is Function e = absurd (omega arith)
operator_is Operator e = refl
operator_is Imported e = absurd (omega arith)

operator_not : (a : NodeKind) → (kind_code a ≡ 1 → ⊥) → is_operator a ≡ false
operator_not Function e = refl
operator_not Operator e = absurd (e refl)
operator_not Imported e = refl

module _ {s rows : List ℕ} {nodes : ℕ} (rd : RowsReady s rows nodes) (some_node_lem : 1 ≤ nodes) where
  pub the_main : main (file_at s) ≡ node_of (file_at s) (nodes - 1)
  the_main = last_node (file_at s).nodes (nodes - 1) (omega (arith, rd.many))

  pub the_place : main_place (placed_nodes (file_at s)) ≡ place_in (file_at s) (nodes - 1)
  the_place = last_place (placed_nodes (file_at s)) (nodes - 1) (omega (arith, rd.many, length_placed node_size (nodes_start (file_at s)) (file_at s).nodes))

  kind_told : (x : ℕ) → x ≡ row_at rows (nodes - 1) 0 → x ≡ kind_code (main (file_at s)).kind
  kind_told x e = e ∙ (rd.row (nodes - 1) (omega (arith, rd.many))).kind ∙ ap (λ n. kind_code n.kind) (sym the_main)

  pub main_operator : (x : ℕ) → x ≡ row_at rows (nodes - 1) 0 → x ≡ 1 → none ≡ fault14 (file_at s)
  main_operator x e one = ap (λ b. at_main (file_at s) (not b)) (sym (operator_is (main (file_at s)).kind (sym (kind_told x e) ∙ one)))

  pub main_other : (x p : ℕ) → x ≡ row_at rows (nodes - 1) 0 → (x ≡ 1 → ⊥) → p ≡ row_at rows (nodes - 1) 7 → some p ≡ fault14 (file_at s)
  main_other x p e other ep =
      ap some (ep ∙ (rd.row (nodes - 1) (omega (arith, rd.many))).place ∙ sym the_place)
      ∙ ap (λ b. at_main (file_at s) (not b)) (sym (operator_not (main (file_at s)).kind (λ q. other (kind_told x e ∙ q))))

-- ---- the state

cap_right : (a i c : ℕ) → min (a + min i c) c ≡ min (a + i) c
cap_right a i c = omega arith

pub state_sized : (cells m r : ℕ) → r ≡ min (9 * cells + m) 65536 → StateSized cells m r
unfolding state_size
state_sized cells m r er =
    record {
      is = er;
      sized = λ f ec em.
          let size = instance_size (sizes_at (length f.nodes) f.nodes) (main f) in
          er ∙ ap (λ n. min (9 * cells + n) 65536) em ∙ cap_right (9 * cells) size 65536 ∙ ap (λ n. min (9 * n + size) 65536) ec;
    }
