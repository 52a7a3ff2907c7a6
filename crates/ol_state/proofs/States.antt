-- A state judged: its length, the constants' cells, and the main record.
use Prim.Native.Nat.{ℕ, ◌+◌, ◌<◌}
use mathlib.Core.Bool.{Bool, true, false}
use mathlib.Core.List.{List}
use mathlib.Core.Path.{◌≡◌, sym, ap, ap₂, ◌∙◌}
use native.Mathlib.Omega.{arith}
use lib.ListN.{length, take, drop, length-drop}
use borrow.Author.Tests.{eq-eqb, ne_eqb}
use Rattle.ol_spec.specs.Lists.{same}
use Rattle.ol_spec.specs.Syntax.{Operator, File, Node, main}
use Rattle.ol_spec.specs.Cell.{cells}
use Rattle.ol_spec.specs.Step.{instance_size}
use Rattle.ol_spec.specs.State.{globals_of, good_by, good_record, good_state}
use Rattle.ol_spec.specs.Admission.{head_size, state_size}
use Rattle.ol_spec.specs.declared.Value.{Value}
use Rattle.ol_spec.proofs.Calls.{good_site}
use Rattle.ol_tables.specs.Tables.{row_at, node_of, site_bytes}
use Rattle.ol_state.specs.Known.{Sited}
use Rattle.ol_tables.proofs.Lending.{tail_of, tail_all}
use Rattle.ol_state.proofs.Instances.{sizes_of, main_is, operator_size, size_told, few_nodes_lem}
use Rattle.ol_state.specs.Ready.{Ready}
use Rattle.ol_state.proofs.Judged.{and_pass, and_stop}
use Rattle.ol_state.proofs.Records.{good_of}

module _ {f : File} {s tab rows table : List ℕ} {known : ℕ} {consts : List ℕ} (h : Ready f s tab rows table known consts) where
  module _ (k : ℕ) (last : k + 1 ≡ length f.nodes) where
    below : k < length f.nodes
    below = omega arith

    is_main : main f ≡ node_of f k
    is_main = main_is f k last

    operator : (node_of f k).kind ≡ Operator
    operator = ap (λ (n : Node). n.kind) (sym is_main) ∙ h.operator

    pub few : k < 32
    few = few_nodes_lem h.known below

    state_size_lem : state_size f ≡ length consts + site_bytes f k
    unfolding state_size
    state_size_lem = ap₂ ◌+◌ (sym h.head) (ap (instance_size (sizes_of f)) is_main ∙ sym (operator_size h.known below operator))

    pub main_size : length consts + row_at rows k 6 ≡ state_size f
    main_size = omega (arith, state_size_lem, h.small, size_told h.known below (omega (arith, state_size_lem, h.small)))

    main_bytes : row_at rows k 6 ≡ site_bytes f k
    main_bytes = size_told h.known below (omega (arith, state_size_lem, h.small))

    module _ (state : List ℕ) {z m : ℕ} (size : z ≡ row_at rows k 6) (front : m ≡ length consts) where
      pub main_sited : length state ≡ m + z → Sited f s tab rows k (tail_of m state)
      main_sited e =
          let n = ap length (tail_all m state) ∙ length-drop m state in
          record { known = h.known; below = below; sized = n ∙ omega (arith, size, main_bytes); small = omega (arith, n, size, front, main_size, h.small) }

      -- a state of another length is bad
      pub other_length : (length state ≡ m + z → ⊥) → (vs : List Value) → consts ≡ cells vs → false ≡ good_state f vs state
      unfolding good_state
      other_length no_such vs e = sym (and_stop _ (and_stop _ (ne_eqb _ _ (λ q. no_such (q ∙ omega (arith, size, front, main_size))))))

      -- and so is one with other constants
      pub other_constants : {cs : List ℕ} → cs ≡ consts → length state ≡ m + z → false ≡ same (take m state) cs → (vs : List Value) → consts ≡ cells vs → false ≡ good_state f vs state
      unfolding good_state
      other_constants {cs} lent l b vs e =
          let q : length state ≡ state_size f = omega (arith, l, size, front, main_size) in
          let c : same (take (head_size f) state) (cells vs) ≡ same (take m state) cs = ap₂ same (ap (λ n. take n state) (sym (front ∙ h.head))) (sym (lent ∙ e)) in
          sym (and_stop _ (and_pass (eq-eqb _ _ q) ∙ c ∙ sym b))

      -- else the main record decides
      pub main_decides : {b : Bool} {cs : List ℕ} → cs ≡ consts → length state ≡ m + z → true ≡ same (take m state) cs → ((vs : List Value) → b ≡ good_of f vs k (tail_of m state)) → (vs : List Value) → consts ≡ cells vs → b ≡ good_state f vs state
      unfolding good_state
      main_decides lent l t good vs e =
          let q : length state ≡ state_size f = omega (arith, l, size, front, main_size) in
          let c : same (take (head_size f) state) (cells vs) ≡ true = ap₂ same (ap (λ n. take n state) (sym (front ∙ h.head))) (sym (lent ∙ e)) ∙ sym t in
          let r = good_site f vs h.known.lower k (drop (head_size f) state) below ∙ ap (λ t. good_by (globals_of f vs) t (good_of f vs) (node_of f k) (drop (head_size f) state)) operator in
          good vs ∙ ap (good_of f vs k) (tail_all m state ∙ ap (λ n. drop n state) (front ∙ h.head)) ∙ r ∙ ap (λ n. good_record (globals_of f vs) n (drop (head_size f) state)) (sym is_main)
          ∙ sym (and_pass (and_pass (eq-eqb _ _ q) ∙ c))
