-- Laws of how many cells an equation's right side takes.
use Prim.Native.Nat.{ℕ, zero, suc, ◌+◌, ◌-◌, ◌*◌, ◌<◌, ◌≤◌, max}
use mathlib.Core.Bool.{Bool, true, false, cond}
use mathlib.Core.List.{List}
use mathlib.Core.Logic.{by_cases}
use mathlib.Core.Path.{◌≡◌, refl, sym, ap, subst, ◌∙◌}
use native.Mathlib.Decide.{ℕ_discrete}
use native.Mathlib.Omega.{arith}
use borrow.Author.Tests.{ne_eqb}
use lib.Dec.{eqb, eqb→eq, T}
use lib.ListN.{length, get_or}
use Rattle.std.specs.Prelude.{Option, Some, None}
use Rattle.ol_theory.specs.Member.{◌∈◌}
use Rattle.ol_spec.specs.Syntax.{Expr, variable_names}
use Rattle.ol_spec.specs.Admission.{constant_names}
use Rattle.ol_tables.specs.At.{file_at, node_in, Reads}
use Rattle.ol_tables.specs.Heads.{head_size as head_of}
use Rattle.ol_tables.specs.Tables.{HasSlot, slot_at, slots_from, count_at}
use Rattle.ol_tables.proofs.Forms.{Formed, parted, reads_in, some_code, type_some, bool_form, int_form, float_form, char_form, var_form, unary_form, binary_form, if_form, pre_form, arrow_form, cast_form, call_form, tuple_form, index_form, literal_form, iterator_kind, map_form, fold_form}
use Rattle.ol_frame.specs.Walk.{nodes_in}
use Rattle.ol_frame.specs.Nodes.{EquationPlan}
use Rattle.ol_frame.specs.Equations.{place_in, rhs_in, equation_in}
use Rattle.ol_frame.specs.Stores.{cells_under_all}
use Rattle.ol_frame.proofs.Planning.{plan_call}
use Rattle.ol_frame.proofs.Storing.{typed}
use Rattle.ol_eval.specs.Calls.{callee_at, callee_cells, equation_cells}
use Rattle.ol_eval.proofs.Named.{slot_own}
use Rattle.ol_eval.proofs.Rights.{names_at, each_at}

-- ---- an expression has two bytes

module _ (s : List ℕ) (level at : ℕ) (h : Reads s level at) where
  head_two : {t : Expr} {n : ℕ} → Formed s level at t n → 2 ≤ head_of t → at + 1 < length s
  head_two f l = omega (arith, f.inside, l)

  part_two : {t : Expr} (n : ℕ) → Formed s level at t (suc n) → head_of t ≡ 1 → at + 1 < length s
  part_two {t} n f e = omega (arith, reads_in s (level - 1) (at + head_of t) (parted s (level - 1) n (at + head_of t) f.read).head, e)

  pub two_inside : at + 1 < length s
  two_inside = go (get_or s at 0) refl (some_code s level at h)
    where
      go : (c : ℕ) → get_or s at 0 ≡ c → c < 16 → at + 1 < length s
      go zero e l = head_two (bool_form s level at h e).0 (omega arith)
      go (suc zero) e l = head_two (int_form s level at h e) (omega arith)
      go (suc (suc zero)) e l = head_two (float_form s level at h e) (omega arith)
      go (suc (suc (suc zero))) e l = head_two (char_form s level at h e) (omega arith)
      go (suc (suc (suc (suc zero)))) e l = head_two (var_form s level at h e) (omega arith)
      go (suc (suc (suc (suc (suc zero))))) e l = head_two (unary_form s level at h e).1 (omega arith)
      go (suc (suc (suc (suc (suc (suc zero)))))) e l = head_two (binary_form s level at h e).1 (omega arith)
      go (suc (suc (suc (suc (suc (suc (suc zero))))))) e l = part_two 2 (if_form s level at h e) refl
      go (suc (suc (suc (suc (suc (suc (suc (suc zero)))))))) e l = part_two 0 (pre_form s level at h e) refl
      go (suc (suc (suc (suc (suc (suc (suc (suc (suc zero))))))))) e l = part_two 1 (arrow_form s level at h e) refl
      go (suc (suc (suc (suc (suc (suc (suc (suc (suc (suc zero)))))))))) e l = let w = cast_form s level at h e in head_two w.1 (omega (arith, type_some w.0))
      go (suc (suc (suc (suc (suc (suc (suc (suc (suc (suc (suc zero))))))))))) e l = head_two (call_form s level at h e).0 (omega arith)
      go (suc (suc (suc (suc (suc (suc (suc (suc (suc (suc (suc (suc zero)))))))))))) e l = head_two (tuple_form s level at h e).0 (omega arith)
      go (suc (suc (suc (suc (suc (suc (suc (suc (suc (suc (suc (suc (suc zero))))))))))))) e l = part_two 1 (index_form s level at h e) refl
      go (suc (suc (suc (suc (suc (suc (suc (suc (suc (suc (suc (suc (suc (suc zero)))))))))))))) e l = head_two (literal_form s level at h e).0 (omega arith)
      go (suc (suc (suc (suc (suc (suc (suc (suc (suc (suc (suc (suc (suc (suc (suc zero))))))))))))))) e l =
          by_cases (ℕ_discrete (get_or s (at + 1) 0) 0)
          (λ z. head_two (map_form s level at h e z).0 (omega arith))
          (λ z. head_two (fold_form s level at h e (omega (arith, z, iterator_kind s level at h e))).0 (omega arith))
      go (suc (suc (suc (suc (suc (suc (suc (suc (suc (suc (suc (suc (suc (suc (suc (suc c)))))))))))))))) e l = absurd (omega arith)

-- ---- the callee

some_same : {x y : ℕ} → Some x ≡ Some y → x ≡ y
some_same e = cc

no_some : {A : Type 0} {x : ℕ} → None ≡ Some x → A
no_some e = let z : ◌≡◌ {A = ℕ} 0 1 = cc in absurd (omega arith)

module _ (file : List ℕ) (at : ℕ) where
  pub callee_some : {o : Option ℕ} (c : ℕ) → o ≡ Some c → o ≡ callee_at file at → (get_or file at 0 ≡ 11) × (c ≡ get_or file (at + 1) 0)
  callee_some c e f = go (eqb (get_or file at 0) 11) refl (sym f ∙ e)
    where
      go : (b : Bool) → eqb (get_or file at 0) 11 ≡ b → cond b (Some (get_or file (at + 1) 0)) None ≡ Some c → (get_or file at 0 ≡ 11) × (c ≡ get_or file (at + 1) 0)
      go true q w = (eqb→eq (get_or file at 0) 11 (subst T (sym q) tt), sym (some_same w))
      go false q w = no_some w

  pub callee_none : {o : Option ℕ} → o ≡ None → o ≡ callee_at file at → ¬ (get_or file at 0 ≡ 11)
  callee_none e f c = no_some (sym e ∙ f ∙ ap (λ (y : ℕ). cond (eqb y 11) (Some (get_or file (at + 1) 0)) None) c)

-- ---- an equation

module _ {file tab rows consts : List ℕ} {k i : ℕ} (p : EquationPlan file tab rows consts k i) (b : k < nodes_in file) (at n : ℕ) (ae : at ≡ place_in file k i) (ne : n ≡ get_or file at 0) where
  abbrev names : List ℕ
  names = (equation_in file k i).names

  count : n ≡ length (equation_in file k i).names
  count = ne ∙ ap (λ a. get_or file a 0) ae ∙ p.count

  there : at + 1 + 2 * n ≡ rhs_in file k i
  there = λ j. ae j + 1 + 2 * count j

  -- its names and its right side are in the file
  pub right_inside : (at + 1 + 2 * n + 1 < length file) × (length file ≤ 32768) × (slots_from + length file ≤ length tab)
  right_inside = (omega (arith, two_inside file 24 (rhs_in file k i) (parted file 24 0 (rhs_in file k i) p.plan.reads).head, there), p.plan.program.sized.small, p.plan.program.table.long)

  module _ {o : Option ℕ} (c : ℕ) (e : o ≡ Some c) (f : o ≡ callee_at file (at + 1 + 2 * n)) where
    code : get_or file (rhs_in file k i) 0 ≡ 11
    code = ap (λ a. get_or file a 0) (sym there) ∙ (callee_some file (at + 1 + 2 * n) c e f).0

    number : c ≡ get_or file (rhs_in file k i + 1) 0
    number = (callee_some file (at + 1 + 2 * n) c e f).1 ∙ ap (λ a. get_or file (a + 1) 0) there

    pub callee_below : (c < nodes_in file) × (c < 32)
    callee_below =
        let l = (plan_call file p.plan code).lower in
        (omega (arith, number, l, b), omega (arith, number, l, b, p.plan.program.sized.few))

    -- its inputs' and outputs' cells
    pub counted : (x y : ℕ) → x ≡ count_at tab c 1 → y ≡ count_at tab c 2 → (x ≤ y) × (max x (y - x) ≡ equation_cells file tab k i)
    counted x y ex ey =
        let t = p.plan.program.table.tabs_of c callee_below.0 in
        let le : x ≤ y = omega (arith, ex, ey, t.input_cells, t.output_cells) in
        let told : max x (y - x) ≡ callee_cells file c = omega (arith, ex, ey, t.input_cells, t.output_cells) in
        (le, told ∙ ap (callee_cells file) number ∙ sym (ap (λ d. cond (eqb d 11) (callee_cells file (get_or file (rhs_in file k i + 1) 0)) (cells_under_all tab k (place_in file k i + 1) (length names))) code))

  -- another right side has its names' cells
  pub others_counted : {o : Option ℕ} → o ≡ None → o ≡ callee_at file (at + 1 + 2 * n) → cells_under_all tab k (at + 1) n ≡ equation_cells file tab k i
  others_counted e f =
      (λ j. cells_under_all tab k (ae j + 1) (count j))
      ∙ sym (ap (λ d. cond d (callee_cells file (get_or file (rhs_in file k i + 1) 0)) (cells_under_all tab k (place_in file k i + 1) (length names))) (ne_eqb (get_or file (rhs_in file k i) 0) 11 (λ c. callee_none file (at + 1 + 2 * n) e f (ap (λ a. get_or file a 0) there ∙ c))))

  -- its names' slots are variables'
  pub slots_few : (j : ℕ) → j < n → slot_at tab (at + 1 + 2 * j) < 112
  slots_few j l =
      let m : j < length names = omega (arith, l, count) in
      let s = names_at (HasSlot tab (variable_names (node_in file k)) (constant_names (file_at file))) names (place_in file k i + 1) j p.defined m in
      let w = slot_own p.plan.program b (place_in file k i + 1 + 2 * j) (get_or names j 0) (constant_names (file_at file)) (each_at (λ x. x ∈ variable_names (node_in file k)) names j p.declared m) s in
      omega (arith, w.0, ap (λ a. slot_at tab (a + 1 + 2 * j)) ae, (typed k p.plan.program b).few)
