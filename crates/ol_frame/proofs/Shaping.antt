-- The length of an array expression, by its form.
use Prim.Native.Nat.{ℕ, zero, suc, ◌+◌, ◌-◌, ◌<◌, ◌≤◌}
use mathlib.Core.Bool.{false}
use mathlib.Core.List.{List, [], ◌∷◌, ◌++◌}
use mathlib.Core.Logic.{by_cases}
use mathlib.Core.Option.{Option, none, some}
use mathlib.Core.Path.{◌≡◌, refl, sym, ap, subst, ◌∙◌}
use native.Mathlib.Decide.{ℕ_discrete}
use native.Mathlib.Omega.{arith}
use lib.Dec.{T}
use lib.ListN.{get_or}
use Rattle.ol_spec.specs.Lists.{maybe}
use Rattle.ol_spec.specs.Syntax.{Expr, count, name_in, Variable, variables, length_in}
use Rattle.ol_spec.specs.Shapes.{arrays_in, constant_arrays, first_length, output_shape}
use Rattle.ol_spec.specs.Admission.{all_long, alike}
use Rattle.ol_spec.proofs.Tests.{T_and}
use Rattle.ol_tables.specs.At.{file_at, node_in, expr_at, end_at, exprs_at, ReadsAll}
use Rattle.ol_tables.specs.Tables.{name_length_at, var_ty_at}
use Rattle.ol_tables.proofs.Forms.{parted, none_read, by_form, reads_deep, var_form, pre_form, call_form, literal_form, map_form, fold_form, iterator_kind}
use Rattle.ol_frame.specs.Plans.{Program, Plan, shape_in, span_in, long_in, name_at}
use Rattle.ol_frame.specs.Walk.{nodes_in}
use Rattle.ol_frame.proofs.Naming.{is_name, no_name}
use Rattle.ol_frame.proofs.Planning.{plan_head, plan_first, plan_parts, plan_name, plan_suited, plan_call}
use Rattle.ol_frame.proofs.Programs.{Long, laid, name_long}

-- so many expressions were read
pub count_read : (s : List ℕ) (level n at : ℕ) → ReadsAll s level n at → count (exprs_at s level n at) ≡ n
count_read s level zero at h = ap count (none_read s level at).0
count_read s level (suc n) at h = let p = parted s level n at h in ap count p.trees ∙ ap suc (count_read s level n (end_at s level at) p.tail)

no_some : {A B : Type 0} {x : A} → none ≡ some x → B
no_some e = let z : ◌≡◌ {A = ℕ} 0 1 = cc in absurd (omega arith)

same_some : {A : Type 0} {x y : A} → some x ≡ some y → x ≡ y
same_some e = cc

-- the length of the first of some arrays
first_of : (s : List ℕ) (level n at node : ℕ) → ReadsAll s level n at → 0 < n
    → first_length (file_at s).nodes (arrays_in (variables (node_in s node))) (constant_arrays (file_at s).constants) (exprs_at s level n at) ≡ span_in s node (expr_at s level at)
first_of s level zero at node h l = absurd (omega arith)
first_of s level (suc n) at node h l =
    ap (first_length (file_at s).nodes (arrays_in (variables (node_in s node))) (constant_arrays (file_at s).constants)) (parted s level n at h).trees

-- by the length
to_long : (o : Option ℕ) (n : ℕ) → n ≡ maybe 0 (λ n. n) o → 1 ≤ n → n ≤ 32 → Long o
to_long none n e l m = λ k h. no_some h
to_long (some x) n e l m = λ k h. let z : x ≡ k = same_some h in (omega (arith, e, z), omega (arith, e, z))

pub span_some : (o : Option ℕ) → Long o → ¬ (o ≡ none) → (1 ≤ maybe 0 (λ n. n) o) × (maybe 0 (λ n. n) o ≤ 32)
span_some none l h = absurd (h refl)
span_some (some n) l h = l n refl

outputs_long : {s tab rows : List ℕ} (p : Program s tab rows) (k : ℕ) → Long (output_shape (node_in s k).outputs)
outputs_long {s} p k = go (node_in s k).inputs (node_in s k).outputs (node_in s k).locals (laid p k).long
  where
    go : (ins outs rest : List Variable) → ((i : ℕ) → Long (length_in (var_ty_at (ins ++ outs ++ rest) i))) → Long (output_shape outs)
    go [] [] rest f = λ n e. no_some e
    go [] (v ∷ []) rest f = f 0
    go [] (v ∷ w ∷ vs) rest f = λ n e. no_some e
    go (x ∷ ins) outs rest f = go ins outs rest (λ i. f (suc i))

module _ (s : List ℕ) {tab rows consts : List ℕ} {node : ℕ} where
  -- a Var
  pub span_name : {level at : ℕ} → Plan s tab rows consts node level 1 at → get_or s at 0 ≡ 4 → name_length_at tab (at + 1) ≡ span_in s node (expr_at s level at)
  span_name {level} {at} p e = (plan_name s p e).named.cell.length ∙ ap (span_in s node) (sym (var_form s level at (plan_head s p) e).tree)

  -- Pre of a Var, or of anything else
  pub span_before : {level at : ℕ} → Plan s tab rows consts node level 1 at → get_or s at 0 ≡ 8 → get_or s (at + 1) 0 ≡ 4 → name_length_at tab (at + 1 + 1) ≡ span_in s node (expr_at s level at)
  span_before {level} {at} p e f =
      let w = pre_form s level at (plan_head s p) e in
      let q = plan_parts s p w in
      (plan_name s q f).named.cell.length
      ∙ ap (λ o. maybe 0 (λ n. n) (maybe none (long_in s node) o)) (sym (is_name s (level - 1) (at + 1) (plan_head s q) f)) ∙ ap (span_in s node) (sym w.tree)

  pub span_no_name : {level at : ℕ} → Plan s tab rows consts node level 1 at → get_or s at 0 ≡ 8 → ¬ (get_or s (at + 1) 0 ≡ 4) → 0 ≡ span_in s node (expr_at s level at)
  span_no_name {level} {at} p e f =
      let w = pre_form s level at (plan_head s p) e in
      let q = plan_parts s p w in
      ap (λ o. maybe 0 (λ n. n) (maybe none (long_in s node) o)) (sym (no_name s (level - 1) (at + 1) (plan_head s q) f)) ∙ ap (span_in s node) (sym w.tree)

  -- a call
  pub span_call : {level at : ℕ} → Plan s tab rows consts node level 1 at → get_or s at 0 ≡ 11 → maybe 0 (λ n. n) (output_shape (node_in s (get_or s (at + 1) 0)).outputs) ≡ span_in s node (expr_at s level at)
  span_call {level} {at} p e = ap (span_in s node) (sym (call_form s level at (plan_head s p) e).0.tree)

  pub call_below : {level at : ℕ} → Plan s tab rows consts node level 1 at → get_or s at 0 ≡ 11 → get_or s (at + 1) 0 < nodes_in s
  call_below p e = omega (arith, (plan_call s p e).lower, p.node≤)

  -- a literal
  pub span_literal : {level at : ℕ} → Plan s tab rows consts node level 1 at → get_or s at 0 ≡ 14 → get_or s (at + 1) 0 ≡ span_in s node (expr_at s level at)
  span_literal {level} {at} p e =
      let w = (literal_form s level at (plan_head s p) e).0 in
      sym (count_read s (level - 1) (get_or s (at + 1) 0) (at + 2) w.read) ∙ ap (span_in s node) (sym w.tree)

  -- a map has an array, whose length it has
  map_some : {level at : ℕ} → Plan s tab rows consts node level 1 at → get_or s at 0 ≡ 15 → get_or s (at + 1) 0 ≡ 0 → 0 < get_or s (at + 3) 0
  map_some {level} {at} p e z =
      let w = (map_form s level at (plan_head s p) e z).0 in
      go (get_or s (at + 3) 0) refl (T_and (alike (file_at s) (arrays_in (variables (node_in s node))) (exprs_at s (level - 1) (get_or s (at + 3) 0) (at + 4))) _ (plan_suited s p w)).0
    where
      go : (n : ℕ) → get_or s (at + 3) 0 ≡ n → T (alike (file_at s) (arrays_in (variables (node_in s node))) (exprs_at s (level - 1) (get_or s (at + 3) 0) (at + 4))) → 0 < get_or s (at + 3) 0
      go zero f t =
          absurd (subst (λ es. T (alike (file_at s) (arrays_in (variables (node_in s node))) es)) (ap (λ n. exprs_at s (level - 1) n (at + 4)) f ∙ (none_read s (level - 1) (at + 4)).0) t)
      go (suc n) f t = omega arith

  pub map_array : {level at : ℕ} → Plan s tab rows consts node level 1 at → get_or s at 0 ≡ 15 → get_or s (at + 1) 0 ≡ 0 → Plan s tab rows consts node (level - 1) 1 (at + 4)
  map_array {level} {at} p e z =
      go (get_or s (at + 3) 0) (map_some p e z) (plan_parts s p (map_form s level at (plan_head s p) e z).0)
    where
      go : (n : ℕ) → 0 < n → Plan s tab rows consts node (level - 1) n (at + 4) → Plan s tab rows consts node (level - 1) 1 (at + 4)
      go zero l q = absurd (omega arith)
      go (suc n) l q = plan_first s q

  -- which is an array
  pub map_first : {level at : ℕ} → Plan s tab rows consts node level 1 at → get_or s at 0 ≡ 15 → get_or s (at + 1) 0 ≡ 0 → ¬ (shape_in s node (expr_at s (level - 1) (at + 4)) ≡ none)
  map_first {level} {at} p e z h =
      let w = (map_form s level at (plan_head s p) e z).0 in
      go (get_or s (at + 3) 0) (map_some p e z) w.read (T_and (alike (file_at s) (arrays_in (variables (node_in s node))) (exprs_at s (level - 1) (get_or s (at + 3) 0) (at + 4))) _ (plan_suited s p w)).0
    where
      go : (n : ℕ) → 0 < n → ReadsAll s (level - 1) n (at + 4) → T (alike (file_at s) (arrays_in (variables (node_in s node))) (exprs_at s (level - 1) n (at + 4))) → ⊥
      go zero l r t = omega arith
      go (suc n) l r t =
          let q = parted s (level - 1) n (at + 4) r in
          let u = subst (λ es. T (alike (file_at s) (arrays_in (variables (node_in s node))) es)) q.trees t in
          subst (λ o. T (maybe false (λ m. all_long (file_at s) (arrays_in (variables (node_in s node))) m (exprs_at s (level - 1) n (end_at s (level - 1) (at + 4)))) o)) h u

  pub span_map : {level at : ℕ} → Plan s tab rows consts node level 1 at → get_or s at 0 ≡ 15 → get_or s (at + 1) 0 ≡ 0 → span_in s node (expr_at s (level - 1) (at + 4)) ≡ span_in s node (expr_at s level at)
  span_map {level} {at} p e z =
      let w = (map_form s level at (plan_head s p) e z).0 in
      sym (first_of s (level - 1) (get_or s (at + 3) 0) (at + 4) node w.read (map_some p e z)) ∙ ap (span_in s node) (sym w.tree)

  pub span_fold : {level at : ℕ} → Plan s tab rows consts node level 1 at → get_or s at 0 ≡ 15 → ¬ (get_or s (at + 1) 0 ≡ 0) → 0 ≡ span_in s node (expr_at s level at)
  span_fold {level} {at} p e z =
      let one : get_or s (at + 1) 0 ≡ 1 = omega (arith, z, iterator_kind s level at (plan_head s p) e) in
      ap (span_in s node) (sym (fold_form s level at (plan_head s p) e one).0.tree)

  -- another form is no array
  pub span_other : {level at : ℕ} → Plan s tab rows consts node level 1 at → ¬ (get_or s at 0 ≡ 4) → ¬ (get_or s at 0 ≡ 8) → ¬ (get_or s at 0 ≡ 11) → ¬ (get_or s at 0 ≡ 14) → ¬ (get_or s at 0 ≡ 15)
      → shape_in s node (expr_at s level at) ≡ none
  span_other {level} {at} p a b c d e =
      by_form s (λ k t. ¬ (k ≡ 4) → ¬ (k ≡ 8) → ¬ (k ≡ 11) → ¬ (k ≡ 14) → ¬ (k ≡ 15) → shape_in s node t ≡ none) (λ b n m k l o. refl) (λ i n m k l o. refl) (λ b n m k l o. refl)
      (λ c n m k l o. refl) (λ x n m k l o. absurd (n refl)) (λ op e n m k l o. refl) (λ op x y n m k l o. refl) (λ c t e n m k l o. refl) (λ e n m k l o. absurd (m refl)) (λ a b n m k l o. refl)
      (λ t e n m k l o. refl) (λ c es n m k l o. absurd (k refl)) (λ es n m k l o. refl) (λ a i n m k l o. refl) (λ es n m k l o. absurd (l refl)) (λ c es n m k l o. absurd (o refl))
      (λ c e es n m k l o. absurd (o refl)) level at (plan_head s p) a b c d e

  -- ---- every array has 1 to 32 elements

  pub span_long : (level at : ℕ) → Plan s tab rows consts node level 1 at → Long (shape_in s node (expr_at s level at))
  span_long zero at p = absurd (omega (arith, reads_deep s zero at (plan_head s p)))
  span_long (suc level) at p =
      by_cases (ℕ_discrete (get_or s at 0) 4) (λ e. moved (var_form s (suc level) at (plan_head s p) e).tree (name_long p.program node (name_at s (at + 1))))
      (λ n4. by_cases (ℕ_discrete (get_or s at 0) 8) (λ e. moved (pre_form s (suc level) at (plan_head s p) e).tree (pre_long (name_in (expr_at s (suc level - 1) (at + 1)))))
      (λ n8. by_cases (ℕ_discrete (get_or s at 0) 11) (λ e. moved (call_form s (suc level) at (plan_head s p) e).0.tree (outputs_long p.program (get_or s (at + 1) 0)))
      (λ n11. by_cases (ℕ_discrete (get_or s at 0) 14)
      (λ e. let w = literal_form s (suc level) at (plan_head s p) e in to_long (shape_in s node (expr_at s (suc level) at)) (get_or s (at + 1) 0) (span_literal p e) w.1 w.2)
      (λ n14. by_cases (ℕ_discrete (get_or s at 0) 15)
      (λ e. by_cases (ℕ_discrete (get_or s (at + 1) 0) 0) (λ z. map_long e z (λ q. span_long level (at + 4) q))
      (λ z. moved (fold_form s (suc level) at (plan_head s p) e (omega (arith, z, iterator_kind s (suc level) at (plan_head s p) e))).0.tree (λ n e. no_some e)))
      (λ n15. subst Long (sym (span_other p n4 n8 n11 n14 n15)) (λ n e. no_some e))))))
    where
      moved : {t : Expr} → expr_at s (suc level) at ≡ t → Long (shape_in s node t) → Long (shape_in s node (expr_at s (suc level) at))
      moved {t} e l = subst (λ x. Long (shape_in s node x)) (sym e) l

      pre_long : (o : Option ℕ) → Long (maybe none (long_in s node) o)
      pre_long none = λ n e. no_some e
      pre_long (some x) = name_long p.program node x

      one : suc level - 1 ≡ level
      one = omega arith

      map_long : get_or s at 0 ≡ 15 → get_or s (at + 1) 0 ≡ 0 → (Plan s tab rows consts node level 1 (at + 4) → Long (shape_in s node (expr_at s level (at + 4)))) → Long (shape_in s node (expr_at s (suc level) at))
      map_long e z f =
          let q = subst (λ l. Plan s tab rows consts node l 1 (at + 4)) one (map_array p e z) in
          let w = span_some (shape_in s node (expr_at s level (at + 4))) (f q)
          (subst (λ l. ¬ (shape_in s node (expr_at s l (at + 4)) ≡ none)) one (map_first p e z)) in
          to_long (shape_in s node (expr_at s (suc level) at)) (span_in s node (expr_at s level (at + 4))) (ap (λ l. span_in s node (expr_at s l (at + 4))) (sym one) ∙ span_map p e z) w.0 w.1
