-- The places of an expression's parts.
use Prim.Native.Nat.{ℕ, zero, suc, ◌+◌, ◌≤◌, ◌<◌}
use mathlib.Core.Bool.{Bool, true, false}
use mathlib.Core.List.{List, [], ◌∷◌, map}
use mathlib.Core.Option.{Option, none, some}
use mathlib.Core.Path.{◌≡◌, refl, sym, ap, subst, ◌∙◌}
use native.Mathlib.Omega.{arith}
use lib.ListN.{length, get_or}
use Rattle.ol_spec.specs.Syntax.{Expr, bool_lit, int_lit, float_lit, char_lit, var, unary, binary, if_then_else, pre, arrow, cast, call, tuple, index, literal, map_over, fold_over, Exprs, nil, cons, count, File, Variable, length_in, name_in, BinOp}
use Rattle.std.proofs.lemmas.Bool.{false≢true, true≢false}
use Rattle.ol_spec.specs.Lists.{maybe, is_some}
use Rattle.ol_spec.specs.Places.{expr_size}
use Rattle.ol_spec.specs.Encode.{bin_op_code}
use Rattle.ol_spec.specs.Eval.{equality}
use Rattle.ol_spec.specs.Shapes.{Sized}
use Rattle.ol_spec.specs.Admission.{Place, scalars, anything, arrays, under, beside, under_variable, each, shape_in}
use Rattle.ol_tables.specs.At.{file_at}
use Rattle.ol_tables.specs.Heads.{code_of, parts_of, head_size}
use Rattle.ol_tables.specs.Tables.{node_of, var_ty_at}
use Rattle.ol_tables.specs.Walks.{skip_at}
use Rattle.ol_shapes.specs.Codes.{type_shape}
use Rattle.ol_shapes.specs.Sits.{Sits}
use Rattle.ol_shapes.specs.Judges.{part_places, ShapeIs}
use Rattle.ol_shapes.proofs.Codes.{code_told, only_binary, only_pre, only_var, only_call, only_index, only_iterator, no_name}
use Rattle.ol_shapes.proofs.Sitting.{sits_head, sits_parts, sits_rest, sits_skip, sits_moved, op_told}
use Rattle.ol_shapes.proofs.Shaping.{iterator_code, call_low, input_shape, few_nodes_lem}

-- ---- beside an operand

scalar_beside : (q : Option (Bool → Bool)) (sh : Option ℕ) → false ≡ is_some q → beside q sh ≡ scalars
scalar_beside none sh e = refl
scalar_beside (some f) sh e = absurd (false≢true e)

array_beside : (q : Option (Bool → Bool)) (sh : Option ℕ) {r : Place} → true ≡ is_some q → ((f : Bool → Bool) → r ≡ beside (some f) sh) → r ≡ beside q sh
array_beside none sh e b = absurd (true≢false e)
array_beside (some f) sh e b = b f

two_scalars_at : {a b : Place} (i : ℕ) → i < 2 → a ≡ scalars → b ≡ scalars → get_or (a ∷ b ∷ []) i anything ≡ scalars
two_scalars_at zero h p q = p
two_scalars_at (suc zero) h p q = q
two_scalars_at (suc (suc i)) h p q = absurd (omega arith)

-- ---- parts that are scalars

each_at : (p : Place) (es : Exprs) (i : ℕ) → i < count es → get_or (each p es) i anything ≡ p
each_at p nil i h = absurd (omega arith)
each_at p (cons e es) zero h = refl
each_at p (cons e es) (suc i) h = each_at p es i (omega arith)

one_scalar : (i : ℕ) → i < 1 → get_or (scalars ∷ []) i anything ≡ scalars
one_scalar zero h = refl
one_scalar (suc i) h = absurd (omega arith)

two_scalars_lem : (i : ℕ) → i < 2 → get_or (scalars ∷ scalars ∷ []) i anything ≡ scalars
two_scalars_lem zero h = refl
two_scalars_lem (suc i) h = one_scalar i (omega arith)

three_scalars : (i : ℕ) → i < 3 → get_or (scalars ∷ scalars ∷ scalars ∷ []) i anything ≡ scalars
three_scalars zero h = refl
three_scalars (suc i) h = two_scalars_lem i (omega arith)

scalar_parts : (f : File) (locals : List Sized) (e : Expr) → ¬ (code_of e ≡ 6) → ¬ (code_of e ≡ 8) → ¬ (code_of e ≡ 11) → ¬ (code_of e ≡ 13) → ¬ (code_of e ≡ 15) → (i : ℕ) → i < count (parts_of e)
    → get_or (part_places f locals e) i anything ≡ scalars
scalar_parts f locals (bool_lit b) n6 n8 n11 n13 n15 j h = absurd (omega arith)
scalar_parts f locals (int_lit i) n6 n8 n11 n13 n15 j h = absurd (omega arith)
scalar_parts f locals (float_lit b) n6 n8 n11 n13 n15 j h = absurd (omega arith)
scalar_parts f locals (char_lit c) n6 n8 n11 n13 n15 j h = absurd (omega arith)
scalar_parts f locals (var x) n6 n8 n11 n13 n15 j h = absurd (omega arith)
scalar_parts f locals (unary op e) n6 n8 n11 n13 n15 j h = one_scalar j h
scalar_parts f locals (binary op l r) n6 n8 n11 n13 n15 j h = absurd (n6 refl)
scalar_parts f locals (if_then_else c t e) n6 n8 n11 n13 n15 j h = three_scalars j h
scalar_parts f locals (pre e) n6 n8 n11 n13 n15 j h = absurd (n8 refl)
scalar_parts f locals (arrow a b) n6 n8 n11 n13 n15 j h = two_scalars_lem j h
scalar_parts f locals (cast t e) n6 n8 n11 n13 n15 j h = one_scalar j h
scalar_parts f locals (call k es) n6 n8 n11 n13 n15 j h = absurd (n11 refl)
scalar_parts f locals (tuple es) n6 n8 n11 n13 n15 j h = each_at scalars es j h
scalar_parts f locals (index a i) n6 n8 n11 n13 n15 j h = absurd (n13 refl)
scalar_parts f locals (literal es) n6 n8 n11 n13 n15 j h = each_at scalars es j h
scalar_parts f locals (map_over k es) n6 n8 n11 n13 n15 j h = absurd (n15 refl)
scalar_parts f locals (fold_over k s es) n6 n8 n11 n13 n15 j h = absurd (n15 refl)

-- ---- the place of a part

module _ {s rows slots plans : List ℕ} {k : ℕ} {locals : List Sized} {level at i pos : ℕ} (e : Expr) (es : Exprs) (h : Sits s rows slots plans k locals (suc level) at (cons e es)) (more : i < count (parts_of e))
    (first : i ≡ 0 → pos ≡ at + head_size e) where
  code : get_or s at 0 ≡ code_of e
  code = code_told s at e (sits_head h)

  pub part_scalar : ¬ (get_or s at 0 ≡ 6) → ¬ (get_or s at 0 ≡ 8) → ¬ (get_or s at 0 ≡ 11) → ¬ (get_or s at 0 ≡ 13) → ¬ (get_or s at 0 ≡ 15) → scalars ≡ get_or (part_places (file_at s) locals e) i anything
  part_scalar n6 n8 n11 n13 n15 = sym (scalar_parts (file_at s) locals e (λ z. n6 (code ∙ z)) (λ z. n8 (code ∙ z)) (λ z. n11 (code ∙ z)) (λ z. n13 (code ∙ z)) (λ z. n15 (code ∙ z)) i more)

  -- the parts of a form, wherever a fact of it is wanted
  by : (c : ℕ) → get_or s at 0 ≡ c → code_of e ≡ c
  by c q = sym code ∙ q

  pub operand_place : {op : ℕ} → get_or s at 0 ≡ 6 → op ≡ get_or s (at + 1) 0 → ((o : BinOp) → op ≡ bin_op_code o → false ≡ is_some (equality o)) → scalars ≡ get_or (part_places (file_at s) locals e) i anything
  operand_place c o none_of =
      only_binary (λ e. Sits s rows slots plans k locals (suc level) at (cons e es) → i < count (parts_of e) → scalars ≡ get_or (part_places (file_at s) locals e) i anything)
      (λ bo l x h more.
      let w = none_of bo (o ∙ op_told bo l x h.stands) in
      sym (two_scalars_at i more (scalar_beside (equality bo) (shape_in (file_at s) locals x) w) (scalar_beside (equality bo) (shape_in (file_at s) locals l) w)))
      e (by 6 c) h more

  pub left_place : {op q : ℕ} {sh : Option ℕ} {r : Place} → get_or s at 0 ≡ 6 → op ≡ get_or s (at + 1) 0 → ((o : BinOp) → op ≡ bin_op_code o → true ≡ is_some (equality o)) → i ≡ 0 → q ≡ skip_at s 1 pos → ShapeIs s rows slots plans level q sh
      → ((f : Bool → Bool) → r ≡ beside (some f) sh) → r ≡ get_or (part_places (file_at s) locals e) i anything
  left_place {op} {q} {sh} {r} c o some_of z w shape b =
      only_binary (λ e. Sits s rows slots plans k locals (suc level) at (cons e es) → (i ≡ 0 → pos ≡ at + head_size e) → r ≡ get_or (part_places (file_at s) locals e) i anything)
      (λ bo l x h first.
      let p = sits_parts h in
      let to : q ≡ at + 2 + expr_size l = w ∙ ap (skip_at s 1) (first z) ∙ sits_skip p in
      subst (λ n. r ≡ get_or (part_places (file_at s) locals (binary bo l x)) n anything) (sym z)
      (array_beside (equality bo) sh (some_of bo (o ∙ op_told bo l x h.stands)) b ∙ ap (beside (equality bo)) (shape.is k locals x nil (sits_moved (sym to) (sits_rest p)))))
      e (by 6 c) h first

  pub right_place : {op : ℕ} {sh : Option ℕ} {r : Place} → get_or s at 0 ≡ 6 → op ≡ get_or s (at + 1) 0 → ((o : BinOp) → op ≡ bin_op_code o → true ≡ is_some (equality o)) → ¬ (i ≡ 0) → ShapeIs s rows slots plans level (at + 2) sh
      → ((f : Bool → Bool) → r ≡ beside (some f) sh) → r ≡ get_or (part_places (file_at s) locals e) i anything
  right_place {op} {sh} {r} c o some_of z shape b =
      only_binary (λ e. Sits s rows slots plans k locals (suc level) at (cons e es) → i < count (parts_of e) → r ≡ get_or (part_places (file_at s) locals e) i anything)
      (λ bo l x h more.
      let one : 1 ≡ i = omega (arith, z) in
      subst (λ n. r ≡ get_or (part_places (file_at s) locals (binary bo l x)) n anything) one
      (array_beside (equality bo) sh (some_of bo (o ∙ op_told bo l x h.stands)) b ∙ ap (beside (equality bo)) (shape.is k locals l (cons x nil) (sits_parts h))))
      e (by 6 c) h more

  pub pre_var : get_or s at 0 ≡ 8 → get_or s pos 0 ≡ 4 → anything ≡ get_or (part_places (file_at s) locals e) i anything
  pre_var c q =
      only_pre (λ e. Sits s rows slots plans k locals (suc level) at (cons e es) → i < count (parts_of e) → (i ≡ 0 → pos ≡ at + head_size e) → anything ≡ get_or (part_places (file_at s) locals e) i anything)
      (λ a h more first.
      let z : 0 ≡ i = omega arith in
      let p = sits_parts h in
      let named : code_of a ≡ 4 = sym (code_told s (at + 1) a (sits_head p)) ∙ ap (λ n. get_or s n 0) (sym (first (sym z))) ∙ q in
      subst (λ n. anything ≡ get_or (part_places (file_at s) locals (pre a)) n anything) z (only_var (λ a. anything ≡ maybe scalars (λ x. anything) (name_in a)) (λ x. refl) a named))
      e (by 8 c) h more first

  pub pre_other : get_or s at 0 ≡ 8 → ¬ (get_or s pos 0 ≡ 4) → scalars ≡ get_or (part_places (file_at s) locals e) i anything
  pre_other c q =
      only_pre (λ e. Sits s rows slots plans k locals (suc level) at (cons e es) → i < count (parts_of e) → (i ≡ 0 → pos ≡ at + head_size e) → scalars ≡ get_or (part_places (file_at s) locals e) i anything)
      (λ a h more first.
      let z : 0 ≡ i = omega arith in
      let p = sits_parts h in
      let told : get_or s pos 0 ≡ code_of a = ap (λ n. get_or s n 0) (first (sym z)) ∙ code_told s (at + 1) a (sits_head p) in
      subst (λ n. scalars ≡ get_or (part_places (file_at s) locals (pre a)) n anything) z (sym (ap (maybe scalars (λ x. anything)) (no_name a (λ y. q (told ∙ y))))))
      e (by 8 c) h more first

  pub argument_place : {d : ℕ} {q : Option ℕ} → get_or s at 0 ≡ 11 → d ≡ get_or s (at + 1) 0 → (d < 32 → q ≡ type_shape rows plans d i) → under q ≡ get_or (part_places (file_at s) locals e) i anything
  argument_place {d} {q} c o t =
      only_call (λ e. Sits s rows slots plans k locals (suc level) at (cons e es) → i < count (parts_of e) → under q ≡ get_or (part_places (file_at s) locals e) i anything)
      (λ g as' h more.
      let w = call_low g as' es h in
      let ins = (node_of (file_at s) g).inputs in
      let inside : i < length ins = omega (arith, w.1) in
      let same : d ≡ g = o ∙ (sits_head h).1 in
      let is : q ≡ length_in (var_ty_at ins i) = t (omega (arith, w.0, same, few_nodes_lem h.scope)) ∙ ap (λ n. type_shape rows plans n i) same ∙ input_shape h.scope g w.0 i inside in
      ap under is ∙ sym (under_at ins i inside))
      e (by 11 c) h more
    where
      under_at : (vs : List Variable) (i : ℕ) → i < length vs → get_or (map under_variable vs) i anything ≡ under (length_in (var_ty_at vs i))
      under_at [] i h = absurd (omega arith)
      under_at (v ∷ vs) zero h = refl
      under_at (v ∷ vs) (suc i) h = under_at vs i (omega arith)

  pub array_place : get_or s at 0 ≡ 13 → i ≡ 0 → anything ≡ get_or (part_places (file_at s) locals e) i anything
  array_place c z =
      only_index (λ e. anything ≡ get_or (part_places (file_at s) locals e) i anything) (λ a x. subst (λ n. anything ≡ get_or (anything ∷ scalars ∷ []) n anything) (sym z) refl) e (by 13 c)

  pub index_place : get_or s at 0 ≡ 13 → ¬ (i ≡ 0) → scalars ≡ get_or (part_places (file_at s) locals e) i anything
  index_place c z =
      only_index (λ e. i < count (parts_of e) → scalars ≡ get_or (part_places (file_at s) locals e) i anything)
      (λ a x more. let one : 1 ≡ i = omega (arith, z) in subst (λ n. scalars ≡ get_or (anything ∷ scalars ∷ []) n anything) one refl) e (by 13 c) more

  -- an iterator's seed, and its arrays
  pub seed_place : {d : ℕ} → 15 ≤ get_or s at 0 → d ≡ get_or s (at + 1) 0 → i < d → scalars ≡ get_or (part_places (file_at s) locals e) i anything
  seed_place {d} c o l =
      only_iterator (λ e. Sits s rows slots plans k locals (suc level) at (cons e es) → scalars ≡ get_or (part_places (file_at s) locals e) i anything) (λ g as' h. absurd (omega (arith, l, o, (sits_head h).1)))
      (λ g a as' h. let z : 0 ≡ i = omega (arith, l, o, (sits_head h).1) in subst (λ n. scalars ≡ get_or (scalars ∷ each arrays as') n anything) z refl) e (iterator_code e es h c) h

  pub arrays_place : {d : ℕ} → 15 ≤ get_or s at 0 → d ≡ get_or s (at + 1) 0 → d ≤ i → arrays ≡ get_or (part_places (file_at s) locals e) i anything
  arrays_place {d} c o l =
      only_iterator (λ e. Sits s rows slots plans k locals (suc level) at (cons e es) → i < count (parts_of e) → arrays ≡ get_or (part_places (file_at s) locals e) i anything)
      (λ g as' h more. sym (each_at arrays as' i more))
      (λ g a as' h more. behind as' i (omega (arith, l, o, (sits_head h).1)) more) e (iterator_code e es h c) h more
    where
      behind : (as' : Exprs) (i : ℕ) → 1 ≤ i → i < suc (count as') → arrays ≡ get_or (scalars ∷ each arrays as') i anything
      behind as' zero l m = absurd (omega arith)
      behind as' (suc i) l m = sym (each_at arrays as' i (omega arith))
