-- An expression that is read at a place, taken apart by its code byte: the bytes that stand there, its tree, its parts and where it ends.
use Prim.Native.Nat.{ℕ, zero, suc, ◌+◌, ◌-◌, ◌*◌, ◌<◌, ◌≤◌}
use mathlib.Core.Bool.{Bool, true, false, ◌&&◌, cond}
use mathlib.Core.List.{List, [], ◌∷◌, ◌++◌, append-nil}
use mathlib.Core.Logic.{by_cases}
use mathlib.Core.Option.{Option, none, some}
use mathlib.Core.Path.{◌≡◌, refl, sym, ap, subst, ◌∙◌}
use native.Mathlib.Decide.{ℕ_discrete}
use native.Mathlib.Omega.{arith}
use native.Mathlib.Nat.{add-zero, add_assoc}
use lib.ListN.{length, get_elem?, get_or, take, drop}
use lib.Seq.{drop-cons}
use lib.IntN.{ℤ}
use lib.Dec.{T, eqb, leb, leb→le}
use borrow.Author.Tests.{eq-eqb, ne_eqb}
use Rattle.ol_spec.specs.Syntax.{Ty, bool, int, float32, float64, char, enum, UnaryOp, BinOp, Expr, bool_lit, int_lit, float_lit, char_lit, var, unary, binary, if_then_else, pre, arrow, cast, call, tuple}
use Rattle.ol_spec.specs.Syntax.{Exprs, nil, cons, index, literal, map_over, fold_over}
use Rattle.ol_spec.specs.Numbers.{number_of, signed}
use Rattle.ol_spec.specs.Places.{expr_size, ty_size, collect, collect_all}
use Rattle.ol_spec.specs.Read.{got, Reader, then_read, known, byte, or_end, number, coded, count_r, within?, many_exprs, expr_r, expr_body, ty_r}
use Rattle.ol_spec.specs.Read.{ExprCode, bool_code, int_code, float_code, char_code, var_code, unary_code, binary_code, if_code, pre_code, arrow_code, cast_code}
use Rattle.ol_spec.specs.Read.{call_code, tuple_code, index_code, literal_code, iterator_code, Iterator, maps, folds, iterators, iterator_body, bools, unary_ops, bin_ops, expr_codes, ty_codes, ty_body, TyCode, bool_t, float32_t, float64_t, char_t, enum_t, int_t}
use Rattle.ol_spec.specs.Lists.{maybe}
use Rattle.ol_spec.specs.Limits.{base}
use Rattle.ol_spec.specs.Eval.{callees, callees_all}
use Rattle.ol_spec.specs.declared.Limits.{Limits}
use Rattle.ol_spec.proofs.Tests.{T_and}
use Rattle.ol_spec.proofs.Offsets.{steps, same_end, same_item, expr_ends}
use Rattle.ol_tables.specs.At.{item_of, end_of, limits_at, enums_at, expr_at, end_at, exprs_at, ends_at, Reads, ReadsAll}
use Rattle.ol_tables.specs.Tables.{ty_code, Each}
use Rattle.ol_tables.specs.Heads.{parts_of, head_size as head_of}
use Rattle.ol_tables.specs.Parts.{own_sites, Proper}
use Rattle.ol_tables.specs.Walks.{own_at}

-- ---- lists

pub each_append : {A : Type 0} (P : A → Type 0) (xs ys : List A) → Each P (xs ++ ys) → Each P xs × Each P ys
each_append P [] ys h = (tt, h)
each_append P (x ∷ xs) ys h = let t = each_append P xs ys h.1 in ((h.0, t.0), t.1)

pub each_join : {A : Type 0} (P : A → Type 0) (xs ys : List A) → Each P xs → Each P ys → Each P (xs ++ ys)
each_join P [] ys h k = k
each_join P (x ∷ xs) ys h k = (h.0, each_join P xs ys h.1 k)

pub each_map : {A : Type 0} (P Q : A → Type 0) → ((a : A) → P a → Q a) → (xs : List A) → Each P xs → Each Q xs
each_map P Q f [] h = tt
each_map P Q f (x ∷ xs) h = (f x h.0, each_map P Q f xs h.1)

-- ---- the last of 13 codes

above : (b k : ℕ) → k ≤ b → ¬ (b ≡ k) → suc k ≤ b
above b k h n = omega arith

pub last_code : (b : ℕ) → b < 13 → ¬ (b ≡ 0) → ¬ (b ≡ 1) → ¬ (b ≡ 2) → ¬ (b ≡ 3) → ¬ (b ≡ 4) → ¬ (b ≡ 5) → ¬ (b ≡ 6) → ¬ (b ≡ 7) → ¬ (b ≡ 8) → ¬ (b ≡ 9) → ¬ (b ≡ 10) → ¬ (b ≡ 11) → b ≡ 12
last_code b h n0 n1 n2 n3 n4 n5 n6 n7 n8 n9 n10 n11 =
    let a1 = above b 0 (from_zero b) n0 in
    let a2 = above b 1 a1 n1 in
    let a3 = above b 2 a2 n2 in
    let a4 = above b 3 a3 n3 in
    let a5 = above b 4 a4 n4 in
    let a6 = above b 5 a5 n5 in
    let a7 = above b 6 a6 n6 in
    let a8 = above b 7 a7 n7 in
    let a9 = above b 8 a8 n8 in
    let a10 = above b 9 a9 n9 in
    let a11 = above b 10 a10 n10 in
    squeezed b h (above b 11 a11 n11)
  where
    from_zero : (b : ℕ) → 0 ≤ b
    from_zero b = omega arith

    squeezed : (b : ℕ) → b < 13 → 12 ≤ b → b ≡ 12
    squeezed b h l = omega arith

pub type_some : (t : Ty) → 1 ≤ ty_size t
type_some bool = omega arith
type_some (int c) = omega arith
type_some float32 = omega arith
type_some float64 = omega arith
type_some char = omega arith
type_some (enum e) = omega arith

-- ---- what is collected from an expression is its own, and its parts'

module _ {B : Type 0} (f : ℕ → Expr → List B) where
  pub collect_parts : (at : ℕ) (e : Expr) → collect f at e ≡ f at e ++ collect_all f (at + head_of e) (parts_of e)
  unfolding collect
  collect_parts at (bool_lit b) = sym (append-nil _)
  collect_parts at (int_lit i) = sym (append-nil _)
  collect_parts at (float_lit b) = sym (append-nil _)
  collect_parts at (char_lit c) = sym (append-nil _)
  collect_parts at (var x) = sym (append-nil _)
  collect_parts at (unary op e) = rw (append-nil (collect f (at + 2) e))
  collect_parts at (binary op l r) = rw (append-nil (collect f (at + 2 + expr_size l) r))
  collect_parts at (if_then_else c t e) = rw (append-nil (collect f (at + 1 + expr_size c + expr_size t) e))
  collect_parts at (pre e) = rw (append-nil (collect f (at + 1) e))
  collect_parts at (arrow a b) = rw (append-nil (collect f (at + 1 + expr_size a) b))
  collect_parts at (cast t e) = rw (append-nil (collect f (at + (1 + ty_size t)) e), sym (add_assoc at 1 (ty_size t)))
  collect_parts at (call k es) = refl
  collect_parts at (tuple es) = refl
  collect_parts at (index a i) = rw (append-nil (collect f (at + 1 + expr_size a) i))
  collect_parts at (literal es) = refl
  collect_parts at (map_over k es) = refl
  collect_parts at (fold_over k s es) = refl

pub callees_parts : (e : Expr) → callees e ≡ own_sites e ++ callees_all (parts_of e)
callees_parts (bool_lit b) = refl
callees_parts (int_lit i) = refl
callees_parts (float_lit b) = refl
callees_parts (char_lit c) = refl
callees_parts (var x) = refl
callees_parts (unary op e) = sym (append-nil (callees e))
callees_parts (binary op l r) = ap (λ (x : List ℕ). callees l ++ x) (sym (append-nil (callees r)))
callees_parts (if_then_else c t e) = ap (λ (x : List ℕ). callees c ++ (callees t ++ x)) (sym (append-nil (callees e)))
callees_parts (pre e) = sym (append-nil (callees e))
callees_parts (arrow a b) = ap (λ (x : List ℕ). callees a ++ x) (sym (append-nil (callees b)))
callees_parts (cast t e) = sym (append-nil (callees e))
callees_parts (call k es) = refl
callees_parts (tuple es) = refl
callees_parts (index a i) = ap (λ (x : List ℕ). callees a ++ x) (sym (append-nil (callees i)))
callees_parts (literal es) = refl
callees_parts (map_over k es) = refl
callees_parts (fold_over k s es) = refl

-- ---- bytes

get_some : (l : List ℕ) (i b : ℕ) → get_elem? l i ≡ some b → (i < length l) × (get_or l i 0 ≡ b)
get_some [] zero b h = let z : ◌≡◌ {A = ℕ} 0 1 = cc in absurd (omega arith)
get_some [] (suc i) b h = let z : ◌≡◌ {A = ℕ} 0 1 = cc in absurd (omega arith)
get_some (x ∷ l) zero b h = let z : x ≡ b = cc in (omega arith, z)
get_some (x ∷ l) (suc i) b h = let t = get_some l i b h in (omega (arith, t.0), t.1)

module _ (s : List ℕ) where
  -- a byte that was read
  pub record ByteIs (at b n : ℕ) : Type 0 where
    pub within : at < length s
    pub is : get_or s at 0 ≡ b
    pub ends : n ≡ at + 1

  pub byte_is : (at b n : ℕ) → byte s at ≡ got b n → ByteIs at b n
  unfolding byte
  byte_is at b n h = go (get_elem? s at) refl h
    where
      go : (o : Option ℕ) → get_elem? s at ≡ o → or_end s o at ≡ got b n → ByteIs at b n
      go none e h = let z : ◌≡◌ {A = ℕ} 0 1 = cc in absurd (omega arith)
      go (some c) e h = let t = get_some s at c e in record { within = t.0; is = t.1 ∙ same_item h; ends = sym (same_end h) }

  -- a byte that is a position in a table
  pub record CodeIs {A : Type 0} (table : List A) (at : ℕ) (a : A) (n : ℕ) : Type 0 where
    pub within : at < length s
    pub is : get_elem? table (get_or s at 0) ≡ some a
    pub ends : n ≡ at + 1

  pub code_is : {A : Type 0} (table : List A) (at : ℕ) (a : A) (n : ℕ) → coded s table at ≡ got a n → CodeIs table at a n
  unfolding coded
  code_is {A} table at a n h =
      let t = steps (byte s at) _ a n h in
      let p = byte_is at t.value t.at t.first in
      let q = go (get_elem? table t.value) t.at refl t.rest in
      record { within = p.within; is = ap (get_elem? table) p.is ∙ q.0; ends = sym q.1 ∙ p.ends }
    where
      go : (o : Option A) (m : ℕ) → get_elem? table (get_or s at 0) ≡ get_elem? table (get_or s at 0) → known at o m ≡ got a n → (o ≡ some a) × (m ≡ n)
      go none m e h = let z : ◌≡◌ {A = ℕ} 0 1 = cc in absurd (omega arith)
      go (some c) m e h = (ap some (same_item h), same_end h)

  -- a big-endian number that was read
  pub record NumberIs (k d at v n : ℕ) : Type 0 where
    pub within : at + k ≤ length s
    pub is : v ≡ number_of d (take k (drop at s))
    pub ends : n ≡ at + k

  pub number_is : (k d at v n : ℕ) → at ≤ length s → number s k d at ≡ got v n → NumberIs k d at v n
  unfolding number
  number_is zero d at v n w h = record { within = omega arith; is = sym (same_item h); ends = sym (same_end h) ∙ sym (add-zero at) }
  number_is (suc k) d at v n w h =
      let t = steps (byte s at) _ v n h in
      let p = byte_is at t.value t.at t.first in
      let q = number_is k (d * 256 + t.value) t.at v n (omega (arith, p.within, p.ends)) t.rest in
      let u : suc at ≡ t.at = omega (arith, p.ends) in
      let e : drop at s ≡ t.value ∷ drop t.at s = drop-cons s at 0 p.within ∙ (λ i. p.is i ∷ drop (u i) s) in
      record { within = omega (arith, q.within, p.ends); is = q.is ∙ ap (λ (l : List ℕ). number_of d (take (suc k) l)) (sym e); ends = omega (arith, q.ends, p.ends) }

  -- a count within its limits
  pub record CountIs (lo hi at c n : ℕ) : Type 0 where
    pub within : at < length s
    pub is : get_or s at 0 ≡ c
    pub least : lo ≤ c
    pub most : c ≤ hi
    pub ends : n ≡ at + 1

  pub count_is : (lo hi at c n : ℕ) → count_r s lo hi at ≡ got c n → CountIs lo hi at c n
  unfolding count_r
  count_is lo hi at c n h =
      let t = steps (byte s at) _ c n h in
      let p = byte_is at t.value t.at t.first in
      let q = go (leb lo t.value && leb t.value hi) t.value t.at refl t.rest in
      let v = T_and (leb lo t.value) (leb t.value hi) q.0 in
      let e : t.value ≡ c = q.1 in
      record {
        within = p.within;
        is = p.is ∙ e;
        least = omega (arith, leb→le lo t.value v.0);
        most = omega (arith, leb→le t.value hi v.1);
        ends = sym q.2 ∙ p.ends;
      }
    where
      go : (b : Bool) (d m : ℕ) → leb lo d && leb d hi ≡ b → within? s b at d m ≡ got c n → T (leb lo d && leb d hi) × (d ≡ c) × (m ≡ n)
      go true d m e h = (subst T (sym e) tt, same_item h, same_end h)
      go false d m e h = let z : ◌≡◌ {A = ℕ} 0 1 = cc in absurd (omega arith)

  -- ---- several expressions

  abbrev R : ℕ → Reader Expr
  R level = expr_r s (limits_at s) (enums_at s) level

  -- what is read is what stands there
  pub reads : (level at : ℕ) (e : Expr) (n : ℕ) → R level at ≡ got e n → Reads s level at × (expr_at s level at ≡ e) × (end_at s level at ≡ n)
  unfolding expr_at end_at
  reads level at e n h =
      let a : expr_at s level at ≡ e = ap (item_of (bool_lit false)) h in
      let b : end_at s level at ≡ n = ap end_of h in
      (record { is = h ∙ (λ i. got (sym a i) (sym b i)) }, a, b)

  pub reads_all_lem : (level k at : ℕ) (es : Exprs) (n : ℕ) → many_exprs k (R level) at ≡ got es n → ReadsAll s level k at × (exprs_at s level k at ≡ es) × (ends_at s level k at ≡ n)
  unfolding exprs_at ends_at
  reads_all_lem level k at es n h =
      let a : exprs_at s level k at ≡ es = ap (item_of nil) h in
      let b : ends_at s level k at ≡ n = ap end_of h in
      (record { are = h ∙ (λ i. got (sym a i) (sym b i)) }, a, b)

  -- the first of several, and the others behind it
  pub record Parted (level n at : ℕ) : Type 0 where
    pub head : Reads s level at
    pub tail : ReadsAll s level n (end_at s level at)
    pub trees : exprs_at s level (suc n) at ≡ cons (expr_at s level at) (exprs_at s level n (end_at s level at))
    pub ends : ends_at s level (suc n) at ≡ ends_at s level n (end_at s level at)

  pub parted : (level n at : ℕ) → ReadsAll s level (suc n) at → Parted level n at
  unfolding many_exprs
  parted level n at h =
      let t = steps (R level at) _ _ _ h.are in
      let u = steps (many_exprs n (R level) t.at) _ _ _ t.rest in
      let p = reads level at t.value t.at t.first in
      let q = reads_all_lem level n t.at u.value u.at u.first in
      let e = p.2 in
      record {
        head = p.0;
        tail = subst (λ (m : ℕ). ReadsAll s level n m) (sym e) q.0;
        trees = sym (same_item u.rest) ∙ (λ i. cons (sym p.1 i) ((sym q.1 ∙ ap (λ (m : ℕ). exprs_at s level n m) (sym e)) i));
        ends = sym (same_end u.rest) ∙ sym q.2 ∙ ap (λ (m : ℕ). ends_at s level n m) (sym e);
      }

  pub none_read : (level at : ℕ) → (exprs_at s level 0 at ≡ nil) × (ends_at s level 0 at ≡ at)
  unfolding exprs_at ends_at many_exprs
  none_read level at = (refl, refl)

  -- one, as several
  pub one_read : (level at : ℕ) → Reads s level at → ReadsAll s level 1 at
  unfolding many_exprs then_read
  one_read level at h = (reads_all_lem level 1 at (cons (expr_at s level at) nil) (end_at s level at) (rw h.is)).0

  pub one_tree : (level at : ℕ) → ReadsAll s level 1 at → (exprs_at s level 1 at ≡ cons (expr_at s level at) nil) × (ends_at s level 1 at ≡ end_at s level at)
  one_tree level at h =
      let p = parted level 0 at h in
      let q = none_read level (end_at s level at) in
      (p.trees ∙ ap (cons (expr_at s level at)) q.0, p.ends ∙ q.1)

  -- an expression ends behind its bytes
  pub reads_end : (level at : ℕ) → Reads s level at → end_at s level at ≡ at + expr_size (expr_at s level at)
  reads_end level at h = expr_ends s (limits_at s) (enums_at s) level at (expr_at s level at) (end_at s level at) h.is

  -- ---- the form at a place, by its code byte

  pub reads_deep : (level at : ℕ) → Reads s level at → 0 < level
  unfolding expr_r
  reads_deep zero at h = let t = steps (coded s expr_codes at) _ _ _ h.is in let z : ◌≡◌ {A = ℕ} 0 1 = cc t.rest in absurd (omega arith)
  reads_deep (suc n) at h = omega arith

  -- the code byte is known, and what follows it is read as its form
  pub record Body (level at : ℕ) (x : ExprCode) : Type 0 where
    pub within : at < length s
    pub deep : 0 < level
    pub body : expr_body s (limits_at s) (enums_at s) (R (level - 1)) x (at + 1) ≡ got (expr_at s level at) (end_at s level at)

  same_code : {A : Type 0} {a b : A} → some a ≡ some b → a ≡ b
  same_code h = cc

  pub body_at : (level at : ℕ) (x : ExprCode) → Reads s level at → get_elem? expr_codes (get_or s at 0) ≡ some x → Body level at x
  unfolding expr_r
  body_at zero at x h e = absurd (omega (arith, reads_deep zero at h))
  body_at (suc n) at x h e =
      let t = steps (coded s expr_codes at) _ _ _ h.is in
      let p = code_is expr_codes at t.value t.at t.first in
      let c : t.value ≡ x = same_code (sym p.is ∙ e) in
      let d : suc n - 1 ≡ n = omega arith in
      record {
        within = p.within;
        deep = omega arith;
        body = rw d (subst (λ (y : ExprCode). expr_body s (limits_at s) (enums_at s) (R n) y (at + 1) ≡ got (expr_at s (suc n) at) (end_at s (suc n) at)) c (rw p.ends at t.rest));
      }

  pub reads_in : (level at : ℕ) → Reads s level at → at < length s
  unfolding expr_r
  reads_in zero at h = absurd (omega (arith, reads_deep zero at h))
  reads_in (suc n) at h = let t = steps (coded s expr_codes at) _ _ _ h.is in (code_is expr_codes at t.value t.at t.first).within

  -- some code stands there
  pub some_code : (level at : ℕ) → Reads s level at → get_or s at 0 < 16
  unfolding expr_r
  some_code zero at h = absurd (omega (arith, reads_deep zero at h))
  some_code (suc n) at h =
      let t = steps (coded s expr_codes at) _ _ _ h.is in
      below (get_or s at 0) (code_is expr_codes at t.value t.at t.first).is
    where
      none_some : {x : ExprCode} → none ≡ some x → ⊥
      none_some e = let z : ◌≡◌ {A = ℕ} 0 1 = cc in omega arith

      below : (b : ℕ) {x : ExprCode} → get_elem? expr_codes b ≡ some x → b < 16
      below b e = go b 16 expr_codes refl e
        where
          go : (b n : ℕ) (l : List ExprCode) → length l ≡ n → {x : ExprCode} → get_elem? l b ≡ some x → b < n
          go zero n [] k e = absurd (none_some e)
          go (suc b) n [] k e = absurd (none_some e)
          go zero n (y ∷ l) k e = omega arith
          go (suc b) n (y ∷ l) k e = omega (arith, go b (length l) l refl e)

  -- the form t with n parts: what stands before them is inside the file
  pub record Formed (level at : ℕ) (t : Expr) (n : ℕ) : Type 0 where
    pub tree : expr_at s level at ≡ t
    pub parts : parts_of t ≡ exprs_at s (level - 1) n (at + head_of t)
    pub read : ReadsAll s (level - 1) n (at + head_of t)
    pub ends : end_at s level at ≡ ends_at s (level - 1) n (at + head_of t)
    pub inside : at + head_of t ≤ length s
    pub deep : 0 < level

  -- a chain goes on behind an expression
  record Part {A : Type 0} (level at : ℕ) (k : Expr → Reader A) (a : A) (n : ℕ) : Type 0 where
    read : Reads s level at
    rest : k (expr_at s level at) (end_at s level at) ≡ got a n

  part_at : {A : Type 0} (level p at : ℕ) (k : Expr → Reader A) (a : A) (n : ℕ) → p ≡ at → then_read (R level p) k ≡ got a n → Part level at k a n
  part_at level p at k a n e h =
      let h' = subst (λ (q : ℕ). then_read (R level q) k ≡ got a n) e h in
      let t = steps (R level at) k a n h' in
      let w = reads level at t.value t.at t.first in
      record { read = w.0; rest = (λ i. k (w.1 i) (w.2 i)) ∙ t.rest }

  record Many {A : Type 0} (level m at : ℕ) (k : Exprs → Reader A) (a : A) (n : ℕ) : Type 0 where
    read : ReadsAll s level m at
    rest : k (exprs_at s level m at) (ends_at s level m at) ≡ got a n

  many_at : {A : Type 0} (level m p at : ℕ) (k : Exprs → Reader A) (a : A) (n : ℕ) → p ≡ at → then_read (many_exprs m (R level) p) k ≡ got a n → Many level m at k a n
  many_at level m p at k a n e h =
      let h' = subst (λ (q : ℕ). then_read (many_exprs m (R level) q) k ≡ got a n) e h in
      let t = steps (many_exprs m (R level) at) k a n h' in
      let w = reads_all_lem level m at t.value t.at t.first in
      record { read = w.0; rest = (λ i. k (w.1 i) (w.2 i)) ∙ t.rest }

  none_all : (level at : ℕ) → ReadsAll s level 0 at
  unfolding exprs_at ends_at many_exprs
  none_all level at = record { are = refl }

  -- one, and n behind it
  pub cons_all_lem : (level n at : ℕ) → Reads s level at → ReadsAll s level n (end_at s level at) → ReadsAll s level (suc n) at
  unfolding many_exprs then_read
  cons_all_lem level n at p q = (reads_all_lem level (suc n) at (cons (expr_at s level at) (exprs_at s level n (end_at s level at))) (ends_at s level n (end_at s level at)) (rw (p.is, q.are))).0

  leaf : (level at : ℕ) (t : Expr) → expr_at s level at ≡ t → parts_of t ≡ nil → end_at s level at ≡ at + head_of t → at + head_of t ≤ length s → 0 < level → Formed level at t 0
  leaf level at t e z n i d =
      let q = none_read (level - 1) (at + head_of t) in
      record { tree = e; parts = z ∙ sym q.0; read = none_all (level - 1) (at + head_of t); ends = n ∙ sym q.1; inside = i; deep = d }

  -- 0 to 4: no parts

  bool_of : (c : ℕ) (b : Bool) → get_elem? bools c ≡ some b → (c < 2) × (b ≡ eqb c 1)
  bool_of zero b h = (omega arith, sym (same_code h))
  bool_of (suc zero) b h = (omega arith, sym (same_code h))
  bool_of (suc (suc zero)) b h = let z : ◌≡◌ {A = ℕ} 0 1 = cc in absurd (omega arith)
  bool_of (suc (suc (suc c))) b h = let z : ◌≡◌ {A = ℕ} 0 1 = cc in absurd (omega arith)

  pub bool_form : (level at : ℕ) → Reads s level at → get_or s at 0 ≡ 0 → Formed level at (bool_lit (eqb (get_or s (at + 1) 0) 1)) 0 × (get_or s (at + 1) 0 < 2)
  bool_form level at h c =
      let b = body_at level at bool_code h (ap (get_elem? expr_codes) c) in
      let t = steps (coded s bools (at + 1)) _ _ _ b.body in
      let p = code_is bools (at + 1) t.value t.at t.first in
      let v = bool_of (get_or s (at + 1) 0) t.value p.is in
      (leaf level at _ (sym (same_item t.rest) ∙ ap bool_lit v.1) refl (omega (arith, same_end t.rest, p.ends)) (omega (arith, p.within)) b.deep, v.0)

  pub int_form : (level at : ℕ) → Reads s level at → get_or s at 0 ≡ 1 → Formed level at (int_lit (signed 64 (number_of 0 (take 8 (drop (at + 1) s))))) 0
  int_form level at h c =
      let b = body_at level at int_code h (ap (get_elem? expr_codes) c) in
      let t = steps (number s 8 0 (at + 1)) _ _ _ b.body in
      let p = number_is 8 0 (at + 1) t.value t.at (omega (arith, b.within)) t.first in
      leaf level at _ (sym (same_item t.rest) ∙ ap (λ (n : ℕ). int_lit (signed 64 n)) p.is) refl (omega (arith, same_end t.rest, p.ends)) (omega (arith, p.within)) b.deep

  pub float_form : (level at : ℕ) → Reads s level at → get_or s at 0 ≡ 2 → Formed level at (float_lit (number_of 0 (take 8 (drop (at + 1) s)))) 0
  float_form level at h c =
      let b = body_at level at float_code h (ap (get_elem? expr_codes) c) in
      let t = steps (number s 8 0 (at + 1)) _ _ _ b.body in
      let p = number_is 8 0 (at + 1) t.value t.at (omega (arith, b.within)) t.first in
      leaf level at _ (sym (same_item t.rest) ∙ ap float_lit p.is) refl (omega (arith, same_end t.rest, p.ends)) (omega (arith, p.within)) b.deep

  pub char_form : (level at : ℕ) → Reads s level at → get_or s at 0 ≡ 3 → Formed level at (char_lit (get_or s (at + 1) 0)) 0
  char_form level at h c =
      let b = body_at level at char_code h (ap (get_elem? expr_codes) c) in
      let t = steps (byte s (at + 1)) _ _ _ b.body in
      let p = byte_is (at + 1) t.value t.at t.first in
      leaf level at _ (sym (same_item t.rest) ∙ ap char_lit (sym p.is)) refl (omega (arith, same_end t.rest, p.ends)) (omega (arith, p.within)) b.deep

  pub var_form : (level at : ℕ) → Reads s level at → get_or s at 0 ≡ 4 → Formed level at (var (number_of 0 (take 2 (drop (at + 1) s)))) 0
  var_form level at h c =
      let b = body_at level at var_code h (ap (get_elem? expr_codes) c) in
      let t = steps (number s 2 0 (at + 1)) _ _ _ b.body in
      let p = number_is 2 0 (at + 1) t.value t.at (omega (arith, b.within)) t.first in
      leaf level at _ (sym (same_item t.rest) ∙ ap var p.is) refl (omega (arith, same_end t.rest, p.ends)) (omega (arith, p.within)) b.deep

  -- 5 to 10: one to three parts

  -- one, two and three expressions in sequence
  abbrev pub first : ℕ → ℕ → Expr
  first level at = expr_at s level at

  abbrev pub second : ℕ → ℕ → Expr
  second level at = expr_at s level (end_at s level at)

  abbrev pub third : ℕ → ℕ → Expr
  third level at = expr_at s level (end_at s level (end_at s level at))

  one_all : (level at : ℕ) → Reads s level at → (exprs_at s level 1 at ≡ cons (first level at) nil) × (ends_at s level 1 at ≡ end_at s level at)
  one_all level at h = one_tree level at (one_read level at h)

  two_all : (level at : ℕ) → ReadsAll s level 2 at → (exprs_at s level 2 at ≡ cons (first level at) (cons (second level at) nil)) × (ends_at s level 2 at ≡ end_at s level (end_at s level at))
  two_all level at h =
      let p = parted level 1 at h in
      let q = one_tree level (end_at s level at) p.tail in
      (p.trees ∙ ap (cons (first level at)) q.0, p.ends ∙ q.1)

  three_all : (level at : ℕ) → ReadsAll s level 3 at → (exprs_at s level 3 at ≡ cons (first level at) (cons (second level at) (cons (third level at) nil))) × (ends_at s level 3 at ≡ end_at s level (end_at s level (end_at s level at)))
  three_all level at h =
      let p = parted level 2 at h in
      let q = two_all level (end_at s level at) p.tail in
      (p.trees ∙ ap (cons (first level at)) q.0, p.ends ∙ q.1)

  pub unary_form : (level at : ℕ) → Reads s level at → get_or s at 0 ≡ 5 → (op : UnaryOp) × Formed level at (unary op (first (level - 1) (at + 2))) 1 × (get_elem? unary_ops (get_or s (at + 1) 0) ≡ some op)
  unary_form level at h c =
      let b = body_at level at unary_code h (ap (get_elem? expr_codes) c) in
      let t = steps (coded s unary_ops (at + 1)) _ _ _ b.body in
      let p = code_is unary_ops (at + 1) t.value t.at t.first in
      let w = part_at (level - 1) t.at (at + 2) _ _ _ (omega (arith, p.ends)) t.rest in
      let o = one_all (level - 1) (at + 2) w.read in
      (t.value, record { tree = sym (same_item w.rest); parts = sym o.0; read = one_read (level - 1) (at + 2) w.read; ends = sym (same_end w.rest) ∙ sym o.1; inside = omega (arith, p.within); deep = b.deep }, p.is)

  pub binary_form : (level at : ℕ) → Reads s level at → get_or s at 0 ≡ 6 → (op : BinOp) × Formed level at (binary op (first (level - 1) (at + 2)) (second (level - 1) (at + 2))) 2 × (get_elem? bin_ops (get_or s (at + 1) 0) ≡ some op)
  binary_form level at h c =
      let b = body_at level at binary_code h (ap (get_elem? expr_codes) c) in
      let t = steps (coded s bin_ops (at + 1)) _ _ _ b.body in
      let p = code_is bin_ops (at + 1) t.value t.at t.first in
      let w = part_at (level - 1) t.at (at + 2) _ _ _ (omega (arith, p.ends)) t.rest in
      let v = part_at (level - 1) _ (end_at s (level - 1) (at + 2)) _ _ _ refl w.rest in
      let r = cons_all_lem (level - 1) 1 (at + 2) w.read (one_read (level - 1) _ v.read) in
      let o = two_all (level - 1) (at + 2) r in
      (t.value, record { tree = sym (same_item v.rest); parts = sym o.0; read = r; ends = sym (same_end v.rest) ∙ sym o.1; inside = omega (arith, p.within); deep = b.deep }, p.is)

  pub if_form : (level at : ℕ) → Reads s level at → get_or s at 0 ≡ 7 → Formed level at (if_then_else (first (level - 1) (at + 1)) (second (level - 1) (at + 1)) (third (level - 1) (at + 1))) 3
  if_form level at h c =
      let b = body_at level at if_code h (ap (get_elem? expr_codes) c) in
      let w = part_at (level - 1) (at + 1) (at + 1) _ _ _ refl b.body in
      let v = part_at (level - 1) _ (end_at s (level - 1) (at + 1)) _ _ _ refl w.rest in
      let u = part_at (level - 1) _ (end_at s (level - 1) (end_at s (level - 1) (at + 1))) _ _ _ refl v.rest in
      let r = cons_all_lem (level - 1) 2 (at + 1) w.read (cons_all_lem (level - 1) 1 _ v.read (one_read (level - 1) _ u.read)) in
      let o = three_all (level - 1) (at + 1) r in
      record { tree = sym (same_item u.rest); parts = sym o.0; read = r; ends = sym (same_end u.rest) ∙ sym o.1; inside = omega (arith, b.within); deep = b.deep }

  pub pre_form : (level at : ℕ) → Reads s level at → get_or s at 0 ≡ 8 → Formed level at (pre (first (level - 1) (at + 1))) 1
  pre_form level at h c =
      let b = body_at level at pre_code h (ap (get_elem? expr_codes) c) in
      let w = part_at (level - 1) (at + 1) (at + 1) _ _ _ refl b.body in
      let o = one_all (level - 1) (at + 1) w.read in
      record { tree = sym (same_item w.rest); parts = sym o.0; read = one_read (level - 1) (at + 1) w.read; ends = sym (same_end w.rest) ∙ sym o.1; inside = omega (arith, b.within); deep = b.deep }

  pub arrow_form : (level at : ℕ) → Reads s level at → get_or s at 0 ≡ 9 → Formed level at (arrow (first (level - 1) (at + 1)) (second (level - 1) (at + 1))) 2
  arrow_form level at h c =
      let b = body_at level at arrow_code h (ap (get_elem? expr_codes) c) in
      let w = part_at (level - 1) (at + 1) (at + 1) _ _ _ refl b.body in
      let v = part_at (level - 1) _ (end_at s (level - 1) (at + 1)) _ _ _ refl w.rest in
      let r = cons_all_lem (level - 1) 1 (at + 1) w.read (one_read (level - 1) _ v.read) in
      let o = two_all (level - 1) (at + 1) r in
      record { tree = sym (same_item v.rest); parts = sym o.0; read = r; ends = sym (same_end v.rest) ∙ sym o.1; inside = omega (arith, b.within); deep = b.deep }

  -- a type that was read

  code_number : TyCode → ℕ
  code_number bool_t = 0
  code_number (int_t c) = c
  code_number float32_t = 9
  code_number float64_t = 10
  code_number char_t = 11
  code_number enum_t = 12

  code_size : TyCode → ℕ
  code_size bool_t = 1
  code_size (int_t c) = 1
  code_size float32_t = 1
  code_size float64_t = 1
  code_size char_t = 1
  code_size enum_t = 2

  CodeProper : TyCode → Type 0
  CodeProper bool_t = Unit {0}
  CodeProper (int_t c) = (1 ≤ c) × (c ≤ 8)
  CodeProper float32_t = Unit {0}
  CodeProper float64_t = Unit {0}
  CodeProper char_t = Unit {0}
  CodeProper enum_t = Unit {0}

  type_code : (b : ℕ) (c : TyCode) → get_elem? ty_codes b ≡ some c → (code_number c ≡ b) × (code_size c ≡ cond (eqb b 12) 2 1) × CodeProper c
  unfolding code_number code_size CodeProper
  type_code zero c h = (ap code_number (sym (same_code h)), ap code_size (sym (same_code h)), subst CodeProper (same_code h) tt)
  type_code (suc zero) c h = (ap code_number (sym (same_code h)), ap code_size (sym (same_code h)), subst CodeProper (same_code h) (omega arith, omega arith))
  type_code (suc (suc zero)) c h = (ap code_number (sym (same_code h)), ap code_size (sym (same_code h)), subst CodeProper (same_code h) (omega arith, omega arith))
  type_code (suc (suc (suc zero))) c h = (ap code_number (sym (same_code h)), ap code_size (sym (same_code h)), subst CodeProper (same_code h) (omega arith, omega arith))
  type_code (suc (suc (suc (suc zero)))) c h = (ap code_number (sym (same_code h)), ap code_size (sym (same_code h)), subst CodeProper (same_code h) (omega arith, omega arith))
  type_code (suc (suc (suc (suc (suc zero))))) c h = (ap code_number (sym (same_code h)), ap code_size (sym (same_code h)), subst CodeProper (same_code h) (omega arith, omega arith))
  type_code (suc (suc (suc (suc (suc (suc zero)))))) c h = (ap code_number (sym (same_code h)), ap code_size (sym (same_code h)), subst CodeProper (same_code h) (omega arith, omega arith))
  type_code (suc (suc (suc (suc (suc (suc (suc zero))))))) c h = (ap code_number (sym (same_code h)), ap code_size (sym (same_code h)), subst CodeProper (same_code h) (omega arith, omega arith))
  type_code (suc (suc (suc (suc (suc (suc (suc (suc zero)))))))) c h = (ap code_number (sym (same_code h)), ap code_size (sym (same_code h)), subst CodeProper (same_code h) (omega arith, omega arith))
  type_code (suc (suc (suc (suc (suc (suc (suc (suc (suc zero))))))))) c h = (ap code_number (sym (same_code h)), ap code_size (sym (same_code h)), subst CodeProper (same_code h) tt)
  type_code (suc (suc (suc (suc (suc (suc (suc (suc (suc (suc zero)))))))))) c h = (ap code_number (sym (same_code h)), ap code_size (sym (same_code h)), subst CodeProper (same_code h) tt)
  type_code (suc (suc (suc (suc (suc (suc (suc (suc (suc (suc (suc zero))))))))))) c h = (ap code_number (sym (same_code h)), ap code_size (sym (same_code h)), subst CodeProper (same_code h) tt)
  type_code (suc (suc (suc (suc (suc (suc (suc (suc (suc (suc (suc (suc zero)))))))))))) c h = (ap code_number (sym (same_code h)), ap code_size (sym (same_code h)), subst CodeProper (same_code h) tt)
  type_code (suc (suc (suc (suc (suc (suc (suc (suc (suc (suc (suc (suc (suc zero))))))))))))) c h = let z : ◌≡◌ {A = ℕ} 0 1 = cc in absurd (omega arith)
  type_code (suc (suc (suc (suc (suc (suc (suc (suc (suc (suc (suc (suc (suc (suc b)))))))))))))) c h = let z : ◌≡◌ {A = ℕ} 0 1 = cc in absurd (omega arith)

  pub record TypeIs (at : ℕ) (t : Ty) (n : ℕ) : Type 0 where
    pub code : ty_code t ≡ get_or s at 0
    pub size : ty_size t ≡ cond (eqb (get_or s at 0) 12) 2 1
    pub proper : Proper t
    pub inside : at + ty_size t ≤ length s
    pub ends : n ≡ at + ty_size t

  type_body : (c : TyCode) (at m : ℕ) (t : Ty) (n : ℕ) → at < length s → m ≡ at + 1 → code_number c ≡ get_or s at 0 → code_size c ≡ cond (eqb (get_or s at 0) 12) 2 1 → CodeProper c → ty_body s (limits_at s) (enums_at s) c m ≡ got t n → TypeIs at t n
  unfolding code_number code_size CodeProper
  type_body bool_t at m t n w e c z o h = rw (← same_item h) (record { code = c; size = z; proper = o; inside = omega arith; ends = sym (same_end h) ∙ e })
  type_body float32_t at m t n w e c z o h = rw (← same_item h) (record { code = c; size = z; proper = o; inside = omega arith; ends = sym (same_end h) ∙ e })
  type_body float64_t at m t n w e c z o h = rw (← same_item h) (record { code = c; size = z; proper = o; inside = omega arith; ends = sym (same_end h) ∙ e })
  type_body char_t at m t n w e c z o h = rw (← same_item h) (record { code = c; size = z; proper = o; inside = omega arith; ends = sym (same_end h) ∙ e })
  type_body enum_t at m t n w e c z o h =
      let u = steps (coded s _ m) _ t n h in
      let p = code_is _ m u.value u.at u.first in
      rw (← same_item u.rest) (record { code = c; size = z; proper = o; inside = omega (arith, p.within); ends = sym (same_end u.rest) ∙ omega (arith, p.ends) })
  type_body (int_t k) at m t n w e c z o h = rw (← same_item h) (record { code = c; size = z; proper = o; inside = omega arith; ends = sym (same_end h) ∙ e })

  pub type_is : (at : ℕ) (t : Ty) (n : ℕ) → ty_r s (limits_at s) (enums_at s) at ≡ got t n → TypeIs at t n
  type_is at t n h =
      let u = steps (coded s ty_codes at) _ t n h in
      let p = code_is ty_codes at u.value u.at u.first in
      type_body u.value at u.at t n p.within p.ends (type_code (get_or s at 0) u.value p.is).0 (type_code (get_or s at 0) u.value p.is).1 (type_code (get_or s at 0) u.value p.is).2 u.rest

  pub cast_form : (level at : ℕ) → Reads s level at → get_or s at 0 ≡ 10 → (t : Ty) × Formed level at (cast t (first (level - 1) (at + (1 + ty_size t)))) 1 × (ty_code t ≡ get_or s (at + 1) 0) × (ty_size t ≡ cond (eqb (get_or s (at + 1) 0) 12) 2 1) × Proper t
  cast_form level at h c =
      let b = body_at level at cast_code h (ap (get_elem? expr_codes) c) in
      let t = steps (ty_r s (limits_at s) (enums_at s) (at + 1)) _ _ _ b.body in
      let p = type_is (at + 1) t.value t.at t.first in
      let m = at + (1 + ty_size t.value) in
      let w = part_at (level - 1) t.at m _ _ _ (omega (arith, p.ends)) t.rest in
      let o = one_all (level - 1) m w.read in
      (t.value, record { tree = sym (same_item w.rest); parts = sym o.0; read = one_read (level - 1) m w.read; ends = sym (same_end w.rest) ∙ sym o.1; inside = omega (arith, p.inside); deep = b.deep }, p.code, p.size, p.proper)

  -- 11 and 12: a callee, and so many parts

  -- every format byte has the same limits, or none
  pub limits_base : limits_at s ≡ base
  limits_base = go (eqb (get_or s 0 0) 1)
    where
      go : (b : Bool) → maybe base (λ l. l) (cond b (some base) none) ≡ base
      go true = refl
      go false = refl

  pub call_form : (level at : ℕ) → Reads s level at → get_or s at 0 ≡ 11 → Formed level at (call (get_or s (at + 1) 0) (exprs_at s (level - 1) (get_or s (at + 2) 0) (at + 3))) (get_or s (at + 2) 0) × (get_or s (at + 2) 0 ≤ 32)
  call_form level at h c =
      let b = body_at level at call_code h (ap (get_elem? expr_codes) c) in
      let t = steps (byte s (at + 1)) _ _ _ b.body in
      let p = byte_is (at + 1) t.value t.at t.first in
      let a : t.at ≡ at + 2 = omega (arith, p.ends) in
      let u = steps (count_r s 0 (limits_at s).arguments t.at) _ _ _ t.rest in
      let q = subst (λ (k : ℕ). CountIs 0 (limits_at s).arguments k u.value u.at) a (count_is 0 (limits_at s).arguments t.at u.value u.at u.first) in
      let w = many_at (level - 1) u.value u.at (at + 3) _ _ _ (omega (arith, q.ends)) u.rest in
      let r = subst (λ (k : ℕ). ReadsAll s (level - 1) k (at + 3)) (sym q.is) w.read in (
        record {
          tree = sym (same_item w.rest) ∙ (λ i. call (sym p.is i) (exprs_at s (level - 1) (sym q.is i) (at + 3)));
          parts = refl;
          read = r;
          ends = sym (same_end w.rest) ∙ ap (λ (k : ℕ). ends_at s (level - 1) k (at + 3)) (sym q.is);
          inside = omega (arith, q.within);
          deep = b.deep;
        },
        omega (arith, q.is, q.most, ap (λ (l : Limits). l.arguments) limits_base),
      )

  pub tuple_form : (level at : ℕ) → Reads s level at → get_or s at 0 ≡ 12 → Formed level at (tuple (exprs_at s (level - 1) (get_or s (at + 1) 0) (at + 2))) (get_or s (at + 1) 0) × (get_or s (at + 1) 0 ≤ 16)
  tuple_form level at h c =
      let b = body_at level at tuple_code h (ap (get_elem? expr_codes) c) in
      let u = steps (count_r s 2 (limits_at s).items (at + 1)) _ _ _ b.body in
      let q = count_is 2 (limits_at s).items (at + 1) u.value u.at u.first in
      let w = many_at (level - 1) u.value u.at (at + 2) _ _ _ (omega (arith, q.ends)) u.rest in (
        record {
          tree = sym (same_item w.rest) ∙ (λ i. tuple (exprs_at s (level - 1) (sym q.is i) (at + 2)));
          parts = refl;
          read = subst (λ (k : ℕ). ReadsAll s (level - 1) k (at + 2)) (sym q.is) w.read;
          ends = sym (same_end w.rest) ∙ ap (λ (k : ℕ). ends_at s (level - 1) k (at + 2)) (sym q.is);
          inside = omega (arith, q.within);
          deep = b.deep;
        },
        omega (arith, q.is, q.most, ap (λ (l : Limits). l.items) limits_base),
      )

  -- 13 and 14: an index and its array, a literal's items

  pub index_form : (level at : ℕ) → Reads s level at → get_or s at 0 ≡ 13 → Formed level at (index (first (level - 1) (at + 1)) (second (level - 1) (at + 1))) 2
  index_form level at h c =
      let b = body_at level at index_code h (ap (get_elem? expr_codes) c) in
      let w = part_at (level - 1) (at + 1) (at + 1) _ _ _ refl b.body in
      let v = part_at (level - 1) _ (end_at s (level - 1) (at + 1)) _ _ _ refl w.rest in
      let r = cons_all_lem (level - 1) 1 (at + 1) w.read (one_read (level - 1) _ v.read) in
      let o = two_all (level - 1) (at + 1) r in
      record { tree = sym (same_item v.rest); parts = sym o.0; read = r; ends = sym (same_end v.rest) ∙ sym o.1; inside = omega (arith, b.within); deep = b.deep }

  pub literal_form : (level at : ℕ) → Reads s level at → get_or s at 0 ≡ 14 → Formed level at (literal (exprs_at s (level - 1) (get_or s (at + 1) 0) (at + 2))) (get_or s (at + 1) 0) × (1 ≤ get_or s (at + 1) 0) × (get_or s (at + 1) 0 ≤ 32)
  literal_form level at h c =
      let b = body_at level at literal_code h (ap (get_elem? expr_codes) c) in
      let u = steps (count_r s 1 (limits_at s).elements (at + 1)) _ _ _ b.body in
      let q = count_is 1 (limits_at s).elements (at + 1) u.value u.at u.first in
      let w = many_at (level - 1) u.value u.at (at + 2) _ _ _ (omega (arith, q.ends)) u.rest in (
        record {
          tree = sym (same_item w.rest) ∙ (λ i. literal (exprs_at s (level - 1) (sym q.is i) (at + 2)));
          parts = refl;
          read = subst (λ (k : ℕ). ReadsAll s (level - 1) k (at + 2)) (sym q.is) w.read;
          ends = sym (same_end w.rest) ∙ ap (λ (k : ℕ). ends_at s (level - 1) k (at + 2)) (sym q.is);
          inside = omega (arith, q.within);
          deep = b.deep;
        },
        omega (arith, q.is, q.least),
        omega (arith, q.is, q.most, ap (λ (l : Limits). l.elements) limits_base),
      )

  -- 15: an iterator's kind, its node and the number of its arrays; then a fold's seed, and the arrays

  record IteratorIs (level at : ℕ) (w : Iterator) : Type 0 where
    kind : get_elem? iterators (get_or s (at + 1) 0) ≡ some w
    few : get_or s (at + 3) 0 ≤ 32
    inside : at + 4 ≤ length s
    deep : 0 < level
    body : iterator_body s (limits_at s) (enums_at s) (R (level - 1)) (get_or s (at + 2) 0) (get_or s (at + 3) 0) w (at + 4) ≡ got (expr_at s level at) (end_at s level at)

  iterator_is : (level at : ℕ) → Reads s level at → get_or s at 0 ≡ 15 → (w : Iterator) × IteratorIs level at w
  iterator_is level at h c =
      let b = body_at level at iterator_code h (ap (get_elem? expr_codes) c) in
      let t = steps (coded s iterators (at + 1)) _ _ _ b.body in
      let p = code_is iterators (at + 1) t.value t.at t.first in
      let u = steps (byte s t.at) _ _ _ t.rest in
      let q = byte_is t.at u.value u.at u.first in
      let v = steps (count_r s 0 (limits_at s).arrays u.at) _ _ _ u.rest in
      let o = count_is 0 (limits_at s).arrays u.at v.value v.at v.first in
      let a2 : t.at ≡ at + 2 = omega (arith, p.ends) in
      let a3 : u.at ≡ at + 3 = omega (arith, q.ends, a2) in
      let a4 : v.at ≡ at + 4 = omega (arith, o.ends, a3) in
      let node : u.value ≡ get_or s (at + 2) 0 = sym q.is ∙ ap (λ n. get_or s n 0) a2 in
      let many : v.value ≡ get_or s (at + 3) 0 = rw (← a3) (sym o.is) in (
        t.value,
        record {
          kind = p.is;
          few = omega (arith, o.most, many, ap (λ (l : Limits). l.arrays) limits_base);
          inside = omega (arith, o.within, a3);
          deep = b.deep;
          body = rw (← node, ← many, ← a4) v.rest;
        },
      )

  -- an iterator's kind, by its byte
  pub iterator_of : (c : ℕ) (w : Iterator) → get_elem? iterators c ≡ some w → (c < 2) × (w ≡ cond (eqb c 1) folds maps)
  iterator_of zero w h = (omega arith, sym (same_code h))
  iterator_of (suc zero) w h = (omega arith, sym (same_code h))
  iterator_of (suc (suc zero)) w h = let z : ◌≡◌ {A = ℕ} 0 1 = cc in absurd (omega arith)
  iterator_of (suc (suc (suc c))) w h = let z : ◌≡◌ {A = ℕ} 0 1 = cc in absurd (omega arith)

  -- the kind is 0, a map, or 1, a fold
  pub iterator_kind : (level at : ℕ) → Reads s level at → get_or s at 0 ≡ 15 → get_or s (at + 1) 0 < 2
  iterator_kind level at h c = let w = iterator_is level at h c in (iterator_of (get_or s (at + 1) 0) w.0 w.1.kind).0

  pub map_form : (level at : ℕ) → Reads s level at → get_or s at 0 ≡ 15 → get_or s (at + 1) 0 ≡ 0 → Formed level at (map_over (get_or s (at + 2) 0) (exprs_at s (level - 1) (get_or s (at + 3) 0) (at + 4))) (get_or s (at + 3) 0) × (get_or s (at + 3) 0 ≤ 32)
  map_form level at h c z =
      let w = iterator_is level at h c in
      let k : w.0 ≡ maps = (iterator_of (get_or s (at + 1) 0) w.0 w.1.kind).1 ∙ ap (λ n. cond (eqb n 1) folds maps) z in
      let body = subst (λ (x : Iterator). iterator_body s (limits_at s) (enums_at s) (R (level - 1)) (get_or s (at + 2) 0) (get_or s (at + 3) 0) x (at + 4) ≡ got (expr_at s level at) (end_at s level at)) k w.1.body in
      let m = many_at (level - 1) (get_or s (at + 3) 0) (at + 4) (at + 4) _ _ _ refl body in
      (record { tree = sym (same_item m.rest); parts = refl; read = m.read; ends = sym (same_end m.rest); inside = w.1.inside; deep = w.1.deep }, w.1.few)

  pub fold_form : (level at : ℕ) → Reads s level at → get_or s at 0 ≡ 15 → get_or s (at + 1) 0 ≡ 1
      → Formed level at (fold_over (get_or s (at + 2) 0) (first (level - 1) (at + 4)) (exprs_at s (level - 1) (get_or s (at + 3) 0) (end_at s (level - 1) (at + 4)))) (suc (get_or s (at + 3) 0)) × (get_or s (at + 3) 0 ≤ 32)
  fold_form level at h c z =
      let w = iterator_is level at h c in
      let n = get_or s (at + 3) 0 in
      let k : w.0 ≡ folds = (iterator_of (get_or s (at + 1) 0) w.0 w.1.kind).1 ∙ ap (λ n. cond (eqb n 1) folds maps) z in
      let body = subst (λ (x : Iterator). iterator_body s (limits_at s) (enums_at s) (R (level - 1)) (get_or s (at + 2) 0) n x (at + 4) ≡ got (expr_at s level at) (end_at s level at)) k w.1.body in
      let v = part_at (level - 1) (at + 4) (at + 4) _ _ _ refl body in
      let m = many_at (level - 1) n (end_at s (level - 1) (at + 4)) (end_at s (level - 1) (at + 4)) _ _ _ refl v.rest in
      let r = cons_all_lem (level - 1) n (at + 4) v.read m.read in
      let o = parted (level - 1) n (at + 4) r in
      (record { tree = sym (same_item m.rest); parts = sym o.trees; read = r; ends = sym (same_end m.rest) ∙ sym o.ends; inside = w.1.inside; deep = w.1.deep }, w.1.few)

  -- what holds of every form with its code holds of the form at a place
  pub by_form : (P : ℕ → Expr → Type 0)
      → ((b : Bool) → P 0 (bool_lit b)) → ((i : ℤ) → P 1 (int_lit i)) → ((n : ℕ) → P 2 (float_lit n)) → ((c : ℕ) → P 3 (char_lit c)) → ((x : ℕ) → P 4 (var x))
      → ((op : UnaryOp) (e : Expr) → P 5 (unary op e)) → ((op : BinOp) (l r : Expr) → P 6 (binary op l r)) → ((c t e : Expr) → P 7 (if_then_else c t e))
      → ((e : Expr) → P 8 (pre e)) → ((a b : Expr) → P 9 (arrow a b)) → ((t : Ty) (e : Expr) → P 10 (cast t e)) → ((k : ℕ) (es : Exprs) → P 11 (call k es))
      → ((es : Exprs) → P 12 (tuple es)) → ((a i : Expr) → P 13 (index a i)) → ((es : Exprs) → P 14 (literal es)) → ((k : ℕ) (es : Exprs) → P 15 (map_over k es))
      → ((k : ℕ) (e : Expr) (es : Exprs) → P 15 (fold_over k e es)) → (level at : ℕ) → Reads s level at → P (get_or s at 0) (expr_at s level at)
  by_form P p0 p1 p2 p3 p4 p5 p6 p7 p8 p9 p10 p11 p12 p13 p14 p15 p16 level at h = go (get_or s at 0) refl (some_code level at h)
    where
      iterated : get_or s at 0 ≡ 15 → (k : ℕ) → get_or s (at + 1) 0 ≡ k → k < 2 → P 15 (expr_at s level at)
      iterated e zero z l = subst (P 15) (sym (map_form level at h e z).0.tree) (p15 _ _)
      iterated e (suc zero) z l = subst (P 15) (sym (fold_form level at h e z).0.tree) (p16 _ _ _)
      iterated e (suc (suc k)) z l = absurd (omega arith)

      go : (b : ℕ) → get_or s at 0 ≡ b → b < 16 → P b (expr_at s level at)
      go zero e l = subst (P 0) (sym (bool_form level at h e).0.tree) (p0 _)
      go (suc zero) e l = subst (P 1) (sym (int_form level at h e).tree) (p1 _)
      go (suc (suc zero)) e l = subst (P 2) (sym (float_form level at h e).tree) (p2 _)
      go (suc (suc (suc zero))) e l = subst (P 3) (sym (char_form level at h e).tree) (p3 _)
      go (suc (suc (suc (suc zero)))) e l = subst (P 4) (sym (var_form level at h e).tree) (p4 _)
      go (suc (suc (suc (suc (suc zero))))) e l = subst (P 5) (sym (unary_form level at h e).1.tree) (p5 _ _)
      go (suc (suc (suc (suc (suc (suc zero)))))) e l = subst (P 6) (sym (binary_form level at h e).1.tree) (p6 _ _ _)
      go (suc (suc (suc (suc (suc (suc (suc zero))))))) e l = subst (P 7) (sym (if_form level at h e).tree) (p7 _ _ _)
      go (suc (suc (suc (suc (suc (suc (suc (suc zero)))))))) e l = subst (P 8) (sym (pre_form level at h e).tree) (p8 _)
      go (suc (suc (suc (suc (suc (suc (suc (suc (suc zero))))))))) e l = subst (P 9) (sym (arrow_form level at h e).tree) (p9 _ _)
      go (suc (suc (suc (suc (suc (suc (suc (suc (suc (suc zero)))))))))) e l = subst (P 10) (sym (cast_form level at h e).1.tree) (p10 _ _)
      go (suc (suc (suc (suc (suc (suc (suc (suc (suc (suc (suc zero))))))))))) e l = subst (P 11) (sym (call_form level at h e).0.tree) (p11 _ _)
      go (suc (suc (suc (suc (suc (suc (suc (suc (suc (suc (suc (suc zero)))))))))))) e l = subst (P 12) (sym (tuple_form level at h e).0.tree) (p12 _)
      go (suc (suc (suc (suc (suc (suc (suc (suc (suc (suc (suc (suc (suc zero))))))))))))) e l = subst (P 13) (sym (index_form level at h e).tree) (p13 _ _)
      go (suc (suc (suc (suc (suc (suc (suc (suc (suc (suc (suc (suc (suc (suc zero)))))))))))))) e l = subst (P 14) (sym (literal_form level at h e).0.tree) (p14 _)
      go (suc (suc (suc (suc (suc (suc (suc (suc (suc (suc (suc (suc (suc (suc (suc zero))))))))))))))) e l = iterated e (get_or s (at + 1) 0) refl (iterator_kind level at h e)
      go (suc (suc (suc (suc (suc (suc (suc (suc (suc (suc (suc (suc (suc (suc (suc (suc b)))))))))))))))) e l = absurd (omega arith)

  -- ---- what is collected from several expressions is the first's, and the others' from where it ends

  pub collected : {B : Type 0} (f : ℕ → Expr → List B) (level n at : ℕ) → ReadsAll s level (suc n) at → collect_all f at (exprs_at s level (suc n) at) ≡ collect f at (expr_at s level at) ++ collect_all f (end_at s level at) (exprs_at s level n (end_at s level at))
  unfolding collect_all
  collected f level n at h =
      let p = parted level n at h in
      rw (p.trees, sym (reads_end level at p.head))

  pub callees_all_lem : (level n at : ℕ) → ReadsAll s level (suc n) at → callees_all (exprs_at s level (suc n) at) ≡ callees (expr_at s level at) ++ callees_all (exprs_at s level n (end_at s level at))
  callees_all_lem level n at h = ap callees_all (parted level n at h).trees

  -- what is collected from a form is its own, and its parts'
  pub collected_form : {B : Type 0} (f : ℕ → Expr → List B) (level at : ℕ) (t : Expr) (n : ℕ) → Formed level at t n → collect f at (expr_at s level at) ≡ f at t ++ collect_all f (at + head_of t) (exprs_at s (level - 1) n (at + head_of t))
  collected_form f level at t n h = ap (collect f at) h.tree ∙ collect_parts f at t ∙ ap (λ (es : Exprs). f at t ++ collect_all f (at + head_of t) es) h.parts

  pub callees_form : (level at : ℕ) (t : Expr) (n : ℕ) → Formed level at t n → callees (expr_at s level at) ≡ own_sites t ++ callees_all (exprs_at s (level - 1) n (at + head_of t))
  callees_form level at t n h = ap callees h.tree ∙ callees_parts t ∙ ap (λ (es : Exprs). own_sites t ++ callees_all es) h.parts

  -- ---- an expression's own call site

  -- a call's callee
  pub own_call : (level at : ℕ) → Reads s level at → get_or s at 0 ≡ 11 → own_sites (expr_at s level at) ≡ get_or s (at + 1) 0 ∷ []
  own_call level at h e = ap own_sites (call_form level at h e).0.tree

  -- another form has none
  own_other : (level at : ℕ) → Reads s level at → ¬ (get_or s at 0 ≡ 11) → own_sites (expr_at s level at) ≡ []
  own_other level at h =
      by_form (λ c e. ¬ (c ≡ 11) → own_sites e ≡ []) (λ b n. refl) (λ i n. refl) (λ b n. refl) (λ c n. refl) (λ x n. refl) (λ op e n. refl) (λ op l r n. refl)
      (λ c t e n. refl) (λ e n. refl) (λ a b n. refl) (λ t e n. refl) (λ k es n. absurd (n refl)) (λ es n. refl)
      (λ a i n. refl) (λ es n. refl) (λ k es n. refl) (λ k e es n. refl) level at h

  pub own_read : (level at : ℕ) → Reads s level at → own_at s at ≡ own_sites (expr_at s level at)
  own_read level at h =
      by_cases (ℕ_discrete (get_or s at 0) 11) (λ e. ap (λ b. cond b (get_or s (at + 1) 0 ∷ []) []) (eq-eqb (get_or s at 0) 11 e) ∙ sym (own_call level at h e))
      (λ n. ap (λ b. cond b (get_or s (at + 1) 0 ∷ []) []) (ne_eqb (get_or s at 0) 11 n) ∙ sym (own_other level at h n))
