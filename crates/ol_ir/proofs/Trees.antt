-- The tree that the bytes of an expression encode: its head and its parts, and that more levels change nothing.
use Prim.Native.Nat.{ℕ, zero, suc, ◌+◌, ◌-◌, ◌≤◌, ◌<◌}
use mathlib.Core.List.{List}
use mathlib.Core.Logic.{by_cases}
use mathlib.Core.Option.{Option, none, some}
use mathlib.Core.Path.{◌≡◌, refl, sym, ap, subst, ◌∙◌}
use native.Mathlib.Decide.{dec_le}
use native.Mathlib.Omega.{arith}
use lib.ListN.{length, get_or, get_elem?}
use Rattle.ol_spec.specs.Syntax.{Expr, bool_lit, int_lit, float_lit, char_lit, var, unary, binary, if_then_else, pre, arrow, cast, call, tuple, index, literal, map_over, fold_over, Exprs, nil}
use Rattle.ol_spec.specs.Syntax.{cons, count}
use Rattle.ol_spec.specs.Numbers.{signed}
use Rattle.ol_spec.specs.Places.{ty_size, expr_size}
use Rattle.ol_spec.specs.Read.{Read, got, fault, Reader, then_read, give, many_exprs, byte, number, name_r, coded, count_r, ty_r, expr_codes}
use Rattle.ol_spec.specs.Read.{ExprCode, expr_body, expr_r, bool_code, int_code, float_code, char_code, var_code, unary_code, binary_code, if_code, pre_code}
use Rattle.ol_spec.specs.Read.{arrow_code, cast_code, call_code, tuple_code, index_code, literal_code, iterator_code, Iterator, maps, folds, iterators, iterator_body, bools, unary_ops, bin_ops}
use Rattle.ol_spec.specs.declared.Limits.{Limits}
use Rattle.ol_spec.proofs.Offsets.{steps, same_end, same_item}
use Rattle.ol_ir.specs.Heads.{iterator_parts, head_body, head_r}
use Rattle.ol_tables.specs.Heads.{code_of, head_size, parts_of}
use Rattle.ol_ir.proofs.Bytes.{coded_is, coded_none, coded_end}
use Rattle.ol_ir.proofs.Sizes.{never, Takes, takes_byte, takes_number, takes_coded, takes_count, takes_exprs, takes_ty, takes_expr}

-- ---- more levels read what fewer read

pub record Keeps {A : Type 0} (x y : Read A) : Type 0 where
  pub is : (a : A) (n : ℕ) → x ≡ got a n → y ≡ got a n

same : {A : Type 0} (x : Read A) → Keeps x x
same x = record { is = λ a n e. e }

module _ {A B : Type 0} where
  keeps_then : (x y : Read A) (k m : A → Reader B) → Keeps x y → ((a : A) (n : ℕ) → Keeps (k a n) (m a n)) → Keeps (then_read x k) (then_read y m)
  unfolding then_read
  keeps_then x y k m h f = record { is = λ b n e. let t = steps x k b n e in subst (λ v. then_read v m ≡ got b n) (sym (h.is t.value t.at t.first)) ((f t.value t.at).is b n t.rest) }

  -- the first reading is the same
  after : (x : Read A) (k m : A → Reader B) → ((a : A) (n : ℕ) → Keeps (k a n) (m a n)) → Keeps (then_read x k) (then_read x m)
  after x k m f = keeps_then x x k m (same x) f

module _ (r t : Reader Expr) (h : (at : ℕ) → Keeps (r at) (t at)) where
  keeps_exprs : (k at : ℕ) → Keeps (many_exprs k r at) (many_exprs k t at)
  unfolding many_exprs
  keeps_exprs zero at = same (got nil at)
  keeps_exprs (suc k) at = keeps_then (r at) (t at) _ _ (h at) (λ e n. keeps_then (many_exprs k r n) (many_exprs k t n) _ _ (keeps_exprs k n) (λ es m. same (got (cons e es) m)))

  keeps_one : (g : Expr → Expr) (at : ℕ) → Keeps (then_read (r at) (λ e. give (g e))) (then_read (t at) (λ e. give (g e)))
  keeps_one g at = keeps_then (r at) (t at) _ _ (h at) (λ e n. same (got (g e) n))

  keeps_two : (g : Expr → Expr → Expr) (at : ℕ) → Keeps (then_read (r at) (λ a p. then_read (r p) (λ b. give (g a b)))) (then_read (t at) (λ a p. then_read (t p) (λ b. give (g a b))))
  keeps_two g at = keeps_then (r at) (t at) _ _ (h at) (λ a n. keeps_one (g a) n)

  keeps_several : (g : Exprs → Expr) (k at : ℕ) → Keeps (then_read (many_exprs k r at) (λ es. give (g es))) (then_read (many_exprs k t at) (λ es. give (g es)))
  keeps_several g k at = keeps_then (many_exprs k r at) (many_exprs k t at) _ _ (keeps_exprs k at) (λ es n. same (got (g es) n))

  module _ (s : List ℕ) (l : Limits) (enums : ℕ) where
    keeps_body : (c : ExprCode) (at : ℕ) → Keeps (expr_body s l enums r c at) (expr_body s l enums t c at)
    keeps_body bool_code at = same _
    keeps_body int_code at = same _
    keeps_body float_code at = same _
    keeps_body char_code at = same _
    keeps_body var_code at = same _
    keeps_body unary_code at = after (coded s unary_ops at) _ _ (λ op n. keeps_one (unary op) n)
    keeps_body binary_code at = after (coded s bin_ops at) _ _ (λ op n. keeps_two (binary op) n)
    keeps_body if_code at = keeps_then (r at) (t at) _ _ (h at) (λ c n. keeps_two (if_then_else c) n)
    keeps_body pre_code at = keeps_one pre at
    keeps_body arrow_code at = keeps_two arrow at
    keeps_body cast_code at = after (ty_r s l enums at) _ _ (λ y n. keeps_one (cast y) n)
    keeps_body call_code at = after (byte s at) _ _ (λ k n. after (count_r s 0 l.arguments n) _ _ (λ j m. keeps_several (call k) j m))
    keeps_body tuple_code at = after (count_r s 2 l.items at) _ _ (λ j m. keeps_several tuple j m)
    keeps_body index_code at = keeps_two index at
    keeps_body literal_code at = after (count_r s 1 l.elements at) _ _ (λ j m. keeps_several literal j m)
    keeps_body iterator_code at = after (coded s iterators at) _ _ (λ w p. after (byte s p) _ _ (λ k q. after (count_r s 0 l.arrays q) _ _ (λ j m. iterated w k j m)))
      where
        iterated : (w : Iterator) (k j m : ℕ) → Keeps (iterator_body s l enums r k j w m) (iterator_body s l enums t k j w m)
        iterated maps k j m = keeps_several (map_over k) j m
        iterated folds k j m = keeps_then (r m) (t m) _ _ (h m) (λ e n. keeps_several (fold_over k e) j n)

module _ (s : List ℕ) (l : Limits) (enums : ℕ) where
  keeps_deeper : (k m : ℕ) → k ≤ m → (at : ℕ) → Keeps (expr_r s l enums k at) (expr_r s l enums m at)
  unfolding expr_r
  keeps_deeper zero m h at = record { is = λ e n f. let t = steps (coded s expr_codes at) _ e n f in absurd (never t.rest) }
  keeps_deeper (suc k) zero h at = absurd (omega arith)
  keeps_deeper (suc k) (suc m) h at = after (coded s expr_codes at) _ _ (λ c n. keeps_body (expr_r s l enums k) (expr_r s l enums m) (λ p. keeps_deeper k m (omega arith) p) s l enums c n)

  pub deeper_parts : {es : Exprs} {n : ℕ} (k m j at : ℕ) → k ≤ m → many_exprs j (expr_r s l enums k) at ≡ got es n → many_exprs j (expr_r s l enums m) at ≡ got es n
  deeper_parts {es} {n} k m j at h f = (keeps_exprs (expr_r s l enums k) (expr_r s l enums m) (λ p. keeps_deeper k m h p) j at).is es n f

-- ---- a head and its parts

number_of : ExprCode → ℕ
number_of bool_code = 0
number_of int_code = 1
number_of float_code = 2
number_of char_code = 3
number_of var_code = 4
number_of unary_code = 5
number_of binary_code = 6
number_of if_code = 7
number_of pre_code = 8
number_of arrow_code = 9
number_of cast_code = 10
number_of call_code = 11
number_of tuple_code = 12
number_of index_code = 13
number_of literal_code = 14
number_of iterator_code = 15

code_number_lem : (b : ℕ) (c : ExprCode) → get_elem? expr_codes b ≡ some c → b ≡ number_of c
unfolding number_of
code_number_lem zero c e = let z : bool_code ≡ c = cc in ap number_of z
code_number_lem (suc zero) c e = let z : int_code ≡ c = cc in ap number_of z
code_number_lem (suc (suc zero)) c e = let z : float_code ≡ c = cc in ap number_of z
code_number_lem (suc (suc (suc zero))) c e = let z : char_code ≡ c = cc in ap number_of z
code_number_lem (suc (suc (suc (suc zero)))) c e = let z : var_code ≡ c = cc in ap number_of z
code_number_lem (suc (suc (suc (suc (suc zero))))) c e = let z : unary_code ≡ c = cc in ap number_of z
code_number_lem (suc (suc (suc (suc (suc (suc zero)))))) c e = let z : binary_code ≡ c = cc in ap number_of z
code_number_lem (suc (suc (suc (suc (suc (suc (suc zero))))))) c e = let z : if_code ≡ c = cc in ap number_of z
code_number_lem (suc (suc (suc (suc (suc (suc (suc (suc zero)))))))) c e = let z : pre_code ≡ c = cc in ap number_of z
code_number_lem (suc (suc (suc (suc (suc (suc (suc (suc (suc zero))))))))) c e = let z : arrow_code ≡ c = cc in ap number_of z
code_number_lem (suc (suc (suc (suc (suc (suc (suc (suc (suc (suc zero)))))))))) c e = let z : cast_code ≡ c = cc in ap number_of z
code_number_lem (suc (suc (suc (suc (suc (suc (suc (suc (suc (suc (suc zero))))))))))) c e = let z : call_code ≡ c = cc in ap number_of z
code_number_lem (suc (suc (suc (suc (suc (suc (suc (suc (suc (suc (suc (suc zero)))))))))))) c e = let z : tuple_code ≡ c = cc in ap number_of z
code_number_lem (suc (suc (suc (suc (suc (suc (suc (suc (suc (suc (suc (suc (suc zero))))))))))))) c e = let z : index_code ≡ c = cc in ap number_of z
code_number_lem (suc (suc (suc (suc (suc (suc (suc (suc (suc (suc (suc (suc (suc (suc zero)))))))))))))) c e = let z : literal_code ≡ c = cc in ap number_of z
code_number_lem (suc (suc (suc (suc (suc (suc (suc (suc (suc (suc (suc (suc (suc (suc (suc zero))))))))))))))) c e = let z : iterator_code ≡ c = cc in ap number_of z
code_number_lem (suc (suc (suc (suc (suc (suc (suc (suc (suc (suc (suc (suc (suc (suc (suc (suc b)))))))))))))))) c e = let z : ◌≡◌ {A = ℕ} 0 1 = cc in absurd (omega arith)

-- a byte that is a code
record CodeAt (s : List ℕ) (at : ℕ) (c : ExprCode) (p : ℕ) : Type 0 where
  inside : at < length s
  byte_is : get_or s at 0 ≡ number_of c
  next : p ≡ at + 1

code_at : (s : List ℕ) (at : ℕ) (c : ExprCode) (p : ℕ) → coded s expr_codes at ≡ got c p → CodeAt s at c p
code_at s at c p e =
    by_cases (dec_le (length s) at) (λ gone. absurd (never (sym (coded_end s at expr_codes gone) ∙ e))) (λ no. here (omega arith) (get_elem? expr_codes (get_or s at 0)) refl)
  where
    here : at < length s → (o : Option ExprCode) → get_elem? expr_codes (get_or s at 0) ≡ o → CodeAt s at c p
    here h none f = absurd (never (sym (coded_none s at expr_codes h f) ∙ e))
    here h (some d) f =
        let g = sym (coded_is s at expr_codes h d f) ∙ e in
        let z : d ≡ c = same_item g in
        record { inside = h; byte_is = code_number_lem (get_or s at 0) d f ∙ ap number_of z; next = sym (same_end g) }

pub then_got : {A B : Type 0} {a : A} {p : ℕ} (x : Read A) (k : A → Reader B) → x ≡ got a p → then_read x k ≡ k a p
unfolding then_read
then_got x k e = ap (λ v. then_read v k) e

pub then_fault : {A B : Type 0} {n p : ℕ} (x : Read A) (k : A → Reader B) → x ≡ fault n p → then_read x k ≡ fault n p
unfolding then_read
then_fault x k e = ap (λ v. then_read v k) e

module _ (r : Reader Expr) where
  many_none : (p : ℕ) → many_exprs 0 r p ≡ got nil p
  unfolding many_exprs
  many_none p = refl

  pub many_cons : {e : Expr} {es : Exprs} {m n : ℕ} (k p : ℕ) → r p ≡ got e m → many_exprs k r m ≡ got es n → many_exprs (suc k) r p ≡ got (cons e es) n
  unfolding many_exprs then_read
  many_cons k p e f = then_got (r p) _ e ∙ then_got (many_exprs k r _) _ f

  last : {e : Expr} {n : ℕ} (p : ℕ) → r p ≡ got e n → many_exprs 1 r p ≡ got (cons e nil) n
  last {e} {n} p f = many_cons 0 p f (many_none n)

-- what follows an expression's first byte at `at`
record BodyAt (s : List ℕ) (l : Limits) (enums : ℕ) (r : Reader Expr) (c : ExprCode) (at : ℕ) (e : Expr) (n : ℕ) : Type 0 where
  code : number_of c ≡ code_of e
  head : head_body s l enums c (at + 1) ≡ got (count (parts_of e)) (at + head_size e)
  parts : many_exprs (count (parts_of e)) r (at + head_size e) ≡ got (parts_of e) n

-- k parts read by r from q on, behind a head of so many bytes with this code
record PartsAt (r : Reader Expr) (k b size q : ℕ) (e : Expr) (n : ℕ) : Type 0 where
  parts : many_exprs k r q ≡ got (parts_of e) n
  many : count (parts_of e) ≡ k
  code : b ≡ code_of e
  head : head_size e ≡ size

module _ (r : Reader Expr) (b size q : ℕ) (e : Expr) (n : ℕ) where
  made : (k : ℕ) (e₀ : Expr) (es : Exprs) (m : ℕ) → many_exprs k r q ≡ got es m → count es ≡ k → parts_of e₀ ≡ es → b ≡ code_of e₀ → head_size e₀ ≡ size → got e₀ m ≡ got e n → PartsAt r k b size q e n
  made k e₀ es m h ct pt cd sz f =
      subst (λ v. PartsAt r k b size q v n) (same_item f) (record {
        parts = h ∙ (ap (got es) (same_end f) ∙ ap (λ v. got v n) (sym pt));
        many = ap count pt ∙ ct;
        code = cd;
        head = sz;
      })

  no_part : (e₀ : Expr) → parts_of e₀ ≡ nil → b ≡ code_of e₀ → head_size e₀ ≡ size → got e₀ q ≡ got e n → PartsAt r 0 b size q e n
  no_part e₀ pt cd sz f = made 0 e₀ nil q (many_none r q) refl pt cd sz f

  one_part : (g : Expr → Expr) → ((x : Expr) → parts_of (g x) ≡ cons x nil) → ((x : Expr) → b ≡ code_of (g x)) → ((x : Expr) → head_size (g x) ≡ size) → then_read (r q) (λ x. give (g x)) ≡ got e n → PartsAt r 1 b size q e n
  one_part g pt cd sz f =
      let t = steps (r q) _ e n f in
      made 1 (g t.value) (cons t.value nil) t.at (last r q t.first) refl (pt t.value) (cd t.value) (sz t.value) t.rest

  two_parts : (g : Expr → Expr → Expr) → ((x y : Expr) → parts_of (g x y) ≡ cons x (cons y nil)) → ((x y : Expr) → b ≡ code_of (g x y)) → ((x y : Expr) → head_size (g x y) ≡ size) → then_read (r q) (λ x p. then_read (r p) (λ y. give (g x y))) ≡ got e n → PartsAt r 2 b size q e n
  two_parts g pt cd sz f =
      let t = steps (r q) _ e n f in
      let u = steps (r t.at) _ e n t.rest in
      made 2 (g t.value u.value) (cons t.value (cons u.value nil)) u.at (many_cons r 1 q t.first (last r t.at u.first)) refl
      (pt t.value u.value) (cd t.value u.value) (sz t.value u.value) u.rest

  three_parts : (g : Expr → Expr → Expr → Expr) → ((x y z : Expr) → parts_of (g x y z) ≡ cons x (cons y (cons z nil))) → ((x y z : Expr) → b ≡ code_of (g x y z)) → ((x y z : Expr) → head_size (g x y z) ≡ size) → then_read (r q) (λ x p. then_read (r p) (λ y m. then_read (r m) (λ z. give (g x y z)))) ≡ got e n → PartsAt r 3 b size q e n
  three_parts g pt cd sz f =
      let t = steps (r q) _ e n f in
      let u = steps (r t.at) _ e n t.rest in
      let v = steps (r u.at) _ e n u.rest in
      made 3 (g t.value u.value v.value) (cons t.value (cons u.value (cons v.value nil))) v.at
      (many_cons r 2 q t.first (many_cons r 1 t.at u.first (last r u.at v.first))) refl
      (pt t.value u.value v.value) (cd t.value u.value v.value) (sz t.value u.value v.value) v.rest

  several : (s : List ℕ) (k : ℕ) → Takes s r (λ a m. m ≡ expr_size a) → (g : Exprs → Expr) → ((es : Exprs) → parts_of (g es) ≡ es) → ((es : Exprs) → b ≡ code_of (g es)) → ((es : Exprs) → head_size (g es) ≡ size) → then_read (many_exprs k r q) (λ es. give (g es)) ≡ got e n → PartsAt r k b size q e n
  several s k h g pt cd sz f =
      let t = steps (many_exprs k r q) _ e n f in
      let u = (takes_exprs s r h k).is q t.value t.at t.first in
      made k (g t.value) t.value t.at t.first u.holds.1 (pt t.value) (cd t.value) (sz t.value) t.rest

  -- one part, and so many behind it
  seeded : (s : List ℕ) (k : ℕ) → Takes s r (λ a m. m ≡ expr_size a) → (g : Expr → Exprs → Expr) → ((x : Expr) (es : Exprs) → parts_of (g x es) ≡ cons x es) → ((x : Expr) (es : Exprs) → b ≡ code_of (g x es)) → ((x : Expr) (es : Exprs) → head_size (g x es) ≡ size) → then_read (r q) (λ x p. then_read (many_exprs k r p) (λ es. give (g x es))) ≡ got e n → PartsAt r (suc k) b size q e n
  seeded s k h g pt cd sz f =
      let t = steps (r q) _ e n f in
      let u = steps (many_exprs k r t.at) _ e n t.rest in
      let v = (takes_exprs s r h k).is t.at u.value u.at u.first in
      made (suc k) (g t.value u.value) (cons t.value u.value) u.at (many_cons r k q t.first u.first) (ap suc v.holds.1)
      (pt t.value u.value) (cd t.value u.value) (sz t.value u.value) u.rest

module _ (s : List ℕ) (l : Limits) (enums : ℕ) (r : Reader Expr) (h : Takes s r (λ e m. m ≡ expr_size e)) (at : ℕ) where
  abbrev Body : ExprCode → Expr → ℕ → Type 0
  Body c e n = BodyAt s l enums r c at e n

  -- the parts stand behind the first byte
  at_once : (c : ExprCode) (k : ℕ) (e : Expr) (n : ℕ) → ((p : ℕ) → head_body s l enums c p ≡ got k p) → PartsAt r k (number_of c) 1 (at + 1) e n → Body c e n
  at_once c k e n hd p =
      record {
        code = p.code;
        head = rw (p.many, p.head) (hd (at + 1));
        parts = rw (p.many, p.head) p.parts;
      }

  -- or behind a reading x
  headed : {A : Type 0} (x : Reader A) (size : A → ℕ) → Takes s x (λ a m. m ≡ size a) → (f : A → Reader Expr) (c : ExprCode) (k : ℕ) → ((p : ℕ) → head_body s l enums c p ≡ then_read (x p) (λ a. give k)) → ((a : A) (q : ℕ) (e : Expr) (n : ℕ) → f a q ≡ got e n → PartsAt r k (number_of c) (1 + size a) q e n) → (e : Expr) (n : ℕ) → then_read (x (at + 1)) f ≡ got e n → Body c e n
  headed x size i f c k hd pt e n g =
      let t = steps (x (at + 1)) f e n g in
      let u = i.is (at + 1) t.value t.at t.first in
      let p = pt t.value t.at e n t.rest in
      let q : t.at ≡ at + head_size e = omega (arith, u.ends, u.holds, p.head) in
      record {
        code = p.code;
        head = hd (at + 1) ∙ then_got (x (at + 1)) _ t.first ∙ rw p.many (ap (got k) q);
        parts = rw (p.many, ← q) p.parts;
      }

  body_at : (c : ExprCode) (e : Expr) (n : ℕ) → expr_body s l enums r c (at + 1) ≡ got e n → Body c e n
  unfolding number_of
  body_at bool_code e n f = headed (coded s bools) (λ a. 1) (takes_coded s bools) _ bool_code 0 (λ p. refl) (λ a q e n g. no_part r 0 2 q e n (bool_lit a) refl refl refl g) e n f
  body_at int_code e n f = headed (number s 8 0) (λ a. 8) (takes_number s 8 0) _ int_code 0 (λ p. refl) (λ a q e n g. no_part r 1 9 q e n (int_lit (signed 64 a)) refl refl refl g) e n f
  body_at float_code e n f = headed (number s 8 0) (λ a. 8) (takes_number s 8 0) _ float_code 0 (λ p. refl) (λ a q e n g. no_part r 2 9 q e n (float_lit a) refl refl refl g) e n f
  body_at char_code e n f = headed (byte s) (λ a. 1) (takes_byte s) _ char_code 0 (λ p. refl) (λ a q e n g. no_part r 3 2 q e n (char_lit a) refl refl refl g) e n f
  body_at var_code e n f = headed (name_r s) (λ a. 2) (takes_number s 2 0) _ var_code 0 (λ p. refl) (λ a q e n g. no_part r 4 3 q e n (var a) refl refl refl g) e n f
  body_at unary_code e n f = headed (coded s unary_ops) (λ a. 1) (takes_coded s unary_ops) _ unary_code 1 (λ p. refl) (λ op q e n g. one_part r 5 2 q e n (unary op) (λ a. refl) (λ a. refl) (λ a. refl) g) e n f
  body_at binary_code e n f = headed (coded s bin_ops) (λ a. 1) (takes_coded s bin_ops) _ binary_code 2 (λ p. refl) (λ op q e n g. two_parts r 6 2 q e n (binary op) (λ a b. refl) (λ a b. refl) (λ a b. refl) g) e n f
  body_at if_code e n f = at_once if_code 3 e n (λ p. refl) (three_parts r 7 1 (at + 1) e n if_then_else (λ x y z. refl) (λ x y z. refl) (λ x y z. refl) f)
  body_at pre_code e n f = at_once pre_code 1 e n (λ p. refl) (one_part r 8 1 (at + 1) e n pre (λ a. refl) (λ a. refl) (λ a. refl) f)
  body_at arrow_code e n f = at_once arrow_code 2 e n (λ p. refl) (two_parts r 9 1 (at + 1) e n arrow (λ a b. refl) (λ a b. refl) (λ a b. refl) f)
  body_at cast_code e n f = headed (ty_r s l enums) ty_size (takes_ty s l enums) _ cast_code 1 (λ p. refl) (λ t q e n g. one_part r 10 (1 + ty_size t) q e n (cast t) (λ a. refl) (λ a. refl) (λ a. refl) g) e n f
  body_at call_code e n f =
      let t = steps (byte s (at + 1)) _ e n f in
      let u = (takes_byte s).is (at + 1) t.value t.at t.first in
      let c = steps (count_r s 0 l.arguments t.at) _ e n t.rest in
      let v = (takes_count s 0 l.arguments).is t.at c.value c.at c.first in
      let p = several r 11 3 c.at e n s c.value h (call t.value) (λ es. refl) (λ es. refl) (λ es. refl) c.rest in
      let q : c.at ≡ at + head_size e = omega (arith, u.ends, u.holds, v.ends, v.holds, p.head) in
      record {
        code = p.code;
        head = then_got (byte s (at + 1)) _ t.first ∙ c.first ∙ rw p.many (ap (got c.value) q);
        parts = rw (p.many, ← q) p.parts;
      }
  body_at tuple_code e n f =
      let c = steps (count_r s 2 l.items (at + 1)) _ e n f in
      let v = (takes_count s 2 l.items).is (at + 1) c.value c.at c.first in
      let p = several r 12 2 c.at e n s c.value h tuple (λ es. refl) (λ es. refl) (λ es. refl) c.rest in
      let q : c.at ≡ at + head_size e = omega (arith, v.ends, v.holds, p.head) in
      record {
        code = p.code;
        head = c.first ∙ rw p.many (ap (got c.value) q);
        parts = rw (p.many, ← q) p.parts;
      }
  body_at index_code e n f = at_once index_code 2 e n (λ p. refl) (two_parts r 13 1 (at + 1) e n index (λ a b. refl) (λ a b. refl) (λ a b. refl) f)
  body_at literal_code e n f =
      let c = steps (count_r s 1 l.elements (at + 1)) _ e n f in
      let v = (takes_count s 1 l.elements).is (at + 1) c.value c.at c.first in
      let p = several r 14 2 c.at e n s c.value h literal (λ es. refl) (λ es. refl) (λ es. refl) c.rest in
      let q : c.at ≡ at + head_size e = omega (arith, v.ends, v.holds, p.head) in
      record {
        code = p.code;
        head = c.first ∙ rw p.many (ap (got c.value) q);
        parts = rw (p.many, ← q) p.parts;
      }
  body_at iterator_code e n f =
      let t = steps (coded s iterators (at + 1)) _ e n f in
      let u = (takes_coded s iterators).is (at + 1) t.value t.at t.first in
      let b = steps (byte s t.at) _ e n t.rest in
      let v = (takes_byte s).is t.at b.value b.at b.first in
      let c = steps (count_r s 0 l.arrays b.at) _ e n b.rest in
      let w = (takes_count s 0 l.arrays).is b.at c.value c.at c.first in
      let p = iterated t.value b.value c.value c.at e n c.rest in
      let q : c.at ≡ at + head_size e = omega (arith, u.ends, u.holds, v.ends, v.holds, w.ends, w.holds, p.head) in
      record {
        code = p.code;
        head = then_got (coded s iterators (at + 1)) _ t.first ∙ then_got (byte s t.at) _ b.first ∙ then_got (count_r s 0 l.arrays b.at) _ c.first ∙ rw p.many (ap (got (iterator_parts t.value c.value)) q);
        parts = rw (p.many, ← q) p.parts;
      }
    where
      iterated : (w : Iterator) (k c q : ℕ) (e : Expr) (n : ℕ) → iterator_body s l enums r k c w q ≡ got e n → PartsAt r (iterator_parts w c) 15 4 q e n
      iterated maps k c q e n g = several r 15 4 q e n s c h (map_over k) (λ es. refl) (λ es. refl) (λ es. refl) g
      iterated folds k c q e n g = seeded r 15 4 q e n s c h (fold_over k) (λ x es. refl) (λ x es. refl) (λ x es. refl) g

-- ---- an expression where it stands

pub record ExprAt (s : List ℕ) (l : Limits) (enums d at : ℕ) (e : Expr) (n : ℕ) : Type 0 where
  pub inside : at < length s
  pub level : 0 < d
  pub code : get_or s at 0 ≡ code_of e
  pub head : head_r s l enums at ≡ got (count (parts_of e)) (at + head_size e)
  pub parts : many_exprs (count (parts_of e)) (expr_r s l enums (d - 1)) (at + head_size e) ≡ got (parts_of e) n

pub expr_at_lem : (s : List ℕ) (l : Limits) (enums d at : ℕ) (e : Expr) (n : ℕ) → expr_r s l enums d at ≡ got e n → ExprAt s l enums d at e n
unfolding expr_r head_r
expr_at_lem s l enums zero at e n f = let t = steps (coded s expr_codes at) _ e n f in absurd (never t.rest)
expr_at_lem s l enums (suc d) at e n f =
    let t = steps (coded s expr_codes at) _ e n f in
    let c = code_at s at t.value t.at t.first in
    let b = body_at s l enums (expr_r s l enums d) (takes_expr s l enums d) at t.value e n (rw c.next at t.rest) in
    let one : suc d - 1 ≡ d = omega arith in
    record {
      inside = c.inside;
      level = omega arith;
      code = c.byte_is ∙ b.code;
      head = then_got (coded s expr_codes at) _ t.first ∙ (ap (head_body s l enums t.value) c.next ∙ b.head);
      parts = rw one b.parts;
    }
