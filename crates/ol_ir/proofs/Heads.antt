-- An expression is its head, then its parts: what is read, by places, and how many parts there can be.
use Prim.Native.Nat.{ℕ, suc, ◌+◌, ◌*◌, ◌≤◌, ◌<◌}
use mathlib.Core.Bool.{Bool, true, false, ◌&&◌, cond}
use mathlib.Core.List.{List}
use mathlib.Core.Logic.{◌⊎◌, ⊎_elim}
use mathlib.Core.Option.{some}
use mathlib.Core.Path.{◌≡◌, refl, sym, ap, ◌∙◌}
use native.Mathlib.Omega.{arith}
use lib.ListN.{length, get_or, get_elem?}
use lib.Dec.{leb, eqb}
use borrow.Author.Tests.{leb-true, ne_eqb}
use native.Mathlib.Numerals.{add-one}
use Rattle.std.specs.Prelude.{Ok, Err}
use Rattle.ol_spec.specs.Syntax.{Expr}
use Rattle.ol_spec.specs.Read.{Read, got, fault, Reader, then_read, give, many_exprs, byte, number, name_r, coded, within?, count_r, bools, unary_ops}
use Rattle.ol_spec.specs.Read.{bin_ops, ty_r, expr_codes, ExprCode, expr_body, expr_r, bool_code, int_code, float_code, char_code, var_code, unary_code}
use Rattle.ol_spec.specs.Read.{binary_code, if_code, pre_code, arrow_code, cast_code, call_code, tuple_code, index_code, literal_code, iterator_code, Iterator, maps, folds, iterators, iterator_body}
use Rattle.ol_spec.specs.Answers.{fault_at}
use Rattle.ol_spec.specs.declared.Fault.{Fault}
use Rattle.ol_spec.specs.declared.Limits.{Limits}
use Rattle.ol_tables.specs.FormCodes.{code_of_form}
use Rattle.ol_tables.specs.Heads.{Byte}
use Rattle.ol_tables.specs.declared.form.Form.{Form}
use Rattle.ol_tables.specs.declared.form.Form.TheVariants as Frm
use Rattle.ol_tables.proofs.Forms.{code_is, iterator_of}
use Rattle.ol_ir.specs.Nexts.{Counting, Next, counted_at, next_of, counted_of, onward, repeat}
use Rattle.ol_ir.specs.Heads.{call_head, iterator_parts, iterator_head, head_body, head_r}
use Rattle.ol_ir.proofs.Bytes.{same_count, coded_is}
use Rattle.ol_ir.proofs.Onward.{parts_of, on_items, Chain, next_then, next_give, counted_then, exprs_next, repeat_one}

never_on : (x : Next) (f : Fault) (k : ℕ → Next) → onward (onward x (λ p. Err f)) k ≡ onward x (λ p. Err f)
unfolding onward
never_on (Ok p) f k = refl
never_on (Err g) f k = refl

-- ---- the head, by its first byte

parts_read : {A : Type 0} (n : ℕ) (r : Read A) → parts_of n (next_of r) ≡ counted_of (then_read r (λ a. give n))
unfolding parts_of next_of counted_of then_read
parts_read n (got a p) = refl
parts_read n (fault m p) = refl

pub parts_next : {A : Type 0} {z : Counting} {x : Next} (n : ℕ) (r : Read A) → z ≡ parts_of n x → x ≡ next_of r → z ≡ counted_of (then_read r (λ a. give n))
parts_next n r e f = e ∙ ap (parts_of n) f ∙ parts_read n r

-- one byte
pub one_byte : (s : List ℕ) (at : ℕ) → next_of (number s 1 0 at) ≡ next_of (byte s at)
unfolding number
one_byte s at = next_give (byte s at) (λ b. 0 * 256 + b)

-- a call's node number is passed over
module _ (s : List ℕ) (most at : ℕ) {x : Next} (e : x ≡ next_of (number s 1 0 at)) where
  call_read : (r : Read ℕ) (p : ℕ) → next_of r ≡ Ok p → counted_of (then_read r (λ k. count_r s 0 most)) ≡ counted_of (count_r s 0 most p)
  unfolding next_of then_read
  call_read (got a q) p g = let z : q ≡ p = cc in rw z refl
  call_read (fault n q) p g = let z : ◌≡◌ {A = ℕ} 0 1 = cc in absurd (omega arith)

  call_fault : (r : Read ℕ) (f : Fault) → next_of r ≡ Err f → counted_of (then_read r (λ k. count_r s 0 most)) ≡ Err f
  unfolding next_of then_read counted_of
  call_fault (got a q) f g = let z : ◌≡◌ {A = ℕ} 0 1 = cc in absurd (omega arith)
  call_fault (fault n q) f g = let z : fault_at n q ≡ f = cc in ap Err z

  pub call_count : {z : Counting} {p : ℕ} → x ≡ Ok p → z ≡ counted_of (count_r s 0 most p) → z ≡ counted_of (call_head s most at)
  call_count {z} {p} g h = h ∙ sym (call_read (byte s at) p (sym (one_byte s at) ∙ sym e ∙ g))

  pub call_refused : {f : Fault} → x ≡ Err f → Err f ≡ counted_of (call_head s most at)
  call_refused {f} g = sym (call_fault (byte s at) f (sym (one_byte s at) ∙ sym e ∙ g))

-- an iterator's kind is read, then its node's number and its count as a call's
mapped : (ℕ → ℕ) → Counting → Counting
mapped g (Ok c) = Ok (counted_at (g c.count) c.at)
mapped g (Err f) = Err f

module _ (s : List ℕ) (most : ℕ) where
  counted_as : (g : ℕ → ℕ) (at : ℕ) → counted_of (then_read (byte s at) (λ k p. then_read (count_r s 0 most p) (λ n. give (g n)))) ≡ mapped g (counted_of (call_head s most at))
  unfolding mapped counted_of then_read
  counted_as g at = first (byte s at)
    where
      second : (r : Read ℕ) → counted_of (then_read r (λ n. give (g n))) ≡ mapped g (counted_of r)
      second (got n p) = refl
      second (fault n p) = refl

      first : (r : Read ℕ) → counted_of (then_read r (λ k p. then_read (count_r s 0 most p) (λ n. give (g n)))) ≡ mapped g (counted_of (then_read r (λ k. count_r s 0 most)))
      first (got k p) = second (count_r s 0 most p)
      first (fault n p) = refl

  module _ (at : ℕ) {x : Next} (e : x ≡ next_of (coded s iterators at)) where
    kind_read : (r : Read Iterator) (p : ℕ) → next_of r ≡ Ok p → (w : Iterator) × (r ≡ got w p)
    unfolding next_of
    kind_read (got w q) p g = let z : q ≡ p = cc in (w, ap (got w) z)
    kind_read (fault n q) p g = let z : ◌≡◌ {A = ℕ} 0 1 = cc in absurd (omega arith)

    kind_fault : (r : Read Iterator) (k : Iterator → Reader ℕ) (f : Fault) → next_of r ≡ Err f → counted_of (then_read r k) ≡ Err f
    unfolding next_of then_read counted_of
    kind_fault (got w q) k f g = let z : ◌≡◌ {A = ℕ} 0 1 = cc in absurd (omega arith)
    kind_fault (fault n q) k f g = let z : fault_at n q ≡ f = cc in ap Err z

    pub kind_refused : {f : Fault} → x ≡ Err f → Err f ≡ counted_of (iterator_head s most at)
    kind_refused {f} g = sym (kind_fault (coded s iterators at) _ f (sym e ∙ g))

    module _ {p : ℕ} (g : x ≡ Ok p) {y : Counting} (i : y ≡ counted_of (call_head s most p)) where
      iterator_counted : counted_of (iterator_head s most at) ≡ mapped (iterator_parts (cond (eqb (get_or s at 0) 1) folds maps)) y
      unfolding then_read
      iterator_counted =
          let w = kind_read (coded s iterators at) p (sym e ∙ g) in
          let k = (iterator_of s (get_or s at 0) w.0 (code_is s iterators at w.0 p w.1).is).1 in
          ap (λ r. counted_of (then_read r (λ w q. then_read (byte s q) (λ k p. then_read (count_r s 0 most p) (λ n. give (iterator_parts w n)))))) w.1
          ∙ counted_as (iterator_parts w.0) p ∙ ap (λ v. mapped (iterator_parts w.0) v) (sym i) ∙ ap (λ v. mapped (iterator_parts v) y) k

      pub counted_fold : {n q b : ℕ} → y ≡ Ok (counted_at n q) → Byte s at b → b ≡ 1 → Ok (counted_at (n + 1) q) ≡ counted_of (iterator_head s most at)
      unfolding mapped
      counted_fold {n} {q} j b o = sym (iterator_counted ∙ rw (← b.is, o, j, add-one n) refl)

      pub counted_map : {n q b : ℕ} → y ≡ Ok (counted_at n q) → Byte s at b → (b ≡ 1 → ⊥) → Ok (counted_at n q) ≡ counted_of (iterator_head s most at)
      unfolding mapped
      counted_map {b = c} j b o = sym (iterator_counted ∙ rw (← b.is, ne_eqb c 1 o, j) refl)

      pub counted_refused : {f : Fault} → y ≡ Err f → Err f ≡ counted_of (iterator_head s most at)
      unfolding mapped
      counted_refused j = sym (iterator_counted ∙ ap (λ v. mapped (iterator_parts (cond (eqb (get_or s at 0) 1) folds maps)) v) j)

module _ (s : List ℕ) (l : Limits) (enums : ℕ) where
  module _ (at : ℕ) where
    pub head_is : (b : ℕ) (c : ExprCode) → at < length s → get_or s at 0 ≡ b → get_elem? expr_codes b ≡ some c → head_r s l enums at ≡ head_body s l enums c (at + 1)
    unfolding head_r then_read
    head_is b c h e f = rw (coded_is s at expr_codes h c (ap (get_elem? expr_codes) e ∙ f)) refl

    -- a head whose number of parts its first byte says, behind which r is read
    pub head_parts : {A : Type 0} {z : Counting} {x : Next} (b n : ℕ) (c : ExprCode) (r : Read A) → at < length s → get_or s at 0 ≡ b → get_elem? expr_codes b ≡ some c → head_body s l enums c (at + 1) ≡ then_read r (λ a. give n) → z ≡ parts_of n x → x ≡ next_of r → z ≡ counted_of (head_r s l enums at)
    head_parts b n c r h e f g i j = parts_next n r i j ∙ ap counted_of (sym g ∙ sym (head_is b c h e f))

    -- an Int's and a Float's
    pub head_number : {z : Counting} {x : Next} (form : Form) → at < length s → get_or s at 0 ≡ code_of_form form → (form ≡ Frm.Int) ⊎ (form ≡ Frm.Float) → z ≡ parts_of 0 x → x ≡ next_of (number s 8 0 (at + 1)) → z ≡ counted_of (head_r s l enums at)
    head_number form h e f = ⊎_elim (λ g. head_parts 1 0 int_code (number s 8 0 (at + 1)) h (e ∙ ap code_of_form g) refl refl) (λ g. head_parts 2 0 float_code (number s 8 0 (at + 1)) h (e ∙ ap code_of_form g) refl refl) f

    -- a head of one byte
    pub head_byte : (b n : ℕ) (c : ExprCode) → at < length s → get_or s at 0 ≡ b → get_elem? expr_codes b ≡ some c → head_body s l enums c (at + 1) ≡ got n (at + 1) → Ok (counted_at n (at + 1)) ≡ counted_of (head_r s l enums at)
    unfolding counted_of
    head_byte b n c h e f g = sym (ap counted_of (head_is b c h e f ∙ g))

    -- its first byte is no code, or there is none
    pub head_none : {m p : ℕ} → coded s expr_codes at ≡ fault m p → head_r s l enums at ≡ fault m p
    unfolding head_r then_read
    head_none e = rw e refl

  -- ---- an expression's parts, read by r

  module _ (r : Reader Expr) where
    abbrev each : ℕ → Next
    each p = next_of (r p)

    one_part : (g : Expr → Expr) (p : ℕ) → next_of (then_read (r p) (λ e. give (g e))) ≡ repeat 1 each p
    one_part g p = next_give (r p) g ∙ sym (repeat_one each p)

    two_parts : (g : Expr → Expr → Expr) (p : ℕ) → next_of (then_read (r p) (λ a at. then_read (r at) (λ b. give (g a b)))) ≡ repeat 2 each p
    unfolding repeat
    two_parts g p = next_then (r p) _ _ (λ a n. one_part (g a) n)

    three_parts : (g : Expr → Expr → Expr → Expr) (p : ℕ) → next_of (then_read (r p) (λ a at. then_read (r at) (λ b bt. then_read (r bt) (λ c. give (g a b c))))) ≡ repeat 3 each p
    unfolding repeat
    three_parts g p = next_then (r p) _ _ (λ a n. two_parts (g a) n)

    -- so many parts, as a head says
    abbrev parts : ℕ → ℕ → Next
    parts n p = repeat n each p

    join : {A : Type 0} (h : Read A) (k : A → Reader Expr) (m : A → Reader ℕ) → ((a : A) (p : ℕ) → next_of (k a p) ≡ on_items (counted_of (m a p)) parts) → next_of (then_read h k) ≡ on_items (counted_of (then_read h m)) parts
    unfolding next_of counted_of then_read on_items
    join (got a p) k m e = e a p
    join (fault n p) k m e = refl

    -- a head that reads h, and n parts
    after : {A : Type 0} (h : Read A) (k : A → Reader Expr) (n : ℕ) → ((a : A) (p : ℕ) → next_of (k a p) ≡ parts n p) → next_of (then_read h k) ≡ on_items (counted_of (then_read h (λ a. give n))) parts
    unfolding counted_of on_items
    after h k n e = join h k (λ a. give n) e

    no_part : {A : Type 0} (h : Read A) (g : A → Expr) → next_of (then_read h (λ a. give (g a))) ≡ on_items (counted_of (then_read h (λ a. give 0))) parts
    unfolding next_of repeat
    no_part h g = after h (λ a. give (g a)) 0 (λ a p. refl)

    iterated : (w : Iterator) (k n o : ℕ) → next_of (iterator_body s l enums r k n w o) ≡ parts (iterator_parts w n) o
    unfolding repeat
    iterated maps k n o = next_give (many_exprs n r o) _ ∙ exprs_next r n o
    iterated folds k n o = next_then (r o) _ _ (λ e m. next_give (many_exprs n r m) _ ∙ exprs_next r n m)

    body_head : (c : ExprCode) (p : ℕ) → next_of (expr_body s l enums r c p) ≡ on_items (counted_of (head_body s l enums c p)) parts
    unfolding counted_of on_items
    body_head bool_code p = no_part (coded s bools p) _
    body_head int_code p = no_part (number s 8 0 p) _
    body_head float_code p = no_part (number s 8 0 p) _
    body_head char_code p = no_part (byte s p) _
    body_head var_code p = no_part (name_r s p) _
    body_head unary_code p = after (coded s unary_ops p) _ 1 (λ op q. one_part _ q)
    body_head binary_code p = after (coded s bin_ops p) _ 2 (λ op q. two_parts _ q)
    body_head if_code p = three_parts _ p
    body_head pre_code p = one_part _ p
    body_head arrow_code p = two_parts _ p
    body_head cast_code p = after (ty_r s l enums p) _ 1 (λ t q. one_part _ q)
    body_head call_code p = join (byte s p) _ _ (λ k q. counted_then (count_r s 0 l.arguments q) _ _ (λ n m. next_give (many_exprs n r m) _ ∙ exprs_next r n m))
    body_head tuple_code p = counted_then (count_r s 2 l.items p) _ _ (λ n q. next_give (many_exprs n r q) _ ∙ exprs_next r n q)
    body_head index_code p = two_parts _ p
    body_head literal_code p = counted_then (count_r s 1 l.elements p) _ _ (λ n q. next_give (many_exprs n r q) _ ∙ exprs_next r n q)
    body_head iterator_code p = join (coded s iterators p) _ _ (λ w q. join (byte s q) _ _ (λ k m. join (count_r s 0 l.arrays m) _ _ (λ n o. iterated w k n o)))

  pub expr_head : (n at : ℕ) → next_of (expr_r s l enums (suc n) at) ≡ on_items (counted_of (head_r s l enums at)) (λ j q. repeat j (λ p. next_of (expr_r s l enums n p)) q)
  unfolding expr_r head_r
  expr_head n at = join (expr_r s l enums n) (coded s expr_codes at) _ _ (λ c p. body_head (expr_r s l enums n) c p)

  module _ (at : ℕ) where
    -- where no level is left
    pub deep_chain : Chain (next_of (expr_r s l enums 0 at)) (next_of (coded s expr_codes at)) (λ p. Err (fault_at 5 at))
    unfolding expr_r next_of
    deep_chain = record { is = next_then (coded s expr_codes at) _ _ (λ c n. refl) }

    -- every reading is a fault
    pub deep_halts : (k : ℕ → Next) → onward (next_of (expr_r s l enums 0 at)) k ≡ next_of (expr_r s l enums 0 at)
    deep_halts k = rw deep_chain.is (never_on (next_of (coded s expr_codes at)) (fault_at 5 at) k)

-- ---- how many parts

Below : ℕ → Read ℕ → Type 0
Below m (got n p) = n ≤ m
Below m (fault n p) = Unit {0}

module _ (m : ℕ) where
  below_then : {A : Type 0} (r : Read A) (k : A → Reader ℕ) → ((a : A) (p : ℕ) → Below m (k a p)) → Below m (then_read r k)
  unfolding then_read Below
  below_then (got a p) k h = h a p
  below_then (fault n p) k h = tt

  below_within : (s : List ℕ) (a b : Bool) (place n p : ℕ) → (b ≡ true → n ≤ m) → Below m (within? s (a && b) place n p)
  unfolding Below
  below_within s true true place n p h = h refl
  below_within s true false place n p h = tt
  below_within s false true place n p h = tt
  below_within s false false place n p h = tt

  below_count : (s : List ℕ) (lo hi at : ℕ) → hi ≤ m → Below m (count_r s lo hi at)
  unfolding count_r
  below_count s lo hi at h =
      below_then (byte s at) _ (λ n p. below_within s (leb lo n) (leb n hi) at n p (λ e. omega (arith, leb-true n hi e)))

few : (m n p : ℕ) (r : Read ℕ) → Ok (counted_at n p) ≡ counted_of r → Below m r → n ≤ m
unfolding counted_of Below
few m n p (got a q) e h = let z : n ≡ a = same_count e in omega arith
few m n p (fault a q) e h = let z : ◌≡◌ {A = ℕ} 0 1 = cc in absurd (omega arith)

module _ (s : List ℕ) (l : Limits) (enums : ℕ) where
  abbrev pub most_parts : ℕ
  most_parts = 3 + (l.arguments + l.items + l.elements + l.arrays)

  below_seed : (w : Iterator) (r : Read ℕ) → Below l.arrays r → Below most_parts (then_read r (λ n. give (iterator_parts w n)))
  unfolding Below then_read
  below_seed maps (got n p) h = omega arith
  below_seed folds (got n p) h = omega arith
  below_seed maps (fault n p) h = tt
  below_seed folds (fault n p) h = tt

  below_body : (c : ExprCode) (p : ℕ) → Below most_parts (head_body s l enums c p)
  unfolding Below
  below_body bool_code p = below_then most_parts (coded s bools p) _ (λ a q. omega arith)
  below_body int_code p = below_then most_parts (number s 8 0 p) _ (λ a q. omega arith)
  below_body float_code p = below_then most_parts (number s 8 0 p) _ (λ a q. omega arith)
  below_body char_code p = below_then most_parts (byte s p) _ (λ a q. omega arith)
  below_body var_code p = below_then most_parts (name_r s p) _ (λ a q. omega arith)
  below_body unary_code p = below_then most_parts (coded s unary_ops p) _ (λ a q. omega arith)
  below_body binary_code p = below_then most_parts (coded s bin_ops p) _ (λ a q. omega arith)
  below_body if_code p = omega arith
  below_body pre_code p = omega arith
  below_body arrow_code p = omega arith
  below_body cast_code p = below_then most_parts (ty_r s l enums p) _ (λ a q. omega arith)
  below_body call_code p = below_then most_parts (byte s p) _ (λ a q. below_count most_parts s 0 l.arguments q (omega arith))
  below_body tuple_code p = below_count most_parts s 2 l.items p (omega arith)
  below_body index_code p = omega arith
  below_body literal_code p = below_count most_parts s 1 l.elements p (omega arith)
  below_body iterator_code p =
      below_then most_parts (coded s iterators p) _ (λ w q. below_then most_parts (byte s q) _ (λ k m. below_seed w (count_r s 0 l.arrays m) (below_count l.arrays s 0 l.arrays m (omega arith))))

  below_head : (at : ℕ) → Below most_parts (head_r s l enums at)
  unfolding head_r
  below_head at = below_then most_parts (coded s expr_codes at) _ (λ c p. below_body c p)

  pub few_parts : (at n p : ℕ) → Ok (counted_at n p) ≡ counted_of (head_r s l enums at) → n ≤ most_parts
  few_parts at n p e = few most_parts n p (head_r s l enums at) e (below_head at)
