-- What the readers of bytes, codes and counts find, by tests on the bytes.
use Prim.Native.Nat.{ℕ, zero, suc, ◌+◌, ◌≤◌, ◌<◌}
use mathlib.Core.List.{List, [], ◌∷◌}
use mathlib.Core.Option.{Option, none, some}
use mathlib.Core.Path.{◌≡◌, refl, ap, ◌∙◌}
use mathlib.Core.Logic.{by_cases}
use native.Mathlib.Omega.{arith}
use native.Mathlib.Decide.{dec_le}
use lib.ListN.{length, get_or, get_elem?}
use borrow.Author.Tests.{le-leb, lt-leb}
use Rattle.std.specs.Prelude.{Result, Ok, Err}
use Rattle.ol_spec.specs.Lists.{from, up_to}
use Rattle.ol_spec.specs.Read.{got, fault, then_read, known, byte, or_end, coded, count_r}
use Rattle.ol_spec.specs.Answers.{fault_at}
use Rattle.ol_ir.specs.Nexts.{Counting, counted_at, counted_of}
use Rattle.ol_spec.specs.declared.Fault.{Fault}
use Rattle.ol_ir.specs.declared.Counted.{Counted}

-- ---- answers

pub same_ok : {A : Type 0} {a b : A} → ◌≡◌ {A = Result A Fault} (Ok a) (Ok b) → a ≡ b
same_ok e = cc

pub same_count : {n p m q : ℕ} → ◌≡◌ {A = Counting} (Ok (counted_at n p)) (Ok (counted_at m q)) → n ≡ m
same_count e = ap (λ (c : Counted). c.count) (same_ok e)

pub same_place : {n p m q : ℕ} → ◌≡◌ {A = Counting} (Ok (counted_at n p)) (Ok (counted_at m q)) → p ≡ q
same_place e = ap (λ (c : Counted). c.at) (same_ok e)

-- ---- bytes

pub get_in : {A : Type 0} (s : List A) (at : ℕ) (d : A) → at < length s → get_elem? s at ≡ some (get_or s at d)
get_in [] zero d h = absurd (omega arith)
get_in [] (suc at) d h = absurd (omega arith)
get_in (x ∷ s) zero d h = refl
get_in (x ∷ s) (suc at) d h = get_in s at d (omega arith)

pub get_some : {A : Type 0} (s : List A) (at : ℕ) → at < length s → (a : A) × (get_elem? s at ≡ some a)
get_some [] zero h = absurd (omega arith)
get_some [] (suc at) h = absurd (omega arith)
get_some (x ∷ s) zero h = (x, refl)
get_some (x ∷ s) (suc at) h = get_some s at (omega arith)

pub get_out : {A : Type 0} (s : List A) (at : ℕ) → length s ≤ at → get_elem? s at ≡ none
get_out [] zero h = refl
get_out [] (suc at) h = refl
get_out (x ∷ s) zero h = absurd (omega arith)
get_out (x ∷ s) (suc at) h = get_out s at (omega arith)

length_from : (n k : ℕ) → length (from n k) ≡ k
length_from n zero = refl
length_from n (suc k) = ap suc (length_from (suc n) k)

pub length_up_to : (k : ℕ) → length (up_to k) ≡ k
length_up_to k = length_from 0 k

module _ (s : List ℕ) (at : ℕ) where
  pub byte_in : at < length s → byte s at ≡ got (get_or s at 0) (at + 1)
  unfolding byte
  byte_in h = ap (λ (o : Option ℕ). or_end s o at) (get_in s at 0 h)

  pub byte_out : length s ≤ at → byte s at ≡ fault 2 (length s)
  unfolding byte
  byte_out h = ap (λ (o : Option ℕ). or_end s o at) (get_out s at h)

  module _ {A : Type 0} (table : List A) where
    -- the byte is a code
    pub coded_is : at < length s → (a : A) → get_elem? table (get_or s at 0) ≡ some a → coded s table at ≡ got a (at + 1)
    unfolding coded then_read
    coded_is h a e = rw (byte_in h) (ap (λ (o : Option A). known at o (at + 1)) e)

    -- the byte is none
    pub coded_none : at < length s → get_elem? table (get_or s at 0) ≡ none → coded s table at ≡ fault 3 at
    unfolding coded then_read
    coded_none h e = rw (byte_in h) (ap (λ (o : Option A). known at o (at + 1)) e)

    -- there is no byte
    pub coded_end : length s ≤ at → coded s table at ≡ fault 2 (length s)
    unfolding coded then_read
    coded_end h = rw (byte_out h) refl

  module _ (lo hi : ℕ) where
    pub count_is : at < length s → lo ≤ get_or s at 0 → get_or s at 0 ≤ hi → count_r s lo hi at ≡ got (get_or s at 0) (at + 1)
    unfolding count_r then_read
    count_is h a b = rw (byte_in h, le-leb lo (get_or s at 0) a, le-leb (get_or s at 0) hi b) refl

    pub count_low : at < length s → get_or s at 0 < lo → count_r s lo hi at ≡ fault 4 at
    unfolding count_r then_read
    count_low h a = rw (byte_in h, lt-leb lo (get_or s at 0) a) refl

    pub count_high : at < length s → lo ≤ get_or s at 0 → hi < get_or s at 0 → count_r s lo hi at ≡ fault 4 at
    unfolding count_r then_read
    count_high h a b = rw (byte_in h, le-leb lo (get_or s at 0) a, lt-leb (get_or s at 0) hi b) refl

    pub count_end : length s ≤ at → count_r s lo hi at ≡ fault 2 (length s)
    unfolding count_r then_read
    count_end h = rw (byte_out h) refl

-- what a count says that was read
pub record CountIs (s : List ℕ) (lo hi at n p : ℕ) : Type 0 where
  pub inside : at < length s
  pub value : n ≡ get_or s at 0
  pub low : lo ≤ n
  pub high : n ≤ hi
  pub next : p ≡ at + 1

module _ (s : List ℕ) (lo hi at n p : ℕ) where
  not_fault : (a b : ℕ) → Ok (counted_at n p) ≡ counted_of (count_r s lo hi at) → count_r s lo hi at ≡ fault a b → ⊥
  unfolding counted_of
  not_fault a b e f = let g : Ok (counted_at n p) ≡ Err (fault_at a b) = e ∙ ap counted_of f in let z : ◌≡◌ {A = ℕ} 0 1 = cc in omega arith

  pub counted_is : Ok (counted_at n p) ≡ counted_of (count_r s lo hi at) → CountIs s lo hi at n p
  unfolding counted_of
  counted_is e =
      by_cases (dec_le (length s) at) (λ gone. absurd (not_fault _ _ e (count_end s at lo hi gone))) (λ here.
      let h : at < length s = omega arith in
      by_cases (dec_le lo (get_or s at 0)) (λ a.
      by_cases (dec_le (get_or s at 0) hi) (λ b.
      let g : Ok (counted_at n p) ≡ Ok (counted_at (get_or s at 0) (at + 1)) = e ∙ ap counted_of (count_is s at lo hi h a b) in
      let v : n ≡ get_or s at 0 = same_count g in
      let q : p ≡ at + 1 = same_place g in
      record { inside = h; value = v; low = omega arith; high = omega arith; next = q })
      (λ b. absurd (not_fault _ _ e (count_high s at lo hi h a (omega arith)))))
      (λ a. absurd (not_fault _ _ e (count_low s at lo hi h (omega arith)))))
