-- What reading the sections and the whole file answers, by what the readers of its parts answer.
use Prim.Native.Nat.{ℕ, zero, suc, ◌≤◌, ◌<◌}
use mathlib.Core.Bool.{Bool, true, false}
use mathlib.Core.List.{List, ◌∷◌}
use mathlib.Core.Path.{◌≡◌, refl, sym, ap, subst, ◌∙◌}
use mathlib.Core.Logic.{by_cases}
use native.Mathlib.Decide.{dec_le}
use native.Mathlib.Omega.{arith}
use lib.ListN.{length, get_or}
use lib.Dec.{eqb}
use borrow.Author.Tests.{lt-ltb, le-ltb, eq-eqb, ne_eqb, eqb-true, eqb-false}
use Rattle.std.specs.Prelude.{Ok, Err}
use Rattle.ol_spec.specs.Syntax.{File}
use Rattle.ol_spec.specs.Limits.{base, relay_loader}
use Rattle.ol_spec.specs.Read.{Read, got, fault, Reader, then_read, give, many, count_r, section_r, read_file}
use Rattle.ol_spec.specs.Answers.{fault_at}
use Rattle.ol_spec.specs.declared.Fault.{Fault}
use Rattle.ol_ir.specs.Nexts.{Counting, Next, counted_at, next_of, counted_of, list_of, reading_of, after_format}
use Rattle.ol_ir.proofs.Onward.{parts_of}
use Rattle.ol_ir.specs.Walks.{Loading, loaded_of}
use Rattle.ol_ir.proofs.Sizes.{never}
use Rattle.ol_ir.proofs.Bytes.{same_count, same_place, byte_in, byte_out}
use Rattle.ol_ir.specs.declared.Loaded.{Loaded}

-- ---- so many items are a list of that length

Long : {A : Type 0} → ℕ → Read (List A) → Type 0
Long n (got xs p) = length xs ≡ n
Long n (fault m p) = Unit {0}

long_then : {A B : Type 0} (n : ℕ) (r : Read A) (k : A → Reader (List B)) → ((a : A) (p : ℕ) → Long n (k a p)) → Long n (then_read r k)
unfolding then_read Long
long_then n (got a p) k h = h a p
long_then n (fault m p) k h = tt

long_cons : {A : Type 0} (n : ℕ) (x : A) (r : Read (List A)) → Long n r → Long (suc n) (then_read r (λ xs. give (x ∷ xs)))
unfolding then_read Long
long_cons n x (got xs p) h = ap suc h
long_cons n x (fault m p) h = tt

long_many : {A : Type 0} (r : Reader A) (n at : ℕ) → Long n (many n r at)
unfolding many Long
long_many r zero at = refl
long_many r (suc n) at = long_then (suc n) (r at) _ (λ x p. long_cons n x (many n r p) (long_many r n p))

pub many_long : {A : Type 0} (r : Reader A) (k at : ℕ) (xs : List A) (n : ℕ) → many k r at ≡ got xs n → length xs ≡ k
unfolding Long
many_long r k at xs n e = subst (Long k) e (long_many r k at)

long_list : {A : Type 0} (n : ℕ) (r : Read (List A)) → Long n r → list_of r ≡ parts_of n (next_of r)
unfolding list_of parts_of next_of Long
long_list n (got xs p) h = ap (λ (k : ℕ). Ok (counted_at k p)) h
long_list n (fault m p) h = refl

module _ {A : Type 0} (s : List ℕ) (lo hi : ℕ) (r : Reader A) (at : ℕ) {x : Counting} (e : x ≡ counted_of (count_r s lo hi at)) where
  list_read : (c : Read ℕ) (n p : ℕ) → counted_of c ≡ Ok (counted_at n p) → list_of (then_read c (λ k. many k r)) ≡ list_of (many n r p)
  unfolding counted_of then_read
  list_read (got a q) n p g = let u : a ≡ n = same_count g in let v : q ≡ p = same_place g in rw (u, v) refl
  list_read (fault a q) n p g = let z : ◌≡◌ {A = ℕ} 0 1 = cc in absurd (omega arith)

  list_fault : (c : Read ℕ) (f : Fault) → counted_of c ≡ Err f → list_of (then_read c (λ k. many k r)) ≡ Err f
  unfolding counted_of then_read list_of
  list_fault (got a q) f g = let z : ◌≡◌ {A = ℕ} 0 1 = cc in absurd (omega arith)
  list_fault (fault a q) f g = let z : fault_at a q ≡ f = cc in ap Err z

  -- a section's list: the count, then where the items end
  section_list : (n p : ℕ) → x ≡ Ok (counted_at n p) → list_of (section_r s lo hi r at) ≡ parts_of n (next_of (many n r p))
  section_list n p g = list_read (count_r s lo hi at) n p (sym e ∙ g) ∙ long_list n (many n r p) (long_many r n p)

  pub list_at : {y : Next} {n p q : ℕ} → x ≡ Ok (counted_at n p) → y ≡ next_of (many n r p) → y ≡ Ok q → Ok (counted_at n q) ≡ list_of (section_r s lo hi r at)
  unfolding parts_of
  list_at {n = n} {p} g i j = sym (section_list n p g ∙ ap (parts_of n) (sym i ∙ j))

  pub list_halt : {y : Next} {n p : ℕ} {f : Fault} → x ≡ Ok (counted_at n p) → y ≡ next_of (many n r p) → y ≡ Err f → Err f ≡ list_of (section_r s lo hi r at)
  unfolding parts_of
  list_halt {n = n} {p} g i j = sym (section_list n p g ∙ ap (parts_of n) (sym i ∙ j))

  pub list_none : {f : Fault} → x ≡ Err f → Err f ≡ list_of (section_r s lo hi r at)
  list_none {f} g = sym (list_fault (count_r s lo hi at) f (sym e ∙ g))

-- ---- the whole file

module _ (s : List ℕ) where
  pub file_long : 32768 < length s → read_file s relay_loader ≡ fault 1 32768
  unfolding read_file
  file_long h = rw (lt-ltb 32768 (length s) h) refl

  module _ (short : length s ≤ 32768) where
    pub file_empty : length s ≡ 0 → read_file s relay_loader ≡ fault 2 0
    unfolding read_file then_read
    file_empty h = rw (le-ltb 32768 (length s) short, byte_out s 0 (omega arith), h) refl

    module _ (some : length s ≡ 0 → ⊥) where
      pub file_known : get_or s 0 0 ≡ 1 → read_file s relay_loader ≡ after_format s base
      unfolding read_file after_format then_read
      file_known h = rw (le-ltb 32768 (length s) short, byte_in s 0 (omega arith), eq-eqb (get_or s 0 0) 1 h) refl

      pub file_unknown : (get_or s 0 0 ≡ 1 → ⊥) → read_file s relay_loader ≡ fault 3 0
      unfolding read_file then_read
      file_unknown h = rw (le-ltb 32768 (length s) short, byte_in s 0 (omega arith), ne_eqb (get_or s 0 0) 1 h) refl

-- whether it was read
pub read_done : {x : Loading} {l : Loaded} (r : Read File) → x ≡ loaded_of r → x ≡ Ok l → Ok tt ≡ reading_of r
unfolding loaded_of reading_of
read_done (got f at) e g = refl
read_done (fault n p) e g = let z : ◌≡◌ {A = ℕ} 0 1 = cc in absurd (omega arith)

pub read_refused : {x : Loading} {f : Fault} (r : Read File) → x ≡ loaded_of r → x ≡ Err f → Err f ≡ reading_of r
unfolding loaded_of reading_of
read_refused {f = f} (got a at) e g = let z : ◌≡◌ {A = ℕ} 0 1 = cc in absurd (omega arith)
read_refused {f = f} (fault n p) e g = let z : f ≡ fault_at n p = cc in ap Err z

-- a file that was read has the format that is known
pub file_after : (s : List ℕ) (f : File) (end : ℕ) → read_file s relay_loader ≡ got f end → after_format s base ≡ got f end
file_after s f end e =
    by_cases (dec_le (length s) 32768) (λ short.
    by_cases (dec_le (length s) 0) (λ none. absurd (never (sym (file_empty s short (omega arith)) ∙ e))) (λ some.
    tested short (λ z. some (omega arith)) (eqb (get_or s 0 0) 1) refl))
    (λ long. absurd (never (sym (file_long s (omega arith)) ∙ e)))
  where
    tested : length s ≤ 32768 → (length s ≡ 0 → ⊥) → (b : Bool) → eqb (get_or s 0 0) 1 ≡ b → after_format s base ≡ got f end
    tested short some true h = sym (file_known s short some (eqb-true (get_or s 0 0) 1 h)) ∙ e
    tested short some false h = absurd (never (sym (file_unknown s short some (eqb-false (get_or s 0 0) 1 h)) ∙ e))
