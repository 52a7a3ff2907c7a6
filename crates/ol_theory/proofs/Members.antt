-- Lemmas on numbers in lists, and the pigeonhole.
use mathlib.Core.Path.{◌≡◌, refl, sym, ap, ap₂, subst, ◌∙◌}
use mathlib.Core.Logic.{◌⊎◌, inl, inr, ite, by_cases, ⊎_elim}
use mathlib.Core.List.Memᴰ
use mathlib.Core.List.Memᴰ.{append_cases as in_append}
use mathlib.Core.List.Memᴰ.{cases_cons as in_cons}
use mathlib.Core.List.Memᴰ.{head as here}
use mathlib.Core.List.Memᴰ.{not-nil as in_nil}
use mathlib.Core.List.Memᴰ.{tail as there}
use mathlib.Core.List.{List, [], ◌∷◌, reverse_aux, map, filter, flat_map, head-eq_of_cons-eq, tail-eq_of_cons-eq}
use Prim.Native.Nat.{ℕ, zero, suc, ◌+◌, ◌≤◌, ◌<◌, zero-le}
use native.Mathlib.Omega.{arith}
use native.Mathlib.Decide.{ℕ_discrete}
use lib.ListN.{length, get_or}
use Rattle.ol_theory.specs.Member.{◌∈◌, from, upto, Distinct}

-- a property of both branches is one of the if
pub if_case {κ} : {P : Type 0} {C : Type 0} (R : C → Type κ) (d : Dec P) {a b : C} → (P → R a) → (¬ P → R b) → R (ite d a b)
if_case R (yes p) f g = f p
if_case R (no n) f g = g n

-- two ifs on the same condition are the same
pub if_iff : {P Q : Type 0} {C : Type 0} (d : Dec P) (e : Dec Q) → (P → Q) → (Q → P) → (a b : C) → ite d a b ≡ ite e a b
if_iff (yes p) (yes q) f g a b = refl
if_iff (yes p) (no q) f g a b = absurd (q (f p))
if_iff (no p) (yes q) f g a b = absurd (p (g q))
if_iff (no p) (no q) f g a b = refl

pub from_in : (i c j : ℕ) → i ≤ j → j < i + c → j ∈ from i c
unfolding from
from_in i zero j h k = absurd (omega arith)
from_in i (suc c) j h k = by_cases (ℕ_discrete j i) here (λ e. there (from_in (suc i) c j (omega arith) (omega arith)))

pub in_from : (i c j : ℕ) → j ∈ from i c → (i ≤ j) × (j < i + c)
unfolding from
in_from i zero j h = absurd (in_nil h)
in_from i (suc c) j h = ⊎_elim (λ e. omega arith) (λ m. omega (arith, in_from (suc i) c j m)) (in_cons h)

pub length_from : (i c : ℕ) → length (from i c) ≡ c
unfolding from
length_from i zero = refl
length_from i (suc c) = ap suc (length_from (suc i) c)

pub distinct_from : (i c : ℕ) → Distinct (from i c)
unfolding from
distinct_from i zero = tt
distinct_from i (suc c) = (λ h. omega (arith, in_from (suc i) c i h), distinct_from (suc i) c)

pub in_upto : (n i : ℕ) → i ∈ upto n → i < n
in_upto n i m = omega (arith, in_from 0 n i m)

pub upto_in : (n i : ℕ) → i < n → i ∈ upto n
upto_in n i b = from_in 0 n i (omega arith) (omega arith)

-- the list without one entry
pub without : {x : ℕ} {r : List ℕ} → x ∈ r → (s : List ℕ) × (length r ≡ suc (length s)) × ((y : ℕ) → y ∈ r → (y ≡ x) ⊎ (y ∈ s))
without (here {xs = xs} e) = (xs, refl, λ y h. ⊎_elim (λ p. inl (p ∙ sym e)) inr (in_cons h))
without (there {x = z} h) =
    let w = without h in
    (z ∷ w.0, ap suc w.1, λ y k. ⊎_elim (λ p. inr (here p)) (λ m. ⊎_elim inl (λ n. inr (there n)) (w.2 y m)) (in_cons k))

-- the pigeonhole: a list with no repetition is no longer than one that has all its entries
pub pigeon : (l r : List ℕ) → Distinct l → ((y : ℕ) → y ∈ l → y ∈ r) → length l ≤ length r
pigeon [] r d f = zero-le
pigeon (x ∷ l) r d f =
    let w = without (f x (here refl)) in
    let k = pigeon l w.0 d.1 (λ y h. ⊎_elim (λ e. absurd (d.0 (Memᴰ.cast (sym e) h))) (λ m. m) (w.2 y (f y (there h)))) in
    omega (arith, w.1)

-- entries of a reversed list
pub in_reverse : {i : ℕ} (l s : List ℕ) → i ∈ reverse_aux l s → (i ∈ l) ⊎ (i ∈ s)
in_reverse [] s h = inr h
in_reverse (x ∷ l) s h = ⊎_elim (λ m. inl (there m)) (λ m. ⊎_elim (λ e. inl (here e)) inr (in_cons m)) (in_reverse l (x ∷ s) h)

pub reverse_right : {i : ℕ} (l s : List ℕ) → i ∈ s → i ∈ reverse_aux l s
reverse_right [] s h = h
reverse_right (x ∷ l) s h = reverse_right l (x ∷ s) (there h)

pub reverse_left : {i : ℕ} (l s : List ℕ) → i ∈ l → i ∈ reverse_aux l s
reverse_left (x ∷ l) s h = ⊎_elim (λ e. reverse_right l (x ∷ s) (here e)) (reverse_left l (x ∷ s)) (in_cons h)
reverse_left [] s h = absurd (in_nil h)

-- entries of a filtered list and of lists joined
pub in_filter : {p : ℕ → Type 0} (d : (a : ℕ) → Dec (p a)) (l : List ℕ) (a : ℕ) → a ∈ filter d l → (a ∈ l) × p a
in_filter d [] a = λ m. absurd (in_nil m)
in_filter {p} d (x ∷ l) a =
    if_case (λ r. a ∈ r → (a ∈ (x ∷ l)) × p a) (d x)
    (λ h m. ⊎_elim (λ e. (here e, subst p (sym e) h)) (λ k. let w = in_filter d l a k in (there w.0, w.1)) (in_cons m))
    (λ h m. let w = in_filter d l a m in (there w.0, w.1))

pub filter_in : {p : ℕ → Type 0} (d : (a : ℕ) → Dec (p a)) (l : List ℕ) (a : ℕ) → a ∈ l → p a → a ∈ filter d l
filter_in d [] a m h = absurd (in_nil m)
filter_in {p} d (x ∷ l) a m h =
    if_case (λ r. a ∈ r) (d x)
    (λ k. ⊎_elim here (λ n. there (filter_in d l a n h)) (in_cons m))
    (λ k. ⊎_elim (λ e. absurd (k (subst p e h))) (λ n. filter_in d l a n h) (in_cons m))

pub in_flat_map : (f : ℕ → List ℕ) (l : List ℕ) (a : ℕ) → a ∈ flat_map f l → (x : ℕ) × (x ∈ l) × (a ∈ f x)
unfolding flat_map
in_flat_map f [] a m = absurd (in_nil m)
in_flat_map f (x ∷ l) a m = ⊎_elim (λ k. (x, here refl, k)) (λ k. let w = in_flat_map f l a k in (w.0, there w.1, w.2)) (in_append (f x) m)

pub flat_map_in : (f : ℕ → List ℕ) (l : List ℕ) (a x : ℕ) → x ∈ l → a ∈ f x → a ∈ flat_map f l
unfolding flat_map
flat_map_in f [] a x m k = absurd (in_nil m)
flat_map_in f (y ∷ l) a x m k = ⊎_elim (λ e. Memᴰ.append_left (flat_map f l) (rw e at k)) (λ n. Memᴰ.append_right (f y) (flat_map_in f l a x n k)) (in_cons m)

module _ {A : Type 0} where
  pub map_cong : (f g : ℕ → A) (xs : List ℕ) → ((x : ℕ) → x ∈ xs → f x ≡ g x) → map f xs ≡ map g xs
  map_cong f g [] h = refl
  map_cong f g (x ∷ xs) h = ap₂ {C = List A} (λ a l. a ∷ l) (h x (here refl)) (map_cong f g xs (λ y m. h y (there m)))

  pub map_agree : (f g : ℕ → A) (xs : List ℕ) → map f xs ≡ map g xs → (x : ℕ) → x ∈ xs → f x ≡ g x
  map_agree f g [] e x m = absurd (in_nil m)
  map_agree f g (y ∷ xs) e x m = ⊎_elim (λ p. ap f p ∙ head-eq_of_cons-eq e ∙ sym (ap g p)) (map_agree f g xs (tail-eq_of_cons-eq e) x) (in_cons m)

  get_d_map_from : (f : ℕ → A) (i c j : ℕ) (d : A) → j < c → get_or (map f (from i c)) j d ≡ f (i + j)
  unfolding from
  get_d_map_from f i zero j d h = absurd (omega arith)
  get_d_map_from f i (suc c) zero d h = ap f (omega arith)
  get_d_map_from f i (suc c) (suc j) d h = get_d_map_from f (suc i) c j d (omega arith) ∙ ap f (omega arith)

  pub map_upto : (f : ℕ → A) (n i : ℕ) (d : A) → i < n → get_or (map f (upto n)) i d ≡ f i
  map_upto f n i d b = get_d_map_from f 0 n i d b ∙ ap f (omega arith)
