-- Reading goes on by places alone: what a chain of readers answers, by what each answers.
use Prim.Native.Nat.{ℕ, zero, suc, ◌+◌, ◌≤◌, ◌<◌}
use mathlib.Core.List.{List}
use mathlib.Core.Path.{◌≡◌, refl, sym, ap, ◌∙◌}
use native.Mathlib.Omega.{arith}
use lib.ListN.{length}
use Rattle.std.specs.Prelude.{Result, Ok, Err, IsErrAnd}
use Rattle.std.proofs.lemmas.Result.{err_from_is_err_and}
use Rattle.ol_spec.specs.Syntax.{Expr}
use Rattle.ol_spec.specs.Read.{Read, got, fault, Reader, then_read, many, many_exprs, count_r, section_r}
use Rattle.ol_spec.specs.declared.Fault.{Fault}
use Rattle.ol_ir.specs.Nexts.{Counting, Next, counted_at, next_of, counted_of, list_of, onward, repeat, section_by}

-- what follows from where reading goes on
unfoldable pub on_items : Counting → (ℕ → ℕ → Next) → Next
on_items (Ok c) k = k c.count c.at
on_items (Err f) k = Err f

-- so many items, the first where reading goes on
unfoldable pub parts_of : ℕ → Next → Counting
parts_of n (Ok p) = Ok (counted_at n p)
parts_of n (Err f) = Err f

-- what the exit of a `?` returns
pub erred : {T : Type 0} (r : Result T Fault) (f : Fault) → IsErrAnd r (λ e. e ≡ f) → r ≡ Err f
erred r f h = let p = err_from_is_err_and r h in p.1 ∙ ap Err p.2

-- ---- chains

module _ {A B : Type 0} where
  pub next_then : (r : Read A) (k : A → Reader B) (f : ℕ → Next) → ((a : A) (n : ℕ) → next_of (k a n) ≡ f n) → next_of (then_read r k) ≡ onward (next_of r) f
  unfolding next_of then_read onward
  next_then (got a n) k f h = h a n
  next_then (fault n p) k f h = refl

  -- what is made of what was read changes no place
  pub next_give : (r : Read A) (g : A → B) → next_of (then_read r (λ a at. got (g a) at)) ≡ next_of r
  unfolding next_of then_read
  next_give (got a n) g = refl
  next_give (fault n p) g = refl

module _ {B : Type 0} where
  pub counted_then : (r : Read ℕ) (k : ℕ → Reader B) (f : ℕ → ℕ → Next) → ((n p : ℕ) → next_of (k n p) ≡ f n p) → next_of (then_read r k) ≡ on_items (counted_of r) f
  unfolding next_of counted_of then_read on_items
  counted_then (got a n) k f h = h a n
  counted_then (fault n p) k f h = refl

  pub list_then : {A : Type 0} (r : Read (List A)) (k : List A → Reader B) (f : ℕ → ℕ → Next) → ((xs : List A) (n : ℕ) → next_of (k xs n) ≡ f (length xs) n) → next_of (then_read r k) ≡ on_items (list_of r) f
  unfolding next_of list_of then_read on_items
  list_then (got a n) k f h = h a n
  list_then (fault n p) k f h = refl

pub onward_at : (x : Next) → onward x Ok ≡ x
unfolding onward
onward_at (Ok p) = refl
onward_at (Err f) = refl

-- ---- w is a chain: y, and what follows from where y goes on

pub record Chain (w y : Next) (k : ℕ → Next) : Type 0 where
  pub is : w ≡ onward y k

pub record ItemChain (w : Next) (y : Counting) (k : ℕ → ℕ → Next) : Type 0 where
  pub is : w ≡ on_items y k

pub link : {y : Next} {k : ℕ → Next} → Chain (onward y k) y k
link = record { is = refl }

-- a callee answered x, which stands for y: how the chain goes on

module _ {x y w : Next} {k : ℕ → Next} where
  pub arrive : {z : Next} {p : ℕ} → Chain w y k → x ≡ y → x ≡ Ok p → z ≡ k p → z ≡ w
  unfolding onward
  arrive law e g h = h ∙ sym (law.is ∙ ap (λ (v : Next). onward v k) (sym e ∙ g))

  pub halt : {f : Fault} → Chain w y k → x ≡ y → x ≡ Err f → Err f ≡ w
  unfolding onward
  halt law e g = sym (law.is ∙ ap (λ (v : Next). onward v k) (sym e ∙ g))

module _ {x y : Counting} {w : Next} {k : ℕ → ℕ → Next} where
  pub items : {z : Next} {n p : ℕ} → ItemChain w y k → x ≡ y → x ≡ Ok (counted_at n p) → z ≡ k n p → z ≡ w
  unfolding on_items
  items law e g h = h ∙ sym (law.is ∙ ap (λ (v : Counting). on_items v k) (sym e ∙ g))

  pub no_items : {f : Fault} → ItemChain w y k → x ≡ y → x ≡ Err f → Err f ≡ w
  unfolding on_items
  no_items law e g = sym (law.is ∙ ap (λ (v : Counting). on_items v k) (sym e ∙ g))

-- ---- loops

module _ {A : Type 0} (r : Reader A) where
  pub many_next : (n at : ℕ) → next_of (many n r at) ≡ repeat n (λ p. next_of (r p)) at
  unfolding many next_of repeat
  many_next zero at = refl
  many_next (suc n) at = next_then (r at) _ _ (λ a m. next_give (many n r m) _ ∙ many_next n m)

module _ (r : Reader Expr) where
  pub exprs_next : (n at : ℕ) → next_of (many_exprs n r at) ≡ repeat n (λ p. next_of (r p)) at
  unfolding many_exprs next_of repeat
  exprs_next zero at = refl
  exprs_next (suc n) at = next_then (r at) _ _ (λ a m. next_give (many_exprs n r m) _ ∙ exprs_next n m)

module _ (f : ℕ → Next) (at : ℕ) where
  repeat_at : (n m p : ℕ) → n ≡ m + 1 → f at ≡ Ok p → repeat n f at ≡ repeat m f p
  unfolding repeat onward
  repeat_at zero m p h e = absurd (omega arith)
  repeat_at (suc n) m p h e = let one : n ≡ m = omega arith in rw (e, one) refl

  repeat_halt : (n : ℕ) (g : Fault) → 0 < n → f at ≡ Err g → repeat n f at ≡ Err g
  unfolding repeat onward
  repeat_halt zero g h e = absurd (omega arith)
  repeat_halt (suc n) g h e = rw e refl

  repeat_none : (n : ℕ) → n ≤ 0 → repeat n f at ≡ Ok at
  unfolding repeat
  repeat_none zero h = refl
  repeat_none (suc n) h = absurd (omega arith)

  pub repeat_one : repeat 1 f at ≡ f at
  unfolding repeat
  repeat_one = onward_at (f at)

-- w is what `left` items from `at` on answer, each by f
pub record Turns (w : Next) (left : ℕ) (f : ℕ → Next) (at : ℕ) : Type 0 where
  pub is : w ≡ repeat left f at

-- a loop's turn: the first of the items answered x
module _ {x w : Next} {f : ℕ → Next} {left at : ℕ} (t : Turns w left f at) where
  pub turn : {p m : ℕ} → left ≡ m + 1 → x ≡ f at → x ≡ Ok p → Turns w m f p
  turn {p} {m} h e g = record { is = t.is ∙ repeat_at f at left m p h (sym e ∙ g) }

  pub turn_halt : {g : Fault} → 0 < left → x ≡ f at → x ≡ Err g → Err g ≡ w
  turn_halt {g} h e i = sym (t.is ∙ repeat_halt f at left g h (sym e ∙ i))

-- and its end
pub turns_end : {w : Next} {f : ℕ → Next} {left at : ℕ} → Turns w left f at → left ≤ 0 → Ok at ≡ w
turns_end {w} {f} {left} {at} t h = sym (t.is ∙ repeat_none f at left h)

-- ---- sections

-- a count's answer, and that of the items behind it
section_on : (f : ℕ → Next) (r : Read ℕ) → section_by f r ≡ on_items (counted_of r) (λ n p. repeat n f p)
unfolding section_by counted_of on_items
section_on f (got n p) = refl
section_on f (fault n p) = refl

pub counted_chain : (f : ℕ → Next) (r : Read ℕ) → ItemChain (section_by f r) (counted_of r) (λ n p. repeat n f p)
counted_chain f r = record { is = section_on f r }

-- a section of items is a count, and so many
section_then : {A : Type 0} (r : Reader A) (c : Read ℕ) → section_by (λ p. next_of (r p)) c ≡ next_of (then_read c (λ n. many n r))
unfolding section_by then_read next_of
section_then r (got n p) = sym (many_next r n p)
section_then r (fault n p) = refl

pub section_next : {A : Type 0} (s : List ℕ) (lo hi : ℕ) (r : Reader A) (at : ℕ) → section_by (λ p. next_of (r p)) (count_r s lo hi at) ≡ next_of (section_r s lo hi r at)
section_next s lo hi r at = section_then r (count_r s lo hi at)
