-- What the walks over expressions answer.
use Rattle.std.specs.Prelude.{ℕ, zero, suc, ◌+◌, ◌-◌, ◌⊎◌, Option, MatchOption, ◌≤◌, ◌<◌, cond, List, [], ◌∷◌, ◌++◌, ◌≡◌, ltb, eqb, length, get_or}
use Rattle.ol_tables.specs.Heads.{parts_at, next_at}
use Rattle.ol_tables.specs.declared.heads.Parts.{Parts}
use Rattle.ol_tables.specs.declared.heads.Heads.{Heads}
use Rattle.ol_tables.specs.declared.heads.Call.{Call}
use Rattle.ol_tables.specs.declared.heads.NextCall.{NextCall}
use Rattle.ol_tables.specs.declared.heads.NextCall.TheVariants as Nxt

-- an expression's head, as the bytes tell it
pub record HeadOf (s : List ℕ) (at : ℕ) (h : Parts) : Type 0 where
  pub parts : h.count ≡ parts_at s at
  pub next : h.start ≡ next_at s at
  pub few : h.count ≤ 256
  pub onward : at < length s → at < h.start
  pub near : h.start ≤ at + 9

-- a walk passes over the head where it stands, p, and goes on behind it
pub record Passed (old new : Heads) (p : ℕ) : Type 0 where
  pub here : p ≡ old.at
  pub some : 0 < old.left
  pub inside : old.at < length old.file.now
  pub few : old.left ≤ length old.file.now
  pub head : Parts
  pub is : HeadOf old.file.now old.at head
  pub left : new.left ≡ old.left - 1 + head.count
  pub at : new.at ≡ head.start
  pub file : new.file ≡ old.file

-- a walk stays where it stands: no expression is left, the file ends, or more are left than it has bytes
pub record Stays (old new : Heads) : Type 0 where
  pub over : (old.left ≤ 0) ⊎ ((length old.file.now ≤ old.at) ⊎ (length old.file.now < old.left))
  pub same : new ≡ old

abbrev pub Steps : Heads → Heads → Option ℕ → Type 0
Steps old new r = MatchOption r (Stays old new) (Passed old new)

-- A walk over expressions that stand at `at`, so many one after the other, head by head: what `done` gives at its end, and before that what `own` adds at each head. It stops where the
-- file ends, and where more are left than the file has bytes. Each head but the last moves on, so as many heads as the file has bytes suffice.
module _ {A : Type 0} (own : ℕ → A → A) (done : ℕ → A) (s : List ℕ) where
  unfoldable pub walk_by : ℕ → ℕ → ℕ → A
  walk_by zero left at = done at
  walk_by (suc n) zero at = done at
  walk_by (suc n) (suc left) at = cond (ltb at (length s)) (cond (ltb left (length s)) (own at (walk_by n (left + parts_at s at) (next_at s at))) (done at)) (done at)

  abbrev pub walk_at : ℕ → ℕ → A
  walk_at left at = walk_by (length s) left at

-- where they end
abbrev pub skip_by : List ℕ → ℕ → ℕ → ℕ → ℕ
skip_by s n left at = walk_by (λ p r. r) (λ p. p) s n left at

abbrev pub skip_at : List ℕ → ℕ → ℕ → ℕ
skip_at s left at = skip_by s (length s) left at

-- the callee of the expression at `at`, if it is a call
abbrev pub own_at : List ℕ → ℕ → List ℕ
own_at s at = cond (eqb (get_or s at 0) 11) (get_or s (at + 1) 0 ∷ []) []

-- their callees, one entry for each call site
abbrev pub sites_by : List ℕ → ℕ → ℕ → ℕ → List ℕ
sites_by s n left at = walk_by (λ p r. own_at s p ++ r) (λ p. []) s n left at

abbrev pub sites_at : List ℕ → ℕ → ℕ → List ℕ
sites_at s left at = sites_by s (length s) left at

-- a call is met: its callee, and behind its head the place and how many expressions are left
pub record CallMet (s : List ℕ) (left at : ℕ) (r : Call) : Type 0 where
  pub is : sites_at s left at ≡ r.callee ∷ sites_at s r.left r.at
  pub ends : skip_at s left at ≡ skip_at s r.left r.at
  pub onward : at < r.at
  pub inside : at < length s

-- no call is met: where the walk ends
pub record NoCall (s : List ℕ) (left at end : ℕ) : Type 0 where
  pub none : sites_at s left at ≡ []
  pub ends : skip_at s left at ≡ end
  pub onward : at ≤ end

-- what looking for the next call among so many expressions at `at` answers
abbrev pub Calls : List ℕ → ℕ → ℕ → NextCall → Type 0
Calls s left at (Nxt.Found r) = CallMet s left at r
Calls s left at (Nxt.End end) = NoCall s left at end
