-- Expressions passed over head by head: where the walk ends and which calls it meets, for any bytes and for expressions that stand there.
use Prim.Native.Nat.{ℕ, zero, suc, ◌+◌, ◌-◌, ◌≤◌, ◌<◌}
use mathlib.Core.Bool.{Bool, true, false, cond}
use mathlib.Core.List.{List, [], ◌∷◌, ◌++◌, append_assoc}
use mathlib.Core.Logic.{by_cases, inl, inr}
use mathlib.Core.Path.{◌≡◌, refl, sym, ap, ap₂, subst, ◌∙◌}
use native.Mathlib.Decide.{dec_lt}
use native.Mathlib.Omega.{arith}
use lib.ListN.{length, get_or}
use lib.Dec.{ltb, eqb}
use borrow.Author.Tests.{lt-ltb, le-ltb}
use Rattle.ol_spec.specs.Syntax.{Expr, bool_lit, int_lit, float_lit, char_lit, var, unary, binary, if_then_else, pre, arrow, cast, call, tuple, index, literal, map_over, fold_over, Exprs, nil, cons, count}
use Rattle.ol_spec.specs.Places.{expr_size, exprs_size}
use Rattle.ol_spec.specs.Eval.{callees, callees_all}
use Rattle.ol_spec.proofs.RoundTrip.Parts.{here_inside}
use Rattle.ol_spec.proofs.RoundTrip.Items.{exprs_size_lem}
use Rattle.ol_tables.specs.Heads.{parts_at, next_at, parts_of, head_size, joined, Byte, HeadIs, Standing}
use Rattle.ol_tables.specs.Parts.{own_sites}
use Rattle.ol_tables.specs.Walks.{HeadOf, walk_by, skip_by, skip_at, own_at, sites_by, sites_at, CallMet, NoCall, Passed, Stays}
use Rattle.ol_tables.specs.declared.heads.Parts.{Parts}
use Rattle.ol_tables.specs.declared.heads.Heads.{Heads}
use Rattle.ol_tables.proofs.Forms.{callees_parts}
use Rattle.ol_tables.proofs.HeadLaws.{headed, parts_told, next_told, joined_count, head_some, head_ends}
use Rattle.ol_tables.proofs.Walking.{next_on_lem}

-- an expression has a byte at least
pub some_size : (e : Expr) → 1 ≤ expr_size e
some_size (bool_lit b) = omega arith
some_size (int_lit i) = omega arith
some_size (float_lit b) = omega arith
some_size (char_lit c) = omega arith
some_size (var x) = omega arith
some_size (unary op e) = omega arith
some_size (binary op l r) = omega arith
some_size (if_then_else c t e) = omega arith
some_size (pre e) = omega arith
some_size (arrow a b) = omega arith
some_size (cast t e) = omega arith
some_size (call k es) = omega arith
some_size (tuple es) = omega arith
some_size (index a i) = omega arith
some_size (literal es) = omega arith
some_size (map_over k es) = omega arith
some_size (fold_over k s es) = omega arith

pub count_size : (es : Exprs) → count es ≤ exprs_size es
count_size nil = omega arith
count_size (cons e es) = omega (arith, some_size e, count_size es)

-- there are no more expressions than bytes
pub standing_few : {s : List ℕ} {enums at : ℕ} (es : Exprs) → Standing s enums at es → 0 < count es → at + count es ≤ length s
standing_few es st h = omega (arith, here_inside st.here (omega (arith, exprs_size_lem es, count_size es)), exprs_size_lem es, count_size es)

-- ---- step by step

same_both : {A : Type 0} (b : Bool) (x : A) → cond b x x ≡ x
same_both true x = refl
same_both false x = refl

module _ {A : Type 0} (own : ℕ → A → A) (done : ℕ → A) (s : List ℕ) where
  abbrev walk : ℕ → ℕ → ℕ → A
  walk n left at = walk_by own done s n left at

  -- a head is passed
  pub walk_next : (n left at : ℕ) → at < length s → left < length s → walk (suc n) (suc left) at ≡ own at (walk n (left + parts_at s at) (next_at s at))
  unfolding walk_by
  walk_next n left at i j =
      let y = own at (walk n (left + parts_at s at) (next_at s at)) in
      ap (λ b. cond b (cond (ltb left (length s)) y (done at)) (done at)) (lt-ltb at (length s) i) ∙ ap (λ b. cond b y (done at)) (lt-ltb left (length s) j)

  -- none is left
  pub walk_none : (n left at : ℕ) → left ≤ 0 → walk n left at ≡ done at
  unfolding walk_by
  walk_none zero left at h = refl
  walk_none (suc n) zero at h = refl
  walk_none (suc n) (suc left) at h = absurd (omega arith)

  -- the file ends
  pub walk_end : (n left at : ℕ) → length s ≤ at → walk n left at ≡ done at
  unfolding walk_by
  walk_end zero left at h = refl
  walk_end (suc n) zero at h = refl
  walk_end (suc n) (suc left) at h = ap (λ b. cond b (cond (ltb left (length s)) (own at (walk n (left + parts_at s at) (next_at s at))) (done at)) (done at)) (le-ltb at (length s) h)

  -- more are left than the file has bytes
  pub walk_many : (n left at : ℕ) → length s < left → walk n left at ≡ done at
  unfolding walk_by
  walk_many zero left at h = refl
  walk_many (suc n) zero at h = absurd (omega arith)
  walk_many (suc n) (suc left) at h =
      ap (λ b. cond (ltb at (length s)) (cond b (own at (walk n (left + parts_at s at) (next_at s at))) (done at)) (done at)) (le-ltb left (length s) (omega arith)) ∙ same_both (ltb at (length s)) (done at)

  -- any number of heads suffices that is not below the bytes that are left
  pub walk_enough : (n m left at : ℕ) → length s - at ≤ n → length s - at ≤ m → walk n left at ≡ walk m left at
  unfolding walk_by
  walk_enough zero m left at h k = sym (walk_end m left at (omega arith))
  walk_enough (suc n) zero left at h k = walk_end (suc n) left at (omega arith)
  walk_enough (suc n) (suc m) zero at h k = refl
  walk_enough (suc n) (suc m) (suc left) at h k =
      by_cases (dec_lt at (length s))
      (λ i. by_cases (dec_lt left (length s))
      (λ j. walk_next n left at i j ∙ ap (own at) (walk_enough n m (left + parts_at s at) (next_at s at) (omega (arith, next_on_lem s at i)) (omega (arith, next_on_lem s at i))) ∙ sym (walk_next m left at i j))
      (λ j. walk_many (suc n) (suc left) at (omega arith) ∙ sym (walk_many (suc m) (suc left) at (omega arith))))
      (λ i. walk_end (suc n) (suc left) at (omega arith) ∙ sym (walk_end (suc m) (suc left) at (omega arith)))

  -- a turn of the walk
  pub walk_turn : (left at : ℕ) {k next : ℕ} → 0 < left → at < length s → left ≤ length s → k ≡ parts_at s at → next ≡ next_at s at → walk (length s) left at ≡ own at (walk (length s) (left - 1 + k) next)
  walk_turn left at {k} {next} u i j p q = go (length s) left (omega arith) u j
    where
      go : (n left : ℕ) → length s - at ≤ n → 0 < left → left ≤ length s → walk n left at ≡ own at (walk (length s) (left - 1 + k) next)
      go zero left h u j = absurd (omega arith)
      go (suc n) zero h u j = absurd (omega arith)
      go (suc n) (suc left) h u j =
          let b : suc left - 1 ≡ left = omega arith in
          walk_next n left at i (omega arith) ∙ ap (own at) (rw (b, p, q) (walk_enough n (length s) (left + parts_at s at) (next_at s at) (omega (arith, next_on_lem s at i)) (omega arith)))

-- ---- expressions that stand there

pub skip_standing : (n : ℕ) (s : List ℕ) (enums at : ℕ) (es : Exprs) → length s - at ≤ n → Standing s enums at es → skip_by s n (count es) at ≡ at + exprs_size es
skip_standing zero s enums at nil h st = walk_none _ _ s 0 0 at (omega arith) ∙ omega arith
skip_standing zero s enums at (cons e es) h st = let i = (headed e es st).inside in absurd (omega arith)
skip_standing (suc n) s enums at nil h st = walk_none _ _ s (suc n) 0 at (omega arith) ∙ omega arith
skip_standing (suc n) s enums at (cons e es) h st =
    let d = headed e es st in
    let k : count es + parts_at s at ≡ count (joined (parts_of e) es) = omega (arith, parts_told s at e d.head, joined_count (parts_of e) es) in
    walk_next _ _ s n (count es) at d.inside (omega (arith, standing_few (cons e es) st (omega arith)))
    ∙ ap₂ (skip_by s n) k (next_told s at e d.inside d.head)
    ∙ skip_standing n s enums (at + head_size e) (joined (parts_of e) es) (omega (arith, head_some e)) d.rest
    ∙ omega (arith, head_ends e es at)

pub skip_stands : {s : List ℕ} {enums at : ℕ} {es : Exprs} {n : ℕ} → count es ≡ n → Standing s enums at es → skip_at s n at ≡ at + exprs_size es
skip_stands {s} {enums} {at} {es} e st = ap (λ n. skip_at s n at) (sym e) ∙ skip_standing (length s) s enums at es (omega arith) st

-- ---- their callees

-- the head tells the callee
pub own_told : (s : List ℕ) (at : ℕ) (e : Expr) → HeadIs s at e → own_at s at ≡ own_sites e
own_told s at (bool_lit b) h = rw h
own_told s at (int_lit i) h = rw h
own_told s at (float_lit b) h = rw h
own_told s at (char_lit c) h = rw h
own_told s at (var x) h = rw h.0
own_told s at (unary op e) h = rw h
own_told s at (binary op a b) h = rw h
own_told s at (if_then_else c a b) h = rw h
own_told s at (pre e) h = rw h
own_told s at (arrow a b) h = rw h
own_told s at (cast t e) h = rw h.0
own_told s at (call k es) h = rw (h.0, h.1)
own_told s at (tuple es) h = rw h.0
own_told s at (index a i) h = rw h
own_told s at (literal es) h = rw h.0
own_told s at (map_over k es) h = rw h.0
own_told s at (fold_over k e es) h = rw h.0

pub callees_joined : (es fs : Exprs) → callees_all (joined es fs) ≡ callees_all es ++ callees_all fs
unfolding joined
callees_joined nil fs = refl
callees_joined (cons e es) fs = ap (λ l. callees e ++ l) (callees_joined es fs) ∙ sym (append_assoc (callees e) (callees_all es) (callees_all fs))

-- the first one's own, then those of its parts and the others
pub callees_on : (e : Expr) (es : Exprs) → callees_all (cons e es) ≡ own_sites e ++ callees_all (joined (parts_of e) es)
callees_on e es =
    ap (λ l. l ++ callees_all es) (callees_parts e) ∙ append_assoc (own_sites e) (callees_all (parts_of e)) (callees_all es)
    ∙ ap (λ l. own_sites e ++ l) (sym (callees_joined (parts_of e) es))

pub sites_standing : (n : ℕ) (s : List ℕ) (enums at : ℕ) (es : Exprs) → length s - at ≤ n → Standing s enums at es → sites_by s n (count es) at ≡ callees_all es
sites_standing zero s enums at nil h st = walk_none _ _ s 0 0 at (omega arith)
sites_standing zero s enums at (cons e es) h st = let i = (headed e es st).inside in absurd (omega arith)
sites_standing (suc n) s enums at nil h st = walk_none _ _ s (suc n) 0 at (omega arith)
sites_standing (suc n) s enums at (cons e es) h st =
    let d = headed e es st in
    let k : count es + parts_at s at ≡ count (joined (parts_of e) es) = omega (arith, parts_told s at e d.head, joined_count (parts_of e) es) in
    walk_next _ _ s n (count es) at d.inside (omega (arith, standing_few (cons e es) st (omega arith)))
    ∙ ap₂ (λ (ks ls : List ℕ). ks ++ ls) (own_told s at e d.head)
    (ap₂ (sites_by s n) k (next_told s at e d.inside d.head) ∙ sites_standing n s enums (at + head_size e) (joined (parts_of e) es) (omega (arith, head_some e)) d.rest)
    ∙ sym (callees_on e es)

pub sites_stand : {s : List ℕ} {enums at : ℕ} {es : Exprs} {n : ℕ} → count es ≡ n → Standing s enums at es → sites_at s n at ≡ callees_all es
sites_stand {s} {enums} {at} {es} e st = ap (λ n. sites_at s n at) (sym e) ∙ sites_standing (length s) s enums at es (omega arith) st

-- ---- the next call

-- a call's callee; another form has none
own_callee : (s : List ℕ) (at : ℕ) {k : ℕ} → true ≡ eqb (get_or s at 0) 11 → Byte s (at + 1) k → own_at s at ≡ k ∷ []
own_callee s at e c = rw (← e, ← c.is) refl

own_none : (s : List ℕ) (at : ℕ) → false ≡ eqb (get_or s at 0) 11 → own_at s at ≡ []
own_none s at e = rw (← e) refl

-- of the expressions at `at`, so many, those that are left stand at `next`, and no call was met before them
pub record Looking (s : List ℕ) (parts at left next : ℕ) : Type 0 where
  pub sites : sites_at s parts at ≡ sites_at s left next
  pub ends : skip_at s parts at ≡ skip_at s left next
  pub onward : at ≤ next

module _ {s : List ℕ} {parts at left next : ℕ} (l : Looking s parts at left next) where
  module _ (u : 0 < left) (i : next < length s) (j : left ≤ length s) {h : Parts} (t : HeadOf s next h) where
    -- a call's head
    pub looked_call : {k : ℕ} → true ≡ eqb (get_or s next 0) 11 → Byte s (next + 1) k → CallMet s parts at (record { callee = k; at = h.start; left = left - 1 + h.count })
    looked_call {k} e c =
        record {
          is = l.sites ∙ walk_turn _ _ s left next u i j t.parts t.next ∙ ap (λ (ks : List ℕ). ks ++ sites_at s (left - 1 + h.count) h.start) (own_callee s next e c);
          ends = l.ends ∙ walk_turn _ _ s left next u i j t.parts t.next;
          onward = omega (arith, l.onward, t.onward i);
          inside = omega (arith, l.onward, i);
        }

    -- another one's
    pub looking_on : false ≡ eqb (get_or s next 0) 11 → Looking s parts at (left - 1 + h.count) h.start
    looking_on e =
        record {
          sites = l.sites ∙ walk_turn _ _ s left next u i j t.parts t.next ∙ ap (λ (ks : List ℕ). ks ++ sites_at s (left - 1 + h.count) h.start) (own_none s next e);
          ends = l.ends ∙ walk_turn _ _ s left next u i j t.parts t.next;
          onward = omega (arith, l.onward, t.onward i);
        }

-- ---- the same, step by step of a walk over heads

-- a walk that stays is at its end
module _ {old new : Heads} (t : Stays old new) where
  over_by : {A : Type 0} (own : ℕ → A → A) (done : ℕ → A) → walk_by own done old.file.now (length old.file.now) old.left old.at ≡ done old.at
  over_by own done =
      elim t.over [
        | inl none ↦ walk_none own done old.file.now (length old.file.now) old.left old.at none
        | inr rest ↦ elim rest [
          | inl end ↦ walk_end own done old.file.now (length old.file.now) old.left old.at end
          | inr many ↦ walk_many own done old.file.now (length old.file.now) old.left old.at many
        ]
      ]

  pub skip_over : {s : List ℕ} {end : ℕ} → old.file.now ≡ s → skip_at s old.left old.at ≡ end → new.at ≡ end
  skip_over e i = ap (λ h. h.at) t.same ∙ sym (over_by (λ p r. r) (λ p. p)) ∙ ap (λ f. skip_at f old.left old.at) e ∙ i

  pub looked_over : {s : List ℕ} {parts at : ℕ} → old.file.now ≡ s → Looking s parts at old.left old.at → NoCall s parts at new.at
  looked_over {s} {parts} {at} e l =
      let stay : new.at ≡ old.at = ap (λ h. h.at) t.same in
      let none = ap (λ f. sites_at f old.left old.at) (sym e) ∙ over_by (λ p r. own_at old.file.now p ++ r) (λ p. []) in
      let ends = ap (λ f. skip_at f old.left old.at) (sym e) ∙ over_by (λ p r. r) (λ p. p) in
      rw stay (record { none = l.sites ∙ none; ends = l.ends ∙ ends; onward = l.onward })

-- a walk that passes over a head
module _ {old new : Heads} {p : ℕ} (t : Passed old new p) {s : List ℕ} (e : old.file.now ≡ s) where
  pub same_file : new.file.now ≡ s
  same_file = ap (λ f. f.now) t.file ∙ e

  in_file : old.at < length s
  in_file = omega (arith, t.inside, ap length e)

  few_left : old.left ≤ length s
  few_left = omega (arith, t.few, ap length e)

  head_of : HeadOf s old.at t.head
  head_of = subst (λ f. HeadOf f old.at t.head) e t.is

  pub skip_passed : {end : ℕ} → skip_at s old.left old.at ≡ end → skip_at s new.left new.at ≡ end
  skip_passed i = rw (t.left, t.at) (sym (walk_turn _ _ s old.left old.at t.some in_file few_left head_of.parts head_of.next) ∙ i)

  module _ {parts at : ℕ} (l : Looking s parts at old.left old.at) where
    pub met_here : {k : ℕ} → true ≡ eqb (get_or s p 0) 11 → Byte s (p + 1) k → CallMet s parts at (record { callee = k; at = new.at; left = new.left })
    met_here {k} is c =
        rw (t.left, t.at) (looked_call l t.some in_file few_left head_of (is ∙ ap (λ q. eqb (get_or s q 0) 11) t.here) (subst (λ q. Byte s (q + 1) k) t.here c))

    pub passed_here : false ≡ eqb (get_or s p 0) 11 → Looking s parts at new.left new.at
    passed_here is = rw (t.left, t.at) (looking_on l t.some in_file few_left head_of (is ∙ ap (λ q. eqb (get_or s q 0) 11) t.here))
