-- The bytes of a line, and turns.
use Prim.Native.Nat.{ℕ, zero, suc, ◌+◌, ◌-◌, ◌≤◌, ◌<◌, min}
use mathlib.Core.Bool.{Bool, true, false, not, cond, ◌||◌}
use mathlib.Core.List.{List, [], ◌∷◌, ◌++◌}
use mathlib.Core.Path.{◌≡◌, refl, sym, ap, subst, ◌∙◌}
use mathlib.Core.Logic.{by_cases}
use native.Mathlib.Omega.{arith}
use native.Mathlib.Decide.{dec_le}
use lib.ListN.{length, take, drop, length-take, drop_of_length-le}
use lib.Seq.{take_all, length-take-le, take-append-add, take-take, drop-drop}
use lib.Dec.{eqb, ltb, eqb→eq}
use borrow.Author.Tests.{lt-ltb, le-ltb}
use Rattle.std.specs.Prelude.{Option, Some, None, position}
use Rattle.ol_tables.proofs.Lending.{drop_take}
use Rattle.ol_spec.proofs.Tests.{T_false}
use Rattle.relay_text.specs.Lines.{Said}
use Rattle.relay.specs.Requests.{asks}
use Rattle.relay.specs.Reply.{Standing, Reply, obey, reply}
use Rattle.relay.specs.Kept.{standing, Replies}
use Rattle.relay.specs.Turns.{line_of, rest_of, has_end, cut, unread, begun, waits_for, waiting, after, gone, Takes, Refills, Turned}
use Rattle.relay.specs.declared.Turn.{Turn}
use Rattle.relay.specs.declared.session.Session.{Session}
use Rattle.relay.specs.declared.Input.{Input}
use Rattle.relay.proofs.Asks.{asks_long}
use Rattle.relay.proofs.Tellings.{cut_take}

-- no truth value is both
pub clash : {A : Type 0} (b : Bool) → b ≡ false → b ≡ true → A
clash b f t = let z : ◌≡◌ {A = ℕ} 0 1 = cc in absurd (omega arith)

-- what the line, its end and the rest are, by the index of the line's end
abbrev ends_at : List ℕ → Option ℕ → Type 0
ends_at u None = (has_end u ≡ false) × (line_of u ≡ u) × (rest_of u ≡ [])
ends_at u (Some k) = (k < length u) × (has_end u ≡ true) × (line_of u ≡ take k u) × (rest_of u ≡ drop (k + 1) u)

-- one byte more before those
ends_more : (x : ℕ) (l : List ℕ) (n : ℕ) (b : Bool) → eqb x 10 ≡ b → ends_at l (cond (ltb n (length l)) (Some n) None) → ends_at (x ∷ l) (cond (ltb (cond (not b) (1 + n) 0) (suc (length l))) (Some (cond (not b) (1 + n) 0)) None)
unfolding line_of rest_of has_end
ends_more x l n true e h = rw (lt-ltb 0 (suc (length l)) (omega arith), e) (omega arith, refl, refl, refl)
ends_more x l n false e h =
    by_cases (dec_le (suc n) (length l))
    (λ lt.
    let g : ends_at l (Some n) = rw (lt-ltb n (length l) (omega arith)) at h in
    let m : 1 + n ≡ suc n = omega arith in
    let one : suc n + 1 ≡ suc (n + 1) = omega arith in
    rw (m, lt-ltb (suc n) (suc (length l)) (omega arith), e, one) (omega arith, g.1, ap (λ z. x ∷ z) g.2, g.3))
    (λ ge.
    let g : ends_at l None = rw (le-ltb n (length l) (omega arith)) at h in
    rw (le-ltb (1 + n) (suc (length l)) (omega arith), e) (g.0, ap (λ z. x ∷ z) g.1, g.2))

ends_is : (u : List ℕ) → ends_at u (position (λ b. eqb b 10) u)
unfolding line_of rest_of has_end
ends_is [] = (refl, refl, refl)
ends_is (x ∷ l) = ends_more x l _ (eqb x 10) refl (ends_is l)

-- a line that goes on, cut off where its buffer ends
gone_on_by : (line u : List ℕ) (l k from : ℕ) → length line ≡ 262145 → from ≡ min l 262145 → line_of u ≡ take k u → take from line ++ take (min k (262145 - from)) u ≡ cut (take l line ++ line_of u)
gone_on_by line u l k from h f e =
    let few : length (take from line) ≡ from = length-take-le from line (omega (arith, f, h)) in
    let all : 262145 ≡ length (take from line) + (262145 - from) = omega (arith, few, f) in
    let first : take from line ≡ take l line = ap (λ n. take n line) f ∙ cut_take l 262145 line h in
    sym (ap cut (ap (λ x. x ++ line_of u) (sym first) ∙ ap (λ x. take from line ++ x) e)
    ∙ ap (λ n. take n (take from line ++ take k u)) all
    ∙ take-append-add (take from line) (take k u) (262145 - from)
    ∙ ap (λ x. take from line ++ x) (take_both k (262145 - from) u))
  where
    take_both : (k n : ℕ) (u : List ℕ) → take n (take k u) ≡ take (min k n) u
    take_both k n u =
        by_cases (dec_le k n)
        (λ le. let m : min k n ≡ k = omega arith in take_all n (take k u) (omega (arith, length-take k u)) ∙ ap (λ z. take z u) (sym m))
        (λ gt. let m : min k n ≡ n = omega arith in take-take n k u (omega arith) ∙ ap (λ z. take z u) (sym m))

module _ (line input line' : List ℕ) (i : Input) (e at from r n : ℕ) (le : e ≤ length input) (same : take e input ≡ take i.end input) (q : at ≡ min i.at e) (f : from ≡ min i.length 262145) (h : length line ≡ 262145) (long : length line' ≡ 262145) (put : take r line' ≡ take from line ++ take n (take (e - at) (drop at input))) where
  abbrev left : List ℕ
  left = take (e - at) (drop at input)

  left_drop : left ≡ drop at (take e input)
  left_drop = sym (drop_take at e input)

  left_is : left ≡ unread i input
  left_is =
      left_drop
      ∙ by_cases (dec_le i.at e)
      (λ lt. let z : at ≡ i.at = omega (arith, q) in ap (λ m. drop m (take e input)) z)
      (λ ge. let z : e ≤ at = omega (arith, q) in drop_of_length-le (take e input) {i = at} (omega (arith, length-take e input)) ∙ sym (drop_of_length-le (take e input) {i = i.at} (omega (arith, length-take e input))))
      ∙ ap (drop i.at) same

  gone_is : (k : ℕ) → n ≡ min k (262145 - from) → line_of left ≡ take k left → take r line' ≡ cut (begun i line ++ line_of (unread i input))
  gone_is k m e' = put ∙ ap (λ z. take from line ++ take z left) m ∙ gone_on_by line left i.length k from h f e' ∙ ap (λ z. cut (begun i line ++ line_of z)) left_is

  pub takes_whole : (k : ℕ) → Some k ≡ position (λ b. eqb b 10) left → n ≡ min k (262145 - from) → Takes (begun i line) (unread i input) i.is_end (record { at = at + k + 1; end = e; length = r; is_whole = true; is_end = false }) line' input
  takes_whole k o m =
      let g : ends_at left (Some k) = rw (← o) at (ends_is left) in
      let has : has_end (unread i input) ≡ true = ap has_end (sym left_is) ∙ g.1 in
      let behind : at + (k + 1) ≡ at + k + 1 = omega arith in
      record {
        whole = sym has;
        ended = sym (ap (λ z. cond z false i.is_end) has);
        gone_on = gone_is k m g.2;
        left = sym (ap rest_of (sym left_is) ∙ g.3 ∙ ap (drop (k + 1)) left_drop ∙ drop-drop (k + 1) at (take e input) ∙ ap (λ z. drop z (take e input)) behind);
        long = long;
      }

  pub takes_on : None ≡ position (λ b. eqb b 10) left → n ≡ min (length left) (262145 - from) → Takes (begun i line) (unread i input) i.is_end (record { at = e; end = e; length = r; is_whole = false; is_end = i.is_end }) line' input
  takes_on o m =
      let g : ends_at left None = rw (← o) at (ends_is left) in
      let has : has_end (unread i input) ≡ false = ap has_end (sym left_is) ∙ g.0 in
      record {
        whole = sym has;
        ended = sym (ap (λ z. cond z false i.is_end) has);
        gone_on = gone_is (length left) m (g.1 ∙ sym (take_all (length left) left (omega arith)));
        left = drop_of_length-le (take e input) {i = e} (omega (arith, length-take e input)) ∙ sym (ap rest_of (sym left_is) ∙ g.2);
        long = long;
      }

-- ---- turns

pub over_part : (e t o : Bool) → o ≡ (e || not t) → o ≡ false → e ≡ false
over_part true t o h f = clash o f h
over_part false t o h f = refl

-- a line of no bytes is empty
not_zero : (n : ℕ) → eqb (suc n) 0 ≡ false
not_zero n = T_false (eqb (suc n) 0) (λ t. omega (arith, eqb→eq (suc n) 0 t))

empty_same : (n : ℕ) (line l : List ℕ) → length line ≡ 262145 → take n line ≡ l → eqb n 0 ≡ eqb (length l) 0
empty_same zero line l h e = ap (λ z. eqb (length z) 0) e
empty_same (suc n) [] l h e = absurd (omega (arith, h))
empty_same (suc n) (x ∷ line) l h e = not_zero n ∙ sym (not_zero (length (take n line))) ∙ ap (λ z. eqb (length z) 0) e

pub refills_not : (i : Input) (input : List ℕ) → i.at < i.end → Refills i input i input
refills_not i input lt = record { begun_is = refl; kept = λ h. (refl, refl); fresh = λ ge. absurd (ge lt) }

pub refills : (i : Input) (input input' : List ℕ) (n : ℕ) → n ≤ length input' → ¬ (i.at < i.end) → Refills i input (record { at = 0; end = n; length = i.length; is_whole = false; is_end = eqb n 0 }) input'
refills i input input' n le ge = record { begun_is = refl; kept = λ lt. absurd (ge lt); fresh = λ h. (refl, le, refl) }

-- what the program tests is whether the line waits
waits_is : (i taken : Input) (line input line' : List ℕ) (g : Takes (begun i line) (unread i input) i.is_end taken line' input) → waiting taken ≡ waits_for (has_end (unread i input)) taken.is_end (length (gone i line input))
waits_is i taken line input line' g =
    ap (λ z. waits_for z taken.is_end taken.length) g.whole
    ∙ ap (λ z. cond (has_end (unread i input)) false (cond taken.is_end z true)) (empty_same taken.length line' (gone i line input) g.long g.gone_on)

pub turned_waits : (t : Turn) (i taken : Input) (line input line' : List ℕ) (s : Session) → Takes (begun i line) (unread i input) i.is_end taken line' input → waiting taken ≡ true → Turned t i (record { input = taken; line = t.line; is_over = taken.is_end }) line input s line' s
turned_waits t i taken line input line' s g w =
    record {
      left = g.left;
      ended = g.ended;
      over = λ o. o;
      answered = λ h. clash (waiting taken) (waits_is i taken line input line' g ∙ h) w;
      next = λ h. clash (waiting taken) (waits_is i taken line input line' g ∙ h) w;
      waits = λ h. (g.gone_on, refl);
      waits_too = λ h. (refl, refl, refl);
    }

pub turned_answered : (t : Turn) (i taken : Input) (line input line' : List ℕ) (s s' : Session) (n k : ℕ) (over : Bool) → Takes (begun i line) (unread i input) i.is_end taken line' input → Replies (reply t.line (take taken.length line') (standing s)) n s' → waiting taken ≡ false → k ≡ after t.line → (over ≡ false → taken.is_end ≡ false) → Turned t i (record { input = record { at = taken.at; end = taken.end; length = 0; is_whole = false; is_end = taken.is_end }; line = k; is_over = over }) line input s line' s'
turned_answered t i taken line input line' s s' n k over g r w a o =
    record {
      left = g.left;
      ended = g.ended;
      over = o;
      answered = λ h. (n, subst (λ l. Replies (reply t.line l (standing s)) n s') g.gone_on r);
      next = λ h. (refl, a);
      waits = λ h. clash (waiting taken) w (waits_is i taken line input line' g ∙ h);
      waits_too = λ h. clash (waiting taken) w (waits_is i taken line input line' g ∙ h);
    }

-- what is handed to the write: the buffer's front, and so the text
pub front : (n k m : ℕ) (out : List ℕ) → k ≤ length out → k ≡ length (take k out) → take k out ≡ take n out → m ≡ length (take k out) → Said (take n out) m out
front n k m out le c e w = record { inside = omega (arith, le, c, w); is = ap (λ z. take z out) (w ∙ sym c) ∙ e }

pub handed : {w : Reply} {n m : ℕ} {s : Session} → Replies w n s → Said (take n s.out) m s.out → Replies w m s
handed r h = record { said = record { inside = h.inside; is = h.is ∙ r.said.is }; kept = r.kept }

pub of_part : {n : ℕ} {s : Session} (number : ℕ) (a b : List ℕ) (st : Standing) → a ≡ b → Replies (reply number a st) n s → Replies (reply number b st) n s
of_part {n} {s} number a b st e h = subst (λ l. Replies (reply number l st) n s) e h

-- ---- a line that is too long: what is kept of it is too long, too

asks_cut : (line : List ℕ) → asks (cut line) ≡ asks line
asks_cut line =
    by_cases (dec_le (length line) 262145) (λ le. ap asks (take_all 262145 line le))
    (λ gt. asks_long (cut line) (omega (arith, length-take 262145 line)) ∙ sym (asks_long line (omega arith)))

pub reply_cut : (number : ℕ) (line : List ℕ) (st : Standing) → reply number (cut line) st ≡ reply number line st
unfolding reply
reply_cut number line st = ap (λ x. obey number x st) (asks_cut line)
