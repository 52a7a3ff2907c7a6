-- The answer: the tables at the start, and what the ordering answers once the passes are over.
use Prim.Native.Nat.{ℕ, zero, suc, ◌+◌, ◌≤◌, ◌<◌}
use mathlib.Core.Bool.{Bool, true, false, cond, not}
use mathlib.Core.List.{List, [], ◌∷◌, ◌++◌}
use mathlib.Core.Path.{◌≡◌, refl, sym, ap, subst, ◌∙◌}
use native.Mathlib.Omega.{arith}
use mathlib.Core.Option.{Option, none, some}
use lib.ListN.{length, get_or, take, drop, replicate, length-replicate, take-append-drop}
use lib.Seq.{sets, sets-eq}
use borrow.Author.Tests.{eq-eqb, ne_eqb, lt-ltb, le-ltb}
use Rattle.ol_spec.specs.Syntax.{Equation}
use Rattle.ol_spec.specs.Order.{order, unplaced}
use Rattle.ol_spec.specs.Cycle.{OrderingCall, no_order}
use Rattle.ol_spec.specs.Answers.{Sorted, fault_at}
use Rattle.ol_spec.specs.declared.Fault.{Fault}
use Rattle.ol_order.specs.Tables.{waiting, as_option, as_error, order_of}
use Rattle.ol_order.specs.Post.{State, Sorts}
use Rattle.ol_order.proofs.Passing.{length_list, unplaced_some, unplaced_none, all_placed}
use mathlib.Core.Logic.{by_cases}
use native.Mathlib.Decide.{dec_le}
use Rattle.std.specs.Prelude.{Result, Ok, Err, is_ok, MatchResult, IsErrAnd, position}
use Rattle.std.specs.Prelude as Std
use Rattle.ol_order.proofs.Flags.{first_waiting}
use Rattle.ol_order.proofs.Scanning.{found_some, found_none}

-- ---- the tables at the start

-- so many of one entry have it everywhere
pub same_each : {A : Type 0} {a : A} (n i : ℕ) → get_or (replicate n a) i a ≡ a
same_each zero zero = refl
same_each zero (suc i) = refl
same_each (suc n) zero = refl
same_each (suc n) (suc i) = same_each n i

-- the flags where none is placed
abbrev unplaced_flags : ℕ → List Bool
unplaced_flags n = replicate n false

take_flags : (n m : ℕ) → n ≤ m → take n (unplaced_flags m) ≡ unplaced_flags n
take_flags zero m h = refl
take_flags (suc n) zero h = absurd (omega arith)
take_flags (suc n) (suc m) h = ap (λ (l : List Bool). false ∷ l) (take_flags n m (omega arith))

all_waiting : (n : ℕ) → waiting (unplaced_flags n) ≡ n
unfolding waiting
all_waiting zero = refl
all_waiting (suc n) = ap suc (all_waiting n)

pub state_start : (qs : List Equation) (n : ℕ) (order : List ℕ) → length qs ≡ n → n ≤ 80 → length order ≡ length qs → State qs [] (take n (unplaced_flags 80)) order 0
state_start qs n order e h r =
    let z = take_flags n 80 h in
    record {
      front = refl;
      flags = λ j i. ap (λ (l : List Bool). get_or l j false) z ∙ same_each n j;
      flagged = ap length z ∙ (length-replicate n false ∙ sym e);
      room = r;
      left = omega (arith, ap waiting z, all_waiting n);
    }

-- ---- the answer, by what the passes leave

pub error_some : (o : Option ℕ) {d : ℕ} → Err d ≡ as_error o → o ≡ some d
error_some none e = let z : ◌≡◌ {A = ℕ} 0 1 = cc in absurd (omega arith)
error_some (some j) {d} e = let z : d ≡ j = cc in ap some (sym z)

pub error_none : (o : Option ℕ) → Ok tt ≡ as_error o → o ≡ none
error_none none e = refl
error_none (some j) e = let z : ◌≡◌ {A = ℕ} 0 1 = cc in absurd (omega arith)

-- a fault in place of the error stands where the error does
pub all_well : {E D : Type 0} {r : Result (Unit {0}) E} {q : Result (Unit {0}) D} {u : Unit {0}} → is_ok q ≡ is_ok r → q ≡ Ok u → r ≡ Ok tt
all_well {r = r} e f = go r (sym (ap is_ok f) ∙ e)
  where
    go : {E : Type 0} (r : Result (Unit {0}) E) → true ≡ is_ok r → r ≡ Ok tt
    go (Ok tt) h = refl
    go (Err x) h = let z : ◌≡◌ {A = ℕ} 0 1 = cc in absurd (omega arith)

pub erred : {T E : Type 0} (r : Result T E) {x : E} → IsErrAnd r (λ e. e ≡ x) → r ≡ Err x
erred (Ok y) h = absurd h
erred (Err e) h = ap Err h

-- as the code finds it, as the code answers it
pub found_error : (o : Option ℕ) {d : ℕ} → Std.Some d ≡ as_option o → Err d ≡ as_error o
found_error o e = ap as_error (sym (found_some o e))

pub found_no_error : (o : Option ℕ) → Std.None ≡ as_option o → Ok tt ≡ as_error o
found_no_error o e = ap as_error (sym (found_none o e))

-- those placed in front, the rest as it was
front_written : {qs : List Equation} {p : List Bool} {o : List ℕ} {n : ℕ} (before : List ℕ) → length before ≡ length qs → State qs (order qs) p o n → drop n o ≡ drop n before → o ≡ sets before 0 (order qs)
front_written {qs} {p} {o} {n} before b st h =
    let l : length (order qs) ≡ n = length_list qs st in
    let z : n ≡ 0 + length (order qs) = omega (arith, l) in
    sym (take-append-drop n o)
    ∙ (ap (λ v. v ++ drop n o) st.front
    ∙ (ap (λ v. order qs ++ v) h
    ∙ (ap (λ k. order qs ++ drop k before) z ∙ sym (sets-eq (order qs) before 0 (omega (arith, l, b, st.left))))))

module _ {qs : List Equation} {p : List Bool} {o : List ℕ} {n : ℕ} (st : State qs (order qs) p o n) where
  -- where the code finds the first that is not placed
  pub placed_first : position not p ≡ as_option (unplaced qs)
  placed_first =
      by_cases (dec_le (length p) (first_waiting p))
      (λ h. ap (λ b. cond b (Std.Some (first_waiting p)) Std.None) (le-ltb (first_waiting p) (length p) h) ∙ sym (ap as_option (unplaced_none st h)))
      (λ h. ap (λ b. cond b (Std.Some (first_waiting p)) Std.None) (lt-ltb (first_waiting p) (length p) (omega arith)) ∙ sym (ap as_option (unplaced_some st (omega arith))))

  is_inside : (i : ℕ) → unplaced qs ≡ some i → i < length qs
  is_inside i e =
      by_cases (dec_le (length p) (first_waiting p))
      (λ h. absurd (never (sym e ∙ unplaced_none st h)))
      (λ h. let z : some i ≡ some (first_waiting p) = sym e ∙ unplaced_some st (omega arith) in let y : i ≡ first_waiting p = cc in omega (arith, y, st.flagged))
    where
      never : some i ≡ none → ⊥
      never f = let z : ◌≡◌ {A = ℕ} 0 1 = cc in omega arith

  is_order : unplaced qs ≡ none → o ≡ order qs
  is_order e =
      by_cases (dec_le (length p) (first_waiting p)) (λ h. all_placed st h) (λ h. absurd (never (sym e ∙ unplaced_some st (omega arith))))
    where
      never : none ≡ some (first_waiting p) → ⊥
      never f = let z : ◌≡◌ {A = ℕ} 0 1 = cc in omega arith

  pub sorts_made : {before : List ℕ} → length before ≡ length qs → drop n o ≡ drop n before → {r : Result (Unit {0}) ℕ} → r ≡ as_error (unplaced qs) → Sorts qs before o r
  sorts_made {before} b h e =
      record {
        long = st.room;
        few = omega (arith, length_list qs st, st.left);
        written = front_written before b st h;
        ring = e;
        inside = λ i f. is_inside i (error_some (unplaced qs) (sym f ∙ e));
        order = λ f. is_order (error_none (unplaced qs) (sym f ∙ e));
      }

module _ {qs : List Equation} {before o : List ℕ} {r : Result (Unit {0}) ℕ} (starts buf : List ℕ) (so : Sorts qs before o r) where
  -- a ring
  pub answer_ring : {first : ℕ} → r ≡ Err first → no_order 11 (get_or starts first 0) buf ≡ order_of qs starts buf
  unfolding order_of
  answer_ring h = sym (rw (error_some (unplaced qs) (sym h ∙ so.ring)) refl)

  pub answer_fault : {q : Sorted} {f : Fault} (P : ℕ → Fault → Type 0) → MatchResult r (λ x. q ≡ Ok x) (λ e. IsErrAnd q (P e)) → q ≡ Err f → ((first : ℕ) → P first f → f ≡ fault_at 11 (get_or starts first 0)) → no_order f.number f.place buf ≡ order_of qs starts buf
  answer_fault {q} {f} P m e h = go r refl m
    where
      go : (v : Result (Unit {0}) ℕ) → r ≡ v → MatchResult v (λ x. q ≡ Ok x) (λ e. IsErrAnd q (P e)) → no_order f.number f.place buf ≡ order_of qs starts buf
      go (Ok tt) g w = let z : ◌≡◌ {A = Sorted} (Ok tt) (Err f) = sym w ∙ e in let y : ◌≡◌ {A = ℕ} 0 1 = cc in absurd (omega arith)
      go (Err first) g w = ap (λ (x : Fault). no_order x.number x.place buf) (h first (subst (λ v. IsErrAnd v (P first)) e w)) ∙ answer_ring g

  pub sorts_well : r ≡ Ok tt → Sorts qs before o (Ok tt)
  sorts_well h = subst (λ v. Sorts qs before o v) h so

  module _ (h : r ≡ Ok tt) where
    all_there : unplaced qs ≡ none
    all_there = error_none (unplaced qs) (sym h ∙ so.ring)

    abbrev ordered : OrderingCall
    ordered = record { answer = (Ok tt); buffer = o }

    pub answer_done : length buf ≡ length qs → ordered ≡ order_of qs starts buf
    unfolding order_of
    answer_done f = sym (rw (all_there, eq-eqb (length buf) (length qs) f) (ap (λ l. ordered_as l) (sym (so.order h))))
      where
        ordered_as : List ℕ → OrderingCall
        ordered_as l = record { answer = (Ok tt); buffer = l }

    pub answer_short : (length buf ≡ length qs → ⊥) → no_order 17 0 buf ≡ order_of qs starts buf
    unfolding order_of
    answer_short f = sym (rw (all_there, ne_eqb (length buf) (length qs) f) refl)
