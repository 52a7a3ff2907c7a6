-- From what a function's callees answered and wrote to what it tells, case by case.
use Prim.Native.Nat.{ℕ, ◌+◌, ◌≤◌, min}
use mathlib.Core.List.{List, [], ◌++◌}
use mathlib.Core.Logic.{by_cases}
use mathlib.Core.Path.{◌≡◌, refl, sym, ap, subst, ◌∙◌}
use native.Mathlib.Omega.{arith}
use native.Mathlib.Decide.{dec_le}
use lib.ListN.{length, take, drop, length-append, length-drop, length-replicate}
use lib.Seq.{length-take-le, take_all, take_at}
use Rattle.std.specs.Prelude.{Option, Some, None, Result, Ok, Err, ok_or}
use Rattle.std.specs.Result.{result_unwrap_or}
use Rattle.ol_spec.specs.Limits.{relay_loader}
use Rattle.ol_spec.specs.Admission.{Judged, refused, admitted, judge, verdict, admission}
use Rattle.ol_spec.specs.Answers.{Verdict, Started, Sorted, verdict_length}
use Rattle.ol_spec.specs.Cycle.{OrderingCall, ordering, start, start_judged, CycleCall, cycle}
use Rattle.ol_spec.specs.Demand3.{Bytes, next_state}
use Rattle.ol_spec.specs.Read.{read_file}
use Rattle.ol_spec.specs.declared.Fault.{Fault}
use Rattle.ol_spec.specs.declared.Cycled.{Cycled}
use Rattle.ol_order.specs.Counts.{equations_of}
use Rattle.ol_sim.specs.Calls.{OrdersAs, StartsAs, CyclesAs}
use Rattle.relay_text.specs.Lines.{Said}
use Rattle.relay.specs.Requests.{Asked, Line, wrong, about, asks}
use Rattle.relay.specs.Reply.{Standing, closed, opened, error_reply, tell_about, obey, reply, told, zeros, fresh_of, order_ends, order_text, order_call, values_length, end_text, cycle_call, cycle_told}
use Rattle.relay.specs.Kept.{stands_by, standing, Replies, Tells, Ends, Begins, Lends}
use Rattle.relay.specs.declared.request.Lent.{Lent}
use Rattle.relay.specs.declared.request.Reason.{Reason}
use Rattle.relay.specs.declared.request.Reason.TheVariants as Why
use Rattle.relay.specs.declared.session.Kept.{Kept}
use Rattle.relay.specs.declared.session.Session.{Session}
use Rattle.relay.proofs.Calls.{same_lengths, few_values, cut, fresh_of_lem, same_order}

-- ---- parts of buffers

-- a piece put at the front
pub put_front : (r : ℕ) (old new out : List ℕ) → r ≡ 0 + length new → take r out ≡ take 0 old ++ new → take (length new) out ≡ new
put_front r old new out e h = let z : length new ≡ r = omega (arith, e) in ap (λ n. take n out) z ∙ h

-- ---- file, start

none_fresh : (j : Judged) (x : Fault) → verdict j ≡ Err x → (start_judged j (zeros (verdict_length (verdict j)))).state ≡ []
none_fresh (refused n p) x e = refl
none_fresh (admitted f vs) x e = cc

fresh_none : (file : List ℕ) (x : Fault) → admission relay_loader file ≡ Err x → fresh_of file ≡ []
unfolding start
fresh_none file x e = none_fresh (judge relay_loader file) x e

pub begins_refused : (file state : List ℕ) (x : Fault) (v : Verdict) → admission relay_loader file ≡ Err x → v ≡ Err x → Begins file v state
begins_refused file state x v e g = rw g (record { judged = sym e; fresh = sym (fresh_none file x e); within = omega arith })

pub begins_admitted : (file state x : List ℕ) (n : ℕ) (r : Started) → admission relay_loader file ≡ Ok n → n ≤ length state → StartsAs (start relay_loader file (take n state)) r x → length x ≡ length (take n state) → Begins file (Ok n) (x ++ drop n state)
begins_admitted file state x n r e fits s kept =
    let long : length (take n state) ≡ n = length-take-le n state fits in
    record {
      judged = sym e;
      fresh = take_at x (drop n state) n (kept ∙ long) ∙ s.written ∙ fresh_of_lem file (take n state) (long ∙ ap verdict_length (sym e));
      within = omega (arith, length-append x (drop n state), length-drop n state, kept, long);
    }

-- a verdict's length, as the program takes it
pub kept_length : (v : Verdict) → result_unwrap_or v 0 ≡ verdict_length v
kept_length (Ok n) = refl
kept_length (Err x) = refl

-- ---- order

orders_text : (w : OrderingCall) (r : Sorted) (buffer : List ℕ) → OrdersAs w r buffer → order_ends r buffer ≡ order_text w
orders_text w r buffer o = ap (λ x. order_ends x buffer) o.answered ∙ ap (order_ends w.answer) o.written

-- the entries of a buffer of 80
pub entries_fit : (n : ℕ) → n ≤ 80 → n ≡ length (take n (zeros 80))
entries_fit n h = sym (length-take-le n (zeros 80) h)

-- the order, with an entry for each equation
pub order_said : (file : List ℕ) (node n : ℕ) (buf : List ℕ) (r d : Sorted) (k : ℕ) (out : List ℕ) → n ≤ 80 → n ≡ equations_of (read_file file relay_loader) node → OrdersAs (ordering relay_loader file node (take n (zeros 80))) r buf → r ≡ d → Said (order_ends d buf) k out → Said (order_text (order_call file node)) k out
order_said file node n buf r d k out few e o is h =
    let m = equations_of (read_file file relay_loader) node in
    let w = ordering relay_loader file node (take n (zeros 80)) in
    let t : order_ends d buf ≡ order_text (order_call file node) =
    ap (λ x. order_ends x buf) (sym is) ∙ orders_text w r buf o ∙ same_order file node (take n (zeros 80)) (zeros m) (sym (entries_fit n few) ∙ e ∙ sym (length-replicate m 0)) in
    subst (λ x. Said x k out) t h

-- ---- the cycle

-- a call that ends as another does
ends_as : (w u : CycleCall) (old : List ℕ) (r : Cycled) (new values : List ℕ) → CyclesAs u r new values → Ends w old u.answer u.new u.values → Ends w old r new values
ends_as w u old r new values o e =
    record {
      text_is = ap (λ x. end_text x new values) o.answered ∙ ap (λ x. end_text u.answer x values) o.renewed ∙ ap (end_text u.answer u.new) o.valued ∙ e.text_is;
      next_is = ap (λ x. next_state x old new) o.answered ∙ ap (next_state u.answer old) o.renewed ∙ e.next_is;
    }

pub cut_take : (n most : ℕ) (s : List ℕ) → length s ≡ most → take (min n most) s ≡ take n s
cut_take n most s h =
    by_cases (dec_le n most)
    (λ le. let e : min n most ≡ n = omega arith in ap (λ m. take m s) e)
    (λ gt.
    let e : min n most ≡ most = omega arith in
    ap (λ m. take m s) e ∙ take_all most s (omega (arith, h)) ∙ sym (take_all n s (omega (arith, h))))

-- with the lengths that it is lent
pub cycle_ends : (file old ins new values new' values' : List ℕ) (given : Option Lent) (l : Lent) (r : Cycled) → length new ≡ 131072 → length values ≡ 32768 → Lends file old given l → CyclesAs (cycle relay_loader file old ins (take l.state new) (take l.values values)) r new' values' → Ends (cycle_call file old ins given) old r new' values'
cycle_ends file old ins new values new' values' (Some g) l r hn hv k o =
    ends_as (cycle_call file old ins (Some g)) (cycle relay_loader file old ins (take l.state new) (take l.values values)) old r new' values' o
    (rw (k.right.0, k.right.1, cut_take g.state 131072 new hn, cut_take g.values 32768 values hv) (cut file old ins new values g.state g.values k.of_bytes hn hv))
cycle_ends file old ins new values new' values' None l r hn hv k o =
    let n = values_length (judge relay_loader file) in
    ends_as (cycle_call file old ins None) (cycle relay_loader file old ins (take l.state new) (take l.values values)) old r new' values' o
    (same_lengths file old ins (take l.state new) (zeros (length old)) (take l.values values) (zeros n)
    (length-take-le l.state new (omega (arith, hn, k.state_fits)) ∙ k.right.0 ∙ sym (length-replicate (length old) 0))
    (length-take-le l.values values (omega (arith, hv, k.values_fit)) ∙ k.right.1 ∙ sym (length-replicate n 0)))

pub lends_given : (file old : List ℕ) (given : Option Lent) (g l : Lent) → given ≡ Some g → l.state ≡ min g.state 131072 → l.values ≡ min g.values 32768 → Bytes file → Lends file old given l
lends_given file old given g l e hs hv b = rw e (record { right = (hs, hv); of_bytes = b; state_fits = omega arith; values_fit = omega arith })

pub lends_right : (file old : List ℕ) (given : Option Lent) (v : ℕ) → given ≡ None → length old ≤ 131072 → v ≡ values_length (judge relay_loader file) → Bytes file → Lends file old given (record { state = length old; values = v })
lends_right file old given v n h e b = rw n (record { right = (refl, e); of_bytes = b; state_fits = h; values_fit = omega (arith, e, few_values file b) })

-- a state that was put at the front
pub took : (m : ℕ) (new whole buffer : List ℕ) → length new ≡ length (take m whole) → m ≤ length whole → take (length new) buffer ≡ new → take m buffer ≡ new
took m new whole buffer h le e = ap (λ k. take k buffer) (sym (h ∙ length-take-le m whole le)) ∙ e

-- what stands, by its parts
pub stands_is : (o : Option Kept) (f s : List ℕ) (k : Kept) (file state : List ℕ) → o ≡ Some k → take k.file f ≡ file → take k.state s ≡ state → stands_by o f s ≡ opened file state
stands_is o f s k file state e g h = ap (λ x. stands_by x f s) e ∙ ap (λ x. opened x (take k.state s)) g ∙ ap (opened file) h

-- told by a cycle that ends as the one asked for
pub cycle_tells : (s : Session) (file ins old new values : List ℕ) (given : Option Lent) (c d : Cycled) (n : ℕ) → Ends (cycle_call file old ins given) old c new values → c ≡ d → Said (end_text d new values) n s.out → standing s ≡ opened file (next_state d old new) → Tells (cycle_told file ins given old) file n s
cycle_tells s file ins old new values given c d n k e h g =
    record {
      said = subst (λ x. Said x n s.out) (ap (λ x. end_text x new values) (sym e) ∙ k.text_is) h;
      kept = g ∙ ap (opened file) (ap (λ x. next_state x old new) (sym e) ∙ k.next_is);
    }

-- ---- the reply

pub of_line : {n : ℕ} {s : Session} (number : ℕ) (line : List ℕ) (st : Standing) (x : Line) → asks line ≡ x → Replies (obey number x st) n s → Replies (reply number line st) n s
unfolding reply
of_line {n} {s} number line st x e h = subst (λ y. Replies (obey number y st) n s) (sym e) h

pub reply_wrong : (number : ℕ) (line : List ℕ) (st : Standing) (why : Reason) → asks line ≡ wrong why → reply number line st ≡ error_reply number why st
unfolding reply
reply_wrong number line st why e = ap (λ x. obey number x st) e

pub no_file : (number : ℕ) (line : List ℕ) (s : Session) (q : Asked) (why : Reason) → asks line ≡ about q → s.kept ≡ None → Err why ≡ ok_or s.kept Why.NoFile → reply number line (standing s) ≡ error_reply number why (standing s)
unfolding reply
no_file number line s q why e none v =
    let shut : standing s ≡ closed = ap (λ k. stands_by k s.file s.state) none in
    let n : why ≡ Why.NoFile = no_why why (v ∙ ap (λ k. ok_or k Why.NoFile) none) in
    rw (shut, n) (ap (λ x. obey number x closed) e)
  where
    no_why : (w : Reason) → ◌≡◌ {A = Result Kept Reason} (Err w) (Err Why.NoFile) → w ≡ Why.NoFile
    no_why w h = cc

pub about_replies : (number : ℕ) (q : Asked) (s s' : Session) (k : Kept) (n : ℕ) → s.kept ≡ Some k → Tells (told q (take k.file s.file) (take k.state s.state)) (take k.file s.file) n s' → Replies (tell_about number q (standing s)) n s'
about_replies number q s s' k n e h =
    let is : standing s ≡ opened (take k.file s.file) (take k.state s.state) = ap (λ o. stands_by o s.file s.state) e in
    rw is (record { said = h.said; kept = h.kept })
