-- The lines of a whole run, one more at each turn.
use Prim.Native.Nat.{ℕ, zero, suc, ◌+◌, ◌≤◌, ◌<◌}
use mathlib.Core.Bool.{Bool, true, false, cond}
use mathlib.Core.List.{List, [], ◌∷◌, ◌++◌, append-nil, append_assoc}
use mathlib.Core.Path.{◌≡◌, refl, sym, ap, subst, ◌∙◌}
use mathlib.Core.Logic.{by_cases}
use native.Mathlib.Omega.{arith}
use native.Mathlib.Decide.{dec_le}
use lib.ListN.{length, take, length-take, length-append, drop_of_length-le}
use lib.Dec.{eqb, eqb→eq}
use Rattle.ol_spec.proofs.Tests.{T_false}
use Rattle.relay_text.specs.Lines.{Said}
use Rattle.relay.specs.Reply.{Standing, closed, reply}
use Rattle.std.specs.Prelude.{None}
use Rattle.relay.specs.Kept.{stands_by, standing}
use Rattle.relay.specs.Turns.{line_of, rest_of, has_end, cut, unread, waits_for, waits_at, gone, Refills, Turned}
use Rattle.relay.specs.Sessions.{behind, ended_by, lines_from, tail_from, lines_of, tail_of, last_line, all_lines, session, last_text, Served}
use Rattle.relay.specs.declared.Input.{Input}
use Rattle.relay.specs.declared.Turn.{Turn}
use Rattle.relay.specs.declared.session.Session.{Session}
use Rattle.relay.proofs.Lines.{clash, reply_cut}

-- by the two truth values
either : {A : Type 0} (b : Bool) → (b ≡ true → A) → (b ≡ false → A) → A
either true f g = f refl
either false f g = g refl

-- ---- lines of bytes that are read one after the other

none_lines : (b : List ℕ) → lines_from b [] ≡ []
unfolding lines_from
none_lines b = refl

none_tail : (b : List ℕ) → tail_from b [] ≡ b
unfolding tail_from
none_tail b = refl

lines_append : (b l m : List ℕ) → lines_from b (l ++ m) ≡ lines_from b l ++ lines_from (tail_from b l) m
unfolding lines_from tail_from
lines_append b [] m = refl
lines_append b (x ∷ l) m =
    ap (λ z. ended_by b x ++ z) (lines_append (behind b x) l m) ∙ sym (append_assoc (ended_by b x) (lines_from (behind b x) l) (lines_from (tail_from (behind b x) l) m))

tail_append : (b l m : List ℕ) → tail_from b (l ++ m) ≡ tail_from (tail_from b l) m
unfolding tail_from
tail_append b [] m = refl
tail_append b (x ∷ l) m = tail_append (behind b x) l m

-- ---- the first line

at_end_lem : (x : ℕ) (b l : List ℕ) → eqb x 10 ≡ true → (lines_from b (x ∷ l) ≡ b ∷ lines_from [] l) × (tail_from b (x ∷ l) ≡ tail_from [] l) × (line_of (x ∷ l) ≡ []) × (rest_of (x ∷ l) ≡ l) × (has_end (x ∷ l) ≡ true)
unfolding lines_from tail_from line_of rest_of has_end
at_end_lem x b l e = (rw e refl, rw e refl, rw e refl, rw e refl, rw e refl)

going_on : (x : ℕ) (b l : List ℕ) → eqb x 10 ≡ false → (lines_from b (x ∷ l) ≡ lines_from (b ++ (x ∷ [])) l) × (tail_from b (x ∷ l) ≡ tail_from (b ++ (x ∷ [])) l) × (line_of (x ∷ l) ≡ x ∷ line_of l) × (rest_of (x ∷ l) ≡ rest_of l) × (has_end (x ∷ l) ≡ has_end l)
unfolding lines_from tail_from line_of rest_of has_end
going_on x b l e = (rw e refl, rw e refl, rw e refl, rw e refl, rw e refl)

-- bytes with a line's end: the line goes on up to it, and the rest begins a line
record Ended (b l : List ℕ) : Type 0 where
  pub lines_are : lines_from b l ≡ (b ++ line_of l) ∷ lines_from [] (rest_of l)
  pub tail_is : tail_from b l ≡ tail_from [] (rest_of l)

-- bytes without one: the line goes on
record Open (b l : List ℕ) : Type 0 where
  pub lines_are : lines_from b l ≡ []
  pub tail_is : tail_from b l ≡ b ++ line_of l
  pub rest_is : rest_of l ≡ []

with_end : (b l : List ℕ) → has_end l ≡ true → Ended b l
unfolding has_end
with_end b [] h = clash false refl h
with_end b (x ∷ l) h =
    either
    (eqb x 10)
    (λ e.
    let o = at_end_lem x b l e in
    record {
      lines_are = o.0 ∙ ap (λ z. z ∷ lines_from [] l) (sym (append-nil b)) ∙ ap (λ z. (b ++ z) ∷ lines_from [] l) (sym o.2) ∙ ap (λ z. (b ++ line_of (x ∷ l)) ∷ lines_from [] z) (sym o.3);
      tail_is = o.1 ∙ ap (tail_from []) (sym o.3);
    })
    (λ e.
    let o = going_on x b l e in
    let f = with_end (b ++ (x ∷ [])) l (sym o.4 ∙ h) in
    record {
      lines_are = o.0 ∙ f.lines_are ∙ ap (λ z. z ∷ lines_from [] (rest_of l)) (append_assoc b (x ∷ []) (line_of l)) ∙ ap (λ z. (b ++ z) ∷ lines_from [] (rest_of l)) (sym o.2) ∙ ap (λ z. (b ++ line_of (x ∷ l)) ∷ lines_from [] z) (sym o.3);
      tail_is = o.1 ∙ f.tail_is ∙ ap (tail_from []) (sym o.3);
    })

without_end : (b l : List ℕ) → has_end l ≡ false → Open b l
unfolding has_end lines_from tail_from line_of rest_of
without_end b [] h = record { lines_are = refl; tail_is = sym (append-nil b); rest_is = refl }
without_end b (x ∷ l) h =
    either
    (eqb x 10)
    (λ e. clash (has_end (x ∷ l)) h (at_end_lem x b l e).4)
    (λ e.
    let o = going_on x b l e in
    let f = without_end (b ++ (x ∷ [])) l (sym o.4 ∙ h) in
    record {
      lines_are = o.0 ∙ f.lines_are;
      tail_is = o.1 ∙ f.tail_is ∙ append_assoc b (x ∷ []) (line_of l) ∙ ap (λ z. b ++ z) (sym o.2);
      rest_is = o.3 ∙ f.rest_is;
    })

-- ---- a last line without an end

no_last : (k : ℕ) (l : List ℕ) → eqb (length (take (suc k) l)) 0 ≡ true → last_line l ≡ []
no_last k [] h = refl
no_last k (x ∷ l) h = clash (eqb (suc (length (take k l))) 0) (T_false (eqb (suc (length (take k l))) 0) (λ t. omega (arith, eqb→eq (suc (length (take k l))) 0 t))) h

a_last : (k : ℕ) (l : List ℕ) → eqb (length (take (suc k) l)) 0 ≡ false → last_line l ≡ l ∷ []
a_last k [] h = clash true h refl
a_last k (x ∷ l) h = refl

-- ---- what is kept of a line

cut_less : (k : ℕ) (l m : List ℕ) → take k (take k l ++ m) ≡ take k (l ++ m)
cut_less zero l m = refl
cut_less (suc k) [] m = refl
cut_less (suc k) (x ∷ l) m = ap (λ z. x ∷ z) (cut_less k l m)

-- ---- a session of one line more

last_of : (t : List ℕ) (ts : List (List ℕ)) (x : List ℕ) → last_text t (ts ++ (x ∷ [])) ≡ x
unfolding last_text
last_of t [] x = refl
last_of t (u ∷ us) x = last_of u us x

more_stands : (n : ℕ) (ls : List (List ℕ)) (l : List ℕ) (st : Standing) → (session n (ls ++ (l ∷ [])) st).stands ≡ (reply (n + length ls) l (session n ls st).stands).stands
unfolding session
more_stands n [] l st =
    let e : n ≡ n + length {A = List ℕ} [] = omega arith in
    ap (λ k. (reply k l st).stands) e
more_stands n (x ∷ ls) l st =
    let e : (n + 1) + length ls ≡ n + length (x ∷ ls) = omega arith in
    more_stands (n + 1) ls l (reply n x st).stands ∙ ap (λ k. (reply k l (session (n + 1) ls (reply n x st).stands).stands).stands) e

more_texts : (n : ℕ) (ls : List (List ℕ)) (l : List ℕ) (st : Standing) → (session n (ls ++ (l ∷ [])) st).texts ≡ (session n ls st).texts ++ ((reply (n + length ls) l (session n ls st).stands).text ∷ [])
unfolding session
more_texts n [] l st =
    let e : n ≡ n + length {A = List ℕ} [] = omega arith in
    ap (λ k. (reply k l st).text ∷ []) e
more_texts n (x ∷ ls) l st =
    let e : (n + 1) + length ls ≡ n + length (x ∷ ls) = omega arith in
    ap
    (λ z. (reply n x st).text ∷ z)
    (more_texts (n + 1) ls l (reply n x st).stands
    ∙ ap (λ k. (session (n + 1) ls (reply n x st).stands).texts ++ ((reply k l (session (n + 1) ls (reply n x st).stands).stands).text ∷ [])) e)

-- ---- the loop

-- where the loop stands, behind so many turns: no more lines are answered
pub record Serving (t : Turn) (turns : ℕ) (line input : List ℕ) (kept : Session) : Type 0 where
  pub served : Served t line input kept
  pub over : t.is_over ≡ false → t.input.is_end ≡ false
  pub few : length served.answered ≤ turns

pub serving_start : (line input : List ℕ) (kept : Session) → kept.kept ≡ None → Serving (record { input = record { at = 0; end = 0; length = 0; is_whole = false; is_end = false }; line = 1; is_over = false }) 0 line input kept
unfolding lines_from tail_from session last_text
serving_start line input kept c =
    record {
      served = record {
        read = [];
        answered = [];
        begins = [];
        in_turn = λ o. refl;
        tail = λ o. refl;
        kept = λ o. refl;
        all = λ o. clash false refl o;
        stands = ap (λ z. stands_by z kept.file kept.state) c;
        said = (0, record { inside = omega arith; is = refl });
        number = λ o. refl;
      };
      over = λ o. refl;
      few = omega arith;
    }

-- the bytes that are read, those that the turn goes on with at their end
record Reads (answered : List (List ℕ)) (begins more : List ℕ) : Type 0 where
  pub read : List ℕ
  pub lines_are : lines_of read ≡ answered ++ lines_from begins more
  pub tail_is : tail_of read ≡ tail_from begins more

reads_on : (i : Input) (input read : List ℕ) (answered : List (List ℕ)) (begins more : List ℕ) → lines_of read ≡ answered ++ lines_from begins (unread i input) → tail_of read ≡ tail_from begins (unread i input) → (i.at < i.end → more ≡ unread i input) → Reads answered begins more
reads_on i input read answered begins more a t s =
    by_cases
    (dec_le (suc i.at) i.end)
    (λ lt.
    record {
      read = read;
      lines_are = a ∙ ap (λ z. answered ++ lines_from begins z) (sym (s lt));
      tail_is = t ∙ ap (tail_from begins) (sym (s lt));
    })
    (λ ge.
    let u : unread i input ≡ [] = drop_of_length-le (take i.end input) {i = i.at} (omega (arith, length-take i.end input)) in
    let all : lines_of read ≡ answered = a ∙ ap (λ z. answered ++ lines_from begins z) u ∙ ap (λ z. answered ++ z) (none_lines begins) ∙ append-nil answered in
    let open' : tail_of read ≡ begins = t ∙ ap (tail_from begins) u ∙ none_tail begins in
    record {
      read = read ++ more;
      lines_are = lines_append [] read more ∙ ap (λ z. z ++ lines_from (tail_of read) more) all ∙ ap (λ z. answered ++ lines_from z more) open';
      tail_is = tail_append [] read more ∙ ap (λ z. tail_from z more) open';
    })

-- what stands, what is said and the next number, after these lines
record After (lines : List (List ℕ)) (r : Turn) (kept : Session) : Type 0 where
  pub stands : standing kept ≡ (session 1 lines closed).stands
  pub said : (n : ℕ) × Said (last_text [] (session 1 lines closed).texts) n kept.out
  pub number : length lines < 18446744073709551615 → r.line ≡ 1 + length lines

-- a turn more: at most one line more is answered than the n before
record Step (n : ℕ) (r : Turn) (line input : List ℕ) (kept : Session) : Type 0 where
  pub served : Served r line input kept
  pub grows : length served.answered ≤ n + 1

module _ (t r : Turn) (i : Input) (line input input' line' : List ℕ) (kept kept' : Session) (s : Served t line input kept) (q : Refills t.input input i input') (d : Turned t i r line input' kept line' kept') (o : t.input.is_end ≡ false) (lt : length s.answered < 18446744073709551615) where
  -- what the turn goes on with: what was unread, or what a read gave
  abbrev more : List ℕ
  more = unread i input'

  abbrev whole : List ℕ
  whole = s.begins ++ line_of more

  reads : Reads s.answered s.begins more
  reads = reads_on t.input input s.read s.answered s.begins more (s.in_turn o) (s.tail o) (λ k. ap (λ (x : Input). unread x input') (q.kept k).0 ∙ ap (unread t.input) (q.kept k).1)

  gone_is : gone i line input' ≡ cut whole
  gone_is = ap (λ z. cut (z ++ line_of more)) (ap (λ n. take n line) q.begun_is ∙ s.kept o) ∙ cut_less 262145 s.begins (line_of more)

  reply_is : reply t.line (gone i line input') (standing kept) ≡ reply (1 + length s.answered) whole (session 1 s.answered closed).stands
  reply_is =
      ap (λ z. reply z (gone i line input') (standing kept)) (s.number lt)
      ∙ ap (λ z. reply (1 + length s.answered) z (standing kept)) gone_is
      ∙ reply_cut (1 + length s.answered) whole (standing kept)
      ∙ ap (λ z. reply (1 + length s.answered) whole z) s.stands

  answered_more : waits_at i r line input' ≡ false → After (s.answered ++ (whole ∷ [])) r kept'
  answered_more w =
      let a = d.answered w in
      let one : length (s.answered ++ (whole ∷ [])) ≡ length s.answered + 1 = length-append s.answered (whole ∷ []) in
      record {
        stands = a.1.kept ∙ ap (λ z. z.stands) reply_is ∙ sym (more_stands 1 s.answered whole closed);
        said = (a.0, subst (λ z. Said z a.0 kept'.out) (ap (λ z. z.text) reply_is ∙ sym (ap (last_text []) (more_texts 1 s.answered whole closed) ∙ last_of [] (session 1 s.answered closed).texts (reply (1 + length s.answered) whole (session 1 s.answered closed).stands).text)) a.1.said);
        number = λ h. omega (arith, one, s.number lt, (d.next w).1);
      }

  waited : waits_at i r line input' ≡ true → After s.answered r kept'
  waited w =
      record {
        stands = (d.waits w).1 ∙ s.stands;
        said = (s.said.0, subst (λ z. Said (last_text [] (session 1 s.answered closed).texts) s.said.0 z) (sym (d.waits_too w).1) s.said.1);
        number = λ h. (d.waits_too w).0 ∙ s.number h;
      }

  -- a line's end is met
  line_ends : has_end more ≡ true → Step (length s.answered) r line' input' kept'
  line_ends h =
      let w : waits_at i r line input' ≡ false = ap (λ z. waits_for z r.input.is_end (length (gone i line input'))) h in
      let a = answered_more w in
      let f = with_end s.begins more h in
      record {
        grows = omega (arith, length-append s.answered (whole ∷ []));
        served = record {
          read = reads.read;
          answered = s.answered ++ (whole ∷ []);
          begins = [];
          in_turn = λ e. reads.lines_are ∙ ap (λ z. s.answered ++ z) f.lines_are ∙ sym (append_assoc s.answered (whole ∷ []) (lines_from [] (rest_of more))) ∙ ap (λ z. (s.answered ++ (whole ∷ [])) ++ lines_from [] z) (sym d.left);
          tail = λ e. reads.tail_is ∙ f.tail_is ∙ ap (tail_from []) (sym d.left);
          kept = λ e. (d.next w).0;
          all = λ e. clash r.input.is_end (d.ended ∙ ap (λ z. cond z false i.is_end) h) e;
          stands = a.stands;
          said = a.said;
          number = a.number;
        };
      }

  -- the line waits for more
  line_waits : has_end more ≡ false → r.input.is_end ≡ false → Step (length s.answered) r line' input' kept'
  line_waits h e =
      let w : waits_at i r line input' ≡ true = ap (λ z. waits_for z r.input.is_end (length (gone i line input'))) h ∙ ap (λ z. cond z (eqb (length (gone i line input')) 0) true) e in
      let a = waited w in
      let f = without_end s.begins more h in
      record {
        grows = omega arith;
        served = record {
          read = reads.read;
          answered = s.answered;
          begins = whole;
          in_turn = λ _. reads.lines_are ∙ ap (λ z. s.answered ++ z) (f.lines_are ∙ sym (ap (lines_from whole) (d.left ∙ f.rest_is) ∙ none_lines whole));
          tail = λ _. reads.tail_is ∙ f.tail_is ∙ sym (ap (tail_from whole) (d.left ∙ f.rest_is) ∙ none_tail whole);
          kept = λ _. (d.waits w).0 ∙ gone_is;
          all = λ x. clash r.input.is_end e x;
          stands = a.stands;
          said = a.said;
          number = a.number;
        };
      }

  -- the input is at its end
  all_are : has_end more ≡ false → all_lines reads.read ≡ s.answered ++ last_line whole
  all_are h =
      let f = without_end s.begins more h in
      ap (λ z. z ++ last_line (tail_of reads.read)) (reads.lines_are ∙ ap (λ z. s.answered ++ z) f.lines_are ∙ append-nil s.answered)
      ∙ ap (λ z. s.answered ++ last_line z) (reads.tail_is ∙ f.tail_is)

  at_last : (lines : List (List ℕ)) → length lines ≤ length s.answered + 1 → r.input.is_end ≡ true → lines ≡ all_lines reads.read → After lines r kept' → Step (length s.answered) r line' input' kept'
  at_last lines g e all a =
      record {
        grows = g;
        served = record {
          read = reads.read;
          answered = lines;
          begins = [];
          in_turn = λ x. clash r.input.is_end x e;
          tail = λ x. clash r.input.is_end x e;
          kept = λ x. clash r.input.is_end x e;
          all = λ x. all;
          stands = a.stands;
          said = a.said;
          number = a.number;
        };
      }

  line_last : has_end more ≡ false → r.input.is_end ≡ true → Step (length s.answered) r line' input' kept'
  line_last h e =
      let w : waits_at i r line input' ≡ eqb (length (gone i line input')) 0 = ap (λ z. waits_for z r.input.is_end (length (gone i line input'))) h ∙ ap (λ z. cond z (eqb (length (gone i line input')) 0) true) e in
      let k : eqb (length (gone i line input')) 0 ≡ eqb (length (cut whole)) 0 = ap (λ z. eqb (length z) 0) gone_is in
      either
      (eqb (length (gone i line input')) 0)
      (λ none. at_last s.answered (omega arith) e (sym (all_are h ∙ ap (λ z. s.answered ++ z) (no_last 262144 whole (sym k ∙ none)) ∙ append-nil s.answered)) (waited (w ∙ none)))
      (λ some. at_last (s.answered ++ (whole ∷ [])) (omega (arith, length-append s.answered (whole ∷ []))) e (sym (all_are h ∙ ap (λ z. s.answered ++ z) (a_last 262144 whole (sym k ∙ some)))) (answered_more (w ∙ some)))

  step : Step (length s.answered) r line' input' kept'
  step = either (has_end more) line_ends (λ h. either r.input.is_end (line_last h) (line_waits h))

pub serving_turn : (t r : Turn) (i : Input) (turns : ℕ) (line input input' line' : List ℕ) (kept kept' : Session) → Serving t turns line input kept → Refills t.input input i input' → Turned t i r line input' kept line' kept' → t.is_over ≡ false → turns < 18446744073709551615 → Serving r (turns + 1) line' input' kept'
serving_turn t r i turns line input input' line' kept kept' g q d o lt =
    let one = step t r i line input input' line' kept kept' g.served q d (g.over o) (omega (arith, g.few, lt)) in
    record { served = one.served; over = d.over; few = omega (arith, one.grows, g.few) }
