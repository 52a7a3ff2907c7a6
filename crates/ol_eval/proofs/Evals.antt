-- Laws of evaluation, over lists and numbers: each says what two evaluations, one after the other, make together.
use mathlib.Core.Path.{◌≡◌, refl, sym, ap, subst, ◌∙◌}
use mathlib.Core.Bool.{Bool, true, false}
use mathlib.Core.List.{List, [], ◌++◌, append_assoc, append-nil}
use Prim.Native.Nat.{ℕ, ◌+◌, ◌-◌, ◌≤◌}
use native.Mathlib.Omega.{arith}
use lib.ListN.{length, take, drop, length-append, length-drop, take-append-drop, drop_of_length-le}
use lib.Seq.{take-take, drop-drop, take_at, drop_at, length-take-le}
use Rattle.ol_spec.specs.Eval.{Eval, Branch, next, next_on, map_eval, then_out, choose, first_taken, second_taken, branches, branches_on, untaken, drop_failure, common_real, condition}
use Rattle.ol_value.specs.Codes.{binary_by}
use Rattle.ol_spec.specs.declared.Value.{Value}
use Rattle.ol_spec.specs.declared.Value.TheVariants as Val
use Rattle.ol_spec.specs.declared.Outcome.{Outcome}
use Rattle.ol_spec.specs.declared.Outcome.TheVariants as Out
use Rattle.ol_frame.specs.Outcomes.{done_of, binary_out, test_of, untested_of, runs_of, drop_out, common_out}
use Rattle.std.specs.Prelude.{Some, None}
use Rattle.ol_frame.specs.Walk.{Skips}
use Rattle.ol_eval.specs.Post.{Meets, Untaken}
use Rattle.ol_eval.specs.declared.eval.Step.{Step}
use Rattle.ol_frame.specs.declared.skip.Passed.{Passed}
use Rattle.ol_tables.proofs.Lending.{tail_of, put_tail, tail_all, put_tail_lem, drop_put, drop_take}

-- the new segment is as long as the old
pub seg_length : {w : Eval} {x n : ℕ} {s new : List ℕ} {r : Step Outcome} → Meets w x n s r new → length new ≡ length s → n ≤ length s → length w.seg ≡ n
seg_length {w} {x} {n} {s} {new} h e le =
    let l : length new ≡ length w.seg + (length s - n) = ap length h.state ∙ simp (length-append, length-drop) in
    omega arith

-- what is lent from the end of a segment on, of the old state and of the new
pub rest_old : {w : Eval} {x n : ℕ} {s new : List ℕ} {r : Step Outcome} → Meets w x n s r new → tail_of r.used s ≡ drop n s
rest_old {n = n} {s = s} {r = r} h = tail_all r.used s ∙ ap (λ (k : ℕ). drop k s) h.used_is

pub rest_new : {w : Eval} {x n : ℕ} {s new : List ℕ} {r : Step Outcome} → Meets w x n s r new → length new ≡ length s → n ≤ length s → tail_of r.used new ≡ drop n s
rest_new {w} {x} {n} {s} {new} {r} h e le =
    tail_all r.used new ∙ ap (λ (k : ℕ). drop k new) h.used_is ∙ ap (drop n) h.state ∙ drop_at w.seg (drop n s) n (seg_length h e le)

pub rest_put : {w : Eval} {x n : ℕ} {s new : List ℕ} {r : Step Outcome} (y : List ℕ) → Meets w x n s r new → length new ≡ length s → n ≤ length s → put_tail r.used new y ≡ w.seg ++ y
rest_put {w} {x} {n} {s} {new} {r} y h e le =
    put_tail_lem r.used new y ∙ ap (λ (k : ℕ). take k new ++ y) h.used_is ∙ ap (λ (l : List ℕ). take n l ++ y) h.state ∙ ap (λ (l : List ℕ). l ++ y) (take_at w.seg (drop n s) n (seg_length h e le))

pub rest_kept : (n k : ℕ) (s : List ℕ) → drop n s ≡ take k (drop n s) ++ drop (n + k) s
rest_kept n k s = sym (take-append-drop k (drop n s)) ∙ ap (λ (l : List ℕ). take k (drop n s) ++ l) (drop-drop k n s)

-- the state of two parts, one after the other
pub seq_state : {w v : Eval} {x y n k : ℕ} {s new new' : List ℕ} {l r : Step Outcome} → Meets w x n s l new → Meets v y k (drop n s) r new' → length new ≡ length s → n ≤ length s → put_tail l.used new new' ≡ (w.seg ++ v.seg) ++ drop (n + k) s
seq_state {w} {v} {x} {y} {n} {k} {s} {new} {new'} h g e le =
    rest_put new' h e le ∙ ap (λ (l : List ℕ). w.seg ++ l) (g.state ∙ ap (λ (l : List ℕ). v.seg ++ l) (drop-drop k n s)) ∙ sym (append_assoc w.seg v.seg (drop (n + k) s))

-- the state of a part that was evaluated, before one that was not
pub stop_state : {w : Eval} {x n : ℕ} (k : ℕ) {s new : List ℕ} {l : Step Outcome} → Meets w x n s l new → new ≡ (w.seg ++ take k (drop n s)) ++ drop (n + k) s
stop_state {w} {x} {n} k {s} h =
    h.state ∙ ap (λ (l : List ℕ). w.seg ++ l) (rest_kept n k s) ∙ sym (append_assoc w.seg (take k (drop n s)) (drop (n + k) s))

-- a part that was left as it was, before one that was evaluated
pub kept_state : {v : Eval} {y k : ℕ} (n : ℕ) {s new new' : List ℕ} {r : Step Outcome} → Meets v y k (drop n s) r new' → new ≡ s → put_tail n new new' ≡ (take n s ++ v.seg) ++ drop (n + k) s
kept_state {v} {y} {k} n {s} {new} {new'} g e =
    put_tail_lem n new new' ∙ ap (λ (l : List ℕ). take n l ++ new') e ∙ ap (λ (l : List ℕ). take n s ++ l) (g.state ∙ ap (λ (l : List ℕ). v.seg ++ l) (drop-drop k n s)) ∙ sym (append_assoc (take n s) v.seg (drop (n + k) s))

-- the first part is put in last
pub front_state : {v : Eval} {y k : ℕ} (n : ℕ) {s new new' : List ℕ} {r : Step Outcome} (x : List ℕ) → Meets v y k (drop n s) r new' → new ≡ s → n ≤ length s → x ++ drop n (put_tail n new new') ≡ (x ++ v.seg) ++ drop (n + k) s
front_state {v} {y} {k} n {s} {new} {new'} x g e le =
    ap (λ (l : List ℕ). x ++ l) (drop_put n new new' (rw e le) ∙ g.state ∙ ap (λ (l : List ℕ). v.seg ++ l) (drop-drop k n s)) ∙ sym (append_assoc x v.seg (drop (n + k) s))

-- ---- two operands

no_done : false ≡ true → ⊥
no_done e = let z : ◌≡◌ {A = ℕ} 0 1 = cc in omega arith

-- the next evaluation, where the first gave a value
next_done : (w : Eval) (o : Outcome) (K : Value → List ℕ → Eval) (rest : List ℕ) (v : Value) → w.out ≡ o → o ≡ Out.Value v → next w K rest ≡ record { out = (K v rest).out; seg = w.seg ++ (K v rest).seg }
unfolding next
next_done w o K rest v e f = ap (λ (x : Outcome). next_on x w.seg K rest) (e ∙ f)

value_of : (o : Outcome) → true ≡ done_of o → (v : Value) × (o ≡ Out.Value v)
value_of (Out.Value v) h = (v, refl)
value_of (Out.Failure d) h = absurd (no_done (sym h))
value_of Out.Overflow h = absurd (no_done (sym h))

next_stop : (w : Eval) (K : Value → List ℕ → Eval) (rest : List ℕ) → false ≡ done_of w.out → next w K rest ≡ record { out = w.out; seg = w.seg ++ rest }
unfolding next
next_stop w K rest h = go w.out h
  where
    go : (o : Outcome) → false ≡ done_of o → next_on o w.seg K rest ≡ record { out = o; seg = w.seg ++ rest }
    go (Out.Value v) h = absurd (no_done h)
    go (Out.Failure d) h = refl
    go Out.Overflow h = refl

-- an evaluation that is another, written otherwise
pub meets_as : {w v : Eval} {x n : ℕ} {s new : List ℕ} {r : Step Outcome} → w ≡ v → Meets v x n s r new → Meets w x n s r new
meets_as {w} {v} {x} {n} {s} {new} {r} e h = subst (λ (u : Eval). Meets u x n s r new) (sym e) h

pub two_done : {w : Eval} (K : List ℕ → Eval) {x y n k : ℕ} {s new new' : List ℕ} {l r : Step Outcome} (op : ℕ) {o : Outcome} → Meets w x n s l new → Meets (K (take k (drop n s))) y k (drop n s) r new' → length new ≡ length s → n ≤ length s → true ≡ done_of l.out → o ≡ binary_out op l.out r.out → Meets (next w (λ v rest. map_eval (binary_by op v) (K rest)) (take k (drop n s))) y (n + k) s (record { out = o; next = r.next; used = l.used + r.used }) (put_tail l.used new new')
two_done {w} K {n = n} {k = k} {s = s} op h g e le d j =
    let v = value_of w.out (d ∙ ap done_of h.out) in
    meets_as (next_done w w.out (λ v rest. map_eval (binary_by op v) (K rest)) (take k (drop n s)) v.0 refl v.1) (record {
      out = j ∙ (λ i. binary_out op ((h.out ∙ v.1) i) (g.out i));
      next_is = g.next_is;
      used_is = rw (h.used_is, g.used_is);
      state = seq_state h g e le;
    })

pub two_stop : {w : Eval} (K : Value → List ℕ → Eval) {x y n k : ℕ} {b : Bool} {s new : List ℕ} {l : Step Outcome} {q : Passed} → Meets w x n s l new → Skips b y k q → false ≡ done_of l.out → Meets (next w K (take k (drop n s))) y (n + k) s (record { out = l.out; next = q.next; used = l.used + q.used }) new
two_stop {w} K {n = n} {k = k} {s = s} h g d =
    meets_as (next_stop w K (take k (drop n s)) (d ∙ ap done_of h.out)) (record {
      out = h.out;
      next_is = g.next_is;
      used_is = rw (h.used_is, g.used_is);
      state = stop_state k h;
    })

-- ---- a condition

no_bool : {A : Type 0} {b : Bool} → None ≡ Some b → A
no_bool h = let z : ◌≡◌ {A = ℕ} 0 1 = cc in absurd (omega arith)

pub bool_of : (o : Outcome) (b : Bool) → test_of o ≡ Some b → o ≡ Out.Value (Val.Bool b)
bool_of (Out.Value (Val.Bool c)) b h = let e : c ≡ b = cc in ap (λ (d : Bool). Out.Value (Val.Bool d)) e
bool_of (Out.Value (Val.Int i)) b h = no_bool h
bool_of (Out.Value (Val.Float x)) b h = no_bool h
bool_of (Out.Value (Val.Float32 x)) b h = no_bool h
bool_of (Out.Value (Val.Enum w)) b h = no_bool h
bool_of (Out.Failure d) b h = no_bool h
bool_of Out.Overflow b h = no_bool h

-- the condition is the Bool b
pub if_taken : {w : Eval} (K : Bool → List ℕ → Eval) (b : Bool) {x y n k : ℕ} {s new new' : List ℕ} {c r : Step Outcome} → Meets w x n s c new → Meets (K b (take k (drop n s))) y k (drop n s) r new' → length new ≡ length s → n ≤ length s → test_of c.out ≡ Some b → Meets (next w (condition K) (take k (drop n s))) y (n + k) s (record { out = r.out; next = r.next; used = c.used + r.used }) (put_tail c.used new new')
unfolding condition
if_taken {w} K b {n = n} {k = k} {s = s} h g e le t =
    let v = bool_of w.out b (ap test_of (sym h.out) ∙ t) in
    meets_as (next_done w w.out (condition K) (take k (drop n s)) (Val.Bool b) refl v) (record {
      out = g.out;
      next_is = g.next_is;
      used_is = rw (h.used_is, g.used_is);
      state = seq_state h g e le;
    })

condition_none : (w : Eval) (K : Bool → List ℕ → Eval) (rest : List ℕ) → test_of w.out ≡ None → next w (condition K) rest ≡ record { out = untested_of w.out; seg = w.seg ++ rest }
unfolding condition next
condition_none w K rest n = go w.out n
  where
    go : (o : Outcome) → test_of o ≡ None → next_on o w.seg (condition K) rest ≡ record { out = untested_of o; seg = w.seg ++ rest }
    go (Out.Value (Val.Bool b)) n = no_bool (sym n)
    go (Out.Value (Val.Int i)) n = refl
    go (Out.Value (Val.Float x)) n = refl
    go (Out.Value (Val.Float32 x)) n = refl
    go (Out.Value (Val.Enum v)) n = refl
    go (Out.Failure d) n = refl
    go Out.Overflow n = refl

pub if_stop : {w : Eval} (K : Bool → List ℕ → Eval) {x y n k : ℕ} {b : Bool} {s new : List ℕ} {c : Step Outcome} {q : Passed} {o : Outcome} → Meets w x n s c new → Skips b y k q → test_of c.out ≡ None → o ≡ untested_of c.out → Meets (next w (condition K) (take k (drop n s))) y (n + k) s (record { out = o; next = q.next; used = c.used + q.used }) new
if_stop {w} K {n = n} {k = k} {s = s} h g t j =
    meets_as (condition_none w K (take k (drop n s)) (ap test_of (sym h.out) ∙ t)) (record {
      out = j ∙ ap untested_of h.out;
      next_is = g.next_is;
      used_is = rw (h.used_is, g.used_is);
      state = stop_state k h;
    })

-- ---- two branches

-- the other branch is evaluated
ran_both : (w : Eval) (b : Branch) (has : Bool) → b.calls ≡ has → true ≡ runs_of (common_out b.wide w.out) has → branches w b ≡ record { out = drop_out (common_out b.wide w.out) (b.run b.seg).out; taken = w.seg; other = (b.run b.seg).seg }
ran_both w b has c h = go w.out has c h
  where
    drops : (v : Value) (o : Outcome) → drop_failure v o ≡ drop_out (Out.Value v) o
    drops v (Out.Value x) = refl
    drops v (Out.Failure d) = refl
    drops v Out.Overflow = refl

    go : (o : Outcome) (has : Bool) → b.calls ≡ has → true ≡ runs_of (common_out b.wide o) has → branches_on o w.seg b ≡ record { out = drop_out (common_out b.wide o) (b.run b.seg).out; taken = w.seg; other = (b.run b.seg).seg }
    go (Out.Value v) true c h = ap (λ (x : Bool). untaken x (common_real b.wide v) w.seg b) c ∙ (λ i. record { out = drops (common_real b.wide v) (b.run b.seg).out i; taken = w.seg; other = (b.run b.seg).seg })
    go (Out.Value v) false c h = absurd (no_done (sym h))
    go (Out.Failure d) has c h = absurd (no_done (sym h))
    go Out.Overflow has c h = absurd (no_done (sym h))

-- or it is not
ran_one : (w : Eval) (b : Branch) (has : Bool) → b.calls ≡ has → false ≡ runs_of (common_out b.wide w.out) has → branches w b ≡ record { out = common_out b.wide w.out; taken = w.seg; other = b.seg }
ran_one w b has c h = go w.out has c h
  where
    go : (o : Outcome) (has : Bool) → b.calls ≡ has → false ≡ runs_of (common_out b.wide o) has → branches_on o w.seg b ≡ record { out = common_out b.wide o; taken = w.seg; other = b.seg }
    go (Out.Value v) true c h = absurd (no_done h)
    go (Out.Value v) false c h = ap (λ (x : Bool). untaken x (common_real b.wide v) w.seg b) c
    go (Out.Failure d) has c h = refl
    go Out.Overflow has c h = refl

-- a branch that is not taken, as an evaluation
pub untaken_meets : {w : Eval} {n : ℕ} {s new : List ℕ} {over : Bool} → Untaken w n s over new → Meets w 0 n s (record { out = w.out; next = 0; used = n }) new
untaken_meets h = record { out = refl; next_is = refl; used_is = refl; state = h.state }

-- the first is taken: a on its segment, b on what follows
pub first_ran : (a b : Branch) {x y z n k : ℕ} {s new new' : List ℕ} {t e : Step Outcome} {q : Passed} {to o : Outcome} → Meets (a.run a.seg) x n s t new → Skips b.calls y k q → Meets (b.run b.seg) z k (drop n s) e new' → length new ≡ length s → n ≤ length s → to ≡ common_out b.wide t.out → true ≡ runs_of to q.has → o ≡ drop_out to e.out → Meets (choose true a b) y (n + k) s (record { out = o; next = q.next; used = t.used + q.used }) (put_tail t.used new new')
unfolding choose
first_ran a b {to = to} h p g e le c d j =
    let w = a.run a.seg in
    let c' = c ∙ ap (common_out b.wide) h.out in
    meets_as (ap first_taken (ran_both w b b.calls refl (d ∙ (λ i. runs_of (c' i) (p.has_is i))))) (record {
      out = j ∙ (λ i. drop_out (c' i) (g.out i));
      next_is = p.next_is;
      used_is = rw (h.used_is, p.used_is);
      state = seq_state h g e le;
    })

pub first_not : (a b : Branch) {x y n k : ℕ} {s new : List ℕ} {t : Step Outcome} {q : Passed} {to : Outcome} → b.seg ≡ take k (drop n s) → Meets (a.run a.seg) x n s t new → Skips b.calls y k q → to ≡ common_out b.wide t.out → false ≡ runs_of to q.has → Meets (choose true a b) y (n + k) s (record { out = to; next = q.next; used = t.used + q.used }) new
unfolding choose
first_not a b {n = n} {k = k} {s = s} z h p c d =
    let w = a.run a.seg in
    let c' = c ∙ ap (common_out b.wide) h.out in
    meets_as (ap first_taken (ran_one w b b.calls refl (d ∙ (λ i. runs_of (c' i) (p.has_is i))))) (record {
      out = c';
      next_is = p.next_is;
      used_is = rw (h.used_is, p.used_is);
      state = stop_state k h ∙ ap (λ (l : List ℕ). (w.seg ++ l) ++ drop (n + k) s) (sym z);
    })

-- the second is taken
pub second_not : (a b : Branch) {x y n k : ℕ} {s new new' : List ℕ} {e : Step Outcome} {q : Passed} {eo : Outcome} → a.seg ≡ take n s → Skips a.calls x n q → Meets (b.run b.seg) y k (drop n s) e new' → new ≡ s → eo ≡ common_out a.wide e.out → false ≡ runs_of eo q.has → Meets (choose false a b) y (n + k) s (record { out = eo; next = e.next; used = q.used + e.used }) (put_tail q.used new new')
unfolding choose
second_not a b {n = n} {k = k} {s = s} {new = new} {new' = new'} z p g e c d =
    let w = b.run b.seg in
    let c' = c ∙ ap (common_out a.wide) g.out in
    meets_as (ap second_taken (ran_one w a a.calls refl (d ∙ (λ i. runs_of (c' i) (p.has_is i))))) (record {
      out = c';
      next_is = g.next_is;
      used_is = rw (p.used_is, g.used_is);
      state = ap (λ (u : ℕ). put_tail u new new') p.used_is ∙ kept_state n g e ∙ ap (λ (l : List ℕ). (l ++ w.seg) ++ drop (n + k) s) (sym z);
    })

pub second_ran : (a b : Branch) {x y z n k : ℕ} {s new new' new'' : List ℕ} {e t : Step Outcome} {q : Passed} {eo o : Outcome} → Skips a.calls x n q → Meets (b.run b.seg) y k (drop n s) e new' → Meets (a.run a.seg) z n (take n s) t new'' → new ≡ s → n ≤ length s → eo ≡ common_out a.wide e.out → true ≡ runs_of eo q.has → o ≡ drop_out eo t.out → Meets (choose false a b) y (n + k) s (record { out = o; next = e.next; used = q.used + e.used }) (new'' ++ drop q.used (put_tail q.used new new'))
unfolding choose
second_ran a b {n = n} {k = k} {s = s} {new = new} {new' = new'} {new'' = new''} p g h e le c d j =
    let w = b.run b.seg in
    let v = a.run a.seg in
    let c' = c ∙ ap (common_out a.wide) g.out in
    let none : drop n (take n s) ≡ [] = drop_of_length-le (take n s) {i = n} (omega (arith, length-take-le n s le)) in
    let whole : new'' ≡ v.seg = h.state ∙ ap (λ (l : List ℕ). v.seg ++ l) none ∙ append-nil v.seg in
    meets_as (ap second_taken (ran_both w a a.calls refl (d ∙ (λ i. runs_of (c' i) (p.has_is i))))) (record {
      out = j ∙ (λ i. drop_out (c' i) (h.out i));
      next_is = g.next_is;
      used_is = rw (p.used_is, g.used_is);
      state = ap (λ (u : ℕ). new'' ++ drop u (put_tail u new new')) p.used_is ∙ ap (λ (l : List ℕ). l ++ drop n (put_tail n new new')) whole ∙ front_state n v.seg g e le;
    })

-- ---- one operand

pub mapped : {w : Eval} (f : Value → Outcome) {x n : ℕ} {s new : List ℕ} {l : Step Outcome} {o : Outcome} → Meets w x n s l new → o ≡ then_out f l.out → Meets (map_eval f w) x n s (record { out = o; next = l.next; used = l.used }) new
mapped f h j = record { out = j ∙ ap (then_out f) h.out; next_is = h.next_is; used_is = h.used_is; state = h.state }

-- with its outcome made again
pub remade : {w : Eval} {y k : ℕ} {s new : List ℕ} {r : Step Outcome} {o : Outcome} → o ≡ r.out → Meets w y k s r new → Meets w y k s (record { out = o; next = r.next; used = r.used }) new
remade e h = record { out = e ∙ h.out; next_is = h.next_is; used_is = h.used_is; state = h.state }

-- what was evaluated on the first's segment and the others', as it stands on the whole segment
pub seq_as : (H : List ℕ → List ℕ → Eval) (n k : ℕ) {m y z : ℕ} {s new : List ℕ} {r : Step Outcome} → m ≡ n + k → z ≡ y → Meets (H (take n s) (take k (drop n s))) y (n + k) s r new → Meets (H (take n (take m s)) (drop n (take m s))) z m s r new
seq_as H n k {m} {y} {z} {s} {new} {r} e f h =
    let u : (n + k) - n ≡ k = omega arith in
    let a : take n (take (n + k) s) ≡ take n s = take-take n (n + k) s (omega arith) in
    let b : drop n (take (n + k) s) ≡ take k (drop n s) = drop_take n (n + k) s ∙ ap (λ (j : ℕ). take j (drop n s)) u in
    let g = subst (λ (w : Eval). Meets w y (n + k) s r new) (λ i. H (sym a i) (sym b i)) h in
    subst (λ (j : ℕ). Meets (H (take n (take j s)) (drop n (take j s))) z j s r new) (sym e) (subst (λ (x : ℕ). Meets (H (take n (take (n + k) s)) (drop n (take (n + k) s))) x (n + k) s r new) (sym f) g)
