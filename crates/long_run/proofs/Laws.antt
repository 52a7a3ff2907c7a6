-- Laws of the run: a cycle counted, a pair, a turn, and the file's start.
use Rattle.std.proofs.Common.{◌≡◌, ℕ, ◌+◌, ◌/◌, ◌%◌, ◌^◌, ◌<◌, Bool, true, false, eqb, List, Ok, Err, is_err, sym, refl, ap, ◌∙◌, add-one, arith, ne_eqb}
use lib.Pointwise.{pointwise, bytes_decides}
use mir.Val.{bool_byte}
use Rattle.ol_spec.specs.Cycle.{start, cycle}
use Rattle.ol_spec.specs.Limits.{relay_loader}
use Rattle.ol_spec.specs.declared.Cycled.{Cycled}
use Rattle.ol_spec.specs.declared.Cycled.TheVariants as Cyc
use Rattle.ol_spec.specs.Answers.{Started}
use Rattle.ol_sim.specs.Calls.{StartsAs, CyclesAs}
use Rattle.rows.specs.Rows.{all_agree}
use Rattle.rows.proofs.Laws.{all_agree_is}
use Rattle.long_run.specs.declared.Tally.{Tally}
use Rattle.long_run.specs.Runs.{is_answered, is_done, more, none, Stand, stand, forth, back, both, inputs_at, after, Stepped, Stands, run_of, Ran}

-- ---- what is counted

pub unanswered : (c : Cycled) → (c ≡ Cyc.Answered → ⊥) → false ≡ is_answered c
unanswered Cyc.Answered h = absurd (h refl)
unanswered (Cyc.Stopped f) h = refl
unanswered (Cyc.Refused f) h = refl

pub more_is : (n d : ℕ) (so : Bool) → n < 2 ^ 64 → d ≡ bool_byte so → (n + d) % 2 ^ 64 ≡ more n so
more_is n d true h e = rw e
more_is n d false h e = omega arith

-- what a comparison of texts says
pub compared : (a b : List ℕ) (r : Bool) → r ≡ pointwise eqb a b → (r ≡ true → a ≡ b) × (a ≡ b → r ≡ true)
compared a b r h = (λ e. (bytes_decides a b).0 (sym h ∙ e), λ e. h ∙ (bytes_decides a b).1 e)

-- ---- a cycle, a pair

pub tally_is : {x y u w : ℕ} → x ≡ u → y ≡ w → ◌≡◌ {A = Tally} (record { answered = x; fresh = y }) (record { answered = u; fresh = w })
tally_is p q i = record { answered = p i; fresh = q i }

pub stepped_is : {file fresh old inputs new values : List ℕ} {t : Tally} {rc : Cycled} {new' values' : List ℕ} (x y : ℕ) (ia sm : Bool) → CyclesAs (cycle relay_loader file old inputs new values) rc new' values' → ia ≡ is_answered rc → x ≡ more t.answered ia → sm ≡ pointwise eqb new' fresh → y ≡ more t.fresh sm → Stepped file fresh old inputs new values t (record { answered = x; fresh = y }) new' values'
stepped_is {fresh = fresh} {t = t} {new' = new'} x y ia sm h ea ex es ey =
    record {
      counts =
          tally_is (ex ∙ ap (more t.answered) (ea ∙ ap is_answered h.answered))
          (ey ∙ ap (more t.fresh) (es ∙ sym (all_agree_is new' fresh) ∙ ap (λ l. all_agree l fresh) h.renewed));
      new_is = h.renewed;
      values_is = h.valued;
    }

pub paired : (file fresh inputs a b values : List ℕ) (t u r : Tally) (a' b' v v' : List ℕ) → Stepped file fresh a inputs b values t u b' v → Stepped file fresh b' inputs a v u r a' v' → Stands (both file fresh inputs (stand t a b values)) r a' b' v'
unfolding forth back
paired file fresh inputs a b values t u r a' b' v v' s p =
    let q = rw (s.counts, s.new_is, s.values_is) at p in
    record { counts = q.counts; a_is = q.new_is; b_is = s.new_is; values_is = q.values_is }

module _ (i : ℕ) (first second : List ℕ) where
  pub inputs_first : i / 1000 % 2 ≡ 0 → inputs_at i first second ≡ first
  inputs_first h = rw h

  pub inputs_second : (i / 1000 % 2 ≡ 0 → ⊥) → inputs_at i first second ≡ second
  inputs_second h = rw (ne_eqb (i / 1000 % 2) 0 h)

-- ---- all cycles

stand_is : {s : Stand} {t : Tally} {a b v : List ℕ} → Stands s t a b v → stand t a b v ≡ s
stand_is h i = record { tally = h.counts i; a = h.a_is i; b = h.b_is i; values = h.values_is i }

module _ (file fresh first second : List ℕ) where
  pub after_none : (t : Tally) (a b v : List ℕ) → t ≡ none → Stands (after file fresh first second 0 (stand none a b v)) t a b v
  unfolding after
  after_none t a b v e = record { counts = e; a_is = refl; b_is = refl; values_is = refl }

  pub after_more : (i : ℕ) (s : Stand) (t u : Tally) (a b v a' b' v' : List ℕ) → Stands (after file fresh first second i s) t a b v → Stands (both file fresh (inputs_at i first second) (stand t a b v)) u a' b' v' → Stands (after file fresh first second (i + 1) s) u a' b' v'
  unfolding after
  after_more i s t u a b v a' b' v' h k = rw (add-one, ← stand_is h) k

-- ---- a file's run

started : (r : Started) → is_err r ≡ false → is_done r ≡ true
started (Ok u) e = refl
started (Err f) e = sym e

unstarted : (r : Started) → is_err r ≡ true → is_done r ≡ false
unstarted (Ok u) e = sym e
unstarted (Err f) e = refl

pub ran_as : (file first second fresh a b values : List ℕ) (t : Tally) → t ≡ run_of file first second fresh a b values → Ran t
ran_as file first second fresh a b values t e = record { file = file; first = first; second = second; fresh = fresh; a = a; b = b; values = values; counts = e }

module _ (file first second fresh a b values : List ℕ) (rf : Started) (fresh' : List ℕ) (hf : StartsAs (start relay_loader file fresh) rf fresh') where
  pub run_done : (ra : Started) (a' : List ℕ) → StartsAs (start relay_loader file a) ra a' → is_err rf ≡ false → is_err ra ≡ false → (t : Tally) → t ≡ (after file fresh' first second 500000 (stand none a' b values)).tally → t ≡ run_of file first second fresh a b values
  unfolding run_of
  run_done ra a' ha e g t q = rw (← hf.answered, started rf e, ← ha.answered, started ra g, ← hf.written, ← ha.written) q

  pub run_unstarted : (ra : Started) (a' : List ℕ) → StartsAs (start relay_loader file a) ra a' → is_err rf ≡ false → is_err ra ≡ true → (t : Tally) → t ≡ none → t ≡ run_of file first second fresh a b values
  unfolding run_of
  run_unstarted ra a' ha e g t q = rw (← hf.answered, started rf e, ← ha.answered, unstarted ra g) q

  pub run_not_fresh : is_err rf ≡ true → (t : Tally) → t ≡ none → t ≡ run_of file first second fresh a b values
  unfolding run_of
  run_not_fresh e t q = rw (← hf.answered, unstarted rf e) q

  pub ran_done : (ra : Started) (a' : List ℕ) → StartsAs (start relay_loader file a) ra a' → is_err rf ≡ false → is_err ra ≡ false → (t : Tally) (x y v : List ℕ) → Stands (after file fresh' first second 500000 (stand none a' b values)) t x y v → Ran t
  ran_done ra a' ha e g t x y v s = ran_as file first second fresh a b values t (run_done ra a' ha e g t s.counts)

  pub ran_unstarted : (ra : Started) (a' : List ℕ) → StartsAs (start relay_loader file a) ra a' → is_err rf ≡ false → is_err ra ≡ true → (t : Tally) → t ≡ none → Ran t
  ran_unstarted ra a' ha e g t q = ran_as file first second fresh a b values t (run_unstarted ra a' ha e g t q)

  pub ran_not_fresh : is_err rf ≡ true → (t : Tally) → t ≡ none → Ran t
  ran_not_fresh e t q = ran_as file first second fresh a b values t (run_not_fresh e t q)
