-- The first faulted expression: of the parts, one by one, and of the whole.
use Prim.Native.Nat.{ℕ, ◌+◌, ◌-◌, ◌≤◌, ◌<◌}
use mathlib.Core.Bool.{Bool, true, false, ◌&&◌}
use mathlib.Core.List.{List}
use mathlib.Core.Option.{Option, none, some}
use mathlib.Core.Path.{◌≡◌, refl, sym, ap, ap₂, ◌∙◌}
use native.Mathlib.Omega.{arith}
use lib.ListN.{get_or, drop}
use lib.Seq.{get_or-drop, drop-drop}
use Rattle.ol_spec.specs.Lists.{or_else}
use Rattle.std.specs.Prelude.{Result, Ok, Err}
use Rattle.std.specs.Result.{IsErrAnd}
use Rattle.ol_spec.specs.Syntax.{Expr, Exprs, nil, cons, count, File}
use Rattle.ol_spec.specs.Places.{expr_size, exprs_size}
use Rattle.ol_spec.specs.Shapes.{Sized}
use Rattle.ol_spec.specs.Admission.{Place, anything, takes, unless, shape_in, misplaced, misplaced_all}
use Rattle.ol_tables.specs.At.{file_at}
use Rattle.ol_tables.specs.Heads.{parts_of, head_size}
use Rattle.ol_tables.specs.Walks.{HeadOf}
use Rattle.ol_tables.specs.declared.heads.Parts.{Parts}
use Rattle.ol_tables.proofs.HeadLaws.{parts_told, next_told, head_ends}
use Rattle.ol_shapes.specs.Codes.{fault_of}
use Rattle.ol_shapes.specs.Sits.{Sits}
use Rattle.ol_shapes.specs.Judges.{part_places, iterated, AllJudged, OneJudged, PartsJudged, WholeJudged}
use Rattle.ol_shapes.specs.declared.places.Misplaced.{Misplaced}
use Rattle.ol_shapes.proofs.Codes.{misplaced_parts}
use Rattle.ol_shapes.proofs.Sitting.{sits_head, sits_inside, sits_some, sits_rest, sits_moved, sits_deeper, joined_nil}

-- ---- answers

-- what the exit of a `?` answers
pub erred : {A : Type 0} (r : Result A Misplaced) {m : Misplaced} → IsErrAnd r (λ e. e ≡ m) → r ≡ Err m
erred (Ok a) h = absurd h
erred (Err e) h = ap Err h

pub or_none_lem : {a : Option ℕ} (b : Option ℕ) → a ≡ none → or_else a b ≡ b
or_none_lem b e = ap (λ x. or_else x b) e

pub or_some : {a : Option ℕ} (b : Option ℕ) {r : ℕ} → a ≡ some r → or_else a b ≡ some r
or_some b e = ap (λ x. or_else x b) e

-- ---- an expression, by its parts

-- its head tells how many there are, and where they start
pub head_told : {s rows slots plans : List ℕ} {k : ℕ} {locals : List Sized} {level at : ℕ} {e : Expr} {es : Exprs} {hd : Parts} → Sits s rows slots plans k locals level at (cons e es) → HeadOf s at hd → (hd.count ≡ count (parts_of e)) × (hd.start ≡ at + head_size e)
head_told {s} {at = at} {e = e} h hd = (hd.parts ∙ parts_told s at e (sits_head h), hd.next ∙ next_told s at e (sits_inside h) (sits_head h))

parts_ends : (e : Expr) (at : ℕ) → at + head_size e + exprs_size (parts_of e) ≡ at + expr_size e
parts_ends e at = omega (arith, head_ends e nil at, ap exprs_size (joined_nil (parts_of e)))

module _ (f : File) (locals : List Sized) {p : Place} {at : ℕ} {e : Expr} where
  -- the parts are no fault: it is none either, or it is
  pub whole_fits : {end : ℕ} {b : Bool} → misplaced_all f locals (part_places f locals e) (at + head_size e) (parts_of e) ≡ none → end ≡ at + expr_size e → b ≡ takes p (shape_in f locals e) && iterated f locals e → b ≡ true → OneJudged f locals p at e (Ok end)
  whole_fits {end} none_in to is t =
      record {
        found = sym (misplaced_parts f locals p at e ∙ or_none_lem (unless (takes p (shape_in f locals e) && iterated f locals e) at) none_in ∙ ap (λ b. unless b at) (sym is ∙ t));
        ends = λ n q. let same : n ≡ end = cc in same ∙ to;
      }

  pub whole_faulted : {b : Bool} → misplaced_all f locals (part_places f locals e) (at + head_size e) (parts_of e) ≡ none → b ≡ takes p (shape_in f locals e) && iterated f locals e → b ≡ false → OneJudged f locals p at e (Err (record { at = at }))
  whole_faulted none_in is t =
      record {
        found = sym (misplaced_parts f locals p at e ∙ or_none_lem (unless (takes p (shape_in f locals e) && iterated f locals e) at) none_in ∙ ap (λ b. unless b at) (sym is ∙ t));
        ends = λ n q. absurd (cc);
      }

  -- a part is one
  pub whole_inner : {m : Misplaced} → AllJudged f locals (part_places f locals e) (at + head_size e) (parts_of e) (Err m) → OneJudged f locals p at e (Err m)
  whole_inner {m} i =
      record {
        found = sym (misplaced_parts f locals p at e ∙ or_some (unless (takes p (shape_in f locals e) && iterated f locals e) at) (sym i.found));
        ends = λ n q. absurd (cc);
      }

module _ {s rows slots plans : List ℕ} {k : ℕ} {locals : List Sized} {level at : ℕ} (e : Expr) (es : Exprs) (h : Sits s rows slots plans k locals level at (cons e es)) where
  parts_judged : {r : Result ℕ Misplaced} → PartsJudged s rows slots plans (level - 1) at r → AllJudged (file_at s) locals (part_places (file_at s) locals e) (at + head_size e) (parts_of e) r
  parts_judged ps = ps.are k locals e es (sits_deeper (omega (arith, sits_some h)) h)

  -- the parts, then the whole
  pub one_whole : {p : Place} {end : ℕ} {r : Result ℕ Misplaced} → PartsJudged s rows slots plans (level - 1) at (Ok end) → WholeJudged s rows slots plans level at p end r → OneJudged (file_at s) locals p at e r
  one_whole {end = end} ps w = let all = parts_judged ps in w.is k locals e es h (sym all.found) (all.ends end refl ∙ parts_ends e at)

  pub one_part : {p : Place} {m : Misplaced} → PartsJudged s rows slots plans (level - 1) at (Err m) → OneJudged (file_at s) locals p at e (Err m)
  one_part ps = whole_inner (file_at s) locals (parts_judged ps)

-- ---- a list of expressions, one by one

-- of the expressions es, in the places ps, those from number i on stand at `next`, and none before them is faulted
pub record PartsLeft (s rows slots plans : List ℕ) (k : ℕ) (locals : List Sized) (level : ℕ) (ps : List Place) (pos : ℕ) (es : Exprs) (i next : ℕ) : Type 0 where
  pub rest : Exprs
  pub many : count rest + i ≡ count es
  pub sits : Sits s rows slots plans k locals level next rest
  pub same : misplaced_all (file_at s) locals ps pos es ≡ misplaced_all (file_at s) locals (drop i ps) next rest
  pub ends : pos + exprs_size es ≡ next + exprs_size rest
  pub start : i ≡ 0 → next ≡ pos

module _ {s rows slots plans : List ℕ} {k : ℕ} {locals : List Sized} {level : ℕ} {ps : List Place} {pos : ℕ} {es : Exprs} where
  pub parts_start : Sits s rows slots plans k locals level pos es → PartsLeft s rows slots plans k locals level ps pos es 0 pos
  parts_start h = record { rest = es; many = omega arith; sits = h; same = refl; ends = refl; start = λ z. refl }

  module _ {i next : ℕ} {r : Result ℕ Misplaced} (l : PartsLeft s rows slots plans k locals level ps pos es i next) (more : i < count es)
      (j : (e : Expr) (es' : Exprs) → Sits s rows slots plans k locals level next (cons e es') → OneJudged (file_at s) locals (get_or ps i anything) next e r) where
    first_place_lem : get_or (drop i ps) 0 anything ≡ get_or ps i anything
    first_place_lem = get_or-drop i ps 0 anything ∙ ap (λ n. get_or ps n anything) (let z : i + 0 ≡ i = omega arith in z)

    turn_of : {end : ℕ} (rest : Exprs) → count rest + i ≡ count es → Sits s rows slots plans k locals level next rest → misplaced_all (file_at s) locals ps pos es ≡ misplaced_all (file_at s) locals (drop i ps) next rest
        → pos + exprs_size es ≡ next + exprs_size rest → r ≡ Ok end → PartsLeft s rows slots plans k locals level ps pos es (i + 1) end
    unfolding misplaced_all
    turn_of nil m h q n z = absurd (omega arith)
    turn_of {end} (cons e es') m h q n z =
        let o = j e es' h in
        let no : misplaced (file_at s) locals (get_or ps i anything) next e ≡ none = sym o.found ∙ ap fault_of z in
        let at : end ≡ next + expr_size e = o.ends end z in
        record {
          rest = es';
          many = omega arith;
          sits = sits_moved (sym at) (sits_rest h);
          same = q ∙ or_none_lem (misplaced_all (file_at s) locals (drop 1 (drop i ps)) (next + expr_size e) es') (ap (λ p. misplaced (file_at s) locals p next e) first_place_lem ∙ no) ∙ ap₂ (λ (l : List Place) (n : ℕ). misplaced_all (file_at s) locals l n es') (drop-drop 1 i ps) (sym at);
          ends = omega (arith, at);
          start = λ z. absurd (omega arith);
        }

    pub parts_turn : {end : ℕ} → r ≡ Ok end → PartsLeft s rows slots plans k locals level ps pos es (i + 1) end
    parts_turn z = turn_of l.rest l.many l.sits l.same l.ends z

    stop_of_lem : {m : Misplaced} (rest : Exprs) → count rest + i ≡ count es → Sits s rows slots plans k locals level next rest → misplaced_all (file_at s) locals ps pos es ≡ misplaced_all (file_at s) locals (drop i ps) next rest
        → r ≡ Err m → AllJudged (file_at s) locals ps pos es (Err m)
    unfolding misplaced_all
    stop_of_lem nil m h q z = absurd (omega arith)
    stop_of_lem {m} (cons e es') c h q z =
        let o : misplaced (file_at s) locals (get_or ps i anything) next e ≡ some m.at = sym (j e es' h).found ∙ ap fault_of z in
        record {
          found = sym (q ∙ or_some (misplaced_all (file_at s) locals (drop 1 (drop i ps)) (next + expr_size e) es') (ap (λ p. misplaced (file_at s) locals p next e) first_place_lem ∙ o));
          ends = λ n x. absurd (cc);
        }

    pub parts_stop : {m : Misplaced} → r ≡ Err m → AllJudged (file_at s) locals ps pos es (Err m)
    parts_stop z = stop_of_lem l.rest l.many l.sits l.same z

  pub parts_end : {i next : ℕ} → PartsLeft s rows slots plans k locals level ps pos es i next → count es ≤ i → AllJudged (file_at s) locals ps pos es (Ok next)
  unfolding misplaced_all
  parts_end {i} {next} l h = go l.rest l.many l.same l.ends
    where
      go : (rest : Exprs) → count rest + i ≡ count es → misplaced_all (file_at s) locals ps pos es ≡ misplaced_all (file_at s) locals (drop i ps) next rest → pos + exprs_size es ≡ next + exprs_size rest
          → AllJudged (file_at s) locals ps pos es (Ok next)
      go nil m q n = record { found = sym q; ends = λ x z. let same : x ≡ next = cc in omega (arith, n, same) }
      go (cons e es') m q n = absurd (omega arith)

  -- some is left, and so a level
  pub parts_deep : {i next : ℕ} → PartsLeft s rows slots plans k locals level ps pos es i next → i < count es → 0 < level
  parts_deep {i} {next} l h = go l.rest l.many l.sits
    where
      go : (rest : Exprs) → count rest + i ≡ count es → Sits s rows slots plans k locals level next rest → 0 < level
      go nil m g = absurd (omega arith)
      go (cons e es') m g = sits_some g
