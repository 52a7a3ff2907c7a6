-- Arrays of one length, and iterators that suit their arrays and their nodes.
use Prim.Native.Nat.{ℕ, suc, ◌+◌, ◌≤◌, ◌<◌}
use mathlib.Core.Bool.{Bool, true, false, ◌&&◌}
use mathlib.Core.List.{List}
use mathlib.Core.Option.{Option, some}
use mathlib.Core.Path.{◌≡◌, refl, sym, ap, ap₂, ◌∙◌}
use native.Mathlib.Omega.{arith}
use lib.ListN.{get_or}
use borrow.Author.Tests.{eq-eqb}
use Rattle.ol_spec.specs.Lists.{maybe}
use Rattle.ol_spec.specs.Syntax.{Expr, Exprs, nil, cons, count, map_over, fold_over}
use Rattle.ol_spec.specs.Shapes.{Sized}
use Rattle.ol_spec.specs.Admission.{arrays_of, takes, all_long, alike, iterable, callee_in}
use Rattle.ol_tables.specs.At.{file_at}
use Rattle.ol_tables.specs.Walks.{skip_at}
use Rattle.ol_shapes.specs.Sits.{Sits}
use Rattle.ol_shapes.specs.Judges.{iterated, ShapeIs, AllLongIs, AlikeIs, IterableIs}
use Rattle.ol_shapes.proofs.Codes.{code_told, only_iterator}
use Rattle.ol_shapes.proofs.Sitting.{sits_head, sits_rest, sits_skip, sits_parts, sits_deeper, sits_moved}
use Rattle.ol_shapes.proofs.Shaping.{map_low, fold_low}

-- ---- all of one length

-- of the expressions es, those from number i on stand at `next`, and all before them are of that length
pub record LongLeft (s rows slots plans : List ℕ) (k : ℕ) (locals : List Sized) (level : ℕ) (es : Exprs) (n i next : ℕ) : Type 0 where
  pub rest : Exprs
  pub many : count rest + i ≡ count es
  pub sits : Sits s rows slots plans k locals level next rest
  pub same : all_long (file_at s) locals n es ≡ all_long (file_at s) locals n rest

module _ {s rows slots plans : List ℕ} {k : ℕ} {locals : List Sized} {level : ℕ} {es : Exprs} {n : ℕ} where
  module _ {i next : ℕ} {r : Option ℕ} {b : Bool} (l : LongLeft s rows slots plans k locals level es n i next) (more : i < count es) (sh : ShapeIs s rows slots plans level next r) (is : b ≡ takes (arrays_of n) r) where
    long_turn_of : (rest : Exprs) → count rest + i ≡ count es → Sits s rows slots plans k locals level next rest → all_long (file_at s) locals n es ≡ all_long (file_at s) locals n rest
        → b ≡ true → LongLeft s rows slots plans k locals level es n (i + 1) (skip_at s 1 next)
    long_turn_of nil m h e q = absurd (omega arith)
    long_turn_of (cons a as') m h e q =
        record {
          rest = as';
          many = omega arith;
          sits = sits_moved (sym (sits_skip h)) (sits_rest h);
          same = e ∙ ap (λ b. b && all_long (file_at s) locals n as') (ap (takes (arrays_of n)) (sym (sh.is k locals a as' h)) ∙ sym is ∙ q);
        }

    pub long_turn : b ≡ true → LongLeft s rows slots plans k locals level es n (i + 1) (skip_at s 1 next)
    long_turn q = long_turn_of l.rest l.many l.sits l.same q

    long_stop_of : (rest : Exprs) → count rest + i ≡ count es → Sits s rows slots plans k locals level next rest → all_long (file_at s) locals n es ≡ all_long (file_at s) locals n rest
        → b ≡ false → false ≡ all_long (file_at s) locals n es
    long_stop_of nil m h e q = absurd (omega arith)
    long_stop_of (cons a as') m h e q = sym (e ∙ ap (λ b. b && all_long (file_at s) locals n as') (ap (takes (arrays_of n)) (sym (sh.is k locals a as' h)) ∙ sym is ∙ q))

    pub long_stop : b ≡ false → false ≡ all_long (file_at s) locals n es
    long_stop q = long_stop_of l.rest l.many l.sits l.same q

  pub long_end : {i next : ℕ} → LongLeft s rows slots plans k locals level es n i next → count es ≤ i → true ≡ all_long (file_at s) locals n es
  long_end {i} {next} l h = go l.rest l.many l.same
    where
      go : (rest : Exprs) → count rest + i ≡ count es → all_long (file_at s) locals n es ≡ all_long (file_at s) locals n rest → true ≡ all_long (file_at s) locals n es
      go nil m e = sym e
      go (cons a as') m e = absurd (omega arith)

-- ---- alike

module _ {s rows slots plans : List ℕ} {k : ℕ} {locals : List Sized} {level at : ℕ} where
  pub alike_all : {n : ℕ} {b : Bool} (es : Exprs) → Sits s rows slots plans k locals level at es → ¬ (count es ≡ 0) → ShapeIs s rows slots plans level at (some n) → AllLongIs s rows slots plans level at (count es) n b → b ≡ alike (file_at s) locals es
  alike_all nil h c sh l = absurd (c refl)
  alike_all {n} (cons a as') h c sh l =
      let o = sh.is k locals a as' h in
      l.is k locals (cons a as') h refl
      ∙ ap (λ x. x && all_long (file_at s) locals n as') (ap (takes (arrays_of n)) (sym o) ∙ eq-eqb n n refl)
      ∙ ap (maybe false (λ n. all_long (file_at s) locals n as')) o

-- ---- iterators

module _ {s rows slots plans : List ℕ} {k : ℕ} {locals : List Sized} {level at : ℕ} (e : Expr) (es : Exprs) (h : Sits s rows slots plans k locals level at (cons e es)) (code : get_or s at 0 ≡ 15) where
  map_arrays : (c : ℕ) (as' : Exprs) → Sits s rows slots plans k locals level at (cons (map_over c as') es) → Sits s rows slots plans k locals level (at + 4) as'
  map_arrays c as' h = sits_parts (sits_deeper (omega arith) h)

  fold_arrays : (c : ℕ) (a : Expr) (as' : Exprs) → Sits s rows slots plans k locals level at (cons (fold_over c a as') es) → Sits s rows slots plans k locals level (skip_at s 1 (at + 4)) as'
  fold_arrays c a as' h = let p = sits_parts (sits_deeper {level' = suc level} (omega arith) h) in sits_moved (sym (sits_skip p)) (sits_rest p)

  iterated_of : (P : Expr → Type 0) → ((c : ℕ) (as' : Exprs) → Sits s rows slots plans k locals level at (cons (map_over c as') es) → P (map_over c as'))
      → ((c : ℕ) (a : Expr) (as' : Exprs) → Sits s rows slots plans k locals level at (cons (fold_over c a as') es) → P (fold_over c a as')) → P e
  iterated_of P f g = only_iterator (λ e. Sits s rows slots plans k locals level at (cons e es) → P e) f g e (sym (code_told s at e (sits_head h)) ∙ code) h

  -- a map: its kind is 0
  pub map_unlike : {n : ℕ} → get_or s (at + 1) 0 ≡ 0 → n ≡ get_or s (at + 3) 0 → AlikeIs s rows slots plans level (at + 4) n false → false ≡ iterated (file_at s) locals e
  map_unlike z m l =
      iterated_of (λ e. false ≡ iterated (file_at s) locals e)
      (λ c as' h. ap (λ b. b && iterable (count as') (callee_in (file_at s) c)) (l.is k locals as' (map_arrays c as' h) (m ∙ (sits_head h).3)))
      (λ c a as' h. absurd (omega (arith, z, (sits_head h).1)))

  pub map_alike : {n d : ℕ} {r : Bool} → get_or s (at + 1) 0 ≡ 0 → n ≡ get_or s (at + 3) 0 → AlikeIs s rows slots plans level (at + 4) n true → d ≡ get_or s (at + 2) 0 → IterableIs rows plans d n r → r ≡ iterated (file_at s) locals e
  map_alike {n} {d} {r} z m l q i =
      iterated_of (λ e. r ≡ iterated (file_at s) locals e)
      (λ c as' h.
      let same : d ≡ c = q ∙ (sits_head h).2 in
      let few : n ≡ count as' = m ∙ (sits_head h).3 in
      i.is s slots k locals h.scope (omega (arith, same, map_low c as' es h)) ∙ ap₂ (λ x y. iterable x (callee_in (file_at s) y)) few same
      ∙ ap (λ b. b && iterable (count as') (callee_in (file_at s) c)) (l.is k locals as' (map_arrays c as' h) few))
      (λ c a as' h. absurd (omega (arith, z, (sits_head h).1)))

  -- a fold: its kind is not
  pub fold_unlike : {n p : ℕ} → ¬ (get_or s (at + 1) 0 ≡ 0) → n ≡ get_or s (at + 3) 0 → p ≡ skip_at s 1 (at + 4) → AlikeIs s rows slots plans level p n false → false ≡ iterated (file_at s) locals e
  fold_unlike z m y l =
      iterated_of (λ e. false ≡ iterated (file_at s) locals e) (λ c as' h. absurd (z (sits_head h).1))
      (λ c a as' h. ap (λ b. b && iterable 2 (callee_in (file_at s) c)) (l.is k locals as' (sits_moved (sym y) (fold_arrays c a as' h)) (m ∙ (sits_head h).3)))

  pub fold_alike : {n d p : ℕ} {r : Bool} → ¬ (get_or s (at + 1) 0 ≡ 0) → n ≡ get_or s (at + 3) 0 → p ≡ skip_at s 1 (at + 4) → AlikeIs s rows slots plans level p n true → d ≡ get_or s (at + 2) 0
      → IterableIs rows plans d 2 r → r ≡ iterated (file_at s) locals e
  fold_alike {n} {d} {p} {r} z m y l q i =
      iterated_of (λ e. r ≡ iterated (file_at s) locals e) (λ c as' h. absurd (z (sits_head h).1))
      (λ c a as' h.
      let same : d ≡ c = q ∙ (sits_head h).2 in
      i.is s slots k locals h.scope (omega (arith, same, fold_low c a as' es h)) ∙ ap (λ x. iterable 2 (callee_in (file_at s) x)) same
      ∙ ap (λ b. b && iterable 2 (callee_in (file_at s) c)) (l.is k locals as' (sits_moved (sym y) (fold_arrays c a as' h)) (m ∙ (sits_head h).3)))
