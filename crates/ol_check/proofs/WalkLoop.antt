-- The walk over expressions, head by head: what is left to be judged.
use Prim.Native.Nat.{ℕ, zero, suc, ◌+◌, ◌-◌, ◌≤◌, ◌<◌, min}
use mathlib.Core.Bool.{Bool, true, false, ◌&&◌, ◌||◌, cond}
use mathlib.Core.List.{List, [], ◌∷◌, ◌++◌, map}
use mathlib.Core.Logic.{◌⊎◌, inl, inr}
use mathlib.Core.Option.{Option, none, some}
use mathlib.Core.Path.{◌≡◌, refl, sym, ap, ◌∙◌}
use native.Mathlib.Omega.{arith}
use lib.ListN.{length, get_or}
use lib.Dec.{ltb, eqb}
use borrow.Author.Tests.{eqb-true, ne_eqb, le-ltb}
use Rattle.ol_spec.proofs.Walks.{first_append}
use Rattle.ol_spec.specs.Lists.{sum}
use Rattle.ol_spec.specs.Syntax.{Exprs, nil, cons, count}
use Rattle.ol_spec.specs.Places.{exprs_size, collect_all}
use Rattle.ol_spec.specs.Admission.{Item}
use Rattle.ol_tables.specs.Heads.{name_at, parts_of, head_size, parts_at, next_at, joined, Standing}
use Rattle.ol_tables.proofs.HeadLaws.{walk_head, next_told, parts_told, headed, head_some, joined_count}
use Rattle.ol_tables.proofs.Skipping.{walk_none, walk_end, walk_many, walk_next, walk_turn as step, standing_few, skip_stands}
use Rattle.ol_check.specs.Founds.{place_of, earliest}
use Rattle.ol_check.proofs.FoundLaws.{place_marked}
use Rattle.ol_tables.specs.Walks.{HeadOf, walk_by, skip_at}
use Rattle.ol_check.specs.Records.{site_b}
use Rattle.ol_check.specs.Arrays.{or_all}
use Rattle.ol_check.specs.Judging.{Findings, findings, var_found, call_found, head_at, heads, unseen_b, unseen_head, var_put, formed_b, slot_head, slot_heads, called_b, called_head, arity_b, several_head, found_in, Adds, heads_from, Walked}
use Rattle.ol_tables.specs.declared.heads.Parts.{Parts}
use Rattle.ol_check.specs.declared.Faults.{Faults}

-- an item is judged
pub found_step : (o : Option ℕ) (b : Bool) (q : ℕ) (is : List Item) → found_in (earliest o b q) is ≡ found_in o ((q, b) ∷ is)
found_step none true q is = refl
found_step none false q is = refl
found_step (some p) b q is = refl

pub found_none : (o : Option ℕ) → found_in o [] ≡ o
found_none none = refl
found_none (some p) = refl

pub found_append : (o : Option ℕ) (is js : List Item) → found_in (found_in o is) js ≡ found_in o (is ++ js)
found_append none is js = sym (first_append is js)
found_append (some p) is js = refl

earliest_not : (o : Option ℕ) (q : ℕ) → o ≡ earliest o false q
earliest_not none q = refl
earliest_not (some p) q = refl

or-false : (b : Bool) → b || false ≡ b
or-false true = refl
or-false false = refl

pub heads_none : (at : ℕ) (es : Exprs) → count es ≡ 0 → heads at es ≡ []
unfolding collect_all
heads_none at nil e = refl
heads_none at (cons x es) e = absurd (omega arith)

-- expressions that stand there
heads_standing : (n : ℕ) (s : List ℕ) (enums at : ℕ) (es : Exprs) → length s - at ≤ n → Standing s enums at es → walk_by (λ p r. p ∷ r) (λ p. []) s n (count es) at ≡ heads at es
heads_standing zero s enums at nil h st = walk_none _ _ s 0 0 at (omega arith) ∙ sym (heads_none at nil refl)
heads_standing zero s enums at (cons e es) h st = let i = (headed e es st).inside in absurd (omega arith)
heads_standing (suc n) s enums at nil h st = walk_none _ _ s (suc n) 0 at (omega arith) ∙ sym (heads_none at nil refl)
heads_standing (suc n) s enums at (cons e es) h st =
    let d = headed e es st in
    let k : count es + parts_at s at ≡ count (joined (parts_of e) es) = omega (arith, parts_told s at e d.head, joined_count (parts_of e) es) in
    walk_next _ _ s n (count es) at d.inside (omega (arith, standing_few (cons e es) st (omega arith)))
    ∙ ap (λ l. at ∷ l)
    (ap (λ m. walk_by (λ p r. p ∷ r) (λ p. []) s n m (next_at s at)) k ∙ ap (walk_by (λ p r. p ∷ r) (λ p. []) s n (count (joined (parts_of e) es))) (next_told s at e d.inside d.head)
    ∙ heads_standing n s enums (at + head_size e) (joined (parts_of e) es) (omega (arith, head_some e)) d.rest)
    ∙ sym (walk_head head_at at e es)

pub heads_stand : {s : List ℕ} {enums at : ℕ} {es : Exprs} {n : ℕ} → count es ≡ n → Standing s enums at es → heads_from s n at ≡ heads at es
heads_stand {s} {enums} {at} {es} e st = ap (λ n. heads_from s n at) (sym e) ∙ heads_standing (length s) s enums at es (omega arith) st

pub min_add : (a b r c : ℕ) → min (min (a + b) c + r) c ≡ min (a + (b + r)) c
min_add a b r c = omega arith

pub min_cap : (a c : ℕ) → a ≤ c → min (a + 0) c ≡ a
min_cap a c le = omega arith

-- the sum so far, and what is left to be added to it, give what all gives
abbrev pub Adding : ℕ → List ℕ → ℕ → List ℕ → Type 0
Adding start xs size rest = (size ≤ 65536) × (min (size + sum rest) 65536 ≡ min (start + sum xs) 65536)

pub file_ends : (s : List ℕ) (left next : ℕ) → length s ≤ next → (heads_from s left next ≡ []) × (skip_at s left next ≡ next)
file_ends s left next out = (walk_end _ _ s (length s) left next out, walk_end _ _ s (length s) left next out)

-- the three ways to the end
walk_over : (s : List ℕ) (left next : ℕ) → (left ≤ 0) ⊎ ((length s ≤ next) ⊎ (length s < left)) → (heads_from s left next ≡ []) × (skip_at s left next ≡ next)
walk_over s left next (inl le) = (walk_none _ _ s (length s) left next le, walk_none _ _ s (length s) left next le)
walk_over s left next (inr (inl out)) = file_ends s left next out
walk_over s left next (inr (inr over)) = (walk_many _ _ s (length s) left next over, walk_many _ _ s (length s) left next over)

-- of so many expressions from where the walk stood, those at `next` are left to be judged
pub record WalkGoing (s names rows : List ℕ) (nodes k parts : ℕ) (slots₀ : List ℕ) (f : Faults) (slots : List ℕ) (found : Faults) (z left next : ℕ) : Type 0 where
  pub ends : skip_at s left next ≡ skip_at s parts f.next
  pub slotted : slot_heads s names k slots (heads_from s left next) ≡ slot_heads s names k slots₀ (heads_from s parts f.next)
  pub unseen : found_in (place_of found.unseen) (map (unseen_head s names) (heads_from s left next)) ≡ found_in (place_of f.unseen) (map (unseen_head s names) (heads_from s parts f.next))
  pub called : found_in (place_of found.called) (map (called_head s rows k) (heads_from s left next)) ≡ found_in (place_of f.called) (map (called_head s rows k) (heads_from s parts f.next))
  pub shaped : found_in (place_of found.shaped) (map (several_head s rows nodes) (heads_from s left next)) ≡ found_in (place_of f.shaped) (map (several_head s rows nodes) (heads_from s parts f.next))
  pub again : place_of found.again ≡ place_of f.again
  pub arrays : or_all found.arrays (map (formed_b s) (heads_from s left next)) ≡ or_all f.arrays (map (formed_b s) (heads_from s parts f.next))
  pub sized : Adding f.size (map (site_b s rows nodes) (heads_from s parts f.next)) z (map (site_b s rows nodes) (heads_from s left next))

module _ {s names rows : List ℕ} {nodes k parts : ℕ} {slots₀ : List ℕ} {f : Faults} where
  pub walk_start : f.size ≤ 65536 → WalkGoing s names rows nodes k parts slots₀ f slots₀ f f.size parts f.next
  walk_start le = record { ends = refl; slotted = refl; unseen = refl; called = refl; shaped = refl; again = refl; arrays = refl; sized = (le, refl) }

  module _ {slots : List ℕ} {found : Faults} {z left next : ℕ} (g : WalkGoing s names rows nodes k parts slots₀ f slots found z left next) where
    module _ (lt : 0 < left) (inside : next < length s) (room : left ≤ length s) (p : Parts) (hp : HeadOf s next p) where
      on : heads_from s left next ≡ next ∷ heads_from s (left - 1 + p.count) p.start
      on = step (λ q r. q ∷ r) (λ q. []) s left next lt inside room hp.parts hp.next

      -- one kind of item, after the first head
      step_found : (item : ℕ → Item) (o o' z : Option ℕ) (b : Bool) (q : ℕ) → item next ≡ (q, b) → o' ≡ earliest o b q → found_in o (map item (heads_from s left next)) ≡ z
          → found_in o' (map item (heads_from s (left - 1 + p.count) p.start)) ≡ z
      step_found item o o' z b q ei eo ez =
          let r = map item (heads_from s (left - 1 + p.count) p.start) in
          ap (λ x. found_in x r) eo ∙ found_step o b q r
          ∙ ap (λ i. found_in o (i ∷ r)) (sym ei)
          ∙ ap (λ l. found_in o (map item l)) (sym on) ∙ ez

      walk_turn : (slots' : List ℕ) (found' : Faults) (bu bc ba : Bool) (n x z' : ℕ) → slots' ≡ slot_head s names k slots next
          → place_of found'.unseen ≡ earliest (place_of found.unseen) bu (next + 1) → bu ≡ unseen_b s names next → place_of found'.called ≡ earliest (place_of found.called) bc next → bc ≡ called_b s rows k next
          → place_of found'.shaped ≡ earliest (place_of found.shaped) (ltb 1 n) next → n ≡ arity_b s rows nodes next → (z ≤ 65536 → z' ≡ min (z + x) 65536) → x ≡ site_b s rows nodes next → place_of found'.again ≡ place_of found.again → found'.arrays ≡ found.arrays || ba → ba ≡ formed_b s next
          → WalkGoing s names rows nodes k parts slots₀ f slots' found' z' (left - 1 + p.count) p.start
      unfolding slot_heads or_all
      walk_turn slots' found' bu bc ba n x z' es' eu fu ec fc eh fh ez fz ea er fr =
          record {
            ends = sym (step (λ q r. r) (λ q. q) s left next lt inside room hp.parts hp.next) ∙ g.ends;
            slotted = ap (λ l. slot_heads s names k l (heads_from s (left - 1 + p.count) p.start)) es'
                ∙ ap (slot_heads s names k slots) (sym on) ∙ g.slotted;
            unseen = step_found (unseen_head s names) (place_of found.unseen) _ _ _ _ refl (eu ∙ ap (λ b. earliest (place_of found.unseen) b (next + 1)) fu) g.unseen;
            called = step_found (called_head s rows k) (place_of found.called) _ _ _ _ refl (ec ∙ ap (λ b. earliest (place_of found.called) b next) fc) g.called;
            shaped = step_found (several_head s rows nodes) (place_of found.shaped) _ _ _ _ refl (eh ∙ ap (λ n. earliest (place_of found.shaped) (ltb 1 n) next) fh) g.shaped;
            again = ea ∙ g.again;
            arrays = ap (λ b. or_all b (map (formed_b s) (heads_from s (left - 1 + p.count) p.start))) (er ∙ ap (λ b. found.arrays || b) fr)
                ∙ ap (λ l. or_all found.arrays (map (formed_b s) l)) (sym on) ∙ g.arrays;
            sized =
                let w = g.sized in
                let r = sum (map (site_b s rows nodes) (heads_from s (left - 1 + p.count) p.start)) in (
                  omega (arith, ez w.0),
                  ap (λ n. min (n + r) 65536) (ez w.0 ∙ ap (λ y. min (z + y) 65536) fz) ∙ min_add z (site_b s rows nodes next) r 65536
                      ∙ ap (λ l. min (z + sum (map (site_b s rows nodes) l)) 65536) (sym on) ∙ w.1,
                );
          }

      -- a head before a call's by its code: it has one value, no record and nothing about arrays
      module _ (low : get_or s next 0 < 11) where
        no_call : eqb (get_or s next 0) 11 ≡ false
        no_call = ne_eqb (get_or s next 0) 11 (λ q. omega arith)

        one_value : 1 ≡ arity_b s rows nodes next
        one_value = rw (no_call, ne_eqb (get_or s next 0) 12 (λ q. omega arith)) refl

        none_called : false ≡ called_b s rows k next
        none_called = rw (no_call, ne_eqb (get_or s next 0) 15 (λ q. omega arith)) refl

        no_site : 0 ≡ site_b s rows nodes next
        no_site = rw no_call refl

        none_formed : false ≡ formed_b s next
        none_formed = sym (le-ltb 12 (get_or s next 0) (omega arith))

        same_arrays : {b : Bool} → b ≡ found.arrays → b ≡ found.arrays || false
        same_arrays e = e ∙ sym (or-false found.arrays)

        -- at a plain head nothing changes
        pub walk_plain : {z' : ℕ} {slots' : List ℕ} {found' : Faults} → false ≡ eqb (get_or s next 0) 4 → slots' ≡ slots → found' ≡ found → z' ≡ z → WalkGoing s names rows nodes k parts slots₀ f slots' found' z' (left - 1 + p.count) p.start
        walk_plain {z'} {slots'} {found'} nv es ef ez =
            walk_turn slots' found' false false false 1 0 z'
            (es ∙ ap (λ b. cond b (var_put s names k slots next) slots) nv)
            (ap (λ (w : Faults). place_of w.unseen) ef ∙ earliest_not (place_of found.unseen) (next + 1)) (ap (λ b. b && eqb (get_or names (name_at s (next + 1)) 0) 0) nv)
            (ap (λ (w : Faults). place_of w.called) ef ∙ earliest_not (place_of found.called) next) none_called
            (ap (λ (w : Faults). place_of w.shaped) ef ∙ earliest_not (place_of found.shaped) next) one_value
            (λ le. ez ∙ sym (min_cap z 65536 le)) no_site (ap (λ (w : Faults). place_of w.again) ef) (same_arrays (ap (λ (w : Faults). w.arrays) ef)) none_formed

      -- a Var
      pub walk_var : {z' : ℕ} {slots' : List ℕ} {found' : Faults} → true ≡ eqb (get_or s next 0) 4 → slots' ≡ var_put s names k slots next → found' ≡ var_found s names found next → z' ≡ z
          → WalkGoing s names rows nodes k parts slots₀ f slots' found' z' (left - 1 + p.count) p.start
      walk_var {z'} {slots'} {found'} v es ef ez =
          let is4 : get_or s next 0 ≡ 4 = eqb-true (get_or s next 0) 4 (sym v) in
          let low : get_or s next 0 < 11 = omega arith in
          let q = eqb (get_or names (name_at s (next + 1)) 0) 0 in
          walk_turn slots' found' q false false 1 0 z'
          (es ∙ ap (λ b. cond b (var_put s names k slots next) slots) v)
          (ap (λ (w : Faults). place_of w.unseen) ef ∙ place_marked found.unseen q (next + 1)) (ap (λ b. b && q) v)
          (ap (λ (w : Faults). place_of w.called) ef ∙ earliest_not (place_of found.called) next) (none_called low)
          (ap (λ (w : Faults). place_of w.shaped) ef ∙ earliest_not (place_of found.shaped) next) (one_value low)
          (λ le. ez ∙ sym (min_cap z 65536 le)) (no_site low) (ap (λ (w : Faults). place_of w.again) ef) (same_arrays low (ap (λ (w : Faults). w.arrays) ef)) (none_formed low)

      -- a call, a Tuple, an index, a literal or an iterator
      pub walk_call : {x z' : ℕ} {slots' : List ℕ} {found' : Faults} → false ≡ eqb (get_or s next 0) 4 → slots' ≡ slots → found' ≡ call_found s rows nodes k found next → z' ≡ min (z + x) 65536 → x ≡ site_b s rows nodes next
          → WalkGoing s names rows nodes k parts slots₀ f slots' found' z' (left - 1 + p.count) p.start
      walk_call {x} {z'} {slots'} {found'} nv es ef ez ex =
          let bc = called_b s rows k next in
          let bs = ltb 1 (arity_b s rows nodes next) in
          walk_turn slots' found' false bc (formed_b s next) (arity_b s rows nodes next) x z'
          (es ∙ ap (λ b. cond b (var_put s names k slots next) slots) nv)
          (ap (λ (w : Faults). place_of w.unseen) ef ∙ earliest_not (place_of found.unseen) (next + 1)) (ap (λ b. b && eqb (get_or names (name_at s (next + 1)) 0) 0) nv)
          (ap (λ (w : Faults). place_of w.called) ef ∙ place_marked found.called bc next) refl
          (ap (λ (w : Faults). place_of w.shaped) ef ∙ place_marked found.shaped bs next) refl
          (λ le. ez) ex (ap (λ (w : Faults). place_of w.again) ef) (ap (λ (w : Faults). w.arrays) ef) refl

    -- none is left, the file ends, or more are left than the file has bytes
    pub walk_done : (left ≤ 0) ⊎ ((length s ≤ next) ⊎ (length s < left)) → Walked s names rows nodes k parts slots₀ slots (findings f) (findings (record found { size = z; next = next }))
    unfolding slot_heads or_all
    walk_done why =
        let over = walk_over s left next why in
        let empty = over.0 in
        record {
          next = sym over.1 ∙ g.ends;
          slotted = ap (slot_heads s names k slots) (sym empty) ∙ g.slotted;
          again = g.again;
          unseen = sym (found_none (place_of found.unseen)) ∙ ap (λ l. found_in (place_of found.unseen) (map (unseen_head s names) l)) (sym empty) ∙ g.unseen;
          called = sym (found_none (place_of found.called)) ∙ ap (λ l. found_in (place_of found.called) (map (called_head s rows k) l)) (sym empty) ∙ g.called;
          shaped = sym (found_none (place_of found.shaped)) ∙ ap (λ l. found_in (place_of found.shaped) (map (several_head s rows nodes) l)) (sym empty) ∙ g.shaped;
          arrays = ap (λ l. or_all found.arrays (map (formed_b s) l)) (sym empty) ∙ g.arrays;
          sized = let w = g.sized in sym (min_cap z 65536 w.0) ∙ ap (λ l. min (z + sum (map (site_b s rows nodes) l)) 65536) (sym empty) ∙ w.1;
        }

-- the expressions es, which stand where the walk stood, are judged
pub record WalkedAs (s names rows : List ℕ) (nodes k : ℕ) (es : Exprs) (slots slots' : List ℕ) (f r : Findings) : Type 0 where
  pub next : r.next ≡ f.next + exprs_size es
  pub slotted : slots' ≡ slot_heads s names k slots (heads f.next es)
  pub again : r.again ≡ f.again
  pub unseen : r.unseen ≡ found_in f.unseen (map (unseen_head s names) (heads f.next es))
  pub called : r.called ≡ found_in f.called (map (called_head s rows k) (heads f.next es))
  pub shaped : r.shaped ≡ found_in f.shaped (map (several_head s rows nodes) (heads f.next es))
  pub arrays : r.arrays ≡ or_all f.arrays (map (formed_b s) (heads f.next es))
  pub sized : Adds f.size (map (site_b s rows nodes) (heads f.next es)) r.size

pub walk_told : {s names rows : List ℕ} {nodes k parts : ℕ} {slots slots' : List ℕ} {f r : Findings} → Walked s names rows nodes k parts slots slots' f r → (enums : ℕ) (es : Exprs) → count es ≡ parts → Standing s enums f.next es
    → WalkedAs s names rows nodes k es slots slots' f r
walk_told {s} {names} {rows} {nodes} {k} {parts} {slots} {slots'} {f} {r} w enums es e st =
    let same = heads_stand e st in
    record {
      next = w.next ∙ skip_stands e st;
      slotted = w.slotted ∙ ap (slot_heads s names k slots) same;
      again = w.again;
      unseen = w.unseen ∙ ap (λ l. found_in f.unseen (map (unseen_head s names) l)) same;
      called = w.called ∙ ap (λ l. found_in f.called (map (called_head s rows k) l)) same;
      shaped = w.shaped ∙ ap (λ l. found_in f.shaped (map (several_head s rows nodes) l)) same;
      arrays = w.arrays ∙ ap (λ l. or_all f.arrays (map (formed_b s) l)) same;
      sized = w.sized ∙ ap (λ l. min (f.size + sum (map (site_b s rows nodes) l)) 65536) same;
    }
