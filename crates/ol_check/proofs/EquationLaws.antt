-- An equation: its names, its right side, and what is inside that.
use Prim.Native.Nat.{ℕ, ◌+◌, ◌-◌, ◌*◌, ◌≤◌, ◌<◌, min}
use mathlib.Core.Bool.{Bool, true, ◌||◌, cond}
use mathlib.Core.List.{List, [], ◌∷◌, ◌++◌, map, append-nil, map-append}
use mathlib.Core.Option.{Option}
use mathlib.Core.Path.{◌≡◌, refl, sym, ap, subst, ◌∙◌}
use native.Mathlib.Omega.{arith}
use native.Mathlib.Numerals.{add-one}
use lib.ListN.{length, get_or, set, drop, length-set, drop_of_length-le}
use lib.Seq.{get_or-set_same, get_or-set_other, drop-cons}
use lib.Dec.{eqb}
use borrow.Author.Tests.{lt-ltb, le-ltb}
use Rattle.std.specs.Prelude.{Option as RustOption}
use Rattle.ol_spec.specs.Lists.{or_else, concat, sum}
use Rattle.ol_spec.specs.Syntax.{Expr, Exprs, nil, cons, Equation, File, rhs_of}
use Rattle.ol_spec.specs.Places.{expr_size, equation_size, collect, collect_all, placed, placed_names, rhs_place}
use Rattle.ol_spec.specs.Encode.{equation_bytes}
use Rattle.ol_spec.specs.Limits.{base}
use Rattle.ol_spec.specs.Within.{equation_fits}
use Rattle.ol_spec.specs.Admission.{Item, first, first_if, unseen_item, unseen, used_at, used, uses_where, bad_iterator, shape_item, arity, equation_uses, in_equation, equation_shape, defined_by}
use Rattle.ol_spec.specs.Eval.{callees}
use Rattle.ol_spec.specs.Step.{no_equation, equation_sites}
use Rattle.ol_spec.proofs.RoundTrip.Parts.{here_inside}
use Rattle.ol_spec.proofs.RoundTrip.Items.{equation_size_lem}
use Rattle.ol_tables.specs.At.{file_at}
use Rattle.ol_tables.specs.Tables.{Each}
use Rattle.ol_check.specs.Arrays.{or_all, formed_at, equation_forms}
use Rattle.ol_tables.specs.Heads.{name_at, parts_of, head_size, parts_at, next_at, joined, Standing}
use Rattle.ol_tables.specs.Stands.{Listed, Names, EquationStands}
use Rattle.ol_tables.proofs.HeadLaws.{headed, walk_one, root_head, parts_told, next_told, joined_count}
use Rattle.ol_tables.proofs.HeadsFile.{Passing, Item as PassedItem, passing_start, passing_item, equation_stands}
use Rattle.ol_check.specs.Founds.{place_of, earliest, marked}
use Rattle.ol_check.proofs.FoundLaws.{place_marked}
use Rattle.ol_tables.specs.Heads.{Byte}
use Rattle.ol_tables.specs.Walks.{HeadOf, skip_at}
use Rattle.ol_tables.proofs.Skipping.{walk_turn as step, skip_stands}
use Rattle.ol_check.specs.Judging.{Findings, findings, heads, unseen_b, unseen_head, slot_of_entry, entry_cell, slot_head, slot_heads, formed_b, called_b, called_head, arity_b, several_head, found_in, Adds, heads_from, Walked, at_place, root_shapes}
use Rattle.ol_check.specs.Judging.{Knows, Context, SlotIs, entry_item, slot_names, taken_b, mark_all, again_b, NamesDefined, lone_b, other_b, RootJudged, EquationWalked, slot_equation, slot_equations, EquationsJudged}
use Rattle.ol_tables.specs.declared.heads.Parts.{Parts}
use Rattle.ol_check.specs.declared.Faults.{Faults}
use Rattle.ol_check.specs.Records.{site_b, callee_b}
use Rattle.ol_check.specs.Spans.{behind_name, named_at, names_from}
use Rattle.ol_check.proofs.SpanLaws.{less_none, starts_on, starts_none, names_listed}
use Rattle.ol_check.proofs.WalkLoop.{found_step, found_none, found_append, min_add, min_cap, Adding, heads_stand, file_ends}
use Rattle.ol_check.proofs.CalleeLaws.{sum_append, sites_callees}
use Rattle.ol_check.proofs.HeadLaws.{flat, unseen_law, called_law, several_law, arity_is, formed_law, CellIs, slots_below, slots_length, slots_held}

-- ---- names

-- the items of a list from number i on, with their places
pub placed_on : {A : Type 0} (size : A → ℕ) (d : A) (xs : List A) (i next : ℕ) → i < length xs → placed size next (drop i xs) ≡ (next, get_or xs i d) ∷ placed size (next + size (get_or xs i d)) (drop (i + 1) xs)
placed_on size d xs i next lt = rw (add-one i) (ap (placed size next) (drop-cons xs i d lt))

pub record NamesGoing (s names : List ℕ) (inputs many : ℕ) (slots₀ : List ℕ) (defined₀ : List Bool) (f : Faults) (slots : List ℕ) (defined : List Bool) (g : Faults) (i next : ℕ) : Type 0 where
  pub unseen : found_in (place_of g.unseen) (map (entry_item names) (names_from s (many - i) next)) ≡ found_in (place_of f.unseen) (map (entry_item names) (names_from s many f.next))
  pub again : found_in (place_of g.again) (again_b names inputs defined (names_from s (many - i) next)) ≡ found_in (place_of f.again) (again_b names inputs defined₀ (names_from s many f.next))
  pub slotted : slot_names names slots (names_from s (many - i) next) ≡ slot_names names slots₀ (names_from s many f.next)
  pub marked : mark_all names defined (names_from s (many - i) next) ≡ mark_all names defined₀ (names_from s many f.next)
  pub called : place_of g.called ≡ place_of f.called
  pub shaped : place_of g.shaped ≡ place_of f.shaped
  pub arrays : g.arrays ≡ f.arrays
  pub sized : g.size ≡ f.size

module _ {s names : List ℕ} {inputs many : ℕ} {slots₀ : List ℕ} {defined₀ : List Bool} {f : Faults} where
  pub names_start : NamesGoing s names inputs many slots₀ defined₀ f slots₀ defined₀ f 0 f.next
  names_start = record { unseen = rw (less_none many) refl; again = rw (less_none many) refl; slotted = rw (less_none many) refl; marked = rw (less_none many) refl; called = refl; shaped = refl; arrays = refl; sized = refl }

  module _ {slots : List ℕ} {defined : List Bool} {g : Faults} {i next : ℕ} (w : NamesGoing s names inputs many slots₀ defined₀ f slots defined g i next) where
    pub names_turn : i < many → {x e b : ℕ} {t : Bool} {u v : RustOption ℕ} {slots' : List ℕ} {defined' : List Bool} → x ≡ name_at s next → Byte names x e → u ≡ marked g.unseen (eqb e 0) next
        → t ≡ taken_b defined inputs e → v ≡ marked g.again t next → b ≡ slot_of_entry e → slots' ≡ set slots next b → defined' ≡ set defined e true
        → {next' : ℕ} → next' ≡ next + 2 → NamesGoing s names inputs many slots₀ defined₀ f slots' defined' (record g { unseen = u; again = v }) (i + 1) next'
    unfolding slot_names mark_all again_b
    names_turn lt {x} {e} {b} {t} {u} {v} {slots'} {defined'} ex be eu et ev eb es ed {next'} on_next =
        let y = name_at s next in
        let ee : e ≡ get_or names y 0 = be.is ∙ ap (λ n. get_or names n 0) ex in
        let on : names_from s (many - i) next ≡ (next, y) ∷ names_from s (many - (i + 1)) (next + 2) = ap (map (named_at s)) (starts_on behind_name many i next lt) in
        let rest = names_from s (many - (i + 1)) (next + 2) in
        let put : defined' ≡ set defined (get_or names y 0) true = ed ∙ ap (λ n. set defined n true) ee in
        let q = eqb e 0 in
        rw on_next record {
          unseen = ap (λ o. found_in o (map (entry_item names) rest)) (ap place_of eu ∙ place_marked g.unseen q next ∙ ap (λ n. earliest (place_of g.unseen) (eqb n 0) next) ee)
              ∙ found_step (place_of g.unseen) (eqb (get_or names y 0) 0) next (map (entry_item names) rest)
              ∙ ap (λ l. found_in (place_of g.unseen) (map (entry_item names) l)) (sym on) ∙ w.unseen;
          again = ap (λ o. found_in o (again_b names inputs defined' rest)) (ap place_of ev ∙ place_marked g.again t next ∙ ap (λ c. earliest (place_of g.again) c next) (et ∙ ap (taken_b defined inputs) ee))
              ∙ found_step (place_of g.again) (taken_b defined inputs (get_or names y 0)) next (again_b names inputs defined' rest)
              ∙ ap (λ l. found_in (place_of g.again) ((next, taken_b defined inputs (get_or names y 0)) ∷ again_b names inputs l rest)) put
              ∙ ap (λ l. found_in (place_of g.again) (again_b names inputs defined l)) (sym on) ∙ w.again;
          slotted = ap (λ l. slot_names names l rest) (es ∙ ap (set slots next) (eb ∙ ap slot_of_entry ee)) ∙ ap (slot_names names slots) (sym on) ∙ w.slotted;
          marked = ap (λ l. mark_all names l rest) put ∙ ap (mark_all names defined) (sym on) ∙ w.marked;
          called = w.called;
          shaped = w.shaped;
          arrays = w.arrays;
          sized = w.sized;
        }

    pub names_done : many ≤ i → NamesDefined s names inputs many slots₀ slots defined₀ defined (findings f) (findings (record g { next = f.next + 2 * many }))
    unfolding slot_names mark_all again_b
    names_done over =
        let empty : names_from s (many - i) next ≡ [] = ap (map (named_at s)) (starts_none behind_name many i next over) in
        record {
          next = refl;
          unseen = sym (found_none (place_of g.unseen)) ∙ ap (λ l. found_in (place_of g.unseen) (map (entry_item names) l)) (sym empty) ∙ w.unseen;
          again = sym (found_none (place_of g.again)) ∙ ap (λ l. found_in (place_of g.again) (again_b names inputs defined l)) (sym empty) ∙ w.again;
          called = w.called;
          shaped = w.shaped;
          arrays = w.arrays;
          sized = w.sized;
          slotted = ap (slot_names names slots) (sym empty) ∙ w.slotted;
          marked = ap (mark_all names defined) (sym empty) ∙ w.marked;
        }

-- what stands outside the names is left, and each name has the slot of its entry
module _ (names : List ℕ) where
  pub names_below : (xs slots : List ℕ) (at j : ℕ) → j < at → get_or (slot_names names slots (placed_names at xs)) j 0 ≡ get_or slots j 0
  unfolding slot_names
  names_below [] slots at j lt = refl
  names_below (x ∷ xs) slots at j lt = names_below xs (set slots at _) (at + 2) j (omega arith) ∙ get_or-set_other slots at j _ 0 (λ q. omega arith)

  pub names_length : (xs slots : List ℕ) (at : ℕ) → length (slot_names names slots (placed_names at xs)) ≡ length slots
  unfolding slot_names
  names_length [] slots at = refl
  names_length (x ∷ xs) slots at = names_length xs (set slots at _) (at + 2) ∙ length-set slots at _

  pub names_held : (xs slots final : List ℕ) (at : ℕ) → at + 2 * length xs ≤ length slots → at + 2 * length xs ≤ length final → ((j : ℕ) → at ≤ j → j < at + 2 * length xs → get_or final j 0 ≡ get_or (slot_names names slots (placed_names at xs)) j 0)
      → Each (SlotIs names final) (placed_names at xs)
  unfolding slot_names
  names_held [] slots final at room far same = tt
  names_held (x ∷ xs) slots final at room far same = (
    record { is = same at (omega arith) (omega arith) ∙ names_below xs (set slots at _) (at + 2) at (omega arith) ∙ get_or-set_same slots at _ 0 (omega arith); inside = omega arith },
    names_held xs (set slots at _) final (at + 2) (omega (arith, length-set slots at (slot_of_entry (get_or names x 0)))) (omega arith) (λ j a b. same j (omega arith) (omega arith)),
  )

-- ---- the right side

module _ {s names rows : List ℕ} {nodes k at many : ℕ} (slots : List ℕ) {slots₁ slots₂ : List ℕ} (g : Faults) {fu fc fl fo : RustOption ℕ} {r : Findings} {p : Parts} {bu bc bl bo ba bd : Bool} {v x z : ℕ}
    (hp : HeadOf s g.next p) (ev : v ≡ arity_b s rows nodes g.next) (es : slots₁ ≡ slot_head s names k slots g.next)
    (mu : fu ≡ marked g.unseen bu (g.next + 1)) (tu : bu ≡ unseen_b s names g.next)
    (mc : fc ≡ marked g.called bc g.next) (tc : bc ≡ called_b s rows k g.next)
    (ml : fl ≡ marked g.shaped bl at) (tl : bl ≡ lone_b many v)
    (mo : fo ≡ marked fl bo g.next) (to : bo ≡ other_b many v)
    (td : bd ≡ formed_b s g.next) (ta : ba ≡ g.arrays || bd)
    (ez : z ≡ min (g.size + x) 65536) (fz : x ≡ site_b s rows nodes g.next)
    (inside : g.next < length s) (w : Walked s names rows nodes k p.count slots₁ slots₂ (record { unseen = place_of fu; again = place_of g.again; called = place_of fc; shaped = place_of fo; arrays = ba; size = z; next = p.start }) r) where
  pub root_judged : RootJudged s names rows nodes k at many slots slots₂ (findings g) r
  unfolding slot_heads or_all
  root_judged =
      let n = g.next in
      let eu : place_of fu ≡ earliest (place_of g.unseen) bu (n + 1) = ap place_of mu ∙ place_marked g.unseen bu (n + 1) in
      let ec : place_of fc ≡ earliest (place_of g.called) bc n = ap place_of mc ∙ place_marked g.called bc n in
      let el : place_of fl ≡ earliest (place_of g.shaped) bl at = ap place_of ml ∙ place_marked g.shaped bl at in
      let eo : place_of fo ≡ earliest (place_of fl) bo n = ap place_of mo ∙ place_marked fl bo n in
      let one : 1 - 1 + p.count ≡ p.count = omega arith in
      let rest = heads_from s p.count p.start in
      let all : heads_from s 1 n ≡ n ∷ rest = step (λ q l. q ∷ l) (λ q. []) s 1 n (omega arith) inside (omega arith) hp.parts hp.next ∙ ap (λ m. n ∷ heads_from s m p.start) one in
      let end : skip_at s 1 n ≡ skip_at s p.count p.start = step (λ q l. l) (λ q. q) s 1 n (omega arith) inside (omega arith) hp.parts hp.next ∙ ap (λ m. skip_at s m p.start) one in
      let shapes : root_shapes s rows nodes at many n ≡ (at, lone_b many (arity_b s rows nodes n)) ∷ (n, other_b many (arity_b s rows nodes n)) ∷ map (several_head s rows nodes) rest =
      ap (λ b. cond b ((at, lone_b many (arity_b s rows nodes n)) ∷ (n, other_b many (arity_b s rows nodes n)) ∷ map (several_head s rows nodes) (heads_from s (parts_at s n) (next_at s n))) []) (lt-ltb n (length s) inside)
      ∙ ap (λ m. (at, lone_b many (arity_b s rows nodes n)) ∷ (n, other_b many (arity_b s rows nodes n)) ∷ map (several_head s rows nodes) (heads_from s m (next_at s n))) (sym hp.parts)
      ∙ ap (λ m. (at, lone_b many (arity_b s rows nodes n)) ∷ (n, other_b many (arity_b s rows nodes n)) ∷ map (several_head s rows nodes) (heads_from s p.count m)) (sym hp.next) in
      record {
        next = w.next ∙ sym end;
        again = w.again;
        arrays = w.arrays ∙ ap (λ b. or_all b (map (formed_b s) rest)) (ta ∙ ap (λ b. g.arrays || b) td) ∙ ap (λ l. or_all g.arrays (map (formed_b s) l)) (sym all);
        sized =
            let rs = sum (map (site_b s rows nodes) (rest)) in
            w.sized ∙ ap (λ m. min (m + rs) 65536) (ez ∙ ap (λ y. min (g.size + y) 65536) fz) ∙ min_add g.size (site_b s rows nodes n) rs 65536
            ∙ ap (λ l. min (g.size + sum (map (site_b s rows nodes) l)) 65536) (sym all);
        slotted = w.slotted ∙ ap (λ l. slot_heads s names k l (rest)) es ∙ ap (slot_heads s names k slots) (sym all);
        unseen = w.unseen ∙ ap (λ o. found_in o (map (unseen_head s names) (rest))) (eu ∙ ap (λ b. earliest (place_of g.unseen) b (n + 1)) tu)
            ∙ found_step (place_of g.unseen) (unseen_b s names n) (n + 1) (map (unseen_head s names) (rest)) ∙ ap (λ l. found_in (place_of g.unseen) (map (unseen_head s names) l)) (sym all);
        called = w.called ∙ ap (λ o. found_in o (map (called_head s rows k) (rest))) (ec ∙ ap (λ b. earliest (place_of g.called) b n) tc)
            ∙ found_step (place_of g.called) (called_b s rows k n) n (map (called_head s rows k) (rest)) ∙ ap (λ l. found_in (place_of g.called) (map (called_head s rows k) l)) (sym all);
        shaped =
            let items = map (several_head s rows nodes) (rest) in
            let a = arity_b s rows nodes n in
            w.shaped ∙ ap (λ o. found_in o items) (eo ∙ ap (λ b. earliest (place_of fl) b n) (to ∙ ap (other_b many) ev))
            ∙ found_step (place_of fl) (other_b many a) n items ∙ ap (λ o. found_in o ((n, other_b many a) ∷ items)) (el ∙ ap (λ b. earliest (place_of g.shaped) b at) (tl ∙ ap (lone_b many) ev))
            ∙ found_step (place_of g.shaped) (lone_b many a) at ((n, other_b many a) ∷ items)
            ∙ ap (found_in (place_of g.shaped)) (sym shapes);
      }

-- the file ends before the right side
pub root_out : {s names rows : List ℕ} {nodes k at many : ℕ} {slots : List ℕ} {f : Findings} → length s ≤ f.next → f.size ≤ 65536 → RootJudged s names rows nodes k at many slots slots f f
unfolding slot_heads or_all
root_out {s} {names} {rows} {nodes} {k} {at} {many} {slots} {f} out small =
    let w = file_ends s 1 f.next out in
    let n = f.next in
    let none-there : root_shapes s rows nodes at many n ≡ [] =
    ap (λ b. cond b ((at, lone_b many (arity_b s rows nodes n)) ∷ (n, other_b many (arity_b s rows nodes n)) ∷ map (several_head s rows nodes) (heads_from s (parts_at s n) (next_at s n))) []) (le-ltb n (length s) out) in
    record {
      next = sym w.1;
      slotted = ap (slot_heads s names k slots) (sym w.0);
      again = refl;
      unseen = sym (found_none f.unseen) ∙ ap (λ l. found_in f.unseen (map (unseen_head s names) l)) (sym w.0);
      called = sym (found_none f.called) ∙ ap (λ l. found_in f.called (map (called_head s rows k) l)) (sym w.0);
      shaped = sym (found_none f.shaped) ∙ ap (found_in f.shaped) (sym none-there);
      arrays = ap (λ l. or_all f.arrays (map (formed_b s) l)) (sym w.0);
      sized = sym (min_cap f.size 65536 small) ∙ ap (λ l. min (f.size + sum (map (site_b s rows nodes) l)) 65536) (sym w.0);
    }

-- ---- an equation

pub equation_walked : {s names rows : List ℕ} {nodes k inputs many : ℕ} {slots slots₁ slots₂ : List ℕ} {defined defined₁ : List Bool} {g d r : Findings} → Byte s g.next many → NamesDefined s names inputs many slots slots₁ defined defined₁ (at_place g (g.next + 1)) d
    → RootJudged s names rows nodes k g.next many slots₁ slots₂ d r → EquationWalked s names rows nodes k inputs slots slots₂ defined defined₁ g r
equation_walked {s} {names} {rows} {nodes} {k} {inputs} {many} {slots} {slots₁} {slots₂} {defined} {defined₁} {g} {d} {r} b named rooted =
    record {
      middle = d;
      between = slots₁;
      named = subst (λ m. NamesDefined s names inputs m slots slots₁ defined defined₁ (at_place g (g.next + 1)) d) b.is named;
      rooted = subst (λ m. RootJudged s names rows nodes k g.next m slots₁ slots₂ d r) b.is rooted;
    }

-- the names xs, which stand where the walk stood, are defined
record DefinedAs (names : List ℕ) (inputs : ℕ) (xs slots slots' : List ℕ) (defined defined' : List Bool) (f r : Findings) : Type 0 where
  next : r.next ≡ f.next + 2 * length xs
  unseen : r.unseen ≡ found_in f.unseen (map (entry_item names) (placed_names f.next xs))
  again : r.again ≡ found_in f.again (again_b names inputs defined (placed_names f.next xs))
  called : r.called ≡ f.called
  shaped : r.shaped ≡ f.shaped
  arrays : r.arrays ≡ f.arrays
  sized : r.size ≡ f.size
  slotted : slots' ≡ slot_names names slots (placed_names f.next xs)
  marked : defined' ≡ mark_all names defined (placed_names f.next xs)

define_told : {s names : List ℕ} {inputs many : ℕ} {slots slots' : List ℕ} {defined defined' : List Bool} {f r : Findings} → NamesDefined s names inputs many slots slots' defined defined' f r → (xs : List ℕ) → length xs ≡ many → Names s 0 f.next xs
    → DefinedAs names inputs xs slots slots' defined defined' f r
define_told {s} {names} {inputs} {many} {slots} {slots'} {defined} {defined'} {f} {r} d xs e st =
    let same : names_from s many f.next ≡ placed_names f.next xs = ap (λ n. names_from s n f.next) (sym e) ∙ names_listed xs st in
    record {
      next = omega (arith, d.next);
      unseen = d.unseen ∙ ap (λ l. found_in f.unseen (map (entry_item names) l)) same;
      again = d.again ∙ ap (λ l. found_in f.again (again_b names inputs defined l)) same;
      called = d.called;
      shaped = d.shaped;
      arrays = d.arrays;
      sized = d.sized;
      slotted = d.slotted ∙ ap (slot_names names slots) same;
      marked = d.marked ∙ ap (mark_all names defined) same;
    }

-- the right side e of the equation at `at`, which has so many names
record RootAs (s names rows : List ℕ) (nodes k at many : ℕ) (e : Expr) (slots slots' : List ℕ) (f r : Findings) : Type 0 where
  next : r.next ≡ f.next + expr_size e
  slotted : slots' ≡ slot_heads s names k slots (heads f.next (cons e nil))
  again : r.again ≡ f.again
  unseen : r.unseen ≡ found_in f.unseen (map (unseen_head s names) (heads f.next (cons e nil)))
  called : r.called ≡ found_in f.called (map (called_head s rows k) (heads f.next (cons e nil)))
  shaped : r.shaped
      ≡ found_in f.shaped ((at, lone_b many (arity_b s rows nodes f.next)) ∷ (f.next, other_b many (arity_b s rows nodes f.next))
      ∷ map (several_head s rows nodes) (heads (f.next + head_size e) (joined (parts_of e) nil)))
  arrays : r.arrays ≡ or_all f.arrays (map (formed_b s) (heads f.next (cons e nil)))
  sized : Adds f.size (map (site_b s rows nodes) (heads f.next (cons e nil))) r.size

root_told : {s names rows : List ℕ} {nodes k at many : ℕ} {slots slots' : List ℕ} {f r : Findings} → RootJudged s names rows nodes k at many slots slots' f r → (enums : ℕ) (e : Expr) → Standing s enums f.next (cons e nil)
    → RootAs s names rows nodes k at many e slots slots' f r
root_told {s} {names} {rows} {nodes} {k} {at} {many} {slots} {slots'} {f} {r} w enums e st =
    let n = f.next in
    let hd = headed e nil st in
    let same : heads_from s 1 n ≡ heads n (cons e nil) = heads_stand {es = cons e nil} refl st in
    let rest : heads_from s (parts_at s n) (next_at s n) ≡ heads (n + head_size e) (joined (parts_of e) nil) =
    ap (heads_from s (parts_at s n)) (next_told s n e hd.inside hd.head)
    ∙ heads_stand {es = joined (parts_of e) nil} (omega (arith, joined_count (parts_of e) nil, parts_told s n e hd.head)) hd.rest in
    let a = arity_b s rows nodes n in
    record {
      next = w.next ∙ skip_stands {es = cons e nil} refl st ∙ omega arith;
      slotted = w.slotted ∙ ap (slot_heads s names k slots) same;
      again = w.again;
      unseen = w.unseen ∙ ap (λ l. found_in f.unseen (map (unseen_head s names) l)) same;
      called = w.called ∙ ap (λ l. found_in f.called (map (called_head s rows k) l)) same;
      shaped = w.shaped ∙ ap (λ b. found_in f.shaped (cond b ((at, lone_b many a) ∷ (n, other_b many a) ∷ map (several_head s rows nodes) (heads_from s (parts_at s n) (next_at s n))) [])) (lt-ltb n (length s) hd.inside)
          ∙ ap (λ l. found_in f.shaped ((at, lone_b many a) ∷ (n, other_b many a) ∷ map (several_head s rows nodes) l)) rest;
      arrays = w.arrays ∙ ap (λ l. or_all f.arrays (map (formed_b s) l)) same;
      sized = w.sized ∙ ap (λ l. min (f.size + sum (map (site_b s rows nodes) l)) 65536) same;
    }

-- the equation q at `at`, in the file f and a node of so many inputs
pub record EquationJudged (s names rows : List ℕ) (nodes k : ℕ) (f : File) (visible : List ℕ) (bad : ℕ → ℕ → Bool) (inputs at : ℕ) (q : Equation) (slots slots' : List ℕ) (defined defined' : List Bool) (g r : Findings) : Type 0 where
  pub next : r.next ≡ at + equation_size q
  pub unseen : r.unseen ≡ found_in g.unseen (equation_uses visible (at, q))
  pub again : r.again ≡ found_in g.again (again_b names inputs defined (defined_by (at, q)))
  pub called : r.called ≡ found_in g.called (in_equation (uses_where bad (bad_iterator k)) (at, q))
  pub shaped : r.shaped ≡ found_in g.shaped (equation_shape f (at, q))
  pub arrays : r.arrays ≡ or_all g.arrays (equation_forms (at, q))
  pub slotted : slots' ≡ slot_equation s names k slots (at, q)
  pub marked : defined' ≡ mark_all names defined (defined_by (at, q))
  pub sized : Adds g.size (map (callee_b rows nodes) (equation_sites q)) r.size

joined_nil : (es : Exprs) → joined es nil ≡ es
unfolding joined
joined_nil nil = refl
joined_nil (cons e es) = ap (cons e) (joined_nil es)

entries_seen : (names visible : List ℕ) → Knows names visible → (ps : List (ℕ × ℕ)) → map (entry_item names) ps ≡ map (unseen_item visible) ps
entries_seen names visible knows [] = refl
entries_seen names visible knows (p ∷ ps) =
    ap (λ b. (p.0, b) ∷ map (entry_item names) ps) (knows p.1) ∙ ap (λ l. unseen_item visible p ∷ l) (entries_seen names visible knows ps)

module _ {s names rows : List ℕ} {nodes k inputs : ℕ} {slots slots₂ : List ℕ} {defined defined₁ : List Bool} {g r : Findings} (walked : EquationWalked s names rows nodes k inputs slots slots₂ defined defined₁ g r) where
  pub equation_judged : (t : File) (visible : List ℕ) (bad : ℕ → ℕ → Bool) (enums : ℕ) (q : Equation) → Context t k names rows nodes visible bad → EquationStands s enums g.next q
      → EquationJudged s names rows nodes k t visible bad inputs g.next q slots slots₂ defined defined₁ g r
  unfolding slot_equation
  equation_judged t visible bad enums q ctx st =
      let at = g.next in
      let e = q.rhs in
      let d = walked.middle in
      let slots₁ = walked.between in
      let many = get_or s g.next 0 in
      let len : length q.names ≡ many = sym st.count in
      let n = define_told walked.named q.names len st.names in
      let p = d.next in
      let place : rhs_place at q ≡ p = omega (arith, n.next) in
      let right = subst (λ a. Standing s enums a (cons e nil)) place st.rhs in
      let f = flat right in
      let w = root_told walked.rooted enums e right in
      let ps = placed_names (at + 1) q.names in
      let hd = (headed e nil right).head in
      let ar : arity_b s rows nodes p ≡ arity t (rhs_of e) = arity_is s rows nodes t ctx.outputs p e hd in
      let inner : first (map (several_head s rows nodes) (heads (p + head_size e) (joined (parts_of e) nil))) ≡ first (drop 1 (in_equation (shape_item t) (at, q))) =
      several_law s rows nodes t ctx.outputs (flat (headed e nil right).rest)
      ∙ ap (λ l. first (collect_all (shape_item t) (p + head_size e) l)) (joined_nil (parts_of e))
      ∙ ap (λ l. first (drop 1 l)) (sym (root_head (shape_item t) p e)) ∙ ap (λ a. first (drop 1 (collect (shape_item t) a e))) (sym place) in
      record {
        next = omega (arith, w.next, n.next, len);
        unseen = w.unseen ∙ ap (λ o. found_in o (map (unseen_head s names) (heads p (cons e nil)))) n.unseen
            ∙ ap (or_else (found_in g.unseen (map (entry_item names) ps))) (unseen_law s names visible ctx.knows f)
            ∙ found_append g.unseen (map (entry_item names) ps) (map (unseen_item visible) (collect_all used_at p (cons e nil)))
            ∙ ap (λ l. found_in g.unseen (l ++ map (unseen_item visible) (collect_all used_at p (cons e nil)))) (entries_seen names visible ctx.knows ps)
            ∙ ap (λ l. found_in g.unseen (map (unseen_item visible) ps ++ map (unseen_item visible) l)) (walk_one used_at p e)
            ∙ ap (found_in g.unseen) (sym (map-append (unseen_item visible) ps (used p e)))
            ∙ ap (λ a. found_in g.unseen (unseen visible (ps ++ used a e))) (sym place);
        again = w.again ∙ n.again;
        called = w.called ∙ ap (λ x. found_in x (map (called_head s rows k) (heads p (cons e nil)))) n.called ∙ ap (or_else g.called) (called_law s rows k bad (bad_iterator k) ctx.calls (λ c. refl) f ∙ ap first (walk_one (uses_where bad (bad_iterator k)) p e) ∙ ap (λ a. first (collect (uses_where bad (bad_iterator k)) a e)) (sym place));
        shaped = w.shaped ∙ ap (λ x. or_else d.shaped (first_if (lone_b many (arity_b s rows nodes p)) at (first_if (other_b many (arity_b s rows nodes p)) p x))) inner
            ∙ rw (ar, ← len, n.shaped, ← place) refl;
        arrays = w.arrays ∙ ap (λ b. or_all b (map (formed_b s) (heads p (cons e nil)))) n.arrays ∙ ap (or_all g.arrays) (formed_law f ∙ walk_one formed_at p e) ∙ ap (λ a. or_all g.arrays (collect formed_at a e)) (sym place);
        marked = n.marked;
        sized =
            let sites : sum (map (site_b s rows nodes) (heads p (cons e nil))) ≡ sum (map (callee_b rows nodes) (callees e)) =
            sites_callees s rows nodes f ∙ ap (λ l. sum (map (callee_b rows nodes) l)) (append-nil (callees e)) in
            w.sized ∙ ap (λ m. min (m + sum (map (site_b s rows nodes) (heads p (cons e nil)))) 65536) n.sized ∙ ap (λ m. min (g.size + m) 65536) sites;
        slotted = w.slotted ∙ ap (λ l. slot_heads s names k l (heads p (cons e nil))) n.slotted ∙ ap (λ a. slot_heads s names k (slot_names names slots ps) (heads a (cons e nil))) (sym place);
      }

-- ---- the slots of an equation's names

-- the names that an equation defines have the slots of their entries, and those that it uses their cells and lengths
pub record EquationHeld (f : File) (k : ℕ) (names slots : List ℕ) (q : ℕ × Equation) : Type 0 where
  pub defined : Each (SlotIs names slots) (placed_names (q.0 + 1) q.1.names)
  pub used : Each (CellIs f k names slots) (used (rhs_place q.0 q.1) q.1.rhs)

module _ (s names : List ℕ) (k : ℕ) {enums at : ℕ} {q : Equation} (st : EquationStands s enums at q) where
  pub equation_below : (slots : List ℕ) (j : ℕ) → j ≤ at → get_or (slot_equation s names k slots (at, q)) j 0 ≡ get_or slots j 0
  unfolding slot_equation
  equation_below slots j le = slots_below s names k (flat st.rhs) (slot_names names slots (placed_names (at + 1) q.names)) j (omega arith) ∙ names_below names q.names slots (at + 1) j (omega arith)

  pub equation_length : (slots : List ℕ) → length (slot_equation s names k slots (at, q)) ≡ length slots
  unfolding slot_equation
  equation_length slots = slots_length s names k (heads (rhs_place at q) (cons q.rhs nil)) _ ∙ names_length names q.names slots (at + 1)

  pub equation_held : ((e : ℕ) → entry_cell (file_at s) k e < 65536) → (slots final : List ℕ) → length s ≤ length slots → length s ≤ length final
      → ((j : ℕ) → j < at + equation_size q → get_or final j 0 ≡ get_or (slot_equation s names k slots (at, q)) j 0) → EquationHeld (file_at s) k names final (at, q)
  unfolding slot_equation
  equation_held small slots final room large same =
      let p = rhs_place at q in
      let e = q.rhs in
      let f = flat st.rhs in
      let mid = slot_names names slots (placed_names (at + 1) q.names) in
      let far = (headed e nil st.rhs).inside in
      record {
        defined = names_held names q.names slots final (at + 1) (omega arith) (omega arith) (λ j a b. same j (omega arith) ∙ slots_below s names k f mid j (omega arith));
        used = subst (Each (CellIs (file_at s) k names final)) (walk_one used_at p e) (slots_held s names k small f mid final (omega (arith, names_length names q.names slots (at + 1))) large (λ j a b. same j (omega arith)));
      }

-- ---- so many equations

-- what is left of a list of items, each of which gives items
abbrev Left : {A : Type 0} → (ℕ × A → List Item) → (A → ℕ) → List A → ℕ → ℕ → List Item
Left g size xs i next = concat (map g (placed size next (drop i xs)))

-- an item of the list is judged
left_step : {A : Type 0} (g : ℕ × A → List Item) (size : A → ℕ) (d : A) (xs : List A) (i next next' : ℕ) (o o' z : Option ℕ) → i < length xs → next' ≡ next + size (get_or xs i d) → o' ≡ found_in o (g (next, get_or xs i d))
    → found_in o (Left g size xs i next) ≡ z → found_in o' (Left g size xs (i + 1) next') ≡ z
left_step g size d xs i next next' o o' z lt en eo ez =
    let x = get_or xs i d in
    ap (λ n. found_in o' (Left g size xs (i + 1) n)) en ∙ ap (λ y. found_in y (Left g size xs (i + 1) (next + size x))) eo
    ∙ found_append o (g (next, x)) (Left g size xs (i + 1) (next + size x)) ∙ ap (λ l. found_in o (concat (map g l))) (sym (placed_on size d xs i next lt)) ∙ ez

left_none : {A : Type 0} (g : ℕ × A → List Item) (size : A → ℕ) (xs : List A) (i next : ℕ) (o z : Option ℕ) → length xs ≤ i → found_in o (Left g size xs i next) ≡ z → o ≡ z
left_none g size xs i next o z le ez = sym (found_none o) ∙ ap (λ l. found_in o (concat (map g (placed size next l)))) (sym (drop_of_length-le xs le)) ∙ ez

-- some of these hold, or of those after them
pub or_append : (b : Bool) (xs ys : List Bool) → or_all (or_all b xs) ys ≡ or_all b (xs ++ ys)
unfolding or_all
or_append b [] ys = refl
or_append b (x ∷ xs) ys = or_append (b || x) xs ys

-- names that are defined, and those after them
again_append : (names : List ℕ) (inputs : ℕ) (defined : List Bool) (ps qs : List (ℕ × ℕ)) → again_b names inputs defined (ps ++ qs) ≡ again_b names inputs defined ps ++ again_b names inputs (mark_all names defined ps) qs
unfolding again_b mark_all
again_append names inputs defined [] qs = refl
again_append names inputs defined (p ∷ ps) qs = ap (λ l. (p.0, taken_b defined inputs (get_or names p.1 0)) ∷ l) (again_append names inputs (set defined (get_or names p.1 0) true) ps qs)

mark_append : (names : List ℕ) (defined : List Bool) (ps qs : List (ℕ × ℕ)) → mark_all names defined (ps ++ qs) ≡ mark_all names (mark_all names defined ps) qs
unfolding mark_all
mark_append names defined [] qs = refl
mark_append names defined (p ∷ ps) qs = mark_append names (set defined (get_or names p.1 0) true) ps qs

abbrev pub EquationPassing : List ℕ → ℕ → ℕ → List Equation → ℕ → ℕ → Type 0
EquationPassing s enums at qs i next = Passing equation_bytes (equation_fits base enums) equation_size s at qs i next

pub record EquationsGoing (s names rows : List ℕ) (nodes k : ℕ) (t : File) (visible : List ℕ) (bad : ℕ → ℕ → Bool) (inputs enums : ℕ) (qs : List Equation) (slots₀ : List ℕ) (defined₀ : List Bool) (f : Findings) (slots : List ℕ) (defined : List Bool) (g : Findings) (i : ℕ) : Type 0 where
  pub passing : EquationPassing s enums f.next qs i g.next
  pub unseen : found_in g.unseen (concat (map (equation_uses visible) (placed equation_size g.next (drop i qs)))) ≡ found_in f.unseen (concat (map (equation_uses visible) (placed equation_size f.next qs)))
  pub again : found_in g.again (again_b names inputs defined (concat (map defined_by (placed equation_size g.next (drop i qs))))) ≡ found_in f.again (again_b names inputs defined₀ (concat (map defined_by (placed equation_size f.next qs))))
  pub called : found_in g.called (concat (map (in_equation (uses_where bad (bad_iterator k))) (placed equation_size g.next (drop i qs)))) ≡ found_in f.called (concat (map (in_equation (uses_where bad (bad_iterator k))) (placed equation_size f.next qs)))
  pub shaped : found_in g.shaped (concat (map (equation_shape t) (placed equation_size g.next (drop i qs)))) ≡ found_in f.shaped (concat (map (equation_shape t) (placed equation_size f.next qs)))
  pub arrays : or_all g.arrays (concat (map equation_forms (placed equation_size g.next (drop i qs)))) ≡ or_all f.arrays (concat (map equation_forms (placed equation_size f.next qs)))
  pub slotted : slot_equations s names k slots (placed equation_size g.next (drop i qs)) ≡ slot_equations s names k slots₀ (placed equation_size f.next qs)
  pub marked : mark_all names defined (concat (map defined_by (placed equation_size g.next (drop i qs)))) ≡ mark_all names defined₀ (concat (map defined_by (placed equation_size f.next qs)))
  pub sized : Adding f.size (map (callee_b rows nodes) (concat (map equation_sites qs))) g.size (map (callee_b rows nodes) (concat (map equation_sites (drop i qs))))

module _ {s names rows : List ℕ} {nodes k : ℕ} {t : File} {visible : List ℕ} {bad : ℕ → ℕ → Bool} {inputs enums : ℕ} {qs : List Equation} {slots₀ : List ℕ} {defined₀ : List Bool} {f : Findings} where
  pub equations_start_lem : f.size ≤ 65536 → Listed equation_bytes (equation_fits base enums) s f.next qs → EquationsGoing s names rows nodes k t visible bad inputs enums qs slots₀ defined₀ f slots₀ defined₀ f 0
  equations_start_lem le h = record { passing = passing_start equation_bytes (equation_fits base enums) equation_size h; unseen = refl; again = refl; called = refl; shaped = refl; arrays = refl; slotted = refl; marked = refl; sized = (le, refl) }

  module _ {slots : List ℕ} {defined : List Bool} {g : Findings} {i : ℕ} (w : EquationsGoing s names rows nodes k t visible bad inputs enums qs slots₀ defined₀ f slots defined g i) where
    equation_at_lem : i < length qs → PassedItem equation_bytes (equation_fits base enums) equation_size s f.next qs i g.next (get_or qs i no_equation)
    equation_at_lem lt = passing_item equation_size_lem no_equation w.passing lt

    pub equations_turn : i < length qs → (slots' : List ℕ) (defined' : List Bool) (r : Findings) → Context t k names rows nodes visible bad → EquationWalked s names rows nodes k inputs slots slots' defined defined' g r
        → EquationsGoing s names rows nodes k t visible bad inputs enums qs slots₀ defined₀ f slots' defined' r (i + 1)
    unfolding slot_equations
    equations_turn lt slots' defined' r ctx walked =
        let it = equation_at_lem lt in
        let q = get_or qs i no_equation in
        let j = equation_judged walked t visible bad enums q ctx (equation_stands q it.fit it.here) in
        let on = placed_on equation_size no_equation qs i g.next lt in
        record {
          passing = subst (EquationPassing s enums f.next qs (i + 1)) (sym j.next) it.on;
          unseen = left_step (equation_uses visible) equation_size no_equation qs i g.next r.next g.unseen _ _ lt j.next j.unseen w.unseen;
          again =
              let here = defined_by (g.next, q) in
              let rest = concat (map defined_by (placed equation_size (g.next + equation_size q) (drop (i + 1) qs))) in
              ap (λ n. found_in r.again (again_b names inputs defined' (concat (map defined_by (placed equation_size n (drop (i + 1) qs)))))) j.next
              ∙ ap (λ o. found_in o (again_b names inputs defined' rest)) j.again ∙ ap (λ l. found_in (found_in g.again (again_b names inputs defined here)) (again_b names inputs l rest)) j.marked
              ∙ found_append g.again (again_b names inputs defined here) (again_b names inputs (mark_all names defined here) rest)
              ∙ ap (found_in g.again) (sym (again_append names inputs defined here rest))
              ∙ ap (λ l. found_in g.again (again_b names inputs defined (concat (map defined_by l)))) (sym on) ∙ w.again;
          called = left_step (in_equation (uses_where bad (bad_iterator k))) equation_size no_equation qs i g.next r.next g.called _ _ lt j.next j.called w.called;
          shaped = left_step (equation_shape t) equation_size no_equation qs i g.next r.next g.shaped _ _ lt j.next j.shaped w.shaped;
          arrays = ap (λ n. or_all r.arrays (concat (map equation_forms (placed equation_size n (drop (i + 1) qs))))) j.next
              ∙ ap (λ b. or_all b (concat (map equation_forms (placed equation_size (g.next + equation_size q) (drop (i + 1) qs))))) j.arrays
              ∙ or_append g.arrays (equation_forms (g.next, q)) _ ∙ ap (λ l. or_all g.arrays (concat (map equation_forms l))) (sym on) ∙ w.arrays;
          slotted = ap (λ n. slot_equations s names k slots' (placed equation_size n (drop (i + 1) qs))) j.next
              ∙ ap (λ l. slot_equations s names k l (placed equation_size (g.next + equation_size q) (drop (i + 1) qs))) j.slotted
              ∙ ap (slot_equations s names k slots) (sym on) ∙ w.slotted;
          marked =
              let here = defined_by (g.next, q) in
              let rest = concat (map defined_by (placed equation_size (g.next + equation_size q) (drop (i + 1) qs))) in
              ap (λ n. mark_all names defined' (concat (map defined_by (placed equation_size n (drop (i + 1) qs))))) j.next ∙ ap (λ l. mark_all names l rest) j.marked
              ∙ sym (mark_append names defined here rest) ∙ ap (λ l. mark_all names defined (concat (map defined_by l))) (sym on) ∙ w.marked;
          sized =
              let v = w.sized in
              let a = j.sized in
              let c = callee_b rows nodes in
              let rest = concat (map equation_sites (drop (i + 1) qs)) in
              let left : drop i qs ≡ q ∷ drop (i + 1) qs = drop-cons qs i no_equation lt ∙ ap (λ m. q ∷ drop m qs) (sym (add-one i)) in (
                omega (arith, a),
                ap (λ m. min (m + sum (map c rest)) 65536) a ∙ min_add g.size (sum (map c (equation_sites q))) (sum (map c rest)) 65536
                    ∙ ap (λ m. min (g.size + m) 65536) (sym (sum_append c (equation_sites q) rest))
                    ∙ ap (λ l. min (g.size + sum (map c (concat (map equation_sites l)))) 65536) (sym left) ∙ v.1,
              );
        }

    -- what the equation adds to the bytes of the records
    pub equations_sized : i < length qs → {slots' : List ℕ} {defined' : List Bool} {r : Findings} → Context t k names rows nodes visible bad → EquationWalked s names rows nodes k inputs slots slots' defined defined' g r
        → r.size ≡ min (g.size + sum (map (callee_b rows nodes) (equation_sites (get_or qs i no_equation)))) 65536
    equations_sized lt ctx walked =
        let it = equation_at_lem lt in
        let q = get_or qs i no_equation in
        (equation_judged walked t visible bad enums q ctx (equation_stands q it.fit it.here)).sized

    pub equations_cut : i < length qs → length s ≤ g.next → ⊥
    equations_cut lt out = omega (arith, here_inside (equation_at_lem lt).here (omega (arith, equation_size_lem (get_or qs i no_equation))), equation_size_lem (get_or qs i no_equation))

    pub equations_done : length qs ≤ i → EquationsJudged s names rows nodes k t visible bad inputs f.next qs slots₀ slots defined₀ defined f g
    unfolding slot_equations again_b mark_all or_all
    equations_done over =
        record {
          unseen = left_none (equation_uses visible) equation_size qs i g.next g.unseen _ over w.unseen;
          again = sym (found_none g.again) ∙ ap (λ l. found_in g.again (again_b names inputs defined (concat (map defined_by (placed equation_size g.next l))))) (sym (drop_of_length-le qs over)) ∙ w.again;
          called = left_none (in_equation (uses_where bad (bad_iterator k))) equation_size qs i g.next g.called _ over w.called;
          shaped = left_none (equation_shape t) equation_size qs i g.next g.shaped _ over w.shaped;
          arrays = ap (λ l. or_all g.arrays (concat (map equation_forms (placed equation_size g.next l)))) (sym (drop_of_length-le qs over)) ∙ w.arrays;
          slotted = ap (λ l. slot_equations s names k slots (placed equation_size g.next l)) (sym (drop_of_length-le qs over)) ∙ w.slotted;
          marked = ap (λ l. mark_all names defined (concat (map defined_by (placed equation_size g.next l)))) (sym (drop_of_length-le qs over)) ∙ w.marked;
          sized =
              let v = w.sized in
              sym (min_cap g.size 65536 v.0) ∙ ap (λ l. min (g.size + sum (map (callee_b rows nodes) (concat (map equation_sites l)))) 65536) (sym (drop_of_length-le qs over)) ∙ v.1;
        }
