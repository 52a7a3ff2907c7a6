-- The constants, one after the other: each sees the variants and the constants before it.
use Prim.Native.Nat.{ℕ, zero, suc, ◌+◌, ◌*◌, ◌≤◌, ◌<◌}
use mathlib.Core.Bool.{true, false}
use mathlib.Core.List.{List, [], ◌∷◌, map}
use mathlib.Core.Logic.{by_cases}
use native.Mathlib.Decide.{dec_lt}
use mathlib.Core.Path.{◌≡◌, refl, sym, ap, subst, ◌∙◌}
use native.Mathlib.Omega.{arith}
use native.Mathlib.Numerals.{add-one}
use lib.ListN.{length, get_or, drop, drop_of_length-le}
use lib.Seq.{drop-cons}
use lib.Dec.{T, ltb}
use borrow.Author.Tests.{le-ltb}
use Rattle.ol_spec.specs.Lists.{or_else, concat}
use Rattle.ol_spec.specs.Syntax.{nil, cons, Constant, File}
use Rattle.ol_spec.specs.Places.{constant_size, placed}
use Rattle.ol_spec.specs.Encode.{constant_bytes}
use Rattle.ol_spec.specs.Limits.{base}
use Rattle.ol_spec.specs.Within.{name_fits, var_ty_fits, constant_fits}
use Rattle.ol_spec.proofs.Tests.{T_and}
use Rattle.ol_spec.specs.Admission.{first, unseen_item, unseen, used_at, used, value_place, constant_uses, in_constant, uses_where, bad_iterator, shape_item}
use Rattle.ol_spec.proofs.RoundTrip.Parts.{here_inside}
use Rattle.ol_spec.proofs.RoundTrip.Items.{constant_size_lem}
use Rattle.ol_tables.specs.Heads.{name_at}
use Rattle.ol_tables.specs.Tables.{Each, Told}
use Rattle.ol_tables.specs.At.{file_at}
use Rattle.ol_tables.specs.Stands.{ConstantStands, FileStands}
use Rattle.ol_tables.proofs.HeadLaws.{walk_one}
use Rattle.ol_tables.proofs.HeadsFile.{Passing, Item as PassedItem, passing_start, passing_item, constant_stands, passing_end}
use Rattle.ol_check.specs.RowsDone.{no_constant, type_set}
use Rattle.ol_check.specs.Arrays.{or_all, formed_at, constant_forms}
use Rattle.ol_check.proofs.RowLoops.{type_length, type_other, type_same, type_new}
use Rattle.ol_check.proofs.KnownLaws.{EntryWithin, within_declared, known_from, constant_known}
use Rattle.ol_check.specs.Entries.{declared, declare_all, constant_entries}
use Rattle.ol_check.specs.Spans.{behind_variable}
use Rattle.ol_check.specs.Judging.{Findings, bad_b, found_in, Knows, Looks, Walked, at_place}
use Rattle.ol_check.specs.ConstantsJudged.{ConstantWalked, slot_constants, ConstantsJudged, ConstantsTyped, ConstantsReady}
use Rattle.ol_check.proofs.WalkLoop.{found_none, found_append, WalkedAs, walk_told}
use Rattle.ol_check.proofs.HeadLaws.{flat, unseen_law, called_law, several_law, formed_law}
use Rattle.ol_check.proofs.EquationLaws.{placed_on, or_append}
use Rattle.ol_check.proofs.EntryLaws.{knows_step}

-- constant number i, which is c and stands where the walk stood
pub record ConstantJudged (s names rows : List ℕ) (nodes i : ℕ) (c : Constant) (slots slots' names' : List ℕ) (f r : Findings) : Type 0 where
  pub walked : WalkedAs s names rows nodes 0 (cons c.value nil) slots slots' (at_place f (value_place f.next c)) r
  pub entered : names' ≡ declared names c.name (i + 113)

constant_told : {s names rows : List ℕ} {nodes types i : ℕ} {slots slots' plans plans' names' : List ℕ} {f r : Findings} → ConstantWalked s names rows nodes types i slots slots' plans plans' names' f r → (enums : ℕ) (c : Constant)
    → ConstantStands s enums f.next c → ConstantJudged s names rows nodes i c slots slots' names' f r
constant_told {s} {names} {rows} {nodes} {types} {i} {slots} {slots'} {plans} {plans'} {names'} {f} {r} w enums c st =
    let same : behind_variable s f.next ≡ value_place f.next c = omega (arith, st.ty.size) in
    record {
      walked = walk_told (subst (λ p. Walked s names rows nodes 0 1 slots slots' (at_place f p) r) same w.walked) enums (cons c.value nil) refl st.value;
      entered = w.entered ∙ ap (λ y. declared names y (i + 113)) st.name;
    }

-- its type is stored, its value is walked where it stands, then its name entered
pub constant_walked : {s : List ℕ} (names : List ℕ) {rows : List ℕ} {nodes types i p x : ℕ} {slots slots' plans plans' names' : List ℕ} {f r : Findings} → plans' ≡ type_set plans (types + 2 * i) s (f.next + 2) → p ≡ behind_variable s f.next → x ≡ name_at s f.next
    → Walked s names rows nodes 0 1 slots slots' (at_place f p) r → names' ≡ declared names x (i + 113) → ConstantWalked s names rows nodes types i slots slots' plans plans' names' f r
constant_walked {s} names {rows} {nodes} {types} {i} {p} {x} {slots} {slots'} {plans} {plans'} {names'} {f} {r} et en ex w ee =
    record {
      walked = subst (λ m. Walked s names rows nodes 0 1 slots slots' (at_place f m) r) en w;
      typed = et;
      entered = ee ∙ ap (λ y. declared names y (i + 113)) ex;
    }

-- ---- the types of the constants

-- those of the first i are stored from p on, and all else is as before
pub record TypesSoFar (p : ℕ) (cs : List Constant) (plans plans' : List ℕ) (i : ℕ) : Type 0 where
  pub few : i ≤ length cs
  pub told : (j : ℕ) → j < i → Told plans' (p + 2 * j) (get_or cs j no_constant).ty
  pub before : (x : ℕ) → x < p → get_or plans' x 0 ≡ get_or plans x 0
  pub behind : (x : ℕ) → p + 2 * i ≤ x → get_or plans' x 0 ≡ get_or plans x 0
  pub long : length plans' ≡ length plans

pub types_start : {p : ℕ} {cs : List Constant} {plans : List ℕ} → TypesSoFar p cs plans plans 0
types_start = record { few = omega arith; told = λ j h. absurd (omega arith); before = λ x h. refl; behind = λ x h. refl; long = refl }

module _ {s : List ℕ} {enums p at : ℕ} {cs : List Constant} {plans₀ plans : List ℕ} {i next : ℕ} (some : enums ≤ 16) (room : p + 2 * length cs ≤ length plans₀) (w : TypesSoFar p cs plans₀ plans i) (lt : i < length cs)
    (it : PassedItem constant_bytes (constant_fits base enums) constant_size s at cs i next (get_or cs i no_constant)) where
  pub so_far_turn : {plans' : List ℕ} → plans' ≡ type_set plans (p + 2 * i) s (next + 2) → TypesSoFar p cs plans₀ plans' (i + 1)
  so_far_turn {plans'} e =
      let c = get_or cs i no_constant in
      let st = constant_stands c it.fit it.here in
      let fits : T (var_ty_fits base enums c.ty) = (T_and (var_ty_fits base enums c.ty) _ (T_and (name_fits c.name) _ it.fit).1).0 in
      let other : (x : ℕ) → (x ≡ p + 2 * i → ⊥) → (x ≡ p + 2 * i + 1 → ⊥) → get_or plans' x 0 ≡ get_or plans x 0 = λ x a b. ap (λ l. get_or l x 0) e ∙ type_other plans (p + 2 * i) s (next + 2) x a b in
      record {
        few = omega arith;
        told = λ j h. by_cases (dec_lt j i)
            (λ old. type_same (p + 2 * j) (other _ (λ q. omega arith) (λ q. omega arith)) (other _ (λ q. omega arith) (λ q. omega arith)) (w.told j old))
            (λ new. let same : j ≡ i = omega arith in rw (same, e) (type_new plans (p + 2 * i) s (next + 2) enums c.ty (omega (arith, w.long, room)) some fits st.ty));
        before = λ x h. other x (λ q. omega arith) (λ q. omega arith) ∙ w.before x h;
        behind = λ x h. other x (λ q. omega arith) (λ q. omega arith) ∙ w.behind x (omega arith);
        long = ap length e ∙ type_length plans (p + 2 * i) s (next + 2) ∙ w.long;
      }

pub so_far_done : {p : ℕ} {cs : List Constant} {plans plans' : List ℕ} {i : ℕ} → TypesSoFar p cs plans plans' i → length cs ≤ i → ConstantsTyped p cs plans plans'
so_far_done {p} {cs} {plans} {plans'} {i} w over =
    let e : i ≡ length cs = omega (arith, w.few) in
    record { told = λ j h. w.told j (omega arith); before = w.before; behind = λ x h. w.behind x (omega arith); long = w.long }

-- in a constant every call is faulted, and every iterator
no_call : (rows : List ℕ) (x n : ℕ) → bad_b rows 0 x n ≡ true
no_call rows x n = let high : ltb x 0 ≡ false = le-ltb x 0 (omega arith) in rw high refl

no_iterator : (c : ℕ) → bad_iterator 0 c ≡ true
no_iterator c = let high : ltb c 0 ≡ false = le-ltb c 0 (omega arith) in rw high refl

entries_on : (cs : List Constant) (i : ℕ) → i < length cs → constant_entries i (drop i cs) ≡ ((get_or cs i no_constant).name, i + 113) ∷ constant_entries (i + 1) (drop (i + 1) cs)
entries_on cs i lt = ap (constant_entries i) (drop-cons cs i no_constant lt) ∙ ap (λ n. ((get_or cs i no_constant).name, i + 113) ∷ constant_entries (i + 1) (drop n cs)) (sym (add-one i))

each_at : (room : ℕ) (cs : List Constant) (i : ℕ) → i < length cs → Each (λ c. c.name < room) cs → (get_or cs i no_constant).name < room
each_at room [] i lt h = absurd (omega arith)
each_at room (c ∷ cs) zero lt h = h.0
each_at room (c ∷ cs) (suc i) lt h = each_at room cs i (omega arith) h.1

within_more : {vs cs e : ℕ} → EntryWithin vs cs e → EntryWithin vs (cs + 1) e
within_more h = record { variable = h.variable; constant = λ a b. omega (arith, h.constant a b) }

-- what is seen in constant number i's expression is known, once its type is stored
pub constant_looks : {s : List ℕ} (names : List ℕ) {plans : List ℕ} {p i : ℕ} (at : ℕ) → FileStands s (file_at s) → ((y : ℕ) → EntryWithin 0 i (get_or names y 0)) → {plans₀ : List ℕ} → TypesSoFar p (file_at s).constants plans₀ plans i
    → Looks (file_at s) 0 names (type_set plans (p + 2 * i) s (at + 2)) 0 p
constant_looks {s} names {plans} {p} {i} at st within w x =
    known_from (λ j h. absurd (omega arith))
    (constant_known st i w.few (λ j h. type_other plans (p + 2 * i) s (at + 2) (p + 2 * j + 1) (λ q. omega arith) (λ q. omega arith) ∙ (w.told j h).length))
    (within x)

-- those from number i on are left; `seen` are the names before them
pub record ConstantsGoing (s : List ℕ) (t : File) (visible : List ℕ) (enums : ℕ) (cs : List Constant) (names₀ slots₀ : List ℕ) (f : Findings) (names slots : List ℕ) (g : Findings) (i : ℕ) : Type 0 where
  pub passing : Passing constant_bytes (constant_fits base enums) constant_size s f.next cs i g.next
  pub seen : List ℕ
  pub knows : Knows names seen
  pub unseen : found_in g.unseen (constant_uses seen (placed constant_size g.next (drop i cs))) ≡ found_in f.unseen (constant_uses visible (placed constant_size f.next cs))
  pub again : g.again ≡ f.again
  pub called : found_in g.called (concat (map (in_constant (uses_where (λ c args. true) (λ c. true))) (placed constant_size g.next (drop i cs)))) ≡ found_in f.called (concat (map (in_constant (uses_where (λ c args. true) (λ c. true))) (placed constant_size f.next cs)))
  pub shaped : found_in g.shaped (concat (map (in_constant (shape_item t)) (placed constant_size g.next (drop i cs)))) ≡ found_in f.shaped (concat (map (in_constant (shape_item t)) (placed constant_size f.next cs)))
  pub arrays : or_all g.arrays (concat (map constant_forms (placed constant_size g.next (drop i cs)))) ≡ or_all f.arrays (concat (map constant_forms (placed constant_size f.next cs)))
  pub within : (y : ℕ) → EntryWithin 0 i (get_or names y 0)
  pub entered : declare_all names (constant_entries i (drop i cs)) ≡ declare_all names₀ (constant_entries 0 cs)
  pub slotted : slot_constants s names slots i (placed constant_size g.next (drop i cs)) ≡ slot_constants s names₀ slots₀ 0 (placed constant_size f.next cs)

module _ {s names₀ rows : List ℕ} {nodes : ℕ} {t : File} {visible : List ℕ} {enums : ℕ} {cs : List Constant} {slots₀ : List ℕ} {f : Findings} (rd : ConstantsReady s names₀ rows nodes t visible enums f.next cs) where
  pub constants_start_lem : ((x : ℕ) → 1 ≤ get_or names₀ x 0 → 255 ≤ get_or names₀ x 0) → ConstantsGoing s t visible enums cs names₀ slots₀ f names₀ slots₀ f 0
  constants_start_lem free = record { passing = passing_start constant_bytes (constant_fits base enums) constant_size rd.stand; seen = visible; knows = rd.knows; unseen = refl; again = refl; called = refl; shaped = refl; arrays = refl; within = λ y. record { variable = λ a b. absurd (omega (arith, free y a)); constant = λ a b. absurd (omega (arith, free y (omega arith))) }; entered = refl; slotted = refl }

  module _ {names slots : List ℕ} {g : Findings} {i : ℕ} (w : ConstantsGoing s t visible enums cs names₀ slots₀ f names slots g i) where
    pub constant_at_lem : i < length cs → PassedItem constant_bytes (constant_fits base enums) constant_size s f.next cs i g.next (get_or cs i no_constant)
    constant_at_lem lt = passing_item constant_size_lem no_constant w.passing lt

    pub constants_cut : i < length cs → length s ≤ g.next → ⊥
    constants_cut lt out = omega (arith, here_inside (constant_at_lem lt).here (omega (arith, constant_size_lem (get_or cs i no_constant))), constant_size_lem (get_or cs i no_constant))

    pub constants_turn : i < length cs → length names ≡ length names₀ → (names' slots' : List ℕ) (r : Findings) {types : ℕ} {plans plans' : List ℕ} → ConstantWalked s names rows nodes types i slots slots' plans plans' names' g r
        → ConstantsGoing s t visible enums cs names₀ slots₀ f names' slots' r (i + 1)
    unfolding declare_all slot_constants
    constants_turn lt same names' slots' r judged =
        let it = constant_at_lem lt in
        let c = get_or cs i no_constant in
        let st = constant_stands c it.fit it.here in
        let j = constant_told judged enums c st in
        let v = j.walked in
        let at = g.next in
        let p = value_place at c in
        let fl = flat st.value in
        let one = cons c.value nil in
        let next : r.next ≡ at + constant_size c = omega (arith, v.next) in
        let on : placed constant_size at (drop i cs) ≡ (at, c) ∷ placed constant_size r.next (drop (i + 1) cs) = placed_on constant_size no_constant cs i at lt ∙ ap (λ n. (at, c) ∷ placed constant_size n (drop (i + 1) cs)) (sym next) in
        let rest = placed constant_size r.next (drop (i + 1) cs) in
        record {
          passing = subst (Passing constant_bytes (constant_fits base enums) constant_size s f.next cs (i + 1)) (sym next) it.on;
          seen = c.name ∷ w.seen;
          knows = subst (λ l. Knows l (c.name ∷ w.seen)) (sym j.entered) (knows_step names w.seen c.name (i + 113) w.knows (omega (arith, each_at (length names₀) cs i lt rd.covered)) (omega arith));
          unseen = ap (λ o. found_in o (constant_uses (c.name ∷ w.seen) rest)) (v.unseen ∙ ap (or_else g.unseen) (unseen_law s names w.seen w.knows fl ∙ ap (λ l. first (map (unseen_item w.seen) l)) (walk_one used_at p c.value)))
              ∙ found_append g.unseen (unseen w.seen (used p c.value)) (constant_uses (c.name ∷ w.seen) rest)
              ∙ ap (λ l. found_in g.unseen (constant_uses w.seen l)) (sym on) ∙ w.unseen;
          again = v.again ∙ w.again;
          called = ap (λ o. found_in o (concat (map (in_constant (uses_where (λ x n. true) (λ x. true))) rest))) (v.called ∙ ap (or_else g.called) (called_law s rows 0 (λ x n. true) (λ x. true) (no_call rows) no_iterator fl ∙ ap first (walk_one (uses_where (λ x n. true) (λ x. true)) p c.value)))
              ∙ found_append g.called (in_constant (uses_where (λ x n. true) (λ x. true)) (at, c)) _ ∙ ap (λ l. found_in g.called (concat (map (in_constant (uses_where (λ x n. true) (λ x. true))) l))) (sym on) ∙ w.called;
          shaped = ap (λ o. found_in o (concat (map (in_constant (shape_item t)) rest))) (v.shaped ∙ ap (or_else g.shaped) (several_law s rows nodes t rd.outputs fl ∙ ap first (walk_one (shape_item t) p c.value)))
              ∙ found_append g.shaped (in_constant (shape_item t) (at, c)) _ ∙ ap (λ l. found_in g.shaped (concat (map (in_constant (shape_item t)) l))) (sym on) ∙ w.shaped;
          arrays = ap (λ b. or_all b (concat (map constant_forms rest))) (v.arrays ∙ ap (or_all g.arrays) (formed_law fl ∙ walk_one formed_at p c.value))
              ∙ or_append g.arrays (constant_forms (at, c)) (concat (map constant_forms rest)) ∙ ap (λ l. or_all g.arrays (concat (map constant_forms l))) (sym on) ∙ w.arrays;
          within = λ y. rw j.entered (within_declared names c.name (i + 113) y (within_more (w.within y)) (record { variable = λ a b. absurd (omega arith); constant = λ a b. omega arith }));
          entered = ap (λ l. declare_all l (constant_entries (i + 1) (drop (i + 1) cs))) j.entered ∙ ap (declare_all names) (sym (entries_on cs i lt)) ∙ w.entered;
          slotted = ap (λ l. slot_constants s l slots' (i + 1) rest) j.entered ∙ ap (λ l. slot_constants s (declared names c.name (i + 113)) l (i + 1) rest) v.slotted
              ∙ ap (slot_constants s names slots i) (sym on) ∙ w.slotted;
        }

    pub constants_done : length cs ≤ i → ConstantsJudged s names₀ t visible f.next cs slots₀ slots names f g
    unfolding declare_all slot_constants or_all
    constants_done over =
        let empty : drop i cs ≡ [] = drop_of_length-le cs over in
        record {
          next = passing_end w.passing over;
          unseen = sym (found_none g.unseen) ∙ ap (λ l. found_in g.unseen (constant_uses w.seen (placed constant_size g.next l))) (sym empty) ∙ w.unseen;
          again = w.again;
          called = sym (found_none g.called) ∙ ap (λ l. found_in g.called (concat (map (in_constant (uses_where (λ x n. true) (λ x. true))) (placed constant_size g.next l)))) (sym empty) ∙ w.called;
          shaped = sym (found_none g.shaped) ∙ ap (λ l. found_in g.shaped (concat (map (in_constant (shape_item t)) (placed constant_size g.next l)))) (sym empty) ∙ w.shaped;
          arrays = ap (λ l. or_all g.arrays (concat (map constant_forms (placed constant_size g.next l)))) (sym empty) ∙ w.arrays;
          entered = ap (λ l. declare_all names (constant_entries i l)) (sym empty) ∙ w.entered;
          slotted = ap (λ l. slot_constants s names slots i (placed constant_size g.next l)) (sym empty) ∙ w.slotted;
        }
