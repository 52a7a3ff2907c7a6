-- The loops over declarations: what is left to be sorted.
use Prim.Native.Nat.{ℕ, suc, max, ◌+◌, ◌-◌, ◌≤◌, ◌<◌}
use mathlib.Core.Bool.{Bool, true, false, ◌||◌, cond}
use mathlib.Core.List.{List, [], ◌∷◌, ◌++◌, map}
use mathlib.Core.Option.{Option, none, some}
use mathlib.Core.Path.{◌≡◌, refl, sym, ap, subst, ◌∙◌}
use native.Mathlib.Omega.{arith}
use native.Mathlib.Numerals.{add-one}
use lib.ListN.{length, get_or, set, drop, drop_of_length-le}
use lib.Seq.{drop-cons}
use lib.Dec.{T, ltb, eqb}
use Rattle.std.specs.Borrow.{MutBor}
use borrow.Author.Tests.{ltb-false, eqb-true, eqb-false, lt-ltb, le-ltb, ne_eqb}
use Rattle.ol_spec.specs.Lists.{or_else, concat}
use Rattle.ol_spec.specs.Syntax.{Variable, Constant, nil, cons}
use Rattle.ol_spec.specs.Places.{placed, enum_size, constant_size, variable_size}
use Rattle.ol_spec.specs.Encode.{name_bytes, section_bytes, constant_bytes, variable_bytes}
use Rattle.ol_spec.specs.Limits.{base}
use Rattle.ol_spec.specs.Within.{name_fits, var_ty_fits, constant_fits, variable_fits, enum_fits}
use Rattle.ol_spec.proofs.Tests.{T_and}
use Rattle.ol_spec.specs.Admission.{variant, constant, variable, Declared, first_if, numbered, declared_at, declared_as, placed_constant_name, enum_declares}
use Rattle.ol_spec.proofs.RoundTrip.Parts.{here_inside}
use Rattle.ol_spec.proofs.RoundTrip.Items.{names_size, constant_size_lem, variable_size_lem}
use Rattle.ol_tables.specs.Heads.{Byte, name_at}
use Rattle.ol_tables.specs.Walks.{skip_at}
use Rattle.ol_tables.specs.Stands.{Listed, Variables}
use Rattle.ol_tables.proofs.Skipping.{skip_stands}
use Rattle.ol_tables.proofs.HeadsFile.{Passing, passing_start, passing_item, constant_stands, variable_stands}
use Rattle.ol_check.specs.Spans.{starts_from, end_from, behind_variable, behind_enum, named_at, names_from}
use Rattle.ol_check.specs.RowsDone.{Enums, no_constant}
use Rattle.ol_check.specs.Clashing.{sort_code, sort_of, meets, sort_all, clash_in, over_all, Walks, typed_array, enums_from}
use Rattle.ol_check.specs.Arrays.{or_all, variable_array, constant_array}
use Rattle.ol_check.proofs.CellLaws.{array_told}
use Rattle.ol_check.proofs.EquationLaws.{or_append}
use Rattle.ol_check.specs.Founds.{place_of, marked}
use Rattle.ol_check.proofs.FoundLaws.{place_marked}
use Rattle.ol_check.specs.declared.clash.Sorter.{Sorter}
use Rattle.ol_check.proofs.SpanLaws.{starts_on, starts_none, end_on_lem, end_none, names_listed, enum_stands}
use Rattle.ol_check.proofs.WalkLoop.{found_none}

-- ---- lists of declarations, one behind the other

or_assoc : (a b c : Option ℕ) → or_else (or_else a b) c ≡ or_else a (or_else b c)
or_assoc none b c = refl
or_assoc (some p) b c = refl

if_or : (b : Bool) (p : ℕ) (x y : Option ℕ) → first_if b p (or_else x y) ≡ or_else (first_if b p x) y
if_or true p x y = refl
if_or false p x y = refl

sort_append : (sorts : List ℕ) (a b : List Declared) → sort_all sorts (a ++ b) ≡ sort_all (sort_all sorts a) b
unfolding sort_all
sort_append sorts [] b = refl
sort_append sorts (d ∷ a) b = sort_append (set sorts d.name (sort_code d.sort)) a b

clash_append : (sorts : List ℕ) (a b : List Declared) → clash_in sorts (a ++ b) ≡ or_else (clash_in sorts a) (clash_in (sort_all sorts a) b)
unfolding clash_in sort_all
clash_append sorts [] b = refl
clash_append sorts (d ∷ a) b =
    let on = set sorts d.name (sort_code d.sort) in
    let m = meets (get_or sorts d.name 0) (sort_code d.sort) in
    ap (first_if m d.place) (clash_append on a b) ∙ if_or m d.place (clash_in on a) (clash_in (sort_all on a) b)

over_append : (most : ℕ) (a b : List Declared) → over_all most (a ++ b) ≡ over_all (over_all most a) b
unfolding over_all
over_append most [] b = refl
over_append most (d ∷ a) b = over_append (max most d.name) a b

-- what is left to be sorted leads to what all leads to
pub record Left (ds : List Declared) (bs : List Bool) (v : Sorter) (all : List Declared) (every : List Bool) (v₀ : Sorter) : Type 0 where
  pub same_reference : v.sorts.ghost_name ≡ v₀.sorts.ghost_name
  pub finds : or_else (place_of v.marks.found) (clash_in v.sorts.now ds) ≡ or_else (place_of v₀.marks.found) (clash_in v₀.sorts.now all)
  pub above : over_all v.marks.highest ds ≡ over_all v₀.marks.highest all
  pub arrays : or_all v.marks.arrays bs ≡ or_all v₀.marks.arrays every
  pub enters : sort_all v.sorts.now ds ≡ sort_all v₀.sorts.now all

module _ {all : List Declared} {every : List Bool} {v₀ : Sorter} where
  pub left_all : Left all every v₀ all every v₀
  left_all = record { same_reference = refl; finds = refl; above = refl; arrays = refl; enters = refl }

  -- some of them are sorted
  pub left_on : {rest : List Declared} {others : List Bool} {v v' : Sorter} (seg : List Declared) (some_bs : List Bool) → Left (seg ++ rest) (some_bs ++ others) v all every v₀ → Walks seg some_bs v v' → Left rest others v' all every v₀
  left_on {rest} {others} {v} {v'} seg some_bs l w =
      let sorts = v.sorts.now in
      let sorts' = v'.sorts.now in
      let found = place_of v.marks.found in
      record {
        same_reference = w.same_reference ∙ l.same_reference;
        finds = ap (λ o. or_else o (clash_in sorts' rest)) w.finds ∙ or_assoc found (clash_in sorts seg) (clash_in sorts' rest)
            ∙ ap (λ t. or_else found (or_else (clash_in sorts seg) (clash_in t rest))) w.enters ∙ ap (or_else found) (sym (clash_append sorts seg rest)) ∙ l.finds;
        above = ap (λ m. over_all m rest) w.above ∙ sym (over_append v.marks.highest seg rest) ∙ l.above;
        arrays = ap (λ b. or_all b others) w.arrays ∙ or_append v.marks.arrays some_bs others ∙ l.arrays;
        enters = ap (λ t. sort_all t rest) w.enters ∙ sym (sort_append sorts seg rest) ∙ l.enters;
      }

  pub left_none : {v : Sorter} → Left [] [] v all every v₀ → Walks all every v₀ v
  unfolding clash_in sort_all over_all or_all
  left_none {v} l =
      record { same_reference = l.same_reference; finds = sym (found_none (place_of v.marks.found)) ∙ l.finds; above = l.above; arrays = l.arrays; enters = l.enters }

-- two lists
pub sorts_two : {a b : List Declared} {x y : List Bool} {v₀ v₁ v₂ : Sorter} → Walks a x v₀ v₁ → Walks b y v₁ v₂ → Walks (a ++ b) (x ++ y) v₀ v₂
sorts_two {a} {b} {x} {y} {v₀} {v₁} {v₂} v w =
    let s₀ = v₀.sorts.now in
    let s₁ = v₁.sorts.now in
    let f₀ = place_of v₀.marks.found in
    record {
      same_reference = w.same_reference ∙ v.same_reference;
      finds = w.finds ∙ ap (λ o. or_else o (clash_in s₁ b)) v.finds ∙ or_assoc f₀ (clash_in s₀ a) (clash_in s₁ b) ∙ ap (λ t. or_else f₀ (or_else (clash_in s₀ a) (clash_in t b))) v.enters ∙ ap (or_else f₀) (sym (clash_append s₀ a b));
      above = w.above ∙ ap (λ m. over_all m b) v.above ∙ sym (over_append v₀.marks.highest a b);
      arrays = w.arrays ∙ ap (λ c. or_all c y) v.arrays ∙ or_append v₀.marks.arrays x y;
      enters = w.enters ∙ ap (λ t. sort_all t b) v.enters ∙ sym (sort_append s₀ a b);
    }

-- ---- sorts by their bytes

pub code_of : (c : ℕ) → 0 < c → sort_code (sort_of c) ≡ c
code_of c pos = go (ltb c 17) (eqb c 17) refl refl
  where
    go : (a b : Bool) → ltb c 17 ≡ a → eqb c 17 ≡ b → sort_code (cond a (variant (c - 1)) (cond b constant (variable (c - 18)))) ≡ c
    go true b ea eb = omega (arith, pos)
    go false true ea eb = sym (eqb-true c 17 eb)
    go false false ea eb = omega (arith, ltb-false c 17 ea, eqb-false c 17 eb)

pub of_variant : (e : ℕ) → e < 16 → sort_of (e + 1) ≡ variant e
of_variant e lt = let less : e + 1 - 1 ≡ e = omega arith in rw (lt-ltb (e + 1) 17 (omega arith)) (ap variant less)

pub of_variable : (k : ℕ) → sort_of (18 + k) ≡ variable k
of_variable k = let less : 18 + k - 18 ≡ k = omega arith in rw (le-ltb (18 + k) 17 (omega arith), ne_eqb (18 + k) 17 (λ e. omega arith)) (ap variable less)

-- ---- one name

pub name_walks : (s : List ℕ) (sort at : ℕ) {x b : ℕ} {q : Bool} {v v' : Sorter} → 0 < sort → x ≡ name_at s at → Byte v.sorts.now x b → q ≡ meets b sort → v'.sorts.now ≡ set v.sorts.now x sort
    → v'.marks.found ≡ marked v.marks.found q at → v'.marks.highest ≡ max v.marks.highest x → v'.marks.arrays ≡ v.marks.arrays → v'.sorts.ghost_name ≡ v.sorts.ghost_name → Walks (declared_at (sort_of sort) (named_at s at) ∷ []) [] v v'
unfolding clash_in sort_all over_all or_all
name_walks s sort at {x} {b} {q} {v} {v'} pos ex eb eq es ef el ea same =
    let sorts = v.sorts.now in
    let marks = v.marks in
    let code = sym (code_of sort pos) in
    let meeting : q ≡ meets (get_or sorts (name_at s at) 0) (sort_code (sort_of sort)) = eq ∙ ap (λ n. meets n sort) eb.is ∙ ap (λ y. meets (get_or sorts y 0) sort) ex ∙ ap (meets (get_or sorts (name_at s at) 0)) code in
    record {
      same_reference = same;
      finds = ap place_of ef ∙ place_marked marks.found q at ∙ ap (λ t. or_else (place_of marks.found) (first_if t at none)) meeting;
      above = el ∙ ap (max marks.highest) ex;
      arrays = ea;
      enters = es ∙ ap (λ y. set sorts y sort) ex ∙ ap (set sorts (name_at s at)) code;
    }

-- and whether it is an array's
pub typed_walks : {ds : List Declared} {b : Bool} {v v₁ v₂ : Sorter} → Walks ds [] v v₁ → v₂.sorts ≡ v₁.sorts → v₂.marks.found ≡ v₁.marks.found → v₂.marks.highest ≡ v₁.marks.highest → v₂.marks.arrays ≡ v₁.marks.arrays || b → Walks ds (b ∷ []) v v₂
unfolding or_all
typed_walks {ds} {b} {v} {v₁} {v₂} w es ef eh ea =
    record {
      same_reference = ap (λ (r : MutBor (List ℕ)). r.ghost_name) es ∙ w.same_reference;
      finds = ap place_of ef ∙ w.finds;
      above = eh ∙ w.above;
      arrays = ea ∙ ap (λ c. c || b) w.arrays;
      enters = ap (λ (r : MutBor (List ℕ)). r.now) es ∙ w.enters;
    }

-- ---- so many names, so many variables

-- `types` tells of each whether it is an array's, if it is a variable
abbrev pub types_from : (ℕ → List Bool) → List ℕ → List Bool
types_from types ps = concat (map types ps)

-- those from number i on are left, and end where all end
pub record NamesGoing (types : ℕ → List Bool) (behind : ℕ → ℕ) (s : List ℕ) (sort count at : ℕ) (v₀ v : Sorter) (i next : ℕ) : Type 0 where
  pub left : Left (declared_as (sort_of sort) (map (named_at s) (starts_from behind (count - i) next))) (types_from types (starts_from behind (count - i) next)) v
      (declared_as (sort_of sort) (map (named_at s) (starts_from behind count at))) (types_from types (starts_from behind count at)) v₀
  pub end : end_from behind (count - i) next ≡ end_from behind count at

module _ {types : ℕ → List Bool} {behind : ℕ → ℕ} {s : List ℕ} {sort count at : ℕ} {v₀ : Sorter} where
  pub names_start : NamesGoing types behind s sort count at v₀ v₀ 0 at
  names_start = let z : count - 0 ≡ count = omega arith in record { left = rw z left_all; end = rw z refl }

  module _ {v : Sorter} {i next : ℕ} (w : NamesGoing types behind s sort count at v₀ v i next) where
    abbrev all : List Declared
    all = declared_as (sort_of sort) (map (named_at s) (starts_from behind count at))

    abbrev every : List Bool
    every = types_from types (starts_from behind count at)

    pub names_turn : i < count → {v' : Sorter} {next' : ℕ} → next' ≡ behind next → Walks (declared_at (sort_of sort) (named_at s next) ∷ []) (types next) v v'
        → NamesGoing types behind s sort count at v₀ v' (i + 1) next'
    names_turn lt {v'} {next'} en one =
        let rest = starts_from behind (count - (i + 1)) (behind next) in
        let on : Left (declared_at (sort_of sort) (named_at s next) ∷ declared_as (sort_of sort) (map (named_at s) rest)) (types next ++ types_from types rest) v all every v₀ =
        subst (λ l. Left (declared_as (sort_of sort) (map (named_at s) l)) (types_from types l) v all every v₀) (starts_on behind count i next lt) w.left in
        record {
          left = rw en (left_on (declared_at (sort_of sort) (named_at s next) ∷ []) (types next) on one);
          end = ap (end_from behind (count - (i + 1))) en ∙ sym (end_on_lem behind count i next lt) ∙ w.end;
        }

    pub names_done : count ≤ i → Walks all every v₀ v
    names_done over = left_none (subst (λ l. Left (declared_as (sort_of sort) (map (named_at s) l)) (types_from types l) v all every v₀) (starts_none behind count i next over) w.left)

    pub names_end : count ≤ i → next ≡ end_from behind count at
    names_end over = sym (end_none behind count i next over) ∙ w.end

-- names have no types; a variable has one
abbrev pub no_type : ℕ → List Bool
no_type p = []

abbrev pub one_type : List ℕ → ℕ → List Bool
one_type s p = typed_array s p ∷ []

no_types : (ps : List ℕ) → types_from no_type ps ≡ []
no_types [] = refl
no_types (p ∷ ps) = no_types ps

one_types : (s : List ℕ) (ps : List ℕ) → types_from (one_type s) ps ≡ map (typed_array s) ps
one_types s [] = refl
one_types s (p ∷ ps) = ap (λ l. typed_array s p ∷ l) (one_types s ps)

pub untyped_done : {behind : ℕ → ℕ} {s : List ℕ} {sort count at : ℕ} {v₀ v : Sorter} {i next : ℕ} → NamesGoing no_type behind s sort count at v₀ v i next → count ≤ i → Walks (declared_as (sort_of sort) (map (named_at s) (starts_from behind count at))) [] v₀ v
untyped_done {behind} {s} {sort} {count} {at} {v₀} {v} w over = subst (λ l. Walks (declared_as (sort_of sort) (map (named_at s) (starts_from behind count at))) l v₀ v) (no_types (starts_from behind count at)) (names_done w over)

pub typed_done : {behind : ℕ → ℕ} {s : List ℕ} {sort count at : ℕ} {v₀ v : Sorter} {i next : ℕ} → NamesGoing (one_type s) behind s sort count at v₀ v i next → count ≤ i
    → Walks (declared_as (sort_of sort) (map (named_at s) (starts_from behind count at))) (map (typed_array s) (starts_from behind count at)) v₀ v
typed_done {behind} {s} {sort} {count} {at} {v₀} {v} w over = subst (λ l. Walks (declared_as (sort_of sort) (map (named_at s) (starts_from behind count at))) l v₀ v) (one_types s (starts_from behind count at)) (names_done w over)

-- ---- the constants

pub record ConstantsGoing (s : List ℕ) (enums : ℕ) (cs : List Constant) (at : ℕ) (v₀ v : Sorter) (i next : ℕ) : Type 0 where
  pub passing : Passing constant_bytes (constant_fits base enums) constant_size s at cs i next
  pub left : Left (declared_as constant (map placed_constant_name (placed constant_size next (drop i cs)))) (map constant_array (drop i cs)) v
      (declared_as constant (map placed_constant_name (placed constant_size at cs))) (map constant_array cs) v₀

module _ {s : List ℕ} {enums : ℕ} {cs : List Constant} {at : ℕ} {v₀ : Sorter} where
  pub constants_start_lem : Listed constant_bytes (constant_fits base enums) s at cs → ConstantsGoing s enums cs at v₀ v₀ 0 at
  constants_start_lem st = record { passing = passing_start constant_bytes (constant_fits base enums) constant_size st; left = left_all }

  module _ {v : Sorter} {i next : ℕ} (w : ConstantsGoing s enums cs at v₀ v i next) where
    pub constants_in_lem : i < length cs → next < length s
    constants_in_lem lt =
        let it = passing_item constant_size_lem no_constant w.passing lt in
        let c = get_or cs i no_constant in
        omega (arith, here_inside it.here (omega (arith, constant_size_lem c)), constant_size_lem c)

    pub constants_turn : i < length cs → {v' : Sorter} {n next' : ℕ} → Walks (declared_at (sort_of 17) (named_at s next) ∷ []) (typed_array s next ∷ []) v v' → n ≡ behind_variable s next → next' ≡ skip_at s 1 n
        → ConstantsGoing s enums cs at v₀ v' (i + 1) next'
    constants_turn lt {v'} {n} {next'} one en er =
        let it = passing_item constant_size_lem no_constant w.passing lt in
        let c = get_or cs i no_constant in
        let st = constant_stands c it.fit it.here in
        let fits : T (var_ty_fits base enums c.ty) = (T_and (var_ty_fits base enums c.ty) _ (T_and (name_fits c.name) _ it.fit).1).0 in
        let all = declared_as constant (map placed_constant_name (placed constant_size at cs)) in
        let every = map constant_array cs in
        let behind : next' ≡ next + constant_size c =
        er ∙ ap (skip_at s 1) (en ∙ ap (λ m. next + 2 + m) st.ty.size) ∙ skip_stands {es = cons c.value nil} refl st.value ∙ omega arith in
        let rest : Left (declared_at constant (next, c.name) ∷ declared_as constant (map placed_constant_name (placed constant_size (next + constant_size c) (drop (suc i) cs)))) (constant_array c ∷ map constant_array (drop (suc i) cs)) v all every v₀ =
        subst (λ l. Left (declared_as constant (map placed_constant_name (placed constant_size next l))) (map constant_array l) v all every v₀) (drop-cons cs i no_constant lt) w.left in
        record {
          passing = subst (Passing constant_bytes (constant_fits base enums) constant_size s at cs (i + 1)) (sym behind) it.on;
          left = rw (behind, add-one i) (left_on (declared_at constant (next, c.name) ∷ []) (constant_array c ∷ []) rest
              (subst (λ b. Walks (declared_at constant (next, c.name) ∷ []) (b ∷ []) v v') (array_told enums c.ty fits st.ty) (subst (λ x. Walks (declared_at constant (next, x) ∷ []) (typed_array s next ∷ []) v v') st.name one)));
        }

    pub constants_done : length cs ≤ i → Walks (declared_as constant (map placed_constant_name (placed constant_size at cs))) (map constant_array cs) v₀ v
    constants_done over =
        left_none (subst (λ l. Left (declared_as constant (map placed_constant_name (placed constant_size next l))) (map constant_array l) v (declared_as constant (map placed_constant_name (placed constant_size at cs))) (map constant_array cs) v₀)
        (drop_of_length-le cs over) w.left)

-- ---- the enums

pub record EnumsGoing (s : List ℕ) (count at : ℕ) (v₀ v : Sorter) (e next : ℕ) : Type 0 where
  pub left : Left (enums_from s e (count - e) next) [] v (enums_from s 0 count at) [] v₀

module _ {s : List ℕ} {count at : ℕ} {v₀ : Sorter} where
  pub enums_start : EnumsGoing s count at v₀ v₀ 0 at
  enums_start = let z : count - 0 ≡ count = omega arith in record { left = rw z left_all }

  module _ {v : Sorter} {e next : ℕ} (w : EnumsGoing s count at v₀ v e next) where
    pub enums_turn : e < count → {v' : Sorter} {many next' : ℕ} → Byte s next many → next' ≡ behind_enum s next
        → Walks (declared_as (sort_of (e + 1)) (names_from s many (next + 1))) [] v v' → EnumsGoing s count at v₀ v' (e + 1) next'
    unfolding enums_from
    enums_turn lt {v'} {many} {next'} em behind one =
        let less : count - e ≡ suc (count - (e + 1)) = omega arith in
        let here = declared_as (sort_of (e + 1)) (names_from s (get_or s next 0) (next + 1)) in
        let on : Left (here ++ enums_from s (e + 1) (count - (e + 1)) (behind_enum s next)) [] v (enums_from s 0 count at) [] v₀ =
        subst (λ n. Left (enums_from s e n next) [] v (enums_from s 0 count at) [] v₀) less w.left in
        record { left = rw behind (left_on here [] on (subst (λ n. Walks (declared_as (sort_of (e + 1)) (names_from s n (next + 1))) [] v v') em.is one)) }

    pub enums_done : count ≤ e → Walks (enums_from s 0 count at) [] v₀ v
    unfolding enums_from
    enums_done over =
        let none_left : count - e ≡ 0 = omega arith in
        left_none (subst (λ n. Left (enums_from s e n next) [] v (enums_from s 0 count at) [] v₀) none_left w.left)

-- enums that stand in the file
pub enums_listed : {s : List ℕ} (i at : ℕ) (es : List (List ℕ)) → i + length es ≤ 16 → Enums s at es → enums_from s i (length es) at ≡ concat (map enum_declares (numbered i (placed enum_size at es)))
unfolding enums_from
enums_listed {s} i at [] few h = refl
enums_listed {s} i at (vs ∷ es) few h =
    let it = passing_item names_size vs (passing_start (section_bytes name_bytes) (enum_fits base) enum_size h) (omega arith) in
    let st = enum_stands vs it.fit it.here in
    let rest = enums_from s (i + 1) (length es) (behind_enum s at) in
    let behind : behind_enum s at ≡ at + enum_size vs = omega (arith, st.count) in
    ap (λ u. declared_as u (names_from s (get_or s at 0) (at + 1)) ++ rest) (of_variant i (omega arith))
    ∙ ap (λ n. declared_as (variant i) (names_from s n (at + 1)) ++ rest) st.count
    ∙ ap (λ l. declared_as (variant i) l ++ rest) (names_listed vs st.names)
    ∙ ap (λ p. enum_declares (i, (at, vs)) ++ enums_from s (i + 1) (length es) p) behind
    ∙ ap (λ l. enum_declares (i, (at, vs)) ++ l) (enums_listed (i + 1) (at + enum_size vs) es (omega arith) it.on.left ∙ ap (λ n. concat (map enum_declares (numbered n (placed enum_size (at + enum_size vs) es)))) (add-one i))

-- whether the variables that stand in the file are arrays
pub arrays_listed : {s : List ℕ} (enums : ℕ) (vs : List Variable) {at : ℕ} → Variables s enums at vs → map (typed_array s) (starts_from (behind_variable s) (length vs) at) ≡ map variable_array vs
unfolding starts_from
arrays_listed enums [] h = refl
arrays_listed {s} enums (v ∷ vs) {at} h =
    let it = passing_item variable_size_lem v (passing_start variable_bytes (variable_fits base enums) variable_size h) (omega arith) in
    let st = variable_stands v it.fit it.here in
    let fits : T (var_ty_fits base enums v.ty) = (T_and (name_fits v.name) _ it.fit).1 in
    let behind : behind_variable s at ≡ at + variable_size v = omega (arith, st.ty.size) in
    ap (λ b. b ∷ map (typed_array s) (starts_from (behind_variable s) (length vs) (behind_variable s at))) (array_told enums v.ty fits st.ty)
    ∙ ap (λ q. variable_array v ∷ map (typed_array s) (starts_from (behind_variable s) (length vs) q)) behind
    ∙ ap (λ l. variable_array v ∷ l) (arrays_listed enums vs it.on.left)
