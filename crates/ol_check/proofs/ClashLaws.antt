-- Fault 6 by the table of sorts: where declarations stand in the order of their sorts, the last one of a name decides whether the next one clashes.
use Prim.Native.Nat.{ℕ, suc, ◌+◌, ◌≤◌, ◌<◌}
use mathlib.Core.Bool.{Bool, true, false, not, ◌&&◌, ◌||◌, or-true}
use mathlib.Core.List.{List, [], ◌∷◌, ◌++◌, map, append_assoc}
use mathlib.Core.Logic.{◌⊎◌, inl, inr, ⊎_elim, by_cases}
use mathlib.Core.Option.{Option}
use mathlib.Core.Path.{◌≡◌, refl, sym, subst}
use native.Mathlib.Omega.{arith}
use native.Mathlib.Decide.{dec_le}
use lib.ListN.{length, get_or, set, length-set}
use lib.Seq.{get_or-set_same, get_or-set_other}
use lib.Dec.{ltb, leb, eqb}
use borrow.Author.Tests.{ltb-true, lt-ltb, leb-true, le-leb, eqb-true, eq-eqb, ne_eqb}
use Rattle.ol_spec.specs.Lists.{any_of, concat}
use Rattle.ol_spec.specs.Syntax.{Node, File}
use Rattle.ol_spec.specs.Places.{placed, placed_enums, placed_constants, placed_nodes, placed_names, placed_variables, enum_size, node_size, nodes_start}
use Rattle.ol_spec.specs.Admission.{Sort, variant, constant, variable, Declared, apart, clash, clashes, first, first_if, numbered, declared_as, placed_variable_name, placed_constant_name, enum_declares, node_declares, declared, fault6}
use Rattle.ol_spec.proofs.Tests.{T-or, T_true, true_t, or_left, bool_same}
use Rattle.ol_tables.specs.Stands.{FileStands}
use Rattle.ol_tables.specs.Tables.{Each}
use Rattle.ol_check.specs.Clashing.{sort_code, meets, clash_in}
use Rattle.ol_check.proofs.Truths.{no_truth, never, and_split, or_split}
use Rattle.ol_check.proofs.EntryLaws.{eq_cases}

-- ---- the test

-- the last one of the name meets this one: of the same sort, or of different kinds
abbrev Meets : ℕ → ℕ → Type 0
Meets last sort = (0 < last) × ((last ≡ sort) ⊎ ((last ≤ 17) × (17 ≤ sort)))

met : (last sort : ℕ) → meets last sort ≡ true → Meets last sort
met last sort e =
    let w = and_split (ltb 0 last) (eqb last sort || (leb last 17 && leb 17 sort)) e in
    (ltb-true 0 last w.0, ⊎_elim (λ a. inl (eqb-true last sort a)) (λ b. let v = and_split (leb last 17) (leb 17 sort) b in inr (leb-true last 17 v.0, leb-true 17 sort v.1)) (or_split (eqb last sort) (leb last 17 && leb 17 sort) w.1))

meet : (last sort : ℕ) → Meets last sort → meets last sort ≡ true
meet last sort h =
    rw (lt-ltb 0 last h.0)
    (⊎_elim (λ a. rw (eq-eqb last sort a) refl) (λ b. rw (le-leb last 17 b.0, le-leb 17 sort b.1) (or-true (eqb last sort))) h.1)

-- ---- sorts

-- an enum's number is below 16
abbrev Small : Sort → Type 0
Small (variant i) = i < 16
Small constant = Unit {0}
Small (variable k) = Unit {0}

positive : (u : Sort) → 0 < sort_code u
positive (variant i) = omega arith
positive constant = omega arith
positive (variable k) = omega arith

-- two sorts are not apart exactly if the table's test says so
told : (u w : Sort) → Small u → Small w → sort_code w ≤ sort_code u → not (apart u w) ≡ meets (sort_code w) (sort_code u)
told (variant i) (variant j) a b le =
    eq_cases i j
    (λ e. rw (eq-eqb i j e) (sym (meet (j + 1) (i + 1) (omega arith, inl (omega arith)))))
    (λ e. rw (ne_eqb i j e) (sym (never (meets (j + 1) (i + 1)) (λ t. let m = met (j + 1) (i + 1) t in ⊎_elim (λ q. e (omega arith)) (λ q. omega (arith, q.1)) m.1))))
told (variant i) constant a b le = absurd (omega arith)
told (variant i) (variable k) a b le = absurd (omega arith)
told constant (variant j) a b le = sym (meet (j + 1) 17 (omega arith, inr (omega arith, omega arith)))
told constant constant a b le = refl
told constant (variable k) a b le = absurd (omega arith)
told (variable k) (variant j) a b le = sym (meet (j + 1) (k + 18) (omega arith, inr (omega arith, omega arith)))
told (variable k) constant a b le = sym (meet 17 (k + 18) (omega arith, inr (omega arith, omega arith)))
told (variable i) (variable j) a b le =
    eq_cases i j
    (λ e. rw (eq-eqb i j e) (sym (meet (j + 18) (i + 18) (omega arith, inl (omega arith)))))
    (λ e. rw (ne_eqb i j e) (sym (never (meets (j + 18) (i + 18)) (λ t. let m = met (j + 18) (i + 18) t in ⊎_elim (λ q. e (omega arith)) (λ q. omega (arith, q.0)) m.1))))

-- where the one between did not clash, it decides alone
between : (t c n : ℕ) → 0 < c → t ≤ c → c ≤ n → meets t c ≡ false → meets c n || meets t n ≡ meets c n
between t c n pos tc cn un =
    bool_same (meets c n || meets t n) (meets c n)
    (λ e. ⊎_elim (λ h. h) (λ h.
    let m = met t n (T_true (meets t n) h) in
    true_t (meets c n) (meet c n (
      pos,
      ⊎_elim (λ q. absurd (no_truth (meet t c (m.0, inl (omega arith))) un))
          (λ q. by_cases (dec_le c 17) (λ low. inr (low, q.1)) (λ high. absurd (no_truth (meet t c (m.0, inr (q.0, omega arith))) un))) m.1,
    ))) (T-or (meets c n) (meets t n) e))
    (or_left (meets c n) (meets t n))

-- ---- the table tells the clashes with what was declared

-- what is declared as that sort of a name
abbrev of : ℕ → Sort → Declared
of x u = record { place = 0; name = x; sort = u }

pub record Tells (sorts : List ℕ) (earlier : List Declared) (most : ℕ) : Type 0 where
  pub high : (x : ℕ) → get_or sorts x 0 ≤ most
  pub tells : (x : ℕ) (u : Sort) → Small u → most ≤ sort_code u → any_of (clash (of x u)) earlier ≡ meets (get_or sorts x 0) (sort_code u)

pub tells_start : (sorts : List ℕ) → ((x : ℕ) → get_or sorts x 0 ≡ 0) → Tells sorts [] 0
tells_start sorts empty = record { high = λ x. omega (arith, empty x); tells = λ x u a b. rw (empty x) refl }

tells_step : {sorts : List ℕ} {earlier : List Declared} {most : ℕ} → Tells sorts earlier most → (d : Declared) → Small d.sort → most ≤ sort_code d.sort → d.name < length sorts
    → meets (get_or sorts d.name 0) (sort_code d.sort) ≡ false → Tells (set sorts d.name (sort_code d.sort)) (d ∷ earlier) (sort_code d.sort)
tells_step {sorts} {earlier} {most} t d small le lt un =
    let c = sort_code d.sort in
    record {
      high = λ x. eq_cases x d.name
          (λ e. rw e (omega (arith, get_or-set_same sorts d.name c 0 lt)))
          (λ ne. omega (arith, get_or-set_other sorts d.name x c 0 ne, t.high x));
      tells = λ x u a b. eq_cases x d.name
          (λ e. subst (λ y. any_of (clash (of y u)) (d ∷ earlier) ≡ meets (get_or (set sorts d.name c) y 0) (sort_code u)) (sym e)
          (rw (eq-eqb d.name d.name refl, get_or-set_same sorts d.name c 0 lt, told u d.sort a small b, t.tells d.name u a (omega arith))
          (between (get_or sorts d.name 0) c (sort_code u) (positive d.sort) (omega (arith, t.high d.name)) b un)))
          (λ ne. rw (ne_eqb x d.name ne, get_or-set_other sorts d.name x c 0 ne) (t.tells x u a (omega arith)));
    }

-- declarations in the order of their sorts
abbrev Ascending : ℕ → List Declared → Type 0
Ascending most [] = Unit {0}
Ascending most (d ∷ ds) = (most ≤ sort_code d.sort) × Small d.sort × Ascending (sort_code d.sort) ds

choose : (b : Bool) (p : ℕ) (x y : Option ℕ) → (b ≡ false → x ≡ y) → first_if b p x ≡ first_if b p y
choose true p x y h = refl
choose false p x y h = h refl

pub first_clash : {sorts : List ℕ} {earlier : List Declared} {most : ℕ} (ds : List Declared) → Tells sorts earlier most → Ascending most ds → Each (λ d. d.name < length sorts) ds
    → clash_in sorts ds ≡ first (clashes earlier ds)
unfolding clash_in
first_clash [] t asc room = refl
first_clash {sorts} {earlier} {most} (d ∷ ds) t asc room =
    let c = sort_code d.sort in
    let same : any_of (clash d) earlier ≡ meets (get_or sorts d.name 0) c = t.tells d.name d.sort asc.1 asc.0 in
    rw same
    (choose (meets (get_or sorts d.name 0) c) d.place (clash_in (set sorts d.name c) ds) (first (clashes (d ∷ earlier) ds))
    (λ un. first_clash {sorts = set sorts d.name c} {earlier = d ∷ earlier} {most = c} ds (tells_step t d asc.1 asc.0 room.0 un) asc.2 (subst (λ n. Each (λ u. u.name < n) ds) (sym (length-set sorts d.name c)) room.1)))

-- ---- a file's declarations are in that order

ascending_from : (m n : ℕ) (ds : List Declared) → m ≤ n → Ascending n ds → Ascending m ds
ascending_from m n [] le h = tt
ascending_from m n (d ∷ ds) le h = (omega (arith, h.0), h.1, h.2)

ascending_as : (u : Sort) (ps : List (ℕ × ℕ)) (m : ℕ) (ds : List Declared) → Small u → m ≤ sort_code u → Ascending (sort_code u) ds → Ascending m (declared_as u ps ++ ds)
ascending_as u [] m ds small le h = ascending_from m (sort_code u) ds le h
ascending_as u (p ∷ ps) m ds small le h = (le, small, ascending_as u ps (sort_code u) ds small (omega arith) h)

ascending_enums : (i at : ℕ) (es : List (List ℕ)) (m : ℕ) (ds : List Declared) → i + length es ≤ 16 → m ≤ i + 1 → Ascending 17 ds → Ascending m (concat (map enum_declares (numbered i (placed enum_size at es))) ++ ds)
ascending_enums i at [] m ds few le h = ascending_from m 17 ds (omega arith) h
ascending_enums i at (vs ∷ es) m ds few le h =
    let rest = concat (map enum_declares (numbered (suc i) (placed enum_size (at + enum_size vs) es))) in
    subst (Ascending m) (sym (append_assoc (enum_declares (i, (at, vs))) rest ds))
    (ascending_as (variant i) (placed_names (at + 1) vs) m (rest ++ ds) (omega arith) le (ascending_enums (suc i) (at + enum_size vs) es (i + 1) ds (omega arith) (omega arith) h))

ascending_nodes : (k at : ℕ) (ns : List Node) (m : ℕ) → m ≤ k + 18 → Ascending m (concat (map node_declares (numbered k (placed node_size at ns))))
ascending_nodes k at [] m le = tt
ascending_nodes k at (n ∷ ns) m le =
    ascending_as (variable k) (map placed_variable_name (placed_variables at n)) m (concat (map node_declares (numbered (suc k) (placed node_size (at + node_size n) ns)))) tt le
    (ascending_nodes (suc k) (at + node_size n) ns (k + 18) (omega arith))

pub file_ascending : {s : List ℕ} {f : File} → FileStands s f → Ascending 0 (declared f)
file_ascending {s} {f} st =
    let es = concat (map enum_declares (numbered 0 (placed_enums f))) in
    let cs = declared_as constant (map placed_constant_name (placed_constants f)) in
    let ns = concat (map node_declares (numbered 0 (placed_nodes f))) in
    subst (Ascending 0) (sym (append_assoc es cs ns))
    (ascending_enums 0 2 f.enums 0 (cs ++ ns) (omega (arith, st.few_enums)) (omega arith)
    (ascending_as constant (map placed_constant_name (placed_constants f)) 17 ns tt (omega arith) (ascending_nodes 0 (nodes_start f) f.nodes 17 (omega arith))))

-- the table's first clash is fault 6
pub clash_is : {s : List ℕ} {f : File} (sorts : List ℕ) → FileStands s f → ((x : ℕ) → get_or sorts x 0 ≡ 0) → Each (λ d. d.name < length sorts) (declared f) → clash_in sorts (declared f) ≡ fault6 f
unfolding fault6
clash_is {f = f} sorts st empty room = first_clash (declared f) (tells_start sorts empty) (file_ascending st) room
