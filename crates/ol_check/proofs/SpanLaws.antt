-- Items that stand one behind the other: what is left of them, and that the bytes tell the items of a list that stands in the file.
use Prim.Native.Nat.{ℕ, zero, suc, ◌+◌, ◌-◌, ◌*◌, ◌≤◌, ◌<◌}
use mathlib.Core.Bool.{Bool}
use mathlib.Core.List.{List, [], ◌∷◌, ◌++◌, map}
use mathlib.Core.Path.{◌≡◌, refl, sym, ap, subst, ◌∙◌}
use native.Mathlib.Omega.{arith}
use lib.ListN.{length, get_or}
use lib.Dec.{T}
use Rattle.ol_spec.specs.Lists.{sum, concat}
use Rattle.ol_spec.specs.Syntax.{Variable}
use Rattle.ol_spec.specs.Places.{placed, placed_names, variable_size, enum_size}
use Rattle.ol_spec.specs.Encode.{name_bytes, section_bytes, variable_bytes}
use Rattle.ol_spec.specs.Limits.{base}
use Rattle.ol_spec.specs.Within.{count_fits, name_fits, variable_fits, enum_fits}
use Rattle.ol_spec.specs.Admission.{placed_variable_name}
use Rattle.ol_spec.proofs.Tests.{T_and}
use Rattle.ol_spec.proofs.RoundTrip.Parts.{Here, here_back}
use Rattle.ol_spec.proofs.RoundTrip.Items.{names_size, variable_size_lem}
use Rattle.ol_tables.specs.Heads.{name_at}
use Rattle.ol_tables.specs.Stands.{Listed, Names, Variables}
use Rattle.ol_tables.proofs.Walking.{ty_small}
use Rattle.ol_tables.proofs.HeadLaws.{here_first, here_name}
use Rattle.ol_tables.proofs.HeadsFile.{passing_start, passing_item, variable_stands}
use Rattle.std.specs.Borrow.{MutBor}
use Rattle.ol_check.specs.Spans.{Visits, Visited, starts_from, end_from, behind_name, behind_variable, behind_enum, named_at, names_from, variables_from, names_of, variants_from}
use Rattle.ol_check.specs.RowsDone.{Enums}

-- ---- those from number i on

less_one : (count i : ℕ) → i < count → count - i ≡ suc (count - (i + 1))
less_one count i lt = omega arith

none_less : (count i : ℕ) → count ≤ i → count - i ≡ 0
none_less count i le = omega arith

module _ (behind : ℕ → ℕ) (count i next : ℕ) where
  pub starts_on : i < count → starts_from behind (count - i) next ≡ next ∷ starts_from behind (count - (i + 1)) (behind next)
  unfolding starts_from
  starts_on lt = ap (λ n. starts_from behind n next) (less_one count i lt)

  pub starts_none : count ≤ i → starts_from behind (count - i) next ≡ []
  unfolding starts_from
  starts_none le = ap (λ n. starts_from behind n next) (none_less count i le)

  pub end_on_lem : i < count → end_from behind (count - i) next ≡ end_from behind (count - (i + 1)) (behind next)
  unfolding end_from
  end_on_lem lt = ap (λ n. end_from behind n next) (less_one count i lt)

  pub end_none : count ≤ i → end_from behind (count - i) next ≡ next
  unfolding end_from
  end_none le = ap (λ n. end_from behind n next) (none_less count i le)

-- visits by a closure that is lent are visits by the closure
pub visits_lent : (P : MutBor (List ℕ) → ℕ → ℕ → MutBor (List ℕ) → Type 0) (i : ℕ) (ps t u : List ℕ)
    → Visits (λ t i p u. Visited (λ y y'. (x : ℕ) × P (record { ref_ptr = y.ref_ptr; ghost_name = x; now = y.now }) i p (record { ref_ptr = y.ref_ptr; ghost_name = x; now = y'.now })) t u) i ps t u → Visits (λ t i p u. Visited (λ y y'. P y i p y') t u) i ps t u
unfolding Visits
visits_lent P i [] t u h = h
visits_lent P i (p ∷ ps) t u h =
    let v = h.1 in
    (h.0, record { shown = record { ref_ptr = v.shown.ref_ptr; ghost_name = v.met.0; now = v.shown.now }; left = record { ref_ptr = v.shown.ref_ptr; ghost_name = v.met.0; now = v.left.now }; met = v.met.1; shows = v.shows; leaves = v.leaves }, visits_lent P (i + 1) ps h.0 u h.2)

-- what is left to be visited, and that it ends where all end
pub record EachGoing (R : List ℕ → ℕ → ℕ → List ℕ → Type 0) (behind : ℕ → ℕ) (first count at : ℕ) (t₀ t : List ℕ) (i next : ℕ) : Type 0 where
  pub left : (u : List ℕ) → Visits R (first + i) (starts_from behind (count - i) next) t u → Visits R first (starts_from behind count at) t₀ u
  pub end : end_from behind (count - i) next ≡ end_from behind count at

module _ {R : List ℕ → ℕ → ℕ → List ℕ → Type 0} {behind : ℕ → ℕ} {first count at : ℕ} {t₀ : List ℕ} where
  pub each_start : EachGoing R behind first count at t₀ t₀ 0 at
  each_start =
      let z : count - 0 ≡ count = omega arith in
      let f : first + 0 ≡ first = omega arith in
      record { left = λ u h. subst (λ n. Visits R n (starts_from behind count at) t₀ u) f (subst (λ n. Visits R (first + 0) (starts_from behind n at) t₀ u) z h); end = rw z refl }

  module _ {t : List ℕ} {i next : ℕ} (g : EachGoing R behind first count at t₀ t i next) where
    pub each_turn : i < count → {m : List ℕ} {r : ℕ} → R t (first + i) next m → r ≡ behind next → EachGoing R behind first count at t₀ m (i + 1) r
    unfolding Visits
    each_turn lt {m} {r} one er =
        let number : first + (i + 1) ≡ first + i + 1 = omega arith in
        record {
          left = λ u h. g.left u (subst (λ l. Visits R (first + i) l t u) (sym (starts_on behind count i next lt)) (m, one, subst (λ n. Visits R n (starts_from behind (count - (i + 1)) (behind next)) m u) number (subst (λ p. Visits R (first + (i + 1)) (starts_from behind (count - (i + 1)) p) m u) er h)));
          end = ap (end_from behind (count - (i + 1))) er ∙ sym (end_on_lem behind count i next lt) ∙ g.end;
        }

    pub each_done : count ≤ i → Visits R first (starts_from behind count at) t₀ t
    unfolding Visits
    each_done over = g.left t (subst (λ l. Visits R (first + i) l t t) (sym (starts_none behind count i next over)) refl)

    pub each_end : count ≤ i → next ≡ end_from behind count at
    each_end over = sym (end_none behind count i next over) ∙ g.end

-- a variable has at most six bytes
pub variables_near : (s : List ℕ) (count at : ℕ) → end_from (behind_variable s) count at ≤ at + 6 * count
unfolding end_from
variables_near s zero at = omega arith
variables_near s (suc n) at = omega (arith, variables_near s n (behind_variable s at), ty_small s (at + 2))

-- ---- a list that stands in the file

module _ {A : Type 0} (bytes : A → List ℕ) (fits : A → Bool) (size : A → ℕ) (each : (x : A) → length (bytes x) ≡ size x) (name : A → ℕ) {s : List ℕ} (behind : ℕ → ℕ)
    (told : (x : A) (p : ℕ) → T (fits x) → Here s p (bytes x) → (behind p ≡ p + size x) × (name_at s p ≡ name x)) where
  named_listed : (xs : List A) (at : ℕ) → Listed bytes fits s at xs → map (named_at s) (starts_from behind (length xs) at) ≡ map (λ p. (p.0, name p.1)) (placed size at xs)
  unfolding starts_from
  named_listed [] at h = refl
  named_listed (x ∷ xs) at h =
      let it = passing_item each x (passing_start bytes fits size h) (omega arith) in
      let t = told x at it.fit it.here in
      ap (λ n. (at, n) ∷ map (named_at s) (starts_from behind (length xs) (behind at))) t.1
      ∙ ap (λ q. (at, name x) ∷ map (named_at s) (starts_from behind (length xs) q)) t.0
      ∙ ap (λ l. (at, name x) ∷ l) (named_listed xs (at + size x) it.on.left)

  end_listed : (xs : List A) (at : ℕ) → Listed bytes fits s at xs → end_from behind (length xs) at ≡ at + sum (map size xs)
  unfolding end_from
  end_listed [] at h = omega arith
  end_listed (x ∷ xs) at h =
      let it = passing_item each x (passing_start bytes fits size h) (omega arith) in
      ap (λ q. end_from behind (length xs) q) (told x at it.fit it.here).0 ∙ omega (arith, end_listed xs (at + size x) it.on.left)

same_pairs : (ps : List (ℕ × ℕ)) → map (λ p. (p.0, p.1)) ps ≡ ps
same_pairs [] = refl
same_pairs (p ∷ ps) = ap (λ l. p ∷ l) (same_pairs ps)

pub names_listed : {s : List ℕ} {at : ℕ} (xs : List ℕ) → Names s 0 at xs → names_from s (length xs) at ≡ placed_names at xs
names_listed {s} {at} xs h = named_listed name_bytes name_fits (λ x. 2) (λ x. refl) (λ x. x) behind_name (λ x p t w. (refl, here_name x t w)) xs at h ∙ same_pairs (placed_names at xs)

module _ {s : List ℕ} (enums : ℕ) where
  variable_told : (v : Variable) (p : ℕ) → T (variable_fits base enums v) → Here s p (variable_bytes v) → (behind_variable s p ≡ p + variable_size v) × (name_at s p ≡ v.name)
  variable_told v p t w = let st = variable_stands v t w in (omega (arith, st.ty.size), st.name)

  pub variables_listed : {at : ℕ} (vs : List Variable) → Variables s enums at vs → variables_from s (length vs) at ≡ map placed_variable_name (placed variable_size at vs)
  variables_listed {at} vs h = named_listed variable_bytes (variable_fits base enums) variable_size variable_size_lem (λ v. v.name) (behind_variable s) variable_told vs at h

  pub variables_end : {at : ℕ} (vs : List Variable) → Variables s enums at vs → end_from (behind_variable s) (length vs) at ≡ at + sum (map variable_size vs)
  variables_end {at} vs h = end_listed variable_bytes (variable_fits base enums) variable_size variable_size_lem (λ v. v.name) (behind_variable s) variable_told vs at h

-- an enum: its count, and behind that its names
pub record EnumStands (s : List ℕ) (at : ℕ) (xs : List ℕ) : Type 0 where
  pub count : get_or s at 0 ≡ length xs
  pub names : Names s 0 (at + 1) xs

pub enum_stands : {s : List ℕ} {at : ℕ} (xs : List ℕ) → T (enum_fits base xs) → Here s at (section_bytes name_bytes xs) → EnumStands s at xs
enum_stands xs t h =
    record { count = here_first (length xs) _ h; names = record { here = here_back (length xs ∷ []) _ h; fit = (T_and (count_fits 1 32 (length xs)) _ t).1 } }

placed_names_lem : (at : ℕ) (xs : List ℕ) → names_of (placed_names at xs) ≡ xs
placed_names_lem at [] = refl
placed_names_lem at (x ∷ xs) = ap (λ l. x ∷ l) (placed_names_lem (at + 2) xs)

-- enums that stand in the file
pub variants_listed : {s : List ℕ} (at : ℕ) (es : List (List ℕ)) → Enums s at es → variants_from s (length es) at ≡ concat es
unfolding variants_from
variants_listed {s} at [] h = refl
variants_listed {s} at (vs ∷ es) h =
    let it = passing_item names_size vs (passing_start (section_bytes name_bytes) (enum_fits base) enum_size h) (omega arith) in
    let st = enum_stands vs it.fit it.here in
    let rest = variants_from s (length es) (behind_enum s at) in
    let behind : behind_enum s at ≡ at + enum_size vs = omega (arith, st.count) in
    ap (λ n. names_of (names_from s n (at + 1)) ++ rest) st.count ∙ ap (λ l. names_of l ++ rest) (names_listed vs st.names) ∙ ap (λ l. l ++ rest) (placed_names_lem (at + 1) vs)
    ∙ ap (λ p. vs ++ variants_from s (length es) p) behind ∙ ap (λ l. vs ++ l) (variants_listed (at + enum_size vs) es it.on.left)

-- those from number i on
module _ (s : List ℕ) (count i next : ℕ) where
  pub variants_on : i < count → variants_from s (count - i) next ≡ names_of (names_from s (get_or s next 0) (next + 1)) ++ variants_from s (count - (i + 1)) (behind_enum s next)
  unfolding variants_from
  variants_on lt = ap (λ n. variants_from s n next) (less_one count i lt)

  pub variants_none : count ≤ i → variants_from s (count - i) next ≡ []
  unfolding variants_from
  variants_none le = ap (λ n. variants_from s n next) (none_less count i le)

pub less_none : (count : ℕ) → count - 0 ≡ count
less_none count = omega arith
