-- The loops over the table by name: what is left to be entered or taken back.
use Prim.Native.Nat.{ℕ, ◌+◌, ◌-◌, ◌≤◌, ◌<◌}
use mathlib.Core.List.{List, [], ◌∷◌, map, map-append}
use mathlib.Core.Path.{◌≡◌, refl, sym, ap, ◌∙◌}
use lib.ListN.{length, get_or}
use Rattle.ol_spec.specs.Lists.{sum, concat}
use Rattle.ol_spec.specs.Syntax.{Variable}
use Rattle.ol_spec.specs.Places.{placed, variable_size}
use Rattle.ol_spec.specs.Admission.{placed_variable_name}
use Rattle.ol_tables.specs.Heads.{Byte, name_at}
use Rattle.ol_tables.specs.Stands.{Variables}
use Rattle.ol_check.specs.Spans.{Visits, end_from, behind_name, behind_variable, behind_enum, named_at, names_of, names_from, variables_from, variants_from}
use Rattle.ol_check.specs.RowsDone.{Enums}
use Rattle.ol_check.specs.Entries.{declared, forgot, declare_all, forget_all, variable_entries, variant_entry, entries_from}
use Rattle.ol_check.proofs.SpanLaws.{starts_on, starts_none, less_none, variables_listed, variables_end, variants_on, variants_none, variants_listed}
use Rattle.ol_check.proofs.EntryLaws.{declare_append}

-- ---- variables

-- what is done at each of them is to enter it, or to take it back
module _ {R : List ℕ → ℕ → ℕ → List ℕ → Type 0} (s : List ℕ) where
  pub enter_visits : ((t : List ℕ) (i p : ℕ) (u : List ℕ) → R t i p u → u ≡ declared t (name_at s p) (i + 1)) → (i : ℕ) (ps t u : List ℕ) → Visits R i ps t u → u ≡ declare_all t (entries_from i (map (named_at s) ps))
  unfolding Visits declare_all
  enter_visits told i [] t u h = h
  enter_visits told i (p ∷ ps) t u h = enter_visits told (i + 1) ps h.0 u h.2 ∙ ap (λ l. declare_all l (entries_from (i + 1) (map (named_at s) ps))) (told t i p h.0 h.1)

  pub forget_visits : ((t : List ℕ) (i p : ℕ) (u : List ℕ) → R t i p u → u ≡ forgot t (name_at s p)) → (i : ℕ) (ps t u : List ℕ) → Visits R i ps t u → u ≡ forget_all t (names_of (map (named_at s) ps))
  unfolding Visits forget_all
  forget_visits told i [] t u h = h
  forget_visits told i (p ∷ ps) t u h = forget_visits told (i + 1) ps h.0 u h.2 ∙ ap (λ l. forget_all l (names_of (map (named_at s) ps))) (told t i p h.0 h.1)

-- so many variables from `at` on are entered, or taken back
pub record VariablesEntered (s names names' : List ℕ) (first count at r : ℕ) : Type 0 where
  pub ends : r ≡ end_from (behind_variable s) count at
  pub entered : names' ≡ declare_all names (entries_from first (variables_from s count at))

pub record VariablesForgotten (s names names' : List ℕ) (count at r : ℕ) : Type 0 where
  pub ends : r ≡ end_from (behind_variable s) count at
  pub forgotten : names' ≡ forget_all names (names_of (variables_from s count at))

-- the variables vs stand there
pub record Entered (vs : List Variable) (names names' : List ℕ) (first at r : ℕ) : Type 0 where
  pub ends : r ≡ at + sum (map variable_size vs)
  pub entered : names' ≡ declare_all names (variable_entries first vs)

pub record Forgotten (vs : List Variable) (names names' : List ℕ) (at r : ℕ) : Type 0 where
  pub ends : r ≡ at + sum (map variable_size vs)
  pub forgotten : names' ≡ forget_all names (map (λ v. v.name) vs)

placed_entries : (first at : ℕ) (vs : List Variable) → entries_from first (map placed_variable_name (placed variable_size at vs)) ≡ variable_entries first vs
placed_entries first at [] = refl
placed_entries first at (v ∷ vs) = ap (λ l. (v.name, first + 1) ∷ l) (placed_entries (first + 1) (at + variable_size v) vs)

placed_names_lem : (at : ℕ) (vs : List Variable) → names_of (map placed_variable_name (placed variable_size at vs)) ≡ map (λ v. v.name) vs
placed_names_lem at [] = refl
placed_names_lem at (v ∷ vs) = ap (λ l. v.name ∷ l) (placed_names_lem (at + variable_size v) vs)

module _ {s names names' : List ℕ} {count at r : ℕ} where
  pub entered_told : {first : ℕ} → VariablesEntered s names names' first count at r → (enums : ℕ) (vs : List Variable) → length vs ≡ count → Variables s enums at vs → Entered vs names names' first at r
  entered_told {first} h enums vs e there =
      record {
        ends = h.ends ∙ ap (λ n. end_from (behind_variable s) n at) (sym e) ∙ variables_end enums vs there;
        entered = h.entered ∙ ap (λ n. declare_all names (entries_from first (variables_from s n at))) (sym e) ∙ ap (λ l. declare_all names (entries_from first l)) (variables_listed enums vs there)
            ∙ ap (declare_all names) (placed_entries first at vs);
      }

  pub forgotten_told : VariablesForgotten s names names' count at r → (enums : ℕ) (vs : List Variable) → length vs ≡ count → Variables s enums at vs → Forgotten vs names names' at r
  forgotten_told h enums vs e there =
      record {
        ends = h.ends ∙ ap (λ n. end_from (behind_variable s) n at) (sym e) ∙ variables_end enums vs there;
        forgotten = h.forgotten ∙ ap (λ n. forget_all names (names_of (variables_from s n at))) (sym e) ∙ ap (λ l. forget_all names (names_of l)) (variables_listed enums vs there) ∙ ap (forget_all names) (placed_names_lem at vs);
      }

-- ---- variants

pub record VariantsGoing (s names₀ names : List ℕ) (count at i next : ℕ) : Type 0 where
  pub entered : declare_all names (map variant_entry (names_of (names_from s (count - i) next))) ≡ declare_all names₀ (map variant_entry (names_of (names_from s count at)))

module _ {s names₀ : List ℕ} {count at : ℕ} where
  pub variants_start : VariantsGoing s names₀ names₀ count at 0 at
  variants_start = record { entered = rw (less_none count) refl }

  module _ {names : List ℕ} {i next : ℕ} (g : VariantsGoing s names₀ names count at i next) where
    pub variants_turn : i < count → {x : ℕ} {names' : List ℕ} → x ≡ name_at s next → names' ≡ declared names x 255 → {r : ℕ} → r ≡ next + 2 → VariantsGoing s names₀ names' count at (i + 1) r
    unfolding declare_all
    variants_turn lt {x} {names'} ex h {r} er =
        record {
          entered = ap (λ p. declare_all names' (map variant_entry (names_of (names_from s (count - (i + 1)) p)))) er
              ∙ ap (λ l. declare_all l (map variant_entry (names_of (names_from s (count - (i + 1)) (next + 2))))) (h ∙ ap (λ z. declared names z 255) ex)
              ∙ ap (λ l. declare_all names (map variant_entry (names_of (map (named_at s) l)))) (sym (starts_on behind_name count i next lt)) ∙ g.entered;
        }

    pub variants_done : count ≤ i → names ≡ declare_all names₀ (map variant_entry (names_of (names_from s count at)))
    unfolding declare_all
    variants_done over = ap (λ l. declare_all names (map variant_entry (names_of (map (named_at s) l)))) (sym (starts_none behind_name count i next over)) ∙ g.entered

-- ---- the variants of enums

pub record EnumsGoing (s names₀ names : List ℕ) (count at i next : ℕ) : Type 0 where
  pub entered : declare_all names (map variant_entry (variants_from s (count - i) next)) ≡ declare_all names₀ (map variant_entry (variants_from s count at))

module _ {s names₀ : List ℕ} {count at : ℕ} where
  pub enums_start : EnumsGoing s names₀ names₀ count at 0 at
  enums_start = record { entered = rw (less_none count) refl }

  module _ {names : List ℕ} {i next : ℕ} (g : EnumsGoing s names₀ names count at i next) where
    pub enums_turn : i < count → {n r : ℕ} {names' : List ℕ} → Byte s next n → r ≡ behind_enum s next → names' ≡ declare_all names (map variant_entry (names_of (names_from s n (next + 1)))) → EnumsGoing s names₀ names' count at (i + 1) r
    enums_turn lt {n} {r} {names'} b er h =
        let here = names_of (names_from s (get_or s next 0) (next + 1)) in
        let rest = variants_from s (count - (i + 1)) (behind_enum s next) in
        record {
          entered = ap (λ p. declare_all names' (map variant_entry (variants_from s (count - (i + 1)) p))) er
              ∙ ap (λ l. declare_all l (map variant_entry rest)) (h ∙ ap (λ m. declare_all names (map variant_entry (names_of (names_from s m (next + 1))))) b.is)
              ∙ sym (declare_append names (map variant_entry here) (map variant_entry rest)) ∙ ap (declare_all names) (sym (map-append variant_entry here rest))
              ∙ ap (λ l. declare_all names (map variant_entry l)) (sym (variants_on s count i next lt)) ∙ g.entered;
        }

    pub enums_done : count ≤ i → names ≡ declare_all names₀ (map variant_entry (variants_from s count at))
    unfolding declare_all
    enums_done over = ap (λ l. declare_all names (map variant_entry l)) (sym (variants_none s count i next over)) ∙ g.entered

pub enums_told : (s names : List ℕ) {names' : List ℕ} {count at : ℕ} → names' ≡ declare_all names (map variant_entry (variants_from s count at)) → (es : List (List ℕ)) → length es ≡ count → Enums s at es → names' ≡ declare_all names (map variant_entry (concat es))
enums_told s names {names'} {count} {at} h es e there =
    h ∙ ap (λ n. declare_all names (map variant_entry (variants_from s n at))) (sym e) ∙ ap (λ l. declare_all names (map variant_entry l)) (variants_listed at es there)
