-- The chain of faults, fault by fault.
use Prim.Native.Nat.{ℕ}
use mathlib.Core.List.{List, ◌∷◌}
use mathlib.Core.Option.{Option, none, some}
use mathlib.Core.Path.{◌≡◌, ap, sym, ◌∙◌, subst}
use Rattle.std.specs.Prelude.{Result, Ok, Err, IsErrAnd}
use Rattle.std.specs.Prelude as Std
use Rattle.ol_spec.specs.Answers.{fault_at}
use Rattle.ol_spec.specs.declared.Fault.{Fault}
use Rattle.ol_spec.specs.Admission as Adm
use Rattle.ol_tables.specs.At.{file_at}
use Rattle.ol_check.specs.Founds.{place_of}
use Rattle.ol_sim.specs.Judging.{refused_if, Judges, JudgesBy, whole}
use Rattle.ol_sim.specs.declared.judge.Admitted.{Admitted}

-- a fault that holds is the first
pub holds : (n p : ℕ) (o : Option ℕ) (xs : List (ℕ × Option ℕ)) (j : Adm.Judged) → o ≡ some p → Adm.refuse_first ((n, o) ∷ xs) j ≡ Adm.refused n p
holds n p o xs j e = ap (λ i. Adm.refuse_at n i (Adm.refuse_first xs j)) e

-- one that does not is passed
pub passes : (n : ℕ) (o : Option ℕ) (xs : List (ℕ × Option ℕ)) (j : Adm.Judged) → o ≡ none → Adm.refuse_first ((n, o) ∷ xs) j ≡ Adm.refuse_first xs j
passes n o xs j e = ap (λ i. Adm.refuse_at n i (Adm.refuse_first xs j)) e

-- where no fault of this number is answered, it has no place
pub no_place : (n : ℕ) (r : Std.Option ℕ) {o : Option ℕ} → ◌≡◌ {A = Result (Unit {0}) Fault} (Ok tt) (refused_if n r) → place_of r ≡ o → o ≡ none
no_place n Std.None e h = sym h
no_place n (Std.Some p) e h = absurd (let z : ◌≡◌ {A = ℕ} 0 1 = cc in cc)

module _ {s : List ℕ} {P : ℕ → ℕ → Type 0} {n : ℕ} {o : Option ℕ} {xs : List (ℕ × Option ℕ)} where
  -- what a fault that is answered tells
  pub refused_lem : {x : Fault} (r : Std.Option ℕ) → Err x ≡ refused_if n r → place_of r ≡ o → Judges s ((n, o) ∷ xs) P (Err x)
  refused_lem Std.None e h = absurd (let z : ◌≡◌ {A = ℕ} 0 1 = cc in cc)
  refused_lem {x} (Std.Some p) e h =
      let w : fault_at n p ≡ x = cc in
      subst (λ y. Judges s ((n, o) ∷ xs) P (Err y)) w (record { is = holds n p o xs (whole (file_at s)) (sym h) })

  pub passed_by_lem : {r : Result Admitted Fault} → o ≡ none → Judges s xs P r → Judges s ((n, o) ∷ xs) P r
  passed_by_lem {r} e h = record { is = go r h.is }
    where
      go : (x : Result Admitted Fault) → JudgesBy s xs P x → JudgesBy s ((n, o) ∷ xs) P x
      go (Err x) j = passes n o xs (whole (file_at s)) e ∙ j
      go (Ok a) j = (passes n o xs (whole (file_at s)) e ∙ j.0, j.1)

-- what `?` gives on
pub erred : {T : Type 0} (r : Result T Fault) {x : Fault} → IsErrAnd r (λ e. e ≡ x) → r ≡ Err x
erred (Ok a) e = absurd e
erred (Err y) e = ap Err e

-- what holds of an admitted file besides
pub judges_more : {s : List ℕ} {xs : List (ℕ × Option ℕ)} {P Q : ℕ → ℕ → Type 0} {r : Result Admitted Fault} → ((size main : ℕ) → P size main → Q size main) → Judges s xs P r → Judges s xs Q r
judges_more {s} {xs} {P} {Q} {r} f h = record { is = go r h.is }
  where
    go : (x : Result Admitted Fault) → JudgesBy s xs P x → JudgesBy s xs Q x
    go (Err x) j = j
    go (Ok a) j = (j.0, f a.size a.main j.1)
