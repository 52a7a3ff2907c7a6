use Prim.Native.Nat.{ℕ}
use mathlib.Core.Bool.{true}
use mathlib.Core.List.{List}
use mathlib.Core.Path.{◌≡◌, refl, sym, ap, ◌∙◌}
use lib.Dec.{eqb}
use lib.ListN.{get_or}
use Rattle.ol_spec.specs.Cell.{is_variant}
use Rattle.ol_spec.specs.declared.Value.{Value}
use Rattle.ol_spec.specs.declared.Value.TheVariants as Val
use Rattle.ol_state.proofs.cells.is_variant.Goals as goal

other : (names : List ℕ) (v : Value) → ((w : ℕ) → v ≡ Val.Enum w → ⊥) → true ≡ is_variant names v
other names (Val.Bool b) h = refl
other names (Val.Int i) h = refl
other names (Val.Float x) h = refl
other names (Val.Float32 x) h = refl
other names (Val.Enum w) h = absurd (h w refl)

pub returns-in-Enum : goal.returns-in-Enum
returns-in-Enum c =
    λ names tells. ap (λ x. eqb x 255) (c.byte.ensures.is ∙ ap (λ n. get_or c.args.variants.now n 0) c.from.ensures) ∙ tells _ ∙ ap (is_variant names) (sym c.in-Enum.is)

pub returns-in_default : goal.returns-in_default
returns-in_default c = λ names tells. other names c.args.v c.in_default.not-Enum
