-- Types by their codes: those of integers, and what casting and the tests of inputs make of each.
use mathlib.Core.Path.{◌≡◌, refl, ap}
use mathlib.Core.Bool.{Bool, true, false, not, ◌&&◌, ◌||◌}
use mathlib.Core.List.{List, [], ◌∷◌}
use mathlib.Core.Option.{Option, none, some}
use Prim.Native.Nat.{ℕ, zero, suc, ◌≤◌, ◌<◌}
use native.Mathlib.Omega.{arith}
use lib.Dec.{eqb}
use lib.Ieee.{Float, Format, binary32, binary64}
use lib.IntN.{ℤ}
use lib.ListN.{get_or, get_elem?}
use Rattle.ol_spec.specs.Syntax.{int}
use Rattle.ol_spec.specs.Read.{TyCode, bool_t, float32_t, float64_t, char_t, enum_t, int_t, ty_codes}
use Rattle.ol_spec.specs.Real.{by_precision, of_int, round_single}
use Rattle.ol_spec.specs.Types.{fit_single, fit_double, cast_real, in_type}
use Rattle.ol_spec.specs.Lists.{member}
use Rattle.ol_spec.specs.Cell.{tag, is_variant}
use Rattle.ol_spec.specs.declared.Value.{Value}
use Rattle.ol_spec.specs.declared.Value.TheVariants as Val
use Rattle.ol_spec.specs.declared.Outcome.TheVariants as Out
use Rattle.ol_value.specs.Codes.{ty_from, ty_of, name_in, in_kind}

-- an integer type's code
pub int_code : (code e : ℕ) → 1 ≤ code → code < 9 → ty_of code e ≡ int code
int_code zero e l h = absurd (omega arith)
int_code (suc zero) e l h = refl
int_code (suc (suc zero)) e l h = refl
int_code (suc (suc (suc zero))) e l h = refl
int_code (suc (suc (suc (suc zero)))) e l h = refl
int_code (suc (suc (suc (suc (suc zero))))) e l h = refl
int_code (suc (suc (suc (suc (suc (suc zero)))))) e l h = refl
int_code (suc (suc (suc (suc (suc (suc (suc zero))))))) e l h = refl
int_code (suc (suc (suc (suc (suc (suc (suc (suc zero)))))))) e l h = refl
int_code (suc (suc (suc (suc (suc (suc (suc (suc (suc n))))))))) e l h = absurd (omega arith)

-- a cast to a real, by the format and by what the number is
module _ (x : Float) where
  pub int_cast : (p : Format) (i : ℤ) → x ≡ of_int p i → Out.Value (by_precision p (Val.Float32 x) (Val.Float x)) ≡ cast_real (by_precision p fit_single fit_double) (Val.Int i)
  int_cast binary32 i e = ap (λ y. Out.Value (Val.Float32 y)) e
  int_cast binary64 i e = ap (λ y. Out.Value (Val.Float y)) e

  pub double_cast : (p : Format) (y : Float) → x ≡ by_precision p (round_single y) y → Out.Value (by_precision p (Val.Float32 x) (Val.Float x)) ≡ cast_real (by_precision p fit_single fit_double) (Val.Float y)
  double_cast binary32 y e = ap (λ y. Out.Value (Val.Float32 y)) e
  double_cast binary64 y e = ap (λ y. Out.Value (Val.Float y)) e

  pub single_cast : (p : Format) (y : Float) → x ≡ y → Out.Value (by_precision p (Val.Float32 x) (Val.Float x)) ≡ cast_real (by_precision p fit_single fit_double) (Val.Float32 y)
  single_cast binary32 y e = ap (λ y. Out.Value (Val.Float32 y)) e
  single_cast binary64 y e = ap (λ y. Out.Value (Val.Float y)) e

-- ---- the tests of inputs

-- what is left of `in_type` where `in_type` has answered: an enum's name is one of its variants
pub in_type_is : (enums : List (List ℕ)) (code e : ℕ) (v : Value) → in_type enums (ty_of code e) v ≡ in_kind (ty_of code e) v && is_variant (get_or enums e []) v
in_type_is enums code e v = go (get_or ty_codes code enum_t) v
  where
    and_true : (b : Bool) → b ≡ b && true
    and_true true = refl
    and_true false = refl

    go : (t : TyCode) (v : Value) → in_type enums (ty_from e t) v ≡ in_kind (ty_from e t) v && is_variant (get_or enums e []) v
    go bool_t (Val.Bool b) = refl
    go bool_t (Val.Int i) = refl
    go bool_t (Val.Float x) = refl
    go bool_t (Val.Float32 x) = refl
    go bool_t (Val.Enum w) = refl
    go float32_t (Val.Bool b) = refl
    go float32_t (Val.Int i) = refl
    go float32_t (Val.Float x) = refl
    go float32_t (Val.Float32 x) = refl
    go float32_t (Val.Enum w) = refl
    go float64_t (Val.Bool b) = refl
    go float64_t (Val.Int i) = refl
    go float64_t (Val.Float x) = refl
    go float64_t (Val.Float32 x) = refl
    go float64_t (Val.Enum w) = refl
    go char_t (Val.Bool b) = refl
    go char_t (Val.Int i) = and_true _
    go char_t (Val.Float x) = refl
    go char_t (Val.Float32 x) = refl
    go char_t (Val.Enum w) = refl
    go enum_t v = refl
    go (int_t c) (Val.Bool b) = refl
    go (int_t c) (Val.Int i) = and_true _
    go (int_t c) (Val.Float x) = refl
    go (int_t c) (Val.Float32 x) = refl
    go (int_t c) (Val.Enum w) = refl

-- an Enum's name looked up, where a value is one
pub variant_is : (ns : List ℕ) (v : Value) → is_variant ns v ≡ not (eqb (tag v) 4) || member (name_in v) ns
variant_is ns (Val.Bool b) = refl
variant_is ns (Val.Int i) = refl
variant_is ns (Val.Float x) = refl
variant_is ns (Val.Float32 x) = refl
variant_is ns (Val.Enum v) = refl

-- ---- at a code that the reader knows

entry_known : {A : Type 0} (l : List A) (n : ℕ) (a d : A) → get_elem? l n ≡ some a → get_or l n d ≡ a
entry_known [] n a d e = absurd (none_some e)
  where
    none_some : ◌≡◌ {A = Option _} none (some a) → ⊥
    none_some p = let z : ◌≡◌ {A = ℕ} 0 1 = cc in omega arith
entry_known (x ∷ l) zero a d e = cc
entry_known (x ∷ l) (suc n) a d e = entry_known l n a d e

pub ty_known : (code : ℕ) {t : TyCode} → get_elem? ty_codes code ≡ some t → (e : ℕ) → ty_of code e ≡ ty_from e t
ty_known code {t} h e = ap (ty_from e) (entry_known ty_codes code t enum_t h)
