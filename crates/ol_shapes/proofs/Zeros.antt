-- Variables that are all scalars, and a node that is iterable.
use Prim.Native.Nat.{ℕ, zero, suc, ◌+◌, ◌-◌, ◌<◌}
use mathlib.Core.Bool.{Bool, true, false, ◌&&◌, and_assoc}
use mathlib.Core.List.{List, [], ◌∷◌}
use mathlib.Core.Option.{Option}
use mathlib.Core.Path.{◌≡◌, refl, sym, ap, ap₂, ◌∙◌}
use native.Mathlib.Omega.{arith}
use Rattle.std.specs.Prelude.{Some, None}
use Rattle.std.specs.Prelude.{Option as RustOption}
use Rattle.std.specs.Option.{is_some}
use Rattle.std.proofs.lemmas.Bool.{false≢true, true≢false}
use lib.ListN.{length}
use borrow.Author.Tests.{eq-eqb}
use Rattle.ol_spec.specs.Lists.{all_of}
use Rattle.ol_spec.specs.Syntax.{NodeKind, Function, Operator, Imported, Variable, length_in}
use Rattle.ol_spec.specs.Encode.{kind_code}
use Rattle.ol_spec.specs.Shapes.{Sized}
use Rattle.ol_spec.specs.Admission.{scalars, takes, is_function, is_scalar, iterable}
use Rattle.ol_tables.specs.At.{file_at}
use Rattle.ol_tables.specs.Tables.{node_of, row_at, var_ty_at}
use Rattle.ol_shapes.specs.Codes.{option_of, type_shape, all_scalar}
use Rattle.ol_shapes.specs.Sits.{Scoped}
use Rattle.ol_shapes.proofs.Shaping.{input_shape, output_shape_lem}

-- ---- variable by variable

scalar_of : (o : RustOption ℕ) → false ≡ is_some o → takes scalars (option_of o) ≡ true
scalar_of None e = refl
scalar_of (Some n) e = absurd (false≢true e)

array_of : (o : RustOption ℕ) → true ≡ is_some o → takes scalars (option_of o) ≡ false
array_of None e = absurd (true≢false e)
array_of (Some n) e = refl

module _ (g : ℕ → Option ℕ) where
  step : (i n m : ℕ) → n - i ≡ suc m → all_scalar g i (n - i) ≡ takes scalars (g i) && all_scalar g (i + 1) m
  step i n m e = ap (all_scalar g i) e

  pub zeros_turn : (i n : ℕ) (o : RustOption ℕ) → option_of o ≡ g i → false ≡ is_some o → i < n → all_scalar g i (n - i) ≡ all_scalar g (i + 1) (n - (i + 1))
  zeros_turn i n o e q h = step i n (n - (i + 1)) (omega arith) ∙ ap (λ b. b && all_scalar g (i + 1) (n - (i + 1))) (ap (takes scalars) (sym e) ∙ scalar_of o q)

  pub zeros_stop : (i n : ℕ) (o : RustOption ℕ) → option_of o ≡ g i → true ≡ is_some o → i < n → all_scalar g i (n - i) ≡ false
  zeros_stop i n o e q h = step i n (n - (i + 1)) (omega arith) ∙ ap (λ b. b && all_scalar g (i + 1) (n - (i + 1))) (ap (takes scalars) (sym e) ∙ array_of o q)

  -- of so many, and so many behind them
  pub zeros_two : (i n m : ℕ) → all_scalar g i (n + m) ≡ all_scalar g i n && all_scalar g (i + n) m
  zeros_two i zero m = ap₂ (all_scalar g) (let z : i ≡ i + 0 = omega arith in z) (let z : 0 + m ≡ m = omega arith in z)
  zeros_two i (suc n) m =
      ap (all_scalar g i) (let z : suc n + m ≡ suc (n + m) = omega arith in z) ∙ ap (λ b. takes scalars (g i) && b) (zeros_two (i + 1) n m ∙ ap (λ k. all_scalar g (i + 1) n && all_scalar g k m) (let z : i + 1 + n ≡ i + suc n = omega arith in z))
      ∙ sym (and_assoc (takes scalars (g i)) (all_scalar g (i + 1) n) (all_scalar g (i + suc n) m))

  -- the shapes of variables
  pub zeros_scalars : (i : ℕ) (vs : List Variable) → ((j : ℕ) → j < length vs → g (i + j) ≡ length_in (var_ty_at vs j)) → all_scalar g i (length vs) ≡ all_of is_scalar vs
  zeros_scalars i [] h = refl
  zeros_scalars i (v ∷ vs) h =
      ap₂ (λ a b. a && b) (ap (takes scalars) (ap g (let z : i ≡ i + 0 = omega arith in z) ∙ h 0 (omega arith)))
      (zeros_scalars (i + 1) vs (λ j l. ap g (let z : i + 1 + j ≡ i + suc j = omega arith in z) ∙ h (suc j) (omega arith)))

-- ---- iterable

function_kind : (k : NodeKind) → kind_code k ≡ 0 → is_function k ≡ true
function_kind Function e = refl
function_kind Operator e = absurd (omega arith)
function_kind Imported e = absurd (omega arith)

module _ {s rows slots plans : List ℕ} {k : ℕ} {locals : List Sized} (sc : Scoped s rows slots plans k locals) (c inputs : ℕ) (low : c < length (file_at s).nodes) where
  pub iterable_scalars : {a b d : ℕ} {r : Bool} → a ≡ row_at rows c 0 → a ≡ 0 → b ≡ row_at rows c 2 → b ≡ inputs → d ≡ row_at rows c 3 → d ≡ 1 → r ≡ all_scalar (type_shape rows plans c) 0 (inputs + 1) → r ≡ iterable inputs (node_of (file_at s) c)
  iterable_scalars e z f y g x q =
      let n = node_of (file_at s) c in
      let ins : length n.inputs ≡ inputs = sym (sc.typed.row c low).inputs ∙ sym f ∙ y in
      let outs : length n.outputs ≡ 1 = sym (sc.typed.row c low).outputs ∙ sym g ∙ x in
      let T = type_shape rows plans c in
      let whole : all_scalar T 0 (inputs + 1) ≡ all_of is_scalar n.inputs && all_of is_scalar n.outputs =
      ap₂ (λ a b. all_scalar T 0 (a + b)) (sym ins) (sym outs) ∙ zeros_two T 0 (length n.inputs) (length n.outputs)
      ∙ ap₂ (λ a b. a && b) (zeros_scalars T 0 n.inputs (λ j l. ap T (let w : 0 + j ≡ j = omega arith in w) ∙ input_shape sc c low j l))
      (ap (λ m. all_scalar T m (length n.outputs)) (let w : 0 + length n.inputs ≡ length n.inputs = omega arith in w) ∙ zeros_scalars T (length n.inputs) n.outputs (λ j l. output_shape_lem sc c low j l)) in
      rw (function_kind n.kind (sym (sc.typed.row c low).kind ∙ sym e ∙ z), eq-eqb (length n.inputs) inputs ins, eq-eqb (length n.outputs) 1 outs) (q ∙ whole)
