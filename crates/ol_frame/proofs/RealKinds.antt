-- Real kinds of types, operators and outcomes.
use Prim.Native.Nat.{ℕ, zero, suc, ◌<◌, ◌≤◌}
use mathlib.Core.Bool.{false, cond}
use mathlib.Core.List.{List, [], ◌∷◌, ◌++◌}
use mathlib.Core.Option.{Option, none, some}
use lib.ListN.{length, get_elem?, length-append}
use mathlib.Core.Path.{◌≡◌, refl, sym, ap, ◌∙◌}
use native.Mathlib.Omega.{arith}
use Rattle.ol_spec.specs.Eval.{RealKind, not_real, join, kind_of_type, kind_of_value, first_type, common_real, arithmetic, or_failure, is_double?, kind_of_var_ty}
use Rattle.ol_spec.specs.declared.Outcome.{Outcome}
use Rattle.ol_spec.specs.declared.Outcome.TheVariants as Out
use Rattle.ol_spec.specs.Lists.{maybe, is_some}
use Rattle.ol_spec.specs.Shapes.{output_shape}
use Rattle.ol_tables.specs.At.{node_in}
use Rattle.ol_frame.specs.Walk.{nodes_in}
use Rattle.ol_frame.specs.Plans.{Program}
use Rattle.ol_spec.specs.Read.{bin_ops}
use Rattle.ol_tables.specs.Tables.{ty_code, ty_enum, element_of, array_length, var_ty_at, row_at, code_at, length_at}
use Rattle.ol_tables.specs.Parts.{Proper}
use Rattle.ol_spec.specs.Syntax.{Ty, bool, int, float32, float64, char, enum, VarTy, scalar, array, length_in, Variable, Node, variables, BinOp, Mod, BitAnd, BitOr, BitXor, Shl, Shr}
use Rattle.ol_spec.specs.declared.Value.{Value}
use Rattle.ol_spec.specs.declared.Value.TheVariants as Val
use Rattle.ol_value.specs.Codes.{ty_of}
use Rattle.ol_frame.specs.Outcomes.{kind_of, outcome_kind, common_out, single_of}
use Rattle.ol_frame.specs.declared.outcomes.RealKind.{RealKind as Kind}
use Rattle.ol_frame.specs.declared.outcomes.RealKind.TheVariants as Knd
use Rattle.ol_frame.specs.contracts.outcomes.RealKindOrd.TheImpl as kinds
use Rattle.std.specs.Ordering.{ord_max}
use Rattle.ol_frame.proofs.Programs.{Long, laid, some_output}

-- the operators whose result is as real as its operands have the codes 10 to 13
pub arithmetic_code : (b : ℕ) (op : BinOp) (k : RealKind) → get_elem? bin_ops b ≡ some op → ¬ (b < 10) → b < 14 → arithmetic op k ≡ k
arithmetic_code b op k e l h = go b e l h
  where
    same : {x y : BinOp} → some x ≡ some y → x ≡ y
    same h = cc

    go : (b : ℕ) → get_elem? bin_ops b ≡ some op → ¬ (b < 10) → b < 14 → arithmetic op k ≡ k
    go zero e l h = absurd (l (omega arith))
    go (suc zero) e l h = absurd (l (omega arith))
    go (suc (suc zero)) e l h = absurd (l (omega arith))
    go (suc (suc (suc zero))) e l h = absurd (l (omega arith))
    go (suc (suc (suc (suc zero)))) e l h = absurd (l (omega arith))
    go (suc (suc (suc (suc (suc zero))))) e l h = absurd (l (omega arith))
    go (suc (suc (suc (suc (suc (suc zero)))))) e l h = absurd (l (omega arith))
    go (suc (suc (suc (suc (suc (suc (suc zero))))))) e l h = absurd (l (omega arith))
    go (suc (suc (suc (suc (suc (suc (suc (suc zero)))))))) e l h = absurd (l (omega arith))
    go (suc (suc (suc (suc (suc (suc (suc (suc (suc zero))))))))) e l h = absurd (l (omega arith))
    go (suc (suc (suc (suc (suc (suc (suc (suc (suc (suc zero)))))))))) e l h = ap (λ (o : BinOp). arithmetic o k) (sym (same e))
    go (suc (suc (suc (suc (suc (suc (suc (suc (suc (suc (suc zero))))))))))) e l h = ap (λ (o : BinOp). arithmetic o k) (sym (same e))
    go (suc (suc (suc (suc (suc (suc (suc (suc (suc (suc (suc (suc zero)))))))))))) e l h = ap (λ (o : BinOp). arithmetic o k) (sym (same e))
    go (suc (suc (suc (suc (suc (suc (suc (suc (suc (suc (suc (suc (suc zero))))))))))))) e l h = ap (λ (o : BinOp). arithmetic o k) (sym (same e))
    go (suc (suc (suc (suc (suc (suc (suc (suc (suc (suc (suc (suc (suc (suc b)))))))))))))) e l h = absurd (omega arith)

pub plain_code : (b : ℕ) (op : BinOp) (k : RealKind) → get_elem? bin_ops b ≡ some op → b < 10 → arithmetic op k ≡ not_real
plain_code b op k e l = go b e l
  where
    same : {x y : BinOp} → some x ≡ some y → x ≡ y
    same h = cc

    go : (b : ℕ) → get_elem? bin_ops b ≡ some op → b < 10 → arithmetic op k ≡ not_real
    go zero e l = ap (λ (o : BinOp). arithmetic o k) (sym (same e))
    go (suc zero) e l = ap (λ (o : BinOp). arithmetic o k) (sym (same e))
    go (suc (suc zero)) e l = ap (λ (o : BinOp). arithmetic o k) (sym (same e))
    go (suc (suc (suc zero))) e l = ap (λ (o : BinOp). arithmetic o k) (sym (same e))
    go (suc (suc (suc (suc zero)))) e l = ap (λ (o : BinOp). arithmetic o k) (sym (same e))
    go (suc (suc (suc (suc (suc zero))))) e l = ap (λ (o : BinOp). arithmetic o k) (sym (same e))
    go (suc (suc (suc (suc (suc (suc zero)))))) e l = ap (λ (o : BinOp). arithmetic o k) (sym (same e))
    go (suc (suc (suc (suc (suc (suc (suc zero))))))) e l = ap (λ (o : BinOp). arithmetic o k) (sym (same e))
    go (suc (suc (suc (suc (suc (suc (suc (suc zero)))))))) e l = ap (λ (o : BinOp). arithmetic o k) (sym (same e))
    go (suc (suc (suc (suc (suc (suc (suc (suc (suc zero))))))))) e l = ap (λ (o : BinOp). arithmetic o k) (sym (same e))
    go (suc (suc (suc (suc (suc (suc (suc (suc (suc (suc b)))))))))) e l = absurd (omega arith)

pub bits_code : (b : ℕ) (op : BinOp) (k : RealKind) → get_elem? bin_ops b ≡ some op → ¬ (b < 14) → arithmetic op k ≡ not_real
bits_code b op k e l = go b e l
  where
    same : {x y : BinOp} → some x ≡ some y → x ≡ y
    same h = cc

    no_op : {x : BinOp} → none ≡ some x → ⊥
    no_op h = let z : ◌≡◌ {A = ℕ} 0 1 = cc in omega arith

    tail : (o : BinOp) (i : ℕ) → get_elem? (Mod ∷ BitAnd ∷ BitOr ∷ BitXor ∷ Shl ∷ Shr ∷ []) i ≡ some o → arithmetic o k ≡ not_real
    tail o zero e = ap (λ (o : BinOp). arithmetic o k) (sym (same e))
    tail o (suc zero) e = ap (λ (o : BinOp). arithmetic o k) (sym (same e))
    tail o (suc (suc zero)) e = ap (λ (o : BinOp). arithmetic o k) (sym (same e))
    tail o (suc (suc (suc zero))) e = ap (λ (o : BinOp). arithmetic o k) (sym (same e))
    tail o (suc (suc (suc (suc zero)))) e = ap (λ (o : BinOp). arithmetic o k) (sym (same e))
    tail o (suc (suc (suc (suc (suc zero))))) e = ap (λ (o : BinOp). arithmetic o k) (sym (same e))
    tail o (suc (suc (suc (suc (suc (suc zero)))))) e = absurd (no_op e)
    tail o (suc (suc (suc (suc (suc (suc (suc i))))))) e = absurd (no_op e)

    go : (b : ℕ) → get_elem? bin_ops b ≡ some op → ¬ (b < 14) → arithmetic op k ≡ not_real
    go zero e l = absurd (l (omega arith))
    go (suc zero) e l = absurd (l (omega arith))
    go (suc (suc zero)) e l = absurd (l (omega arith))
    go (suc (suc (suc zero))) e l = absurd (l (omega arith))
    go (suc (suc (suc (suc zero)))) e l = absurd (l (omega arith))
    go (suc (suc (suc (suc (suc zero))))) e l = absurd (l (omega arith))
    go (suc (suc (suc (suc (suc (suc zero)))))) e l = absurd (l (omega arith))
    go (suc (suc (suc (suc (suc (suc (suc zero))))))) e l = absurd (l (omega arith))
    go (suc (suc (suc (suc (suc (suc (suc (suc zero)))))))) e l = absurd (l (omega arith))
    go (suc (suc (suc (suc (suc (suc (suc (suc (suc zero))))))))) e l = absurd (l (omega arith))
    go (suc (suc (suc (suc (suc (suc (suc (suc (suc (suc zero)))))))))) e l = absurd (l (omega arith))
    go (suc (suc (suc (suc (suc (suc (suc (suc (suc (suc (suc zero))))))))))) e l = absurd (l (omega arith))
    go (suc (suc (suc (suc (suc (suc (suc (suc (suc (suc (suc (suc zero)))))))))))) e l = absurd (l (omega arith))
    go (suc (suc (suc (suc (suc (suc (suc (suc (suc (suc (suc (suc (suc zero))))))))))))) e l = absurd (l (omega arith))
    go (suc (suc (suc (suc (suc (suc (suc (suc (suc (suc (suc (suc (suc (suc b)))))))))))))) e l = tail op b e

-- a type by its code and its enum's number
pub proper_type : (t : Ty) → Proper t → ty_of (ty_code t) (ty_enum t) ≡ t
proper_type bool h = refl
proper_type (int c) h = go c h.0 h.1
  where
    go : (c : ℕ) → 1 ≤ c → c ≤ 8 → ty_of c 0 ≡ int c
    go zero a b = absurd (omega arith)
    go (suc zero) a b = refl
    go (suc (suc zero)) a b = refl
    go (suc (suc (suc zero))) a b = refl
    go (suc (suc (suc (suc zero)))) a b = refl
    go (suc (suc (suc (suc (suc zero))))) a b = refl
    go (suc (suc (suc (suc (suc (suc zero)))))) a b = refl
    go (suc (suc (suc (suc (suc (suc (suc zero))))))) a b = refl
    go (suc (suc (suc (suc (suc (suc (suc (suc zero)))))))) a b = refl
    go (suc (suc (suc (suc (suc (suc (suc (suc (suc c))))))))) a b = absurd (omega arith)
proper_type float32 h = refl
proper_type float64 h = refl
proper_type char h = refl
proper_type (enum e) h = refl

-- the type of the first output stands behind those of the inputs
first_output : (ins outs rest : List Variable) → 1 ≤ length outs → kind_of_var_ty (var_ty_at (ins ++ outs ++ rest) (length ins)) ≡ first_type outs
first_output [] [] rest h = absurd (omega arith)
first_output [] (v ∷ outs) rest h = refl
first_output (i ∷ ins) outs rest h = first_output ins outs rest h

-- a kind by a code that is a type's
pub code_kind : (r : RealKind) (c : ℕ) (t : Ty) → Proper t → ty_code t ≡ c → ((e : ℕ) → r ≡ kind_of_type (ty_of c e)) → r ≡ kind_of_type t
code_kind r c t o e h = h (ty_enum t) ∙ ap (λ (d : ℕ). kind_of_type (ty_of d (ty_enum t))) (sym e) ∙ ap kind_of_type (proper_type t o)

-- a scalar's is its type's; an array has none
scalar_kind : (t : VarTy) → Long (length_in t) → array_length t ≡ 0 → kind_of_type (element_of t) ≡ kind_of_var_ty t
scalar_kind (scalar t) l e = refl
scalar_kind (array n t) l e = absurd (omega (arith, (l n refl).0, e))

array_kind : (t : VarTy) → ¬ (array_length t ≡ 0) → not_real ≡ kind_of_var_ty t
array_kind (scalar t) h = absurd (h refl)
array_kind (array n t) h = refl

-- the real kind of what a name yields: an array has none
pub name_kind : (l : Option ℕ) (o : Option Value) → l ≡ none → outcome_kind (or_failure o) ≡ cond (is_some l) not_real (maybe not_real kind_of_value o)
name_kind l none e = ap (λ (m : Option ℕ). cond (is_some m) not_real not_real) (sym e)
name_kind l (some v) e = ap (λ (m : Option ℕ). cond (is_some m) not_real (kind_of_value v)) (sym e)

pub array_name_kind : (l : Option ℕ) (k : RealKind) → ¬ (maybe 0 (λ n. n) l ≡ 0) → not_real ≡ cond (is_some l) not_real k
array_name_kind none k h = absurd (h refl)
array_name_kind (some n) k h = refl

-- the first output is among a node's variables
pub output_below : (n : Node) → 1 ≤ length n.outputs → length n.inputs < length (variables n)
output_below n h = omega (arith, length-append (n.inputs ++ n.outputs) n.locals, length-append n.inputs n.outputs)

-- the kind of a call, by the tables
module _ {file tab rows : List ℕ} (k : ℕ) (p : Program file tab rows) (l : k < nodes_in file) (i : ℕ) (ei : i ≡ row_at rows k 2) where
  input_is_lem : i ≡ length (node_in file k).inputs
  input_is_lem = ei ∙ (p.sized.table.rows_of k l).inputs

  abbrev n : Node
  n = node_in file k

  abbrev ty : VarTy
  ty = var_ty_at (variables n) (length n.inputs)

  length_told : length_at tab k i ≡ array_length ty
  length_told = ap (length_at tab k) input_is_lem ∙ (p.table.tabs_of k l).lengths (length n.inputs) (output_below n (some_output p k l))

  pub call_kind : (r : RealKind) (c : ℕ) → length_at tab k i ≡ 0 → c ≡ code_at tab k i → ((e : ℕ) → r ≡ kind_of_type (ty_of c e)) → r ≡ first_type n.outputs
  call_kind r c z ec h =
      let o = some_output p k l in
      let q : code_at tab k (length n.inputs) ≡ ty_code (element_of ty) = (p.table.tabs_of k l).codes (length n.inputs) (output_below n o) in
      code_kind r c (element_of ty) ((laid p k).proper (length n.inputs)) (sym (ec ∙ ap (code_at tab k) input_is_lem ∙ q)) h
      ∙ scalar_kind ty ((laid p k).long (length n.inputs)) (sym length_told ∙ z) ∙ first_output n.inputs n.outputs n.locals o

  pub call_array : ¬ (length_at tab k i ≡ 0) → not_real ≡ first_type n.outputs
  call_array z = array_kind ty (λ e. z (length_told ∙ e)) ∙ first_output n.inputs n.outputs n.locals (some_output p k l)

  pub input_below : i < 112
  input_below = omega (arith, input_is_lem, output_below n (some_output p k l), (laid p k).few)

  -- the length of its one output
  pub one_output : row_at rows k 3 ≡ 1 → length_at tab k i ≡ maybe 0 (λ n. n) (output_shape n.outputs)
  one_output e = length_told ∙ go n.inputs n.outputs n.locals (sym (p.sized.table.rows_of k l).outputs ∙ e)
    where
      go : (ins outs rest : List Variable) → length outs ≡ 1 → array_length (var_ty_at (ins ++ outs ++ rest) (length ins)) ≡ maybe 0 (λ n. n) (output_shape outs)
      go [] [] rest h = absurd (omega arith)
      go [] (v ∷ []) rest h = refl
      go [] (v ∷ w ∷ vs) rest h = absurd (omega arith)
      go (x ∷ ins) outs rest h = go ins outs rest h

  pub no_output : ¬ (row_at rows k 3 ≡ 1) → 0 ≡ maybe 0 (λ n. n) (output_shape n.outputs)
  no_output e = go n.outputs (λ h. e ((p.sized.table.rows_of k l).outputs ∙ h))
    where
      go : (outs : List Variable) → ¬ (length outs ≡ 1) → 0 ≡ maybe 0 (λ n. n) (output_shape outs)
      go [] h = refl
      go (v ∷ []) h = absurd (h refl)
      go (v ∷ w ∷ vs) h = refl

-- another value stays
pub common_plain : (k : RealKind) (o : Outcome) → single_of o ≡ false → o ≡ common_out (is_double? k) o
common_plain k (Out.Value (Val.Bool b)) h = refl
common_plain k (Out.Value (Val.Int i)) h = refl
common_plain k (Out.Value (Val.Float x)) h = refl
common_plain k (Out.Value (Val.Float32 x)) h = let z : ◌≡◌ {A = ℕ} 0 1 = cc in absurd (omega arith)
common_plain k (Out.Value (Val.Enum w)) h = refl
common_plain k (Out.Failure c) h = refl
common_plain k Out.Overflow h = refl

-- the greater of two kinds is what both count as
pub greater_kind : (a b : Kind) → kind_of (ord_max kinds.cmp-value.it a b) ≡ join (kind_of a) (kind_of b)
greater_kind Knd.NotReal Knd.NotReal = refl
greater_kind Knd.NotReal Knd.Single = refl
greater_kind Knd.NotReal Knd.Double = refl
greater_kind Knd.Single Knd.NotReal = refl
greater_kind Knd.Single Knd.Single = refl
greater_kind Knd.Single Knd.Double = refl
greater_kind Knd.Double Knd.NotReal = refl
greater_kind Knd.Double Knd.Single = refl
greater_kind Knd.Double Knd.Double = refl
