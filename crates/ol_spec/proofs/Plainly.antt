-- Files without arrays: no expression is an array, so that evaluation has the equations that it has for scalars alone; a variable has one cell, at its position. specs/ArrayClaims' PlainClaim.
use Prim.Native.Nat.{ℕ, suc, ◌+◌}
use mathlib.Core.Bool.{Bool, true, false}
use mathlib.Core.List.{List, [], ◌∷◌, ◌++◌, map}
use mathlib.Core.Option.{Option, none, some}
use mathlib.Core.Path.{◌≡◌, refl, sym, ap, ap₂, subst, ◌∙◌}
use native.Mathlib.Omega.{arith}
use lib.ListN.{length, take, drop, length-append}
use lib.Dec.{T, eqb, eqb→eq}
use Rattle.ol_theory.specs.Member.{◌∈◌, Distinct}
use Rattle.ol_spec.specs.Lists.{maybe, is_some, put_if, positions_from, position_if, position, positions, all_of}
use Rattle.ol_spec.specs.Syntax.{BinOp, Expr, binary}
use Rattle.ol_spec.specs.Syntax.{Exprs, cons, VarTy, scalar, array, Variable, Node, name_of, variables, cell_names, cell_types, variable_cells, named_cells, type_cells, length_in}
use Rattle.ol_spec.specs.Operators.{binary_of}
use Rattle.ol_spec.specs.Shapes.{shape}
use Rattle.ol_spec.specs.Eval.{Globals, Scope, Calls, Results, values, failure, overflow, Eval, Evals, Evaluated, seg_size, eval, eval_array, eval_each, eval_cells, eval_all, next, next_all, next_all_on, map_eval, cells_by, arrays_or, several_eval, several, cons_out, flatten, flat, then_results, is_array}
use Rattle.ol_spec.specs.Admission.{takes, scalars, is_scalar}
use Rattle.ol_spec.specs.Step.{cell_count}
use Rattle.ol_spec.specs.ArrayClaims.{PlainForm, PlainScope, next_argument_on, PlainClaim}
use Rattle.ol_spec.specs.declared.Value.{Value}
use Rattle.ol_spec.specs.declared.Outcome.{Outcome}
use Rattle.ol_spec.specs.declared.Outcome.TheVariants as Out
use Rattle.ol_spec.proofs.Tests.{T_and}
use Rattle.ol_spec.proofs.Slots.{positions_none}
use Rattle.ol_spec.proofs.PlainFiles.{shapeless, uses_plain, scopes_plain, judging_plain, types_plain}

-- ---- expressions

module _ (g : Globals) (s : Scope) (calls : Calls) (plain : PlainScope g s) where
  pub no_shape : (e : Expr) → PlainForm e → shape g.nodes s.arrays g.arrays e ≡ none
  no_shape e p = shapeless g.nodes s.arrays g.arrays plain.variables plain.constants plain.outputs e p

  pub no_array : (e : Expr) → PlainForm e → is_array g s e ≡ false
  no_array e p = ap is_some (no_shape e p)

  scalars_of : (b : Bool) (x y : List ℕ → Eval) (seg : List ℕ) → b ≡ false → arrays_or b x y seg ≡ y seg
  unfolding arrays_or
  scalars_of b x y seg e = rw e refl

  one_of : (b : Bool) (x : List ℕ → Evals) (y : List ℕ → Eval) (seg : List ℕ) → b ≡ false → cells_by b x y seg ≡ several_eval (y seg)
  unfolding cells_by
  one_of b x y seg e = rw e refl

  -- a binary form evaluates its two sides as scalars
  pub binary_plain : (op : BinOp) (l r : Expr) (seg : List ℕ) → PlainForm l
      → eval g s calls (binary op l r) seg
      ≡ next (eval g s calls l (take (seg_size g l) seg)) (λ v rest. map_eval (binary_of op v) (eval g s calls r rest)) (drop (seg_size g l) seg)
  unfolding eval
  binary_plain op l r seg p = scalars_of (is_array g s l) _ _ seg (no_array l p)

  -- a right side, or an argument, is one value
  pub cells_plain : (e : Expr) (seg : List ℕ) → PlainForm e → eval_cells g s calls e seg ≡ several_eval (eval g s calls e seg)
  cells_plain e seg p = one_of (is_array g s e) (λ q. eval_array g s calls e q) (λ q. eval g s calls e q) seg (no_array e p)

  flat_cons : (v : Value) (o : Results (List (List Value))) → then_results flatten (cons_out (v ∷ []) o) ≡ cons_out v (then_results flatten o)
  flat_cons v (values vss) = refl
  flat_cons v (failure c) = refl
  flat_cons v overflow = refl

  flat_next : (r : Eval) (k : List ℕ → Evaluated (List (List Value))) (rest : List ℕ)
      → flat (next_all (several_eval r) k rest) ≡ next_argument_on r.out r.seg (λ q. flat (k q)) rest
  unfolding next_all
  flat_next r k rest = go r.out
    where
      go : (o : Outcome) → flat (next_all_on (several o) r.seg k rest) ≡ next_argument_on o r.seg (λ q. flat (k q)) rest
      go (Out.Value v) = λ i. record { out = flat_cons v (k rest).out i; seg = r.seg ++ (k rest).seg }
      go (Out.Failure c) = refl
      go Out.Overflow = refl

  -- arguments go one after the other, a value each
  pub arguments_plain : (e : Expr) (es : Exprs) (seg : List ℕ) → PlainForm e → let r = eval g s calls e (take (seg_size g e) seg) in
      eval_all g s calls (cons e es) seg ≡ next_argument_on r.out r.seg (eval_all g s calls es) (drop (seg_size g e) seg)
  unfolding eval
  arguments_plain e es seg p =
      ap (λ x. flat (next_all x (λ q. eval_each g s calls es q) (drop (seg_size g e) seg))) (cells_plain e (take (seg_size g e) seg) p)
      ∙ flat_next (eval g s calls e (take (seg_size g e) seg)) (λ q. eval_each g s calls es q) (drop (seg_size g e) seg)

-- ---- cells

-- scalars have a cell each, which bears their name
pub names_plain : (vs : List Variable) → T (all_of is_scalar vs) → cell_names vs ≡ map name_of vs
names_plain [] t = refl
names_plain (v ∷ vs) t = let w = T_and (is_scalar v) _ t in go v.ty w.0 (names_plain vs w.1)
  where
    go : (y : VarTy) → T (takes scalars (length_in y)) → cell_names vs ≡ map name_of vs → named_cells v.name y ++ cell_names vs ≡ v.name ∷ map name_of vs
    go (scalar y) t e = ap (λ l. v.name ∷ l) e
    go (array m y) t e = absurd t

pub count_plain : (n : Node) → T (all_of is_scalar (variables n)) → cell_count n ≡ length (variables n)
count_plain n t = go (variables n) t
  where
    go : (vs : List Variable) → T (all_of is_scalar vs) → length (cell_types vs) ≡ length vs
    go [] t = refl
    go (v ∷ vs) t = let w = T_and (is_scalar v) _ t in length-append (variable_cells v) (cell_types vs) ∙ omega (arith, one v.ty w.0, go vs w.1)
      where
        one : (y : VarTy) → T (takes scalars (length_in y)) → length (type_cells y) ≡ 1
        one (scalar y) t = refl
        one (array m y) t = absurd t

-- the positions of a name that stands once
abbrev pub once : ℕ → Option ℕ → List ℕ
once i none = []
once i (some j) = (i + j) ∷ []

pub positions_plain : (i x : ℕ) (ns : List ℕ) → Distinct ns → positions_from i x ns ≡ once i (position x ns)
positions_plain i x [] d = refl
positions_plain i x (n ∷ ns) d = go (eqb x n) refl (positions_plain (suc i) x ns d.1)
  where
    step : (o : Option ℕ) → once (suc i) o ≡ once i (position_if false o)
    step none = refl
    step (some j) = ap (λ k. k ∷ []) (omega arith)

    go : (b : Bool) → eqb x n ≡ b → positions_from (suc i) x ns ≡ once (suc i) (position x ns) → put_if b i (positions_from (suc i) x ns) ≡ once i (position_if b (position x ns))
    go true e rest =
        let same : x ≡ n = eqb→eq x n (subst T (sym e) tt) in
        ap₂ {C = List ℕ} (λ k l. k ∷ l) (omega arith) (positions_none (suc i) x ns (λ m. d.0 (subst (λ y. y ∈ ns) same m)))
    go false e rest = rest ∙ step (position x ns)

-- a name that stands once is found at its position
at_once : (x : ℕ) (ns : List ℕ) → Distinct ns → positions x ns ≡ maybe [] (λ j. j ∷ []) (position x ns)
at_once x ns d = positions_plain 0 x ns d ∙ go (position x ns)
  where
    go : (o : Option ℕ) → once 0 o ≡ maybe [] (λ j. j ∷ []) o
    go none = refl
    go (some j) = ap (λ k. k ∷ []) (omega arith)

-- Files without arrays are read, judged and evaluated as before.
pub plain_same : PlainClaim
plain_same =
    record {
      binary_plain = binary_plain;
      cells_plain = cells_plain;
      arguments_plain = arguments_plain;
      names_plain = names_plain;
      count_plain = count_plain;
      positions_plain = at_once;
      scopes_plain = scopes_plain;
      judging_plain = judging_plain;
      uses_plain = uses_plain;
      types_plain = types_plain;
    }
