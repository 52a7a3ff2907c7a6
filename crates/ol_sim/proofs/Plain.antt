-- Where no array is declared and no index, literal or iterator stands in the file, 22 does not hold.
use Prim.Native.Nat.{ℕ, ◌+◌}
use mathlib.Core.Bool.{Bool, true, false, ◌&&◌}
use mathlib.Core.List.{List, [], ◌∷◌, ◌++◌, map}
use mathlib.Core.Option.{none}
use mathlib.Core.Path.{◌≡◌}
use native.Mathlib.Omega.{arith}
use lib.Dec.{T}
use Rattle.ol_spec.specs.Lists.{concat, all_of}
use Rattle.ol_spec.specs.Syntax.{Expr, bool_lit, int_lit, float_lit, char_lit, var, unary, binary, if_then_else, pre, arrow, cast, call, tuple, index, literal, map_over, fold_over}
use Rattle.ol_spec.specs.Syntax.{Exprs, nil, cons, VarTy, scalar, array, length_in, Variable, Constant, Equation, Node, File, variables}
use Rattle.ol_spec.specs.Places.{expr_size, ty_size, constant_size, node_size, equation_size, equations_start, constants_start, nodes_start, rhs_place, placed, collect, collect_all}
use Rattle.ol_spec.specs.Admission.{takes, scalars, is_scalar, value_place, fault22}
use Rattle.ol_spec.specs.ArrayClaims.{plain_expr, plain_exprs, plain_constant, plain_equation, plain_node}
use Rattle.ol_spec.proofs.Tests.{and_t}
use Rattle.ol_spec.proofs.PlainFiles.{judging_plain}
use Rattle.ol_tables.specs.Tables.{Each}
use Rattle.ol_tables.proofs.Forms.{each_append}
use Rattle.ol_check.specs.Arrays.{is_array, variable_array, constant_array, node_arrays, declared_arrays, formed_at, constant_forms, equation_forms, node_forms, about_arrays}
use Rattle.ol_check.proofs.ArrayLaws.{all_none, nothing_of_arrays}

abbrev No : Bool → Type 0
No b = b ≡ false

true_not_false : ◌≡◌ {A = Bool} true false → ⊥
true_not_false e = let z : ◌≡◌ {A = ℕ} 0 1 = cc in absurd (omega arith)

-- ---- expressions

module _ (at : ℕ) where
  abbrev F : Expr → List Bool
  F e = collect formed_at at e

  abbrev Fs : Exprs → List Bool
  Fs es = collect_all formed_at at es

mutual
  unfolding collect

  plain_all : (at : ℕ) (e : Expr) → Each No (collect formed_at at e) → T (plain_expr e)
  plain_all at (bool_lit b) h = tt
  plain_all at (int_lit i) h = tt
  plain_all at (float_lit b) h = tt
  plain_all at (char_lit c) h = tt
  plain_all at (var x) h = tt
  plain_all at (unary op e) h = plain_all (at + 2) e h.1
  plain_all at (binary op l r) h =
      let w = each_append No (F (at + 2) l) (F (at + 2 + expr_size l) r) h.1 in
      and_t (plain_expr l) (plain_expr r) (plain_all (at + 2) l w.0) (plain_all (at + 2 + expr_size l) r w.1)
  plain_all at (if_then_else c a b) h =
      let x = at + 1 + expr_size c in
      let y = at + 1 + expr_size c + expr_size a in
      let w = each_append No (F (at + 1) c) (F x a ++ F y b) h.1 in
      let v = each_append No (F x a) (F y b) w.1 in
      and_t (plain_expr c) (plain_expr a && plain_expr b) (plain_all (at + 1) c w.0) (and_t (plain_expr a) (plain_expr b) (plain_all x a v.0) (plain_all y b v.1))
  plain_all at (pre e) h = plain_all (at + 1) e h.1
  plain_all at (arrow a b) h =
      let w = each_append No (F (at + 1) a) (F (at + 1 + expr_size a) b) h.1 in
      and_t (plain_expr a) (plain_expr b) (plain_all (at + 1) a w.0) (plain_all (at + 1 + expr_size a) b w.1)
  plain_all at (cast t e) h = plain_all (at + 1 + ty_size t) e h.1
  plain_all at (call k es) h = plains_all (at + 3) es h.1
  plain_all at (tuple es) h = plains_all (at + 2) es h.1
  plain_all at (index a i) h = absurd (true_not_false h.0)
  plain_all at (literal es) h = absurd (true_not_false h.0)
  plain_all at (map_over k es) h = absurd (true_not_false h.0)
  plain_all at (fold_over k s es) h = absurd (true_not_false h.0)

  plains_all : (at : ℕ) (es : Exprs) → Each No (collect_all formed_at at es) → T (plain_exprs es)
  plains_all at nil h = tt
  plains_all at (cons e es) h =
      let w = each_append No (F at e) (Fs (at + expr_size e) es) h in
      and_t (plain_expr e) (plain_exprs es) (plain_all at e w.0) (plains_all (at + expr_size e) es w.1)

-- ---- names

scalar_type : (t : VarTy) → is_array t ≡ false → T (takes scalars (length_in t))
scalar_type (scalar t) h = tt
scalar_type (array n t) h = absurd (true_not_false h)

scalar_variables : (vs : List Variable) → Each No (map variable_array vs) → T (all_of is_scalar vs)
scalar_variables [] h = tt
scalar_variables (v ∷ vs) h = and_t (is_scalar v) (all_of is_scalar vs) (scalar_type v.ty h.0) (scalar_variables vs h.1)

-- ---- the file

plain_constants : (at : ℕ) (cs : List Constant) → Each No (map constant_array cs) → Each No (concat (map constant_forms (placed constant_size at cs))) → T (all_of plain_constant cs)
plain_constants at [] h k = tt
plain_constants at (c ∷ cs) h k =
    let w = each_append No (constant_forms (at, c)) (concat (map constant_forms (placed constant_size (at + constant_size c) cs))) k in
    and_t (plain_constant c) (all_of plain_constant cs) (and_t (takes scalars (length_in c.ty)) (plain_expr c.value) (scalar_type c.ty h.0) (plain_all (value_place at c) c.value w.0)) (plain_constants (at + constant_size c) cs h.1 w.1)

plain_equations : (at : ℕ) (qs : List Equation) → Each No (concat (map equation_forms (placed equation_size at qs))) → T (all_of plain_equation qs)
plain_equations at [] k = tt
plain_equations at (q ∷ qs) k =
    let w = each_append No (equation_forms (at, q)) (concat (map equation_forms (placed equation_size (at + equation_size q) qs))) k in
    and_t (plain_equation q) (all_of plain_equation qs) (plain_all (rhs_place at q) q.rhs w.0) (plain_equations (at + equation_size q) qs w.1)

plain_nodes : (at : ℕ) (ns : List Node) → Each No (concat (map node_arrays ns)) → Each No (concat (map node_forms (placed node_size at ns))) → T (all_of plain_node ns)
plain_nodes at [] h k = tt
plain_nodes at (n ∷ ns) h k =
    let u = each_append No (node_arrays n) (concat (map node_arrays ns)) h in
    let w = each_append No (node_forms (at, n)) (concat (map node_forms (placed node_size (at + node_size n) ns))) k in
    and_t (plain_node n) (all_of plain_node ns) (and_t (all_of is_scalar (variables n)) (all_of plain_equation n.equations) (scalar_variables (variables n) u.0) (plain_equations (equations_start at n + 1) n.equations w.0)) (plain_nodes (at + node_size n) ns u.1 w.1)

pub no_arrays_no_22 : (f : File) → about_arrays f ≡ false → fault22 f ≡ none
no_arrays_no_22 f h =
    let w = nothing_of_arrays f h in
    let d = each_append No (map constant_array f.constants) (concat (map node_arrays f.nodes)) (all_none false (declared_arrays f) w.0).1 in
    let e = each_append No (concat (map constant_forms (placed constant_size (constants_start f) f.constants))) (concat (map node_forms (placed node_size (nodes_start f) f.nodes))) w.1 in
    judging_plain f (and_t (all_of plain_constant f.constants) (all_of plain_node f.nodes) (plain_constants (constants_start f) f.constants d.0 e.0) (plain_nodes (nodes_start f) f.nodes d.1 e.1))
