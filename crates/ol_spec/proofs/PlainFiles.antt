-- Files without arrays: their names are scalars in every node and constant, 22 does not hold in them, and their types are read as scalars' types.
use Prim.Native.Nat.{ℕ, zero, suc, ◌+◌}
use mathlib.Core.Bool.{Bool, true, false, ◌&&◌}
use mathlib.Core.List.{List, [], ◌∷◌, ◌++◌, map}
use mathlib.Core.Option.{Option, none, some}
use mathlib.Core.Path.{◌≡◌, refl, sym, ap, ap₂, subst, ◌∙◌}
use lib.ListN.{length, drop, get_or, get_elem?}
use lib.Dec.{T}
use Rattle.ol_spec.specs.Lists.{maybe, all_of}
use Rattle.ol_spec.specs.Syntax.{Expr, bool_lit, int_lit, float_lit, char_lit, var, unary, binary, if_then_else, pre, arrow, cast, call, tuple, index, literal, map_over, fold_over}
use Rattle.ol_spec.specs.Syntax.{Exprs, nil, cons, name_in, VarTy, scalar, array, Variable, Equation, Node, no_node, Constant, File, variables, length_in, rhs_of}
use Rattle.ol_spec.specs.Places.{expr_size, ty_size, equation_size, node_size, constant_size, placed, equations_start, nodes_start, constants_start, rhs_place}
use Rattle.ol_spec.specs.Read.{then_read, known, give, TyCode, ty_codes, scalar_t, array_t, var_ty_codes, or_end, byte, coded, ty_body, ty_r, var_ty_body, var_ty_r}
use Rattle.ol_spec.specs.Shapes.{Sized, add_sized, arrays_in, constant_arrays, length_of, output_shape, shape}
use Rattle.ol_spec.specs.Eval.{equality}
use Rattle.ol_spec.specs.Step.{globals, scope}
use Rattle.ol_spec.specs.Admission.{Place, scalars, anything, takes, under, beside, under_variable, each, unless, is_scalar, suit_all, callee_in, shape_in, under_pre, misplaced, misplaced_all, misplaced_rhs, under_name, misplaced_in, first_some, constant_misplaced, node_misplaced, fault22, calls_where, uses_where, no_variables}
use Rattle.ol_spec.specs.ArrayClaims.{PlainForm, plain_expr, plain_exprs, plain_constant, plain_equation, plain_node, plain_file, PlainScope}
use Rattle.ol_spec.specs.declared.Value.{Value}
use Rattle.ol_spec.specs.declared.Limits.{Limits}
use Rattle.ol_spec.proofs.Tests.{T_and, and_t}
use Rattle.ol_spec.proofs.Admits.{none_or_else}

-- ---- forms

-- an expression without the new forms is of another form itself
plain_form : (e : Expr) → T (plain_expr e) → PlainForm e
plain_form (bool_lit b) t = tt
plain_form (int_lit i) t = tt
plain_form (float_lit b) t = tt
plain_form (char_lit c) t = tt
plain_form (var x) t = tt
plain_form (unary op e) t = tt
plain_form (binary op l r) t = tt
plain_form (if_then_else c a b) t = tt
plain_form (pre e) t = tt
plain_form (arrow a b) t = tt
plain_form (cast y e) t = tt
plain_form (call k es) t = tt
plain_form (tuple es) t = tt
plain_form (index a i) t = absurd t
plain_form (literal es) t = absurd t
plain_form (map_over k es) t = absurd t
plain_form (fold_over k s es) t = absurd t

-- where no name and no output is an array, no expression of these forms is one
pub shapeless : (nodes : List Node) (locals constants : List Sized) → locals ≡ [] → constants ≡ [] → ((k : ℕ) → output_shape (get_or nodes k no_node).outputs ≡ none)
    → (e : Expr) → PlainForm e → shape nodes locals constants e ≡ none
shapeless nodes locals constants l g outs (bool_lit b) p = refl
shapeless nodes locals constants l g outs (int_lit i) p = refl
shapeless nodes locals constants l g outs (float_lit b) p = refl
shapeless nodes locals constants l g outs (char_lit c) p = refl
shapeless nodes locals constants l g outs (var x) p = ap₂ (λ a b. length_of nodes a b x) l g
shapeless nodes locals constants l g outs (unary op e) p = refl
shapeless nodes locals constants l g outs (binary op a b) p = refl
shapeless nodes locals constants l g outs (if_then_else c t e) p = refl
shapeless nodes locals constants l g outs (pre e) p = ap₂ (λ a b. maybe none (length_of nodes a b) (name_in e)) l g ∙ go (name_in e)
  where
    go : (o : Option ℕ) → maybe none (length_of nodes [] []) o ≡ none
    go none = refl
    go (some x) = refl
shapeless nodes locals constants l g outs (arrow a b) p = refl
shapeless nodes locals constants l g outs (cast t e) p = refl
shapeless nodes locals constants l g outs (call k es) p = outs k
shapeless nodes locals constants l g outs (tuple es) p = refl
shapeless nodes locals constants l g outs (index a i) p = absurd p
shapeless nodes locals constants l g outs (literal es) p = absurd p
shapeless nodes locals constants l g outs (map_over k es) p = absurd p
shapeless nodes locals constants l g outs (fold_over k e es) p = absurd p

-- it is no iterator
pub uses_plain : (p : ℕ → ℕ → Bool) (q : ℕ → Bool) (at : ℕ) (e : Expr) → PlainForm e → uses_where p q at e ≡ calls_where p at e
uses_plain p q at (bool_lit b) h = refl
uses_plain p q at (int_lit i) h = refl
uses_plain p q at (float_lit b) h = refl
uses_plain p q at (char_lit c) h = refl
uses_plain p q at (var x) h = refl
uses_plain p q at (unary op e) h = refl
uses_plain p q at (binary op l r) h = refl
uses_plain p q at (if_then_else c t e) h = refl
uses_plain p q at (pre e) h = refl
uses_plain p q at (arrow a b) h = refl
uses_plain p q at (cast t e) h = refl
uses_plain p q at (call k es) h = refl
uses_plain p q at (tuple es) h = refl
uses_plain p q at (index a i) h = absurd h
uses_plain p q at (literal es) h = absurd h
uses_plain p q at (map_over k es) h = absurd h
uses_plain p q at (fold_over k s es) h = absurd h

-- ---- scalars

lengthless : (y : VarTy) → T (takes scalars (length_in y)) → length_in y ≡ none
lengthless (scalar y) t = refl
lengthless (array n y) t = absurd t

no_arrays : (vs : List Variable) → T (all_of is_scalar vs) → arrays_in vs ≡ []
no_arrays [] t = refl
no_arrays (v ∷ vs) t = let w = T_and (is_scalar v) _ t in ap₂ (add_sized v.name) (lengthless v.ty w.0) (no_arrays vs w.1)

no_constant_arrays : (cs : List Constant) → T (all_of plain_constant cs) → constant_arrays cs ≡ []
no_constant_arrays [] t = refl
no_constant_arrays (c ∷ cs) t =
    let w = T_and (plain_constant c) _ t in
    ap₂ (add_sized c.name) (lengthless c.ty (T_and (takes scalars (length_in c.ty)) _ w.0).0) (no_constant_arrays cs w.1)

all_parts : (as' bs : List Variable) → T (all_of is_scalar (as' ++ bs)) → T (all_of is_scalar as') × T (all_of is_scalar bs)
all_parts [] bs t = (tt, t)
all_parts (v ∷ vs) bs t =
    let w = T_and (is_scalar v) _ t in
    let r = all_parts vs bs w.1 in
    (and_t (is_scalar v) _ w.0 r.0, r.1)

node_at_plain : (ns : List Node) → T (all_of plain_node ns) → (k : ℕ) → T (plain_node (get_or ns k no_node))
node_at_plain [] t zero = tt
node_at_plain [] t (suc k) = tt
node_at_plain (n ∷ ns) t zero = (T_and (plain_node n) _ t).0
node_at_plain (n ∷ ns) t (suc k) = node_at_plain ns (T_and (plain_node n) _ t).1 k

one_output : (vs : List Variable) → T (all_of is_scalar vs) → output_shape vs ≡ none
one_output [] t = refl
one_output (v ∷ []) t = lengthless v.ty (T_and (is_scalar v) _ t).0
one_output (v ∷ w ∷ vs) t = refl

-- ---- places

-- a place that takes scalars
abbrev open? : Place → Bool
open? p = takes p none

none_unless : (b : Bool) (at : ℕ) → T b → unless b at ≡ none
none_unless true at t = refl
none_unless false at t = absurd t

beside_open : (o : Option (Bool → Bool)) (s : Option ℕ) → s ≡ none → T (open? (beside o s))
beside_open o s e = subst (λ s. T (open? (beside o s))) (sym e) (go o)
  where
    go : (o : Option (Bool → Bool)) → T (open? (beside o none))
    go none = tt
    go (some h) = tt

pre_open : (o : Option ℕ) → T (open? (maybe scalars (λ x. anything) o))
pre_open none = tt
pre_open (some x) = tt

under_open : (s : Option ℕ) → s ≡ none → T (open? (under s))
under_open s e = subst (λ s. T (open? (under s))) (sym e) tt

first_open : (ps : List Place) → T (all_of open? ps) → T (open? (get_or ps 0 anything))
first_open [] t = tt
first_open (p ∷ ps) t = (T_and (open? p) _ t).0

rest_open : (ps : List Place) → T (all_of open? ps) → T (all_of open? (drop 1 ps))
rest_open [] t = tt
rest_open (p ∷ ps) t = (T_and (open? p) _ t).1

variables_open : (vs : List Variable) → T (all_of is_scalar vs) → T (all_of open? (map under_variable vs))
variables_open [] t = tt
variables_open (v ∷ vs) t =
    let w = T_and (is_scalar v) _ t in
    and_t (open? (under_variable v)) _ (under_open (length_in v.ty) (lengthless v.ty w.0)) (variables_open vs w.1)

each_open : (es : Exprs) → T (all_of open? (each scalars es))
each_open nil = tt
each_open (cons e es) = each_open es

suits : (ps : List Place) (vs : List Variable) → T (all_of open? ps) → T (all_of is_scalar vs) → T (suit_all ps vs)
suits [] vs t u = tt
suits (p ∷ ps) [] t u = tt
suits (p ∷ ps) (v ∷ vs) t u =
    let w = T_and (open? p) _ t in
    let x = T_and (is_scalar v) _ u in
    and_t (takes p (length_in v.ty)) _ (subst (λ s. T (takes p s)) (sym (lengthless v.ty x.0)) w.0) (suits ps vs w.1 x.1)

-- ---- the files

module _ (f : File) (plain : T (plain_file f)) where
  abbrev both : T (all_of plain_constant f.constants) × T (all_of plain_node f.nodes)
  both = T_and (all_of plain_constant f.constants) (all_of plain_node f.nodes) plain

  no_globals : constant_arrays f.constants ≡ []
  no_globals = no_constant_arrays f.constants both.0

  scalar_variables : (k : ℕ) → T (all_of is_scalar (variables (get_or f.nodes k no_node)))
  scalar_variables k = (T_and (all_of is_scalar (variables (get_or f.nodes k no_node))) _ (node_at_plain f.nodes both.1 k)).0

  scalar_inputs : (k : ℕ) → T (all_of is_scalar (get_or f.nodes k no_node).inputs)
  scalar_inputs k = let n = get_or f.nodes k no_node in (all_parts n.inputs n.outputs (all_parts (n.inputs ++ n.outputs) n.locals (scalar_variables k)).0).0

  scalar_outputs : (k : ℕ) → T (all_of is_scalar (get_or f.nodes k no_node).outputs)
  scalar_outputs k = let n = get_or f.nodes k no_node in (all_parts n.inputs n.outputs (all_parts (n.inputs ++ n.outputs) n.locals (scalar_variables k)).0).1

  one_scalar : (k : ℕ) → output_shape (get_or f.nodes k no_node).outputs ≡ none
  one_scalar k = one_output (get_or f.nodes k no_node).outputs (scalar_outputs k)

  pub scopes_plain : (xs : List ℕ) (vs : List Value) (k : ℕ) (first : Bool) (before cs : List Value)
      → PlainScope (globals f xs vs) (scope (get_or f.nodes k no_node) first before cs) × PlainScope (globals f xs vs) no_variables
  scopes_plain xs vs k first before cs = (
    record { constants = no_globals; variables = no_arrays (variables (get_or f.nodes k no_node)) (scalar_variables k); outputs = one_scalar },
    record { constants = no_globals; variables = refl; outputs = one_scalar },
  )

  module _ (locals : List Sized) (no_locals : locals ≡ []) where
    bare : (e : Expr) → T (plain_expr e) → shape_in f locals e ≡ none
    bare e t = shapeless f.nodes locals (constant_arrays f.constants) no_locals no_globals one_scalar e (plain_form e t)

    shape_open : (p : Place) (e : Expr) → T (open? p) → T (plain_expr e) → T (takes p (shape_in f locals e))
    shape_open p e t u = subst (λ s. T (takes p s)) (sym (bare e u)) t

    mutual
      unfolding misplaced

      placed_well : (p : Place) → T (open? p) → (at : ℕ) (e : Expr) → T (plain_expr e) → misplaced f locals p at e ≡ none
      placed_well p t at (bool_lit b) u = none_unless (takes p none) at t
      placed_well p t at (int_lit i) u = none_unless (takes p none) at t
      placed_well p t at (float_lit b) u = none_unless (takes p none) at t
      placed_well p t at (char_lit c) u = none_unless (takes p none) at t
      placed_well p t at (var x) u = none_unless (takes p (shape_in f locals (var x))) at (shape_open p (var x) t tt)
      placed_well p t at (unary op e) u = none_or_else _ _ (placed_well scalars tt (at + 2) e u) (none_unless (takes p none) at t)
      placed_well p t at (binary op l r) u =
          let w = T_and (plain_expr l) (plain_expr r) u in
          none_or_else _ _ (placed_well (beside (equality op) (shape_in f locals r)) (beside_open (equality op) _ (bare r w.1)) (at + 2) l w.0)
          (none_or_else _ _ (placed_well (beside (equality op) (shape_in f locals l)) (beside_open (equality op) _ (bare l w.0)) (at + 2 + expr_size l) r w.1) (none_unless (takes p none) at t))
      placed_well p t at (if_then_else c a b) u =
          let w = T_and (plain_expr c) (plain_expr a && plain_expr b) u in
          let x = T_and (plain_expr a) (plain_expr b) w.1 in
          none_or_else _ _ (placed_well scalars tt (at + 1) c w.0)
          (none_or_else _ _ (placed_well scalars tt (at + 1 + expr_size c) a x.0)
          (none_or_else _ _ (placed_well scalars tt (at + 1 + expr_size c + expr_size a) b x.1) (none_unless (takes p none) at t)))
      placed_well p t at (pre e) u =
          none_or_else _ _ (placed_well (under_pre f locals e) (pre_open (name_in e)) (at + 1) e u) (none_unless (takes p (shape_in f locals (pre e))) at (shape_open p (pre e) t u))
      placed_well p t at (arrow a b) u =
          let w = T_and (plain_expr a) (plain_expr b) u in
          none_or_else _ _ (placed_well scalars tt (at + 1) a w.0) (none_or_else _ _ (placed_well scalars tt (at + 1 + expr_size a) b w.1) (none_unless (takes p none) at t))
      placed_well p t at (cast y e) u = none_or_else _ _ (placed_well scalars tt (at + 1 + ty_size y) e u) (none_unless (takes p none) at t)
      placed_well p t at (call k es) u =
          none_or_else _ _ (all_placed_well (map under_variable (callee_in f k).inputs) (variables_open (callee_in f k).inputs (scalar_inputs k)) (at + 3) es u)
          (none_unless (takes p (shape_in f locals (call k es))) at (shape_open p (call k es) t u))
      placed_well p t at (tuple es) u = none_or_else _ _ (all_placed_well (each scalars es) (each_open es) (at + 2) es u) (none_unless (takes p none) at t)
      placed_well p t at (index a i) u = absurd u
      placed_well p t at (literal es) u = absurd u
      placed_well p t at (map_over k es) u = absurd u
      placed_well p t at (fold_over k e es) u = absurd u

      all_placed_well : (ps : List Place) → T (all_of open? ps) → (at : ℕ) (es : Exprs) → T (plain_exprs es) → misplaced_all f locals ps at es ≡ none
      all_placed_well ps t at nil u = refl
      all_placed_well ps t at (cons e es) u =
          let w = T_and (plain_expr e) (plain_exprs es) u in
          none_or_else _ _ (placed_well (get_or ps 0 anything) (first_open ps t) at e w.0) (all_placed_well (drop 1 ps) (rest_open ps t) (at + expr_size e) es w.1)

    rhs_placed_well : (ps : List Place) → T (all_of open? ps) → (at : ℕ) (e : Expr) → T (plain_expr e) → misplaced_rhs f locals ps at (rhs_of e) ≡ none
    rhs_placed_well ps t at (bool_lit b) u = placed_well (get_or ps 0 anything) (first_open ps t) at (bool_lit b) u
    rhs_placed_well ps t at (int_lit i) u = placed_well (get_or ps 0 anything) (first_open ps t) at (int_lit i) u
    rhs_placed_well ps t at (float_lit b) u = placed_well (get_or ps 0 anything) (first_open ps t) at (float_lit b) u
    rhs_placed_well ps t at (char_lit c) u = placed_well (get_or ps 0 anything) (first_open ps t) at (char_lit c) u
    rhs_placed_well ps t at (var x) u = placed_well (get_or ps 0 anything) (first_open ps t) at (var x) u
    rhs_placed_well ps t at (unary op e) u = placed_well (get_or ps 0 anything) (first_open ps t) at (unary op e) u
    rhs_placed_well ps t at (binary op l r) u = placed_well (get_or ps 0 anything) (first_open ps t) at (binary op l r) u
    rhs_placed_well ps t at (if_then_else c a b) u = placed_well (get_or ps 0 anything) (first_open ps t) at (if_then_else c a b) u
    rhs_placed_well ps t at (pre e) u = placed_well (get_or ps 0 anything) (first_open ps t) at (pre e) u
    rhs_placed_well ps t at (arrow a b) u = placed_well (get_or ps 0 anything) (first_open ps t) at (arrow a b) u
    rhs_placed_well ps t at (cast y e) u = placed_well (get_or ps 0 anything) (first_open ps t) at (cast y e) u
    rhs_placed_well ps t at (call k es) u =
        none_or_else _ _ (all_placed_well (map under_variable (callee_in f k).inputs) (variables_open (callee_in f k).inputs (scalar_inputs k)) (at + 3) es u)
        (none_unless (suit_all ps (callee_in f k).outputs) at (suits ps (callee_in f k).outputs t (scalar_outputs k)))
    rhs_placed_well ps t at (tuple es) u = all_placed_well ps t (at + 2) es u
    rhs_placed_well ps t at (index a i) u = absurd u
    rhs_placed_well ps t at (literal es) u = absurd u
    rhs_placed_well ps t at (map_over k es) u = absurd u
    rhs_placed_well ps t at (fold_over k e es) u = absurd u

    names_open : (xs : List ℕ) → T (all_of open? (map (under_name f locals) xs))
    names_open [] = tt
    names_open (x ∷ xs) = and_t (open? (under_name f locals x)) _ (under_open _ (ap₂ (λ a b. length_of f.nodes a b x) no_locals no_globals)) (names_open xs)

    equations_well : (at : ℕ) (qs : List Equation) → T (all_of plain_equation qs) → first_some (map (misplaced_in f locals) (placed equation_size at qs)) ≡ none
    equations_well at [] t = refl
    equations_well at (q ∷ qs) t =
        let w = T_and (plain_equation q) _ t in
        none_or_else _ _ (rhs_placed_well (map (under_name f locals) q.names) (names_open q.names) (rhs_place at q) q.rhs w.0) (equations_well (at + equation_size q) qs w.1)

  nodes_well : (at : ℕ) (ns : List Node) → T (all_of plain_node ns) → first_some (map (node_misplaced f) (placed node_size at ns)) ≡ none
  nodes_well at [] t = refl
  nodes_well at (n ∷ ns) t =
      let w = T_and (plain_node n) _ t in
      let x = T_and (all_of is_scalar (variables n)) _ w.0 in
      none_or_else _ _ (equations_well (arrays_in (variables n)) (no_arrays (variables n) x.0) (equations_start at n + 1) n.equations x.1) (nodes_well (at + node_size n) ns w.1)

  constants_well : (at : ℕ) (cs : List Constant) → T (all_of plain_constant cs) → first_some (map (constant_misplaced f) (placed constant_size at cs)) ≡ none
  constants_well at [] t = refl
  constants_well at (c ∷ cs) t =
      let w = T_and (plain_constant c) _ t in
      let x = T_and (takes scalars (length_in c.ty)) _ w.0 in
      none_or_else _ _ (placed_well [] refl (under (length_in c.ty)) (under_open (length_in c.ty) (lengthless c.ty x.0)) _ c.value x.1) (constants_well (at + constant_size c) cs w.1)

  pub judging_plain : fault22 f ≡ none
  unfolding fault22
  judging_plain = none_or_else _ _ (constants_well (constants_start f) f.constants both.0) (nodes_well (nodes_start f) f.nodes both.1)

-- ---- types

-- the entries before the last of a table are those of the table before it
before_last : {A B : Type 0} (h : A → B) (y : B) (xs : List A) (b : ℕ) → ¬ (b ≡ length xs) → get_elem? (map h xs ++ y ∷ []) b ≡ maybe none (λ a. some (h a)) (get_elem? xs b)
before_last h y [] zero d = absurd (d refl)
before_last h y [] (suc b) d = refl
before_last h y (x ∷ xs) zero d = refl
before_last h y (x ∷ xs) (suc b) d = before_last h y xs b (λ e. d (ap suc e))

pub types_plain : (s : List ℕ) (l : Limits) (enums at : ℕ) → ¬ (get_elem? s at ≡ some 13) → var_ty_r s l enums at ≡ then_read (ty_r s l enums at) (λ t. give (scalar t))
unfolding coded byte then_read
types_plain s l enums at d = go (get_elem? s at) d
  where
    entry : (o : Option TyCode) (b next : ℕ) → then_read (known at (maybe none (λ c. some (scalar_t c)) o) next) (var_ty_body s l enums) ≡ then_read (then_read (known at o next) (ty_body s l enums)) (λ t. give (scalar t))
    entry none b next = refl
    entry (some c) b next = refl

    go : (o : Option ℕ) → ¬ (o ≡ some 13)
        → then_read (then_read (or_end s o at) (λ b. known at (get_elem? var_ty_codes b))) (var_ty_body s l enums)
        ≡ then_read (then_read (then_read (or_end s o at) (λ b. known at (get_elem? ty_codes b))) (ty_body s l enums)) (λ t. give (scalar t))
    go none d = refl
    go (some b) d =
        subst (λ o. then_read (known at o (at + 1)) (var_ty_body s l enums) ≡ then_read (then_read (known at (get_elem? ty_codes b) (at + 1)) (ty_body s l enums)) (λ t. give (scalar t)))
        (sym (before_last scalar_t array_t ty_codes b (λ e. d (ap some e)))) (entry (get_elem? ty_codes b) b (at + 1))
