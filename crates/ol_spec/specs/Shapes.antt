-- Shapes: whether an expression is a scalar or an array, and of what length. It is read off the form alone, so every length is known on loading. Document 02, "Arrays, map and fold".
use Rattle.std.specs.Prelude.{ℕ, cond, List, [], ◌∷◌, eqb, get_or}
use Rattle.std.proofs.Math.Option.{Option, none, some}
use Rattle.ol_spec.specs.Lists.{maybe, or_else}
use Rattle.ol_spec.specs.Syntax.{Expr, bool_lit, int_lit, float_lit, char_lit, var, unary, binary, if_then_else, pre, arrow, cast, call, tuple, index, literal}
use Rattle.ol_spec.specs.Syntax.{map_over, fold_over, Exprs, nil, cons, count, Variable, Constant, Node, no_node, name_in, length_in}

-- a name and its array's length
abbrev pub Sized : Type 0
Sized = ℕ × ℕ

-- the arrays among these, each with its length
abbrev pub add_sized : ℕ → Option ℕ → List Sized → List Sized
add_sized x none r = r
add_sized x (some n) r = (x, n) ∷ r

abbrev pub arrays_in : List Variable → List Sized
arrays_in [] = []
arrays_in (v ∷ vs) = add_sized v.name (length_in v.ty) (arrays_in vs)

abbrev pub constant_arrays : List Constant → List Sized
constant_arrays [] = []
constant_arrays (c ∷ cs) = add_sized c.name (length_in c.ty) (constant_arrays cs)

-- the length of the array of that name, if it is one
abbrev pub length_for : ℕ → List Sized → Option ℕ
length_for x [] = none
length_for x (a ∷ rest) = cond (eqb x a.0) (some a.1) (length_for x rest)

-- the shape of a call's one output
abbrev pub output_shape : List Variable → Option ℕ
output_shape [] = none
output_shape (v ∷ []) = length_in v.ty
output_shape (v ∷ w ∷ vs) = none

-- over the nodes, and the arrays among a node's variables and among the constants
module _ (nodes : List Node) (locals globals : List Sized) where
  abbrev pub length_of : ℕ → Option ℕ
  length_of x = or_else (length_for x locals) (length_for x globals)

  -- a scalar is `none`, an array of n is `some n`. A Var is as its declaration, `pre` of a Var as the Var, a map's length is its first array's
  abbrev mutual
    pub shape : Expr → Option ℕ
    shape (bool_lit b) = none
    shape (int_lit i) = none
    shape (float_lit b) = none
    shape (char_lit c) = none
    shape (var x) = length_of x
    shape (unary op e) = none
    shape (binary op l r) = none
    shape (if_then_else c t e) = none
    shape (pre e) = maybe none length_of (name_in e)
    shape (arrow a b) = none
    shape (cast t e) = none
    shape (call k es) = output_shape (get_or nodes k no_node).outputs
    shape (tuple es) = none
    shape (index a i) = none
    shape (literal es) = some (count es)
    shape (map_over k es) = some (first_length es)
    shape (fold_over k s es) = none

    pub first_length : Exprs → ℕ
    first_length nil = 0
    first_length (cons e es) = maybe 0 (λ n. n) (shape e)
