-- What 22 leaves of an expression: each of its heads takes parts of the shapes that it is for.
use Rattle.std.specs.Prelude.{ℕ, Bool, true, ◌&&◌, List, [], ◌∷◌, map, T, get_or, drop}
use Rattle.ol_spec.specs.Syntax.{Expr, bool_lit, int_lit, float_lit, char_lit, var, unary, binary, if_then_else, pre, arrow, cast, call, tuple, index, literal, map_over, fold_over}
use Rattle.ol_spec.specs.Syntax.{Exprs, nil, cons, count, File, Rhs, items, outputs_of, one}
use Rattle.ol_spec.specs.Shapes.{Sized}
use Rattle.ol_spec.specs.Eval.{equality}
use Rattle.ol_spec.specs.Admission.{Place, scalars, anything, takes, beside, each, under_variable, under_pre, shape_in, alike, iterable, callee_in, suit_all}

module _ (f : File) (locals : List Sized) where
  -- an expression is of a shape that the place takes
  abbrev pub takes_in : Place → Expr → Bool
  takes_in p e = takes p (shape_in f locals e)

  -- each of these is, of its place
  abbrev pub takes_all_of : List Place → Exprs → Bool
  takes_all_of ps nil = true
  takes_all_of ps (cons e es) = takes_in (get_or ps 0 anything) e && takes_all_of (drop 1 ps) es

  -- the parts of an expression suit its head. Under which names a Tuple's items stand is not told by its head
  abbrev pub suited : Expr → Bool
  suited (bool_lit b) = true
  suited (int_lit i) = true
  suited (float_lit b) = true
  suited (char_lit c) = true
  suited (var x) = true
  suited (unary op e) = takes_in scalars e
  suited (binary op l r) = takes_in (beside (equality op) (shape_in f locals r)) l && takes_in (beside (equality op) (shape_in f locals l)) r
  suited (if_then_else c t e) = takes_in scalars c && (takes_in scalars t && takes_in scalars e)
  suited (pre e) = takes_in (under_pre f locals e) e
  suited (arrow a b) = takes_in scalars a && takes_in scalars b
  suited (cast t e) = takes_in scalars e
  suited (call k es) = takes_all_of (map under_variable (callee_in f k).inputs) es
  suited (tuple es) = true
  suited (index a i) = takes_in scalars i
  suited (literal es) = takes_all_of (each scalars es) es
  suited (map_over k es) = alike f locals es && iterable (count es) (callee_in f k)
  suited (fold_over k s es) = takes_in scalars s && (alike f locals es && iterable 2 (callee_in f k))

  abbrev pub Suited : Expr → Type 0
  Suited e = T (suited e)

  -- a right side suits the names under which it stands
  abbrev pub suited_rhs : List Place → Rhs → Bool
  suited_rhs ps (items es) = takes_all_of ps es
  suited_rhs ps (outputs_of k es) = suit_all ps (callee_in f k).outputs
  suited_rhs ps (one e) = takes_in (get_or ps 0 anything) e

-- an expression's own head, to be collected
abbrev pub head_item : ℕ → Expr → List Expr
head_item at e = e ∷ []
