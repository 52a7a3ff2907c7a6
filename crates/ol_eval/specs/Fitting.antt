-- Which expressions are scalars, and which are arrays of what length.
use Rattle.std.specs.Prelude.{ℕ, ◌≤◌, List, [], ◌∷◌, ◌≡◌, T, get_or}
use Rattle.std.proofs.Math.Option.{none, some}
use Rattle.ol_spec.specs.Syntax.{Expr}
use Rattle.ol_spec.specs.Syntax.{Exprs, nil, cons, count, Variable, Node, no_node, length_in}
use Rattle.ol_spec.specs.Shapes.{Sized, shape, first_length}
use Rattle.ol_spec.specs.Admission.{iterable}

module _ (nodes : List Node) (locals globals : List Sized) where
  -- it is a scalar; it is an array of n
  abbrev pub Scalar : Expr → Type 0
  Scalar e = shape nodes locals globals e ≡ none

  abbrev pub Long : ℕ → Expr → Type 0
  Long n e = shape nodes locals globals e ≡ some n

  -- all are scalars; all are arrays of n
  abbrev pub Scalars : Exprs → Type 0
  Scalars nil = Unit {0}
  Scalars (cons e es) = Scalar e × Scalars es

  abbrev pub Longs : ℕ → Exprs → Type 0
  Longs n nil = Unit {0}
  Longs n (cons e es) = Long n e × Longs n es

  -- each is as its variable is declared, and there are as many
  abbrev pub Suit : List Variable → Exprs → Type 0
  Suit [] nil = Unit {0}
  Suit [] (cons e es) = ⊥
  Suit (v ∷ vs) nil = ⊥
  Suit (v ∷ vs) (cons e es) = (shape nodes locals globals e ≡ length_in v.ty) × Suit vs es

  -- one array or more, all of one length
  pub record Arrays (es : Exprs) : Type 0 where
    pub some : 1 ≤ count es
    pub long : Longs (first_length nodes locals globals es) es

  -- an iterator of node k over these arrays, which is a Function of so many scalars
  pub record Iterates (k inputs : ℕ) (es : Exprs) : Type 0 where
    pub arrays : Arrays es
    pub function : T (iterable inputs (get_or nodes k no_node))
