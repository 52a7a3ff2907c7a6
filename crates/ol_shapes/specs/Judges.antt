-- What the walk over expressions answers: shapes, what each part's place takes, and the first faulted expression.
use Rattle.std.specs.Prelude.{ℕ, suc, ◌+◌, ◌≤◌, ◌<◌, Bool, true, false, ◌&&◌, List, [], ◌∷◌, map, ◌≡◌, Result, Ok, length, get_or}
use Rattle.std.proofs.Math.Option.{Option, none}
use Rattle.ol_spec.specs.Syntax.{Expr, bool_lit, int_lit, float_lit, char_lit, var, unary, binary, if_then_else, pre, arrow, cast, call, tuple, index, literal, map_over, fold_over, Exprs, cons, count}
use Rattle.ol_spec.specs.Syntax.{File}
use Rattle.ol_spec.specs.Places.{expr_size, exprs_size}
use Rattle.ol_spec.specs.Eval.{equality}
use Rattle.ol_spec.specs.Shapes.{Sized}
use Rattle.ol_spec.specs.Admission.{Place, scalars, anything, arrays, takes, beside, under_variable, each, iterable, callee_in, shape_in, all_long, alike, under_pre, misplaced, misplaced_all}
use Rattle.ol_tables.specs.At.{file_at}
use Rattle.ol_tables.specs.Heads.{parts_of, head_size}
use Rattle.ol_shapes.specs.Codes.{fault_of}
use Rattle.ol_shapes.specs.Sits.{Scoped, Sits}
use Rattle.ol_shapes.specs.declared.places.Misplaced.{Misplaced}

module _ (f : File) (locals : List Sized) where
  -- the places of an expression's parts
  abbrev pub part_places : Expr → List Place
  part_places (bool_lit b) = []
  part_places (int_lit i) = []
  part_places (float_lit b) = []
  part_places (char_lit c) = []
  part_places (var x) = []
  part_places (unary op e) = scalars ∷ []
  part_places (binary op l r) = beside (equality op) (shape_in f locals r) ∷ beside (equality op) (shape_in f locals l) ∷ []
  part_places (if_then_else c t e) = scalars ∷ scalars ∷ scalars ∷ []
  part_places (pre e) = under_pre f locals e ∷ []
  part_places (arrow a b) = scalars ∷ scalars ∷ []
  part_places (cast t e) = scalars ∷ []
  part_places (call k es) = map under_variable (callee_in f k).inputs
  part_places (tuple es) = each scalars es
  part_places (index a i) = anything ∷ scalars ∷ []
  part_places (literal es) = each scalars es
  part_places (map_over k es) = each arrays es
  part_places (fold_over k s es) = scalars ∷ each arrays es

  -- an iterator suits its arrays and its node; another form does anyway
  abbrev pub iterated : Expr → Bool
  iterated (bool_lit b) = true
  iterated (int_lit i) = true
  iterated (float_lit b) = true
  iterated (char_lit c) = true
  iterated (var x) = true
  iterated (unary op e) = true
  iterated (binary op l r) = true
  iterated (if_then_else c t e) = true
  iterated (pre e) = true
  iterated (arrow a b) = true
  iterated (cast t e) = true
  iterated (call k es) = true
  iterated (tuple es) = true
  iterated (index a i) = true
  iterated (literal es) = true
  iterated (map_over k es) = alike f locals es && iterable (count es) (callee_in f k)
  iterated (fold_over k s es) = alike f locals es && iterable 2 (callee_in f k)

  -- r tells the first faulted one of these expressions, in these places; and where they end, if none is
  pub record AllJudged (ps : List Place) (at : ℕ) (es : Exprs) (r : Result ℕ Misplaced) : Type 0 where
    pub found : fault_of r ≡ misplaced_all f locals ps at es
    pub ends : (n : ℕ) → r ≡ Ok n → n ≡ at + exprs_size es

  -- of one expression
  pub record OneJudged (p : Place) (at : ℕ) (e : Expr) (r : Result ℕ Misplaced) : Type 0 where
    pub found : fault_of r ≡ misplaced f locals p at e
    pub ends : (n : ℕ) → r ≡ Ok n → n ≡ at + expr_size e

-- of every expression that can stand there, by the bytes and the tables
module _ (s rows slots plans : List ℕ) (level at : ℕ) where
  -- r is its shape
  pub record ShapeIs (r : Option ℕ) : Type 0 where
    pub is : (k : ℕ) (locals : List Sized) (e : Expr) (es : Exprs) → Sits s rows slots plans k locals level at (cons e es) → r ≡ shape_in (file_at s) locals e

  -- whether so many are arrays of this length
  pub record AllLongIs (many n : ℕ) (r : Bool) : Type 0 where
    pub is : (k : ℕ) (locals : List Sized) (es : Exprs) → Sits s rows slots plans k locals level at es → many ≡ count es → r ≡ all_long (file_at s) locals n es

  -- whether so many, one or more, are arrays of one length
  pub record AlikeIs (many : ℕ) (r : Bool) : Type 0 where
    pub is : (k : ℕ) (locals : List Sized) (es : Exprs) → Sits s rows slots plans k locals level at es → many ≡ count es → r ≡ alike (file_at s) locals es

  -- whether an iterator suits its arrays and its node
  pub record IteratedIs (r : Bool) : Type 0 where
    pub is : (k : ℕ) (locals : List Sized) (e : Expr) (es : Exprs) → Sits s rows slots plans k locals level at (cons e es) → get_or s at 0 ≡ 15 → r ≡ iterated (file_at s) locals e

  -- whether it suits its place, and an iterator its arrays and its node
  pub record SuitsIs (p : Place) (r : Bool) : Type 0 where
    pub is : (k : ℕ) (locals : List Sized) (e : Expr) (es : Exprs) → Sits s rows slots plans k locals level at (cons e es) → r ≡ takes p (shape_in (file_at s) locals e) && iterated (file_at s) locals e

  -- the place of its part i, which stands at pos; the parts have at most `level` levels
  pub record PartIs (i pos : ℕ) (r : Place) : Type 0 where
    pub is : (k : ℕ) (locals : List Sized) (e : Expr) (es : Exprs) → Sits s rows slots plans k locals (suc level) at (cons e es) → i < count (parts_of e) → (i ≡ 0 → pos ≡ at + head_size e)
        → r ≡ get_or (part_places (file_at s) locals e) i anything

  -- the first faulted one of its parts, which have at most `level` levels
  pub record PartsJudged (r : Result ℕ Misplaced) : Type 0 where
    pub are : (k : ℕ) (locals : List Sized) (e : Expr) (es : Exprs) → Sits s rows slots plans k locals (suc level) at (cons e es)
        → AllJudged (file_at s) locals (part_places (file_at s) locals e) (at + head_size e) (parts_of e) r

  -- the first faulted one of it, in its place, if none of its parts is and it ends there
  pub record WholeJudged (p : Place) (end : ℕ) (r : Result ℕ Misplaced) : Type 0 where
    pub is : (k : ℕ) (locals : List Sized) (e : Expr) (es : Exprs) → Sits s rows slots plans k locals level at (cons e es)
        → misplaced_all (file_at s) locals (part_places (file_at s) locals e) (at + head_size e) (parts_of e) ≡ none → end ≡ at + expr_size e → OneJudged (file_at s) locals p at e r

  -- the first faulted one of it, in its place
  pub record ExprJudged (p : Place) (r : Result ℕ Misplaced) : Type 0 where
    pub is : (k : ℕ) (locals : List Sized) (e : Expr) (es : Exprs) → Sits s rows slots plans k locals level at (cons e es) → OneJudged (file_at s) locals p at e r

-- node c is iterable with so many inputs
pub record IterableIs (rows plans : List ℕ) (c inputs : ℕ) (r : Bool) : Type 0 where
  pub is : (s slots : List ℕ) (k : ℕ) (locals : List Sized) → Scoped s rows slots plans k locals → c < length (file_at s).nodes → r ≡ iterable inputs (callee_in (file_at s) c)

-- the expression at `at` is a map, or it is none
abbrev pub MapIs : List ℕ → ℕ → Bool → Type 0
MapIs s at true = (15 ≤ get_or s at 0) × (get_or s (at + 1) 0 ≡ 0)
MapIs s at false = 15 ≤ get_or s at 0 → get_or s (at + 1) 0 ≡ 0 → ⊥

-- r is the shape of every expression that can stand there and is no map
pub record FormIs (s rows slots plans : List ℕ) (at : ℕ) (r : Option ℕ) : Type 0 where
  pub is : (k : ℕ) (locals : List Sized) (level : ℕ) (e : Expr) (es : Exprs) → Sits s rows slots plans k locals level at (cons e es) → MapIs s at false → r ≡ shape_in (file_at s) locals e
