-- Scalars and arrays among the expressions at a place: the first of several and the others, and what 22 leaves of a form's parts.
use Prim.Native.Nat.{ℕ, suc, ◌+◌, ◌-◌, ◌<◌}
use mathlib.Core.Bool.{Bool, true, false}
use mathlib.Core.List.{List}
use mathlib.Core.Option.{Option, none, some}
use mathlib.Core.Path.{◌≡◌, refl, sym, ap, subst, ◌∙◌}
use native.Mathlib.Omega.{arith}
use lib.Dec.{T}
use Rattle.ol_spec.specs.Lists.{maybe, is_some}
use Rattle.ol_spec.specs.Syntax.{File, Node, Expr, Exprs, nil, cons, count, BinOp, Ty, UnaryOp, unary, binary, if_then_else, arrow, cast, index, variables}
use Rattle.ol_spec.specs.Shapes.{Sized, shape, arrays_in, constant_arrays}
use Rattle.ol_spec.proofs.Forms.{cells_all}
use Rattle.ol_spec.specs.Eval.{equality}
use Rattle.ol_spec.specs.Admission.{scalars, takes, beside, each}
use Rattle.ol_spec.proofs.Tests.{T_and}
use Rattle.ol_tables.specs.At.{file_at, node_in, expr_at, end_at, ReadsAll}
use Rattle.ol_tables.specs.Heads.{parts_of, head_size as head_of}
use Rattle.ol_tables.proofs.Forms.{Formed, one_tree, parted}
use Rattle.ol_frame.specs.Plans.{Plan, shape_in, span_in}
use Rattle.ol_frame.specs.Shapes.{Suited, takes_in, takes_all_of}
use Rattle.ol_frame.proofs.Planning.{plan_suited, plan_first}
use Rattle.ol_frame.proofs.Shaping.{span_long}
use Rattle.ol_frame.proofs.Programs.{Long}
use Rattle.ol_eval.specs.Fitting.{Scalars}
use Rattle.ol_eval.specs.Post.{array_at, ScalarsAt}

-- a place for scalars takes a scalar
scalar_of : (o : Option ℕ) → T (takes scalars o) → o ≡ none
scalar_of none t = refl
scalar_of (some n) t = absurd t

-- two operands are both arrays, or neither is
beside_of : (q : Option (Bool → Bool)) (l r : Option ℕ) → T (takes (beside q r) l) → T (takes (beside q l) r) → is_some l ≡ is_some r
beside_of none l r a b = ap is_some (scalar_of l a) ∙ sym (ap is_some (scalar_of r b))
beside_of (some g) none none a b = refl
beside_of (some g) none (some n) a b = absurd b
beside_of (some g) (some m) none a b = absurd a
beside_of (some g) (some m) (some n) a b = refl

-- beside an operator that compares no arrays stands a scalar
beside_none : (l r : Option ℕ) → T (takes (beside none r) l) → is_some l ≡ false
beside_none l r a = ap is_some (scalar_of l a)

-- what is no array is a scalar
pub not_array : (o : Option ℕ) → is_some o ≡ false → o ≡ none
not_array none e = refl
not_array (some n) e = let z : ◌≡◌ {A = ℕ} 0 1 = cc in absurd (omega arith)

-- what has one is an array
pub is_long : (o : Option ℕ) → 0 < maybe 0 (λ n. n) o → is_some o ≡ true
is_long none l = absurd (omega arith)
is_long (some n) l = refl

-- an array has a length
pub long_some : (o : Option ℕ) → Long o → is_some o ≡ true → 0 < maybe 0 (λ n. n) o
long_some none l e = let z : ◌≡◌ {A = ℕ} 0 1 = cc in absurd (omega arith)
long_some (some n) l e = let b = l n refl in omega (arith, b.0)

-- expressions in places for scalars are scalars
pub all_scalars : (f : File) (locals : List Sized) (es : Exprs) → T (takes_all_of f locals (each scalars es) es) → Scalars f.nodes locals (constant_arrays f.constants) es
all_scalars f locals nil t = tt
all_scalars f locals (cons e es) t = let w = T_and (takes_in f locals scalars e) _ t in (scalar_of (shape f.nodes locals (constant_arrays f.constants) e) w.0, all_scalars f locals es w.1)

-- and have a cell each
pub scalars_count : (nodes : List Node) (locals globals : List Sized) (es : Exprs) → Scalars nodes locals globals es → cells_all nodes locals globals es ≡ count es
scalars_count nodes locals globals nil h = refl
scalars_count nodes locals globals (cons e es) h = omega (arith, ap (maybe 1 (λ n. n)) h.0, scalars_count nodes locals globals es h.1)

module _ (s : List ℕ) (node : ℕ) where
  abbrev AllScalars : Exprs → Type 0
  AllScalars es = Scalars (file_at s).nodes (arrays_in (variables (node_in s node))) (constant_arrays (file_at s).constants) es

  -- the first of several scalars, and the others
  scalars_both : (level n at : ℕ) → ReadsAll s level (suc n) at → ScalarsAt s node level (suc n) at → (shape_in s node (expr_at s level at) ≡ none) × ScalarsAt s node level n (end_at s level at)
  scalars_both level n at h t = subst AllScalars (parted s level n at h).trees t

  pub one_scalar : (level at : ℕ) → ReadsAll s level 1 at → shape_in s node (expr_at s level at) ≡ none → ScalarsAt s node level 1 at
  one_scalar level at h e = subst AllScalars (sym (one_tree s level at h).0) (e, tt)

  pub scalar_shape : (level at : ℕ) → ReadsAll s level 1 at → ScalarsAt s node level 1 at → shape_in s node (expr_at s level at) ≡ none
  scalar_shape level at h t = (scalars_both level 0 at h t).0

module _ {s tab rows consts : List ℕ} {node level : ℕ} where
  pub scalar_first : {n at : ℕ} → Plan s tab rows consts node level (suc n) at → ScalarsAt s node level (suc n) at → ScalarsAt s node level 1 at
  scalar_first {n} {at} p t = one_scalar s node level at (plan_first s p).reads (scalars_both s node level n at p.reads t).0

  pub scalars_rest : {n at : ℕ} → Plan s tab rows consts node level (suc n) at → ScalarsAt s node level (suc n) at → ScalarsAt s node level n (end_at s level at)
  scalars_rest {n} {at} p t = (scalars_both s node level n at p.reads t).1

  -- the length of an array
  pub array_span : {at : ℕ} → Plan s tab rows consts node level 1 at → array_at s node level at ≡ true → 0 < span_in s node (expr_at s level at)
  array_span {at} p e = long_some (shape_in s node (expr_at s level at)) (span_long s level at p) e

  module _ {at : ℕ} (p : Plan s tab rows consts node level 1 at) where
    -- all parts of a form that is for scalars
    parts_scalars : {t : Expr} {n : ℕ} → Formed s level at t n → (Suited (file_at s) (arrays_in (variables (node_in s node))) t → AllScalars s node (parts_of t)) → ScalarsAt s node (level - 1) n (at + head_of t)
    parts_scalars {t} {n} g k = subst (AllScalars s node) g.parts (k (plan_suited s p g))

    abbrev shape_of : Expr → Option ℕ
    shape_of e = shape_in s node e

    pub unary_scalars : {op : UnaryOp} {e : Expr} → Formed s level at (unary op e) 1 → ScalarsAt s node (level - 1) 1 (at + 2)
    unary_scalars {op} {e} g = parts_scalars g (λ t. (scalar_of (shape_of e) t, tt))

    pub cast_scalars : {c : Ty} {e : Expr} → Formed s level at (cast c e) 1 → ScalarsAt s node (level - 1) 1 (at + head_of (cast c e))
    cast_scalars {c} {e} g = parts_scalars g (λ t. (scalar_of (shape_of e) t, tt))

    pub if_scalars : {c a b : Expr} → Formed s level at (if_then_else c a b) 3 → ScalarsAt s node (level - 1) 3 (at + 1)
    if_scalars {c} {a} {b} g =
        parts_scalars g
        (λ t. let u = T_and (takes scalars (shape_of c)) _ t in let v = T_and (takes scalars (shape_of a)) _ u.1 in (scalar_of (shape_of c) u.0, (scalar_of (shape_of a) v.0, (scalar_of (shape_of b) v.1, tt))))

    pub arrow_scalars : {a b : Expr} → Formed s level at (arrow a b) 2 → ScalarsAt s node (level - 1) 2 (at + 1)
    arrow_scalars {a} {b} g =
        parts_scalars g (λ t. let u = T_and (takes scalars (shape_of a)) _ t in (scalar_of (shape_of a) u.0, (scalar_of (shape_of b) u.1, tt)))

    -- the index of an Index is a scalar
    pub index_scalar : {a i : Expr} → Formed s level at (index a i) 2 → shape_of i ≡ none
    index_scalar {a} {i} g = scalar_of (shape_of i) (plan_suited s p g)

    -- the operands of a Binary
    pub binary_alike : {op : BinOp} {l r : Expr} → Formed s level at (binary op l r) 2 → is_some (shape_of l) ≡ is_some (shape_of r)
    binary_alike {op} {l} {r} g =
        let w = T_and (takes (beside (equality op) (shape_of r)) (shape_of l)) _ (plan_suited s p g) in
        beside_of (equality op) (shape_of l) (shape_of r) w.0 w.1

    pub binary_equated : {op : BinOp} {l r : Expr} → Formed s level at (binary op l r) 2 → equality op ≡ none → is_some (shape_of l) ≡ false
    binary_equated {op} {l} {r} g e =
        let w = T_and (takes (beside (equality op) (shape_of r)) (shape_of l)) _ (plan_suited s p g) in
        beside_none (shape_of l) (shape_of r) (subst (λ q. T (takes (beside q (shape_of r)) (shape_of l))) e w.0)
