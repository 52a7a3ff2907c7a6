-- A file without 22: each head takes parts of the shapes that it is for.
use Prim.Native.Nat.{ℕ, ◌+◌}
use mathlib.Core.Bool.{◌&&◌}
use mathlib.Core.List.{List, ◌++◌, map}
use mathlib.Core.Option.{none}
use mathlib.Core.Path.{◌≡◌}
use lib.Dec.{T}
use lib.ListN.{get_or, drop}
use Rattle.ol_spec.specs.Syntax.{Expr, bool_lit, int_lit, float_lit, char_lit, var, unary, binary, if_then_else, pre, arrow, cast, call, tuple, index, literal, map_over, fold_over}
use Rattle.ol_spec.specs.Syntax.{Exprs, nil, cons, count, File, rhs_of}
use Rattle.ol_spec.specs.Places.{expr_size, ty_size, collect, collect_all}
use Rattle.ol_spec.specs.Shapes.{Sized}
use Rattle.ol_spec.specs.Eval.{equality}
use Rattle.ol_spec.specs.Admission.{Place, scalars, anything, arrays, takes, beside, each, under_variable, under_pre, shape_in, alike, iterable, callee_in, misplaced, misplaced_all, misplaced_rhs, suit_all}
use Rattle.ol_spec.proofs.Tests.{T_and, and_t}
use Rattle.ol_spec.proofs.Admits.{or_else_none, unless_none, misplaced_takes}
use Rattle.ol_tables.specs.Tables.{Each}
use Rattle.ol_tables.proofs.Forms.{each_join}
use Rattle.ol_frame.specs.Shapes.{takes_in, takes_all_of, Suited, suited_rhs, head_item}

module _ (f : File) (locals : List Sized) where
  abbrev M : Place → ℕ → Expr → Type 0
  M p at e = misplaced f locals p at e ≡ none

  abbrev N : List Place → ℕ → Exprs → Type 0
  N ps at es = misplaced_all f locals ps at es ≡ none

  abbrev H : ℕ → Expr → List Expr
  H at e = collect head_item at e

  abbrev Hs : ℕ → Exprs → List Expr
  Hs at es = collect_all head_item at es

  -- each of these suits its place
  takes_all : (ps : List Place) (at : ℕ) (es : Exprs) → N ps at es → T (takes_all_of f locals ps es)
  unfolding misplaced
  takes_all ps at nil m = tt
  takes_all ps at (cons e es) m =
      let w = or_else_none (misplaced f locals (get_or ps 0 anything) at e) _ m in
      and_t (takes_in f locals (get_or ps 0 anything) e) (takes_all_of f locals (drop 1 ps) es) (misplaced_takes f locals (get_or ps 0 anything) at e w.0) (takes_all (drop 1 ps) (at + expr_size e) es w.1)

  mutual
    unfolding misplaced collect

    -- so do the parts of each head in an expression
    pub all_suited : (p : Place) (at : ℕ) (e : Expr) → M p at e → Each (Suited f locals) (H at e)
    all_suited p at (bool_lit b) m = (tt, tt)
    all_suited p at (int_lit i) m = (tt, tt)
    all_suited p at (float_lit b) m = (tt, tt)
    all_suited p at (char_lit c) m = (tt, tt)
    all_suited p at (var x) m = (tt, tt)
    all_suited p at (unary op e) m =
        let w = or_else_none (misplaced f locals scalars (at + 2) e) _ m in
        (misplaced_takes f locals scalars (at + 2) e w.0, all_suited scalars (at + 2) e w.0)
    all_suited p at (binary op l r) m =
        let P = beside (equality op) (shape_in f locals r) in
        let Q = beside (equality op) (shape_in f locals l) in
        let b = at + 2 + expr_size l in
        let w = or_else_none (misplaced f locals P (at + 2) l) _ m in
        let v = or_else_none (misplaced f locals Q b r) _ w.1 in
        (and_t (takes_in f locals P l) (takes_in f locals Q r) (misplaced_takes f locals P (at + 2) l w.0) (misplaced_takes f locals Q b r v.0), each_join (Suited f locals) (H (at + 2) l) (H b r) (all_suited P (at + 2) l w.0) (all_suited Q b r v.0))
    all_suited p at (if_then_else c t e) m =
        let b = at + 1 + expr_size c in
        let d = at + 1 + expr_size c + expr_size t in
        let w = or_else_none (misplaced f locals scalars (at + 1) c) _ m in
        let v = or_else_none (misplaced f locals scalars b t) _ w.1 in
        let u = or_else_none (misplaced f locals scalars d e) _ v.1 in
        let B = takes_in f locals scalars t in
        let D = takes_in f locals scalars e in (
          and_t (takes_in f locals scalars c) (B && D) (misplaced_takes f locals scalars (at + 1) c w.0) (and_t B D (misplaced_takes f locals scalars b t v.0) (misplaced_takes f locals scalars d e u.0)),
          each_join (Suited f locals) (H (at + 1) c) (H b t ++ H d e) (all_suited scalars (at + 1) c w.0) (each_join (Suited f locals) (H b t) (H d e) (all_suited scalars b t v.0) (all_suited scalars d e u.0)),
        )
    all_suited p at (pre e) m =
        let w = or_else_none (misplaced f locals (under_pre f locals e) (at + 1) e) _ m in
        (misplaced_takes f locals (under_pre f locals e) (at + 1) e w.0, all_suited (under_pre f locals e) (at + 1) e w.0)
    all_suited p at (arrow a b) m =
        let d = at + 1 + expr_size a in
        let w = or_else_none (misplaced f locals scalars (at + 1) a) _ m in
        let v = or_else_none (misplaced f locals scalars d b) _ w.1 in
        (and_t (takes_in f locals scalars a) (takes_in f locals scalars b) (misplaced_takes f locals scalars (at + 1) a w.0) (misplaced_takes f locals scalars d b v.0), each_join (Suited f locals) (H (at + 1) a) (H d b) (all_suited scalars (at + 1) a w.0) (all_suited scalars d b v.0))
    all_suited p at (cast t e) m =
        let w = or_else_none (misplaced f locals scalars (at + 1 + ty_size t) e) _ m in
        (misplaced_takes f locals scalars (at + 1 + ty_size t) e w.0, all_suited scalars (at + 1 + ty_size t) e w.0)
    all_suited p at (call k es) m =
        let P = map under_variable (callee_in f k).inputs in
        let w = or_else_none (misplaced_all f locals P (at + 3) es) _ m in
        (takes_all P (at + 3) es w.0, each_suited P (at + 3) es w.0)
    all_suited p at (tuple es) m = (tt, each_suited (each scalars es) (at + 2) es (or_else_none (misplaced_all f locals (each scalars es) (at + 2) es) _ m).0)
    all_suited p at (index a i) m =
        let d = at + 1 + expr_size a in
        let w = or_else_none (misplaced f locals anything (at + 1) a) _ m in
        let v = or_else_none (misplaced f locals scalars d i) _ w.1 in
        (misplaced_takes f locals scalars d i v.0, each_join (Suited f locals) (H (at + 1) a) (H d i) (all_suited anything (at + 1) a w.0) (all_suited scalars d i v.0))
    all_suited p at (literal es) m =
        let w = or_else_none (misplaced_all f locals (each scalars es) (at + 2) es) _ m in
        (takes_all (each scalars es) (at + 2) es w.0, each_suited (each scalars es) (at + 2) es w.0)
    all_suited p at (map_over k es) m =
        let A = alike f locals es && iterable (count es) (callee_in f k) in
        let w = or_else_none (misplaced_all f locals (each arrays es) (at + 4) es) _ m in
        ((T_and A (takes p (shape_in f locals (map_over k es))) (unless_none (A && takes p (shape_in f locals (map_over k es))) at w.1)).0, each_suited (each arrays es) (at + 4) es w.0)
    all_suited p at (fold_over k s es) m =
        let A = alike f locals es && iterable 2 (callee_in f k) in
        let d = at + 4 + expr_size s in
        let w = or_else_none (misplaced f locals scalars (at + 4) s) _ m in
        let v = or_else_none (misplaced_all f locals (each arrays es) d es) _ w.1 in
        (and_t (takes_in f locals scalars s) A (misplaced_takes f locals scalars (at + 4) s w.0) (T_and A (takes p none) (unless_none (A && takes p none) at v.1)).0, each_join (Suited f locals) (H (at + 4) s) (Hs d es) (all_suited scalars (at + 4) s w.0) (each_suited (each arrays es) d es v.0))

    each_suited : (ps : List Place) (at : ℕ) (es : Exprs) → N ps at es → Each (Suited f locals) (Hs at es)
    each_suited ps at nil m = tt
    each_suited ps at (cons e es) m =
        let w = or_else_none (misplaced f locals (get_or ps 0 anything) at e) _ m in
        each_join (Suited f locals) (H at e) (Hs (at + expr_size e) es) (all_suited (get_or ps 0 anything) at e w.0) (each_suited (drop 1 ps) (at + expr_size e) es w.1)

  -- a whole right side: its parts suit its head, and its values the names under which it stands
  pub rhs_suited : (ps : List Place) (at : ℕ) (e : Expr) → misplaced_rhs f locals ps at (rhs_of e) ≡ none → Each (Suited f locals) (H at e) × T (suited_rhs f locals ps (rhs_of e))
  unfolding misplaced collect
  rhs_suited ps at (bool_lit b) m = (all_suited (get_or ps 0 anything) at (bool_lit b) m, misplaced_takes f locals (get_or ps 0 anything) at (bool_lit b) m)
  rhs_suited ps at (int_lit i) m = (all_suited (get_or ps 0 anything) at (int_lit i) m, misplaced_takes f locals (get_or ps 0 anything) at (int_lit i) m)
  rhs_suited ps at (float_lit b) m = (all_suited (get_or ps 0 anything) at (float_lit b) m, misplaced_takes f locals (get_or ps 0 anything) at (float_lit b) m)
  rhs_suited ps at (char_lit c) m = (all_suited (get_or ps 0 anything) at (char_lit c) m, misplaced_takes f locals (get_or ps 0 anything) at (char_lit c) m)
  rhs_suited ps at (var x) m = (all_suited (get_or ps 0 anything) at (var x) m, misplaced_takes f locals (get_or ps 0 anything) at (var x) m)
  rhs_suited ps at (unary op e) m = (all_suited (get_or ps 0 anything) at (unary op e) m, misplaced_takes f locals (get_or ps 0 anything) at (unary op e) m)
  rhs_suited ps at (binary op l r) m = (all_suited (get_or ps 0 anything) at (binary op l r) m, misplaced_takes f locals (get_or ps 0 anything) at (binary op l r) m)
  rhs_suited ps at (if_then_else c t e) m = (all_suited (get_or ps 0 anything) at (if_then_else c t e) m, misplaced_takes f locals (get_or ps 0 anything) at (if_then_else c t e) m)
  rhs_suited ps at (pre e) m = (all_suited (get_or ps 0 anything) at (pre e) m, misplaced_takes f locals (get_or ps 0 anything) at (pre e) m)
  rhs_suited ps at (arrow a b) m = (all_suited (get_or ps 0 anything) at (arrow a b) m, misplaced_takes f locals (get_or ps 0 anything) at (arrow a b) m)
  rhs_suited ps at (cast t e) m = (all_suited (get_or ps 0 anything) at (cast t e) m, misplaced_takes f locals (get_or ps 0 anything) at (cast t e) m)
  rhs_suited ps at (call k es) m =
      let P = map under_variable (callee_in f k).inputs in
      let w = or_else_none (misplaced_all f locals P (at + 3) es) _ m in
      ((takes_all P (at + 3) es w.0, each_suited P (at + 3) es w.0), unless_none (suit_all ps (callee_in f k).outputs) at w.1)
  rhs_suited ps at (tuple es) m = ((tt, each_suited ps (at + 2) es m), takes_all ps (at + 2) es m)
  rhs_suited ps at (index a i) m = (all_suited (get_or ps 0 anything) at (index a i) m, misplaced_takes f locals (get_or ps 0 anything) at (index a i) m)
  rhs_suited ps at (literal es) m = (all_suited (get_or ps 0 anything) at (literal es) m, misplaced_takes f locals (get_or ps 0 anything) at (literal es) m)
  rhs_suited ps at (map_over k es) m = (all_suited (get_or ps 0 anything) at (map_over k es) m, misplaced_takes f locals (get_or ps 0 anything) at (map_over k es) m)
  rhs_suited ps at (fold_over k s es) m = (all_suited (get_or ps 0 anything) at (fold_over k s es) m, misplaced_takes f locals (get_or ps 0 anything) at (fold_over k s es) m)
