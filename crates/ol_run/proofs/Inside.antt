-- The names that expressions use stand inside them.
use Prim.Native.Nat.{ℕ, ◌+◌, ◌≤◌}
use mathlib.Core.List.{List, ◌++◌}
use native.Mathlib.Omega.{arith}
use Rattle.ol_spec.specs.Syntax.{Expr, bool_lit, int_lit, float_lit, char_lit, var, unary, binary, if_then_else, pre, arrow, cast, call, tuple, index, literal, map_over, fold_over}
use Rattle.ol_spec.specs.Syntax.{Exprs, nil, cons}
use Rattle.ol_spec.specs.Places.{expr_size, exprs_size, ty_size, collect, collect_all}
use Rattle.ol_spec.specs.Admission.{used_at}
use Rattle.ol_tables.specs.Tables.{Each}
use Rattle.ol_tables.proofs.Forms.{each_join}

-- a name of two bytes stands before n
abbrev pub Before : ℕ → ℕ × ℕ → Type 0
Before n p = p.0 + 2 ≤ n

abbrev U : ℕ → Expr → List (ℕ × ℕ)
U at e = collect used_at at e

abbrev Us : ℕ → Exprs → List (ℕ × ℕ)
Us at es = collect_all used_at at es

mutual
  unfolding collect

  pub used_before : (n at : ℕ) (e : Expr) → at + expr_size e ≤ n → Each (Before n) (collect used_at at e)
  used_before n at (bool_lit b) l = tt
  used_before n at (int_lit i) l = tt
  used_before n at (float_lit b) l = tt
  used_before n at (char_lit c) l = tt
  used_before n at (var x) l = (omega arith, tt)
  used_before n at (unary op e) l = used_before n (at + 2) e (omega arith)
  used_before n at (binary op a b) l = each_join (Before n) (U (at + 2) a) (U (at + 2 + expr_size a) b) (used_before n (at + 2) a (omega arith)) (used_before n (at + 2 + expr_size a) b (omega arith))
  used_before n at (if_then_else c a b) l =
      let x = at + 1 + expr_size c in
      let y = at + 1 + expr_size c + expr_size a in
      each_join (Before n) (U (at + 1) c) (U x a ++ U y b) (used_before n (at + 1) c (omega arith)) (each_join (Before n) (U x a) (U y b) (used_before n x a (omega arith)) (used_before n y b (omega arith)))
  used_before n at (pre e) l = used_before n (at + 1) e (omega arith)
  used_before n at (arrow a b) l = each_join (Before n) (U (at + 1) a) (U (at + 1 + expr_size a) b) (used_before n (at + 1) a (omega arith)) (used_before n (at + 1 + expr_size a) b (omega arith))
  used_before n at (cast t e) l = used_before n (at + 1 + ty_size t) e (omega arith)
  used_before n at (call k es) l = all_before n (at + 3) es (omega arith)
  used_before n at (tuple es) l = all_before n (at + 2) es (omega arith)
  used_before n at (index a i) l = each_join (Before n) (U (at + 1) a) (U (at + 1 + expr_size a) i) (used_before n (at + 1) a (omega arith)) (used_before n (at + 1 + expr_size a) i (omega arith))
  used_before n at (literal es) l = all_before n (at + 2) es (omega arith)
  used_before n at (map_over k es) l = all_before n (at + 4) es (omega arith)
  used_before n at (fold_over k s es) l = each_join (Before n) (U (at + 4) s) (Us (at + 4 + expr_size s) es) (used_before n (at + 4) s (omega arith)) (all_before n (at + 4 + expr_size s) es (omega arith))

  all_before : (n at : ℕ) (es : Exprs) → at + exprs_size es ≤ n → Each (Before n) (collect_all used_at at es)
  all_before n at nil l = tt
  all_before n at (cons e es) l = each_join (Before n) (U at e) (Us (at + expr_size e) es) (used_before n at e (omega arith)) (all_before n (at + expr_size e) es (omega arith))
