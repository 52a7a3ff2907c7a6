-- Expressions by their codes.
use Prim.Native.Nat.{ℕ, ◌+◌, ◌≤◌}
use mathlib.Core.Bool.{Bool, true, false, ◌&&◌}
use mathlib.Core.List.{List, map}
use mathlib.Core.Option.{Option, none, some}
use mathlib.Core.Path.{◌≡◌, refl, sym, ap, ◌∙◌}
use native.Mathlib.Omega.{arith}
use native.Mathlib.Nat.{add_assoc}
use lib.ListN.{get_or}
use Rattle.ol_spec.specs.Lists.{or_else}
use Rattle.ol_spec.specs.Syntax.{Expr, bool_lit, int_lit, float_lit, char_lit, var, unary, binary, if_then_else, pre, arrow, cast, call, tuple, index, literal, map_over, fold_over, Exprs, count, BinOp, File, name_in}
use Rattle.ol_spec.specs.Places.{expr_size, ty_size}
use Rattle.ol_spec.specs.Shapes.{Sized}
use Rattle.ol_spec.specs.Eval.{equality}
use Rattle.ol_spec.specs.Admission.{Place, scalars, anything, arrays, takes, beside, under_variable, each, unless, shape_in, under_pre, alike, iterable, callee_in, misplaced, misplaced_all}
use Rattle.ol_tables.specs.Heads.{code_of, parts_of, head_size, HeadIs}
use Rattle.ol_shapes.specs.Judges.{part_places, iterated}

-- the byte tells the code
pub code_told : (s : List ℕ) (at : ℕ) (e : Expr) → HeadIs s at e → get_or s at 0 ≡ code_of e
code_told s at (bool_lit b) h = h
code_told s at (int_lit i) h = h
code_told s at (float_lit b) h = h
code_told s at (char_lit c) h = h
code_told s at (var x) h = h.0
code_told s at (unary op e) h = h
code_told s at (binary op l r) h = h
code_told s at (if_then_else c t e) h = h
code_told s at (pre e) h = h
code_told s at (arrow a b) h = h
code_told s at (cast t e) h = h.0
code_told s at (call k es) h = h.0
code_told s at (tuple es) h = h.0
code_told s at (index a i) h = h
code_told s at (literal es) h = h.0
code_told s at (map_over k es) h = h.0
code_told s at (fold_over k e es) h = h.0

pub code_low : (e : Expr) → code_of e ≤ 15
code_low (bool_lit b) = omega arith
code_low (int_lit i) = omega arith
code_low (float_lit b) = omega arith
code_low (char_lit c) = omega arith
code_low (var x) = omega arith
code_low (unary op e) = omega arith
code_low (binary op l r) = omega arith
code_low (if_then_else c t e) = omega arith
code_low (pre e) = omega arith
code_low (arrow a b) = omega arith
code_low (cast t e) = omega arith
code_low (call k es) = omega arith
code_low (tuple es) = omega arith
code_low (index a i) = omega arith
code_low (literal es) = omega arith
code_low (map_over k es) = omega arith
code_low (fold_over k e es) = omega arith

-- what holds of a form holds of every expression of its code
pub only_var : (P : Expr → Type 0) → ((x : ℕ) → P (var x)) → (e : Expr) → code_of e ≡ 4 → P e
only_var P f (bool_lit b) q = absurd (omega arith)
only_var P f (int_lit i) q = absurd (omega arith)
only_var P f (float_lit b) q = absurd (omega arith)
only_var P f (char_lit c) q = absurd (omega arith)
only_var P f (var x) q = f x
only_var P f (unary op e) q = absurd (omega arith)
only_var P f (binary op l r) q = absurd (omega arith)
only_var P f (if_then_else c t e) q = absurd (omega arith)
only_var P f (pre e) q = absurd (omega arith)
only_var P f (arrow a b) q = absurd (omega arith)
only_var P f (cast t e) q = absurd (omega arith)
only_var P f (call k es) q = absurd (omega arith)
only_var P f (tuple es) q = absurd (omega arith)
only_var P f (index a i) q = absurd (omega arith)
only_var P f (literal es) q = absurd (omega arith)
only_var P f (map_over k es) q = absurd (omega arith)
only_var P f (fold_over k s es) q = absurd (omega arith)

pub only_binary : (P : Expr → Type 0) → ((op : BinOp) (l r : Expr) → P (binary op l r)) → (e : Expr) → code_of e ≡ 6 → P e
only_binary P f (bool_lit b) q = absurd (omega arith)
only_binary P f (int_lit i) q = absurd (omega arith)
only_binary P f (float_lit b) q = absurd (omega arith)
only_binary P f (char_lit c) q = absurd (omega arith)
only_binary P f (var x) q = absurd (omega arith)
only_binary P f (unary op e) q = absurd (omega arith)
only_binary P f (binary op l r) q = f op l r
only_binary P f (if_then_else c t e) q = absurd (omega arith)
only_binary P f (pre e) q = absurd (omega arith)
only_binary P f (arrow a b) q = absurd (omega arith)
only_binary P f (cast t e) q = absurd (omega arith)
only_binary P f (call k es) q = absurd (omega arith)
only_binary P f (tuple es) q = absurd (omega arith)
only_binary P f (index a i) q = absurd (omega arith)
only_binary P f (literal es) q = absurd (omega arith)
only_binary P f (map_over k es) q = absurd (omega arith)
only_binary P f (fold_over k s es) q = absurd (omega arith)

pub only_pre : (P : Expr → Type 0) → ((e : Expr) → P (pre e)) → (e : Expr) → code_of e ≡ 8 → P e
only_pre P f (bool_lit b) q = absurd (omega arith)
only_pre P f (int_lit i) q = absurd (omega arith)
only_pre P f (float_lit b) q = absurd (omega arith)
only_pre P f (char_lit c) q = absurd (omega arith)
only_pre P f (var x) q = absurd (omega arith)
only_pre P f (unary op e) q = absurd (omega arith)
only_pre P f (binary op l r) q = absurd (omega arith)
only_pre P f (if_then_else c t e) q = absurd (omega arith)
only_pre P f (pre e) q = f e
only_pre P f (arrow a b) q = absurd (omega arith)
only_pre P f (cast t e) q = absurd (omega arith)
only_pre P f (call k es) q = absurd (omega arith)
only_pre P f (tuple es) q = absurd (omega arith)
only_pre P f (index a i) q = absurd (omega arith)
only_pre P f (literal es) q = absurd (omega arith)
only_pre P f (map_over k es) q = absurd (omega arith)
only_pre P f (fold_over k s es) q = absurd (omega arith)

pub only_call : (P : Expr → Type 0) → ((k : ℕ) (es : Exprs) → P (call k es)) → (e : Expr) → code_of e ≡ 11 → P e
only_call P f (bool_lit b) q = absurd (omega arith)
only_call P f (int_lit i) q = absurd (omega arith)
only_call P f (float_lit b) q = absurd (omega arith)
only_call P f (char_lit c) q = absurd (omega arith)
only_call P f (var x) q = absurd (omega arith)
only_call P f (unary op e) q = absurd (omega arith)
only_call P f (binary op l r) q = absurd (omega arith)
only_call P f (if_then_else c t e) q = absurd (omega arith)
only_call P f (pre e) q = absurd (omega arith)
only_call P f (arrow a b) q = absurd (omega arith)
only_call P f (cast t e) q = absurd (omega arith)
only_call P f (call k es) q = f k es
only_call P f (tuple es) q = absurd (omega arith)
only_call P f (index a i) q = absurd (omega arith)
only_call P f (literal es) q = absurd (omega arith)
only_call P f (map_over k es) q = absurd (omega arith)
only_call P f (fold_over k s es) q = absurd (omega arith)

pub only_tuple : (P : Expr → Type 0) → ((es : Exprs) → P (tuple es)) → (e : Expr) → code_of e ≡ 12 → P e
only_tuple P f (bool_lit b) q = absurd (omega arith)
only_tuple P f (int_lit i) q = absurd (omega arith)
only_tuple P f (float_lit b) q = absurd (omega arith)
only_tuple P f (char_lit c) q = absurd (omega arith)
only_tuple P f (var x) q = absurd (omega arith)
only_tuple P f (unary op e) q = absurd (omega arith)
only_tuple P f (binary op l r) q = absurd (omega arith)
only_tuple P f (if_then_else c t e) q = absurd (omega arith)
only_tuple P f (pre e) q = absurd (omega arith)
only_tuple P f (arrow a b) q = absurd (omega arith)
only_tuple P f (cast t e) q = absurd (omega arith)
only_tuple P f (call k es) q = absurd (omega arith)
only_tuple P f (tuple es) q = f es
only_tuple P f (index a i) q = absurd (omega arith)
only_tuple P f (literal es) q = absurd (omega arith)
only_tuple P f (map_over k es) q = absurd (omega arith)
only_tuple P f (fold_over k s es) q = absurd (omega arith)

pub only_index : (P : Expr → Type 0) → ((a i : Expr) → P (index a i)) → (e : Expr) → code_of e ≡ 13 → P e
only_index P f (bool_lit b) q = absurd (omega arith)
only_index P f (int_lit i) q = absurd (omega arith)
only_index P f (float_lit b) q = absurd (omega arith)
only_index P f (char_lit c) q = absurd (omega arith)
only_index P f (var x) q = absurd (omega arith)
only_index P f (unary op e) q = absurd (omega arith)
only_index P f (binary op l r) q = absurd (omega arith)
only_index P f (if_then_else c t e) q = absurd (omega arith)
only_index P f (pre e) q = absurd (omega arith)
only_index P f (arrow a b) q = absurd (omega arith)
only_index P f (cast t e) q = absurd (omega arith)
only_index P f (call k es) q = absurd (omega arith)
only_index P f (tuple es) q = absurd (omega arith)
only_index P f (index a i) q = f a i
only_index P f (literal es) q = absurd (omega arith)
only_index P f (map_over k es) q = absurd (omega arith)
only_index P f (fold_over k s es) q = absurd (omega arith)

pub only_literal : (P : Expr → Type 0) → ((es : Exprs) → P (literal es)) → (e : Expr) → code_of e ≡ 14 → P e
only_literal P f (bool_lit b) q = absurd (omega arith)
only_literal P f (int_lit i) q = absurd (omega arith)
only_literal P f (float_lit b) q = absurd (omega arith)
only_literal P f (char_lit c) q = absurd (omega arith)
only_literal P f (var x) q = absurd (omega arith)
only_literal P f (unary op e) q = absurd (omega arith)
only_literal P f (binary op l r) q = absurd (omega arith)
only_literal P f (if_then_else c t e) q = absurd (omega arith)
only_literal P f (pre e) q = absurd (omega arith)
only_literal P f (arrow a b) q = absurd (omega arith)
only_literal P f (cast t e) q = absurd (omega arith)
only_literal P f (call k es) q = absurd (omega arith)
only_literal P f (tuple es) q = absurd (omega arith)
only_literal P f (index a i) q = absurd (omega arith)
only_literal P f (literal es) q = f es
only_literal P f (map_over k es) q = absurd (omega arith)
only_literal P f (fold_over k s es) q = absurd (omega arith)

pub only_iterator : (P : Expr → Type 0) → ((k : ℕ) (es : Exprs) → P (map_over k es)) → ((k : ℕ) (s : Expr) (es : Exprs) → P (fold_over k s es)) → (e : Expr) → code_of e ≡ 15 → P e
only_iterator P f g (bool_lit b) q = absurd (omega arith)
only_iterator P f g (int_lit i) q = absurd (omega arith)
only_iterator P f g (float_lit b) q = absurd (omega arith)
only_iterator P f g (char_lit c) q = absurd (omega arith)
only_iterator P f g (var x) q = absurd (omega arith)
only_iterator P f g (unary op e) q = absurd (omega arith)
only_iterator P f g (binary op l r) q = absurd (omega arith)
only_iterator P f g (if_then_else c t e) q = absurd (omega arith)
only_iterator P f g (pre e) q = absurd (omega arith)
only_iterator P f g (arrow a b) q = absurd (omega arith)
only_iterator P f g (cast t e) q = absurd (omega arith)
only_iterator P f g (call k es) q = absurd (omega arith)
only_iterator P f g (tuple es) q = absurd (omega arith)
only_iterator P f g (index a i) q = absurd (omega arith)
only_iterator P f g (literal es) q = absurd (omega arith)
only_iterator P f g (map_over k es) q = f k es
only_iterator P f g (fold_over k s es) q = g k s es

-- no code of another form with a shape
pub scalar_form : (f : File) (locals : List Sized) (e : Expr) → ¬ (code_of e ≡ 4) → ¬ (code_of e ≡ 8) → ¬ (code_of e ≡ 11) → ¬ (code_of e ≡ 14) → ¬ (code_of e ≡ 15) → shape_in f locals e ≡ none
scalar_form f locals (bool_lit b) n4 n8 n11 n14 n15 = refl
scalar_form f locals (int_lit i) n4 n8 n11 n14 n15 = refl
scalar_form f locals (float_lit b) n4 n8 n11 n14 n15 = refl
scalar_form f locals (char_lit c) n4 n8 n11 n14 n15 = refl
scalar_form f locals (var x) n4 n8 n11 n14 n15 = absurd (n4 refl)
scalar_form f locals (unary op e) n4 n8 n11 n14 n15 = refl
scalar_form f locals (binary op l r) n4 n8 n11 n14 n15 = refl
scalar_form f locals (if_then_else c t e) n4 n8 n11 n14 n15 = refl
scalar_form f locals (pre e) n4 n8 n11 n14 n15 = absurd (n8 refl)
scalar_form f locals (arrow a b) n4 n8 n11 n14 n15 = refl
scalar_form f locals (cast t e) n4 n8 n11 n14 n15 = refl
scalar_form f locals (call k es) n4 n8 n11 n14 n15 = absurd (n11 refl)
scalar_form f locals (tuple es) n4 n8 n11 n14 n15 = refl
scalar_form f locals (index a i) n4 n8 n11 n14 n15 = refl
scalar_form f locals (literal es) n4 n8 n11 n14 n15 = absurd (n14 refl)
scalar_form f locals (map_over k es) n4 n8 n11 n14 n15 = absurd (n15 refl)
scalar_form f locals (fold_over k s es) n4 n8 n11 n14 n15 = absurd (n15 refl)

-- no Var, no name
pub no_name : (e : Expr) → ¬ (code_of e ≡ 4) → name_in e ≡ none
no_name (bool_lit b) n = refl
no_name (int_lit i) n = refl
no_name (float_lit b) n = refl
no_name (char_lit c) n = refl
no_name (var x) n = absurd (n refl)
no_name (unary op e) n = refl
no_name (binary op l r) n = refl
no_name (if_then_else c t e) n = refl
no_name (pre e) n = refl
no_name (arrow a b) n = refl
no_name (cast t e) n = refl
no_name (call k es) n = refl
no_name (tuple es) n = refl
no_name (index a i) n = refl
no_name (literal es) n = refl
no_name (map_over k es) n = refl
no_name (fold_over k s es) n = refl

-- no iterator
pub no_iterator : (f : File) (locals : List Sized) (e : Expr) → ¬ (code_of e ≡ 15) → true ≡ iterated f locals e
no_iterator f locals (bool_lit b) n = refl
no_iterator f locals (int_lit i) n = refl
no_iterator f locals (float_lit b) n = refl
no_iterator f locals (char_lit c) n = refl
no_iterator f locals (var x) n = refl
no_iterator f locals (unary op e) n = refl
no_iterator f locals (binary op l r) n = refl
no_iterator f locals (if_then_else c t e) n = refl
no_iterator f locals (pre e) n = refl
no_iterator f locals (arrow a b) n = refl
no_iterator f locals (cast t e) n = refl
no_iterator f locals (call k es) n = refl
no_iterator f locals (tuple es) n = refl
no_iterator f locals (index a i) n = refl
no_iterator f locals (literal es) n = refl
no_iterator f locals (map_over k es) n = absurd (n refl)
no_iterator f locals (fold_over k s es) n = absurd (n refl)

-- ---- an expression's faults are its parts' and its own

and_true : (a : Bool) → a && true ≡ a
and_true true = refl
and_true false = refl

and_turned : (a b c : Bool) → a && b && c ≡ c && (a && b)
and_turned true b true = and_true b
and_turned true true false = refl
and_turned true false false = refl
and_turned false b true = refl
and_turned false b false = refl

-- an expression without parts, with one, two or three, and with a list of them
none_fits : (t : Bool) (at : ℕ) → unless t at ≡ unless (t && true) at
none_fits t at = ap (λ b. unless b at) (sym (and_true t))

one_fits : (a : Option ℕ) (t : Bool) (at : ℕ) → or_else a (unless t at) ≡ or_else (or_else a none) (unless (t && true) at)
one_fits none t at = none_fits t at
one_fits (some x) t at = refl

two_fit : (a b : Option ℕ) (t : Bool) (at : ℕ) → or_else a (or_else b (unless t at)) ≡ or_else (or_else a (or_else b none)) (unless (t && true) at)
two_fit none b t at = one_fits b t at
two_fit (some x) b t at = refl

three_fit : (a b c : Option ℕ) (t : Bool) (at : ℕ) → or_else a (or_else b (or_else c (unless t at))) ≡ or_else (or_else a (or_else b (or_else c none))) (unless (t && true) at)
three_fit none b c t at = two_fit b c t at
three_fit (some x) b c t at = refl

list_fits : (a : Option ℕ) (t : Bool) (at : ℕ) → or_else a (unless t at) ≡ or_else a (unless (t && true) at)
list_fits none t at = none_fits t at
list_fits (some x) t at = refl

map_fits : (a : Option ℕ) (x y t : Bool) (at : ℕ) → or_else a (unless (x && y && t) at) ≡ or_else a (unless (t && (x && y)) at)
map_fits none x y t at = ap (λ b. unless b at) (and_turned x y t)
map_fits (some n) x y t at = refl

fold_fits : (a b : Option ℕ) (x y t : Bool) (at : ℕ) → or_else a (or_else b (unless (x && y && t) at)) ≡ or_else (or_else a b) (unless (t && (x && y)) at)
fold_fits none b x y t at = map_fits b x y t at
fold_fits (some n) b x y t at = refl

module _ (f : File) (locals : List Sized) where
  abbrev M : Place → ℕ → Expr → Option ℕ
  M p at e = misplaced f locals p at e

  abbrev own : Place → ℕ → Expr → Option ℕ
  own p at e = unless (takes p (shape_in f locals e) && iterated f locals e) at

  pub misplaced_parts : (p : Place) (at : ℕ) (e : Expr) → misplaced f locals p at e ≡ or_else (misplaced_all f locals (part_places f locals e) (at + head_size e) (parts_of e)) (unless (takes p (shape_in f locals e) && iterated f locals e) at)
  unfolding misplaced misplaced_all
  misplaced_parts p at (bool_lit b) = none_fits (takes p none) at
  misplaced_parts p at (int_lit i) = none_fits (takes p none) at
  misplaced_parts p at (float_lit b) = none_fits (takes p none) at
  misplaced_parts p at (char_lit c) = none_fits (takes p none) at
  misplaced_parts p at (var x) = none_fits (takes p (shape_in f locals (var x))) at
  misplaced_parts p at (unary op e) = one_fits (M scalars (at + 2) e) (takes p none) at
  misplaced_parts p at (binary op l r) = two_fit (M (beside (equality op) (shape_in f locals r)) (at + 2) l) (M (beside (equality op) (shape_in f locals l)) (at + 2 + expr_size l) r) (takes p none) at
  misplaced_parts p at (if_then_else c t e) = three_fit (M scalars (at + 1) c) (M scalars (at + 1 + expr_size c) t) (M scalars (at + 1 + expr_size c + expr_size t) e) (takes p none) at
  misplaced_parts p at (pre e) = one_fits (M (under_pre f locals e) (at + 1) e) (takes p (shape_in f locals (pre e))) at
  misplaced_parts p at (arrow a b) = two_fit (M scalars (at + 1) a) (M scalars (at + 1 + expr_size a) b) (takes p none) at
  misplaced_parts p at (cast t e) = ap (λ n. or_else (M scalars n e) (unless (takes p none) at)) (add_assoc at 1 (ty_size t)) ∙ one_fits (M scalars (at + (1 + ty_size t)) e) (takes p none) at
  misplaced_parts p at (call k es) = list_fits (misplaced_all f locals (map under_variable (callee_in f k).inputs) (at + 3) es) (takes p (shape_in f locals (call k es))) at
  misplaced_parts p at (tuple es) = list_fits (misplaced_all f locals (each scalars es) (at + 2) es) (takes p none) at
  misplaced_parts p at (index a i) = two_fit (M anything (at + 1) a) (M scalars (at + 1 + expr_size a) i) (takes p none) at
  misplaced_parts p at (literal es) = list_fits (misplaced_all f locals (each scalars es) (at + 2) es) (takes p (shape_in f locals (literal es))) at
  misplaced_parts p at (map_over k es) = map_fits (misplaced_all f locals (each arrays es) (at + 4) es) (alike f locals es) (iterable (count es) (callee_in f k)) (takes p (shape_in f locals (map_over k es))) at
  misplaced_parts p at (fold_over k s es) = fold_fits (M scalars (at + 4) s) (misplaced_all f locals (each arrays es) (at + 4 + expr_size s) es) (alike f locals es) (iterable 2 (callee_in f k)) (takes p none) at
