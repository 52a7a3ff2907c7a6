-- Laws of the nodes that the expressions at a place call or iterate.
use Prim.Native.Nat.{ℕ, suc, ◌+◌, ◌-◌}
use mathlib.Core.List.{List, [], ◌∷◌, ◌++◌, append-nil}
use mathlib.Core.Path.{◌≡◌, refl, sym, ap, ◌∙◌}
use Rattle.ol_spec.specs.Syntax.{Expr, bool_lit, int_lit, float_lit, char_lit, var, unary, binary, if_then_else, pre, arrow, cast, call, tuple, index, literal, map_over, fold_over, Exprs}
use Rattle.ol_spec.proofs.Forms.{uses, uses_all}
use Rattle.ol_tables.specs.At.{expr_at, end_at, exprs_at, ReadsAll}
use Rattle.ol_tables.specs.Heads.{parts_of, head_size as head_of}
use Rattle.ol_tables.proofs.Forms.{Formed, one_tree, parted}

-- the nodes that a form itself calls or iterates
abbrev pub own_uses : Expr → List ℕ
own_uses (bool_lit b) = []
own_uses (int_lit i) = []
own_uses (float_lit b) = []
own_uses (char_lit c) = []
own_uses (var x) = []
own_uses (unary op e) = []
own_uses (binary op l r) = []
own_uses (if_then_else c t e) = []
own_uses (pre e) = []
own_uses (arrow a b) = []
own_uses (cast t e) = []
own_uses (call k es) = k ∷ []
own_uses (tuple es) = []
own_uses (index a i) = []
own_uses (literal es) = []
own_uses (map_over k es) = k ∷ []
own_uses (fold_over k s es) = k ∷ []

uses_parts : (e : Expr) → uses e ≡ own_uses e ++ uses_all (parts_of e)
uses_parts (bool_lit b) = refl
uses_parts (int_lit i) = refl
uses_parts (float_lit b) = refl
uses_parts (char_lit c) = refl
uses_parts (var x) = refl
uses_parts (unary op e) = sym (append-nil (uses e))
uses_parts (binary op l r) = ap (λ (x : List ℕ). uses l ++ x) (sym (append-nil (uses r)))
uses_parts (if_then_else c t e) = ap (λ (x : List ℕ). uses c ++ (uses t ++ x)) (sym (append-nil (uses e)))
uses_parts (pre e) = sym (append-nil (uses e))
uses_parts (arrow a b) = ap (λ (x : List ℕ). uses a ++ x) (sym (append-nil (uses b)))
uses_parts (cast t e) = sym (append-nil (uses e))
uses_parts (call k es) = refl
uses_parts (tuple es) = refl
uses_parts (index a i) = ap (λ (x : List ℕ). uses a ++ x) (sym (append-nil (uses i)))
uses_parts (literal es) = refl
uses_parts (map_over k es) = refl
uses_parts (fold_over k s es) = refl

module _ (s : List ℕ) where
  -- of the first of several and of the others, of one, and of one by its form
  pub uses_cons : (level n at : ℕ) → ReadsAll s level (suc n) at → uses_all (exprs_at s level (suc n) at) ≡ uses (expr_at s level at) ++ uses_all (exprs_at s level n (end_at s level at))
  uses_cons level n at h = ap uses_all (parted s level n at h).trees

  pub uses_one : (level at : ℕ) → ReadsAll s level 1 at → uses_all (exprs_at s level 1 at) ≡ uses (expr_at s level at)
  uses_one level at h = ap uses_all (one_tree s level at h).0 ∙ append-nil (uses (expr_at s level at))

  pub uses_form : (level at n : ℕ) {t : Expr} → ReadsAll s level 1 at → Formed s level at t n → uses_all (exprs_at s level 1 at) ≡ own_uses t ++ uses_all (exprs_at s (level - 1) n (at + head_of t))
  uses_form level at n {t} h f = uses_one level at h ∙ ap uses f.tree ∙ uses_parts t ∙ ap (λ (es : Exprs). own_uses t ++ uses_all es) f.parts
