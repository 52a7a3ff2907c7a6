-- Expressions that sit in a file: the head of the first, its parts, and those behind it.
use Prim.Native.Nat.{ℕ, suc, ◌+◌, ◌≤◌, ◌<◌}
use mathlib.Core.Bool.{true}
use mathlib.Core.List.{List, append-nil}
use mathlib.Core.Path.{◌≡◌, refl, sym, ap, subst, ◌∙◌}
use native.Mathlib.Omega.{arith}
use lib.ListN.{length, get_or}
use Rattle.ol_spec.specs.Syntax.{Expr, bool_lit, int_lit, float_lit, char_lit, var, unary, binary, if_then_else, pre, arrow, cast, call, tuple, index, literal, map_over, fold_over, Exprs, nil, cons, BinOp}
use Rattle.ol_spec.specs.Places.{expr_size, collect, collect_all}
use Rattle.ol_spec.specs.Encode.{bin_op_code, expr_bytes, exprs_bytes}
use Rattle.ol_spec.specs.Limits.{base}
use Rattle.ol_spec.specs.Shapes.{Sized}
use Rattle.ol_spec.specs.Within.{levels, deepest, expr_fits}
use Rattle.ol_spec.specs.Admission.{used_at, uses_where, bad_call, bad_iterator}
use Rattle.ol_spec.proofs.Tests.{T_and, and_t}
use Rattle.ol_spec.proofs.RoundTrip.Parts.{Here, here_front, here_back}
use Rattle.ol_spec.proofs.RoundTrip.Items.{expr_size_lem}
use Rattle.ol_tables.specs.At.{file_at}
use Rattle.ol_tables.specs.Heads.{parts_of, head_size, joined, HeadIs, Standing}
use Rattle.ol_tables.specs.Tables.{Each, Sound, node_of}
use Rattle.ol_tables.specs.Walks.{skip_at}
use Rattle.ol_tables.proofs.Forms.{each_append}
use Rattle.ol_tables.proofs.HeadLaws.{Headed, headed, here_byte_at, root_head}
use Rattle.ol_tables.proofs.Skipping.{skip_stands}
use Rattle.ol_shapes.specs.Sits.{HasLength, long_in, Sits}

-- ---- lists of expressions that stand there

pub joined_nil : (es : Exprs) → joined es nil ≡ es
unfolding joined
joined_nil nil = refl
joined_nil (cons e es) = ap (cons e) (joined_nil es)

module _ {s : List ℕ} {enums at : ℕ} where
  standing_one : (e : Expr) (es : Exprs) → Standing s enums at (cons e es) → Standing s enums at (cons e nil)
  standing_one e es h =
      record { here = subst (Here s at) (sym (append-nil (expr_bytes e))) (here_front (expr_bytes e) (exprs_bytes es) h.here); fit = and_t (expr_fits base enums e) true (T_and (expr_fits base enums e) _ h.fit).0 tt }

  standing_rest : (e : Expr) (es : Exprs) → Standing s enums at (cons e es) → Standing s enums (at + expr_size e) es
  standing_rest e es h =
      record { here = subst (λ n. Here s (at + n) (exprs_bytes es)) (expr_size_lem e) (here_back (expr_bytes e) (exprs_bytes es) h.here); fit = (T_and (expr_fits base enums e) _ h.fit).1 }

-- ---- levels

levels_parts : (e : Expr) → levels e ≡ suc (deepest (parts_of e))
levels_parts (bool_lit b) = refl
levels_parts (int_lit i) = refl
levels_parts (float_lit b) = refl
levels_parts (char_lit c) = refl
levels_parts (var x) = refl
levels_parts (unary op e) = omega arith
levels_parts (binary op l r) = omega arith
levels_parts (if_then_else c t e) = omega arith
levels_parts (pre e) = omega arith
levels_parts (arrow a b) = omega arith
levels_parts (cast t e) = omega arith
levels_parts (call k es) = refl
levels_parts (tuple es) = refl
levels_parts (index a i) = omega arith
levels_parts (literal es) = refl
levels_parts (map_over k es) = refl
levels_parts (fold_over k s es) = refl

-- ---- sitting

module _ {s rows slots plans : List ℕ} {k : ℕ} {locals : List Sized} where
  module _ {level at : ℕ} {e : Expr} {es : Exprs} (h : Sits s rows slots plans k locals level at (cons e es)) where
    pub sits_headed : Headed s (length (file_at s).enums) at e es
    sits_headed = headed e es h.stands

    pub sits_head : HeadIs s at e
    sits_head = sits_headed.head

    pub sits_inside : at < length s
    sits_inside = sits_headed.inside

    pub sits_near : at < 32768
    sits_near = omega (arith, sits_headed.inside, h.scope.stands.short)

    pub sits_some : 0 < level
    sits_some = omega (arith, h.deep, levels_parts e)

    pub sits_skip : skip_at s 1 at ≡ at + expr_size e
    sits_skip = skip_stands {es = cons e nil} refl (standing_one e es h.stands) ∙ omega arith

    -- those behind the first
    pub sits_rest : Sits s rows slots plans k locals level (at + expr_size e) es
    unfolding collect_all
    sits_rest =
        record {
          scope = h.scope;
          stands = standing_rest e es h.stands;
          deep = omega (arith, h.deep);
          lengths = (each_append _ (collect used_at at e) _ h.lengths).1;
          sound = (each_append _ (collect (uses_where (bad_call (file_at s) k (node_of (file_at s) k)) (bad_iterator k)) at e) _ h.sound).1;
        }

    -- what is told of its own name, and of its own call
    pub sits_own : Each (HasLength s slots (long_in s locals)) (used_at at e)
    unfolding collect_all
    sits_own = (each_append _ (used_at at e) _ (subst (Each _) (root_head used_at at e) (each_append _ (collect used_at at e) _ h.lengths).0)).0

    pub sits_uses : Each Sound (uses_where (bad_call (file_at s) k (node_of (file_at s) k)) (bad_iterator k) at e)
    unfolding collect_all
    sits_uses =
        let W = uses_where (bad_call (file_at s) k (node_of (file_at s) k)) (bad_iterator k) in
        (each_append _ (W at e) _ (subst (Each _) (root_head W at e) (each_append _ (collect W at e) _ h.sound).0)).0

  -- the parts of the first
  pub sits_parts : {level at : ℕ} {e : Expr} {es : Exprs} → Sits s rows slots plans k locals (suc level) at (cons e es) → Sits s rows slots plans k locals level (at + head_size e) (parts_of e)
  unfolding collect_all
  sits_parts {level} {at} {e} {es} h =
      let W = uses_where (bad_call (file_at s) k (node_of (file_at s) k)) (bad_iterator k) in
      record {
        scope = h.scope;
        stands = subst (Standing s (length (file_at s).enums) (at + head_size e)) (joined_nil (parts_of e)) (headed e nil (standing_one e es h.stands)).rest;
        deep = omega (arith, h.deep, levels_parts e);
        lengths = (each_append _ (used_at at e) _ (subst (Each _) (root_head used_at at e) (each_append _ (collect used_at at e) _ h.lengths).0)).1;
        sound = (each_append _ (W at e) _ (subst (Each _) (root_head W at e) (each_append _ (collect W at e) _ h.sound).0)).1;
      }

  -- with more levels
  pub sits_deeper : {level level' at : ℕ} {es : Exprs} → level ≤ level' → Sits s rows slots plans k locals level at es → Sits s rows slots plans k locals level' at es
  sits_deeper le h = record { scope = h.scope; stands = h.stands; deep = omega (arith, h.deep); lengths = h.lengths; sound = h.sound }

  -- at an offset that is equal
  pub sits_moved : {level at at' : ℕ} {es : Exprs} → at ≡ at' → Sits s rows slots plans k locals level at es → Sits s rows slots plans k locals level at' es
  sits_moved {level} {es = es} e h = subst (λ n. Sits s rows slots plans k locals level n es) e h

-- the operation of a Binary
pub op_told : {s : List ℕ} {enums at : ℕ} {es : Exprs} (op : BinOp) (l r : Expr) → Standing s enums at (cons (binary op l r) es) → get_or s (at + 1) 0 ≡ bin_op_code op
op_told {s} {enums} {at} {es} op l r h = here_byte_at (exprs_bytes (cons (binary op l r) es)) h.here 1 (omega arith)
