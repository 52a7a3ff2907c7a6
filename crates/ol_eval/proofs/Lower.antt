-- Laws of plans: the nodes that are called or iterated are of lower numbers.
use Prim.Native.Nat.{ℕ, ◌+◌, ◌<◌}
use mathlib.Core.Bool.{false}
use mathlib.Core.List.{List, ◌++◌}
use mathlib.Core.Path.{◌≡◌}
use lib.Dec.{ltb, ltb→lt}
use Rattle.ol_spec.specs.Syntax.{File, Node, Expr, bool_lit, int_lit, float_lit, char_lit, var, unary, binary, if_then_else, pre, arrow, cast, call, tuple, index, literal, map_over, fold_over}
use Rattle.ol_spec.specs.Syntax.{Exprs, nil, cons, count}
use Rattle.ol_spec.specs.Places.{collect, collect_all, expr_size}
use Rattle.ol_spec.specs.Admission.{Item, uses_where, bad_call, bad_iterator}
use Rattle.ol_spec.proofs.Forms.{uses, uses_all}
use Rattle.ol_spec.proofs.Tests.{not_false}
use Rattle.ol_tables.specs.At.{file_at, node_in, exprs_at}
use Rattle.ol_tables.specs.Tables.{Each, Sound}
use Rattle.ol_tables.proofs.Forms.{each_append, each_join}
use Rattle.ol_frame.specs.Walk.{Below}
use Rattle.ol_frame.specs.Plans.{Plan}
use Rattle.ol_frame.proofs.Planning.{sound_call}

module _ (f : File) (k : ℕ) (n : Node) where
  abbrev items : ℕ → Expr → List Item
  items = uses_where (bad_call f k n) (bad_iterator k)

  iterated : (c : ℕ) → bad_iterator k c ≡ false → c < k
  iterated c h = ltb→lt c k (not_false (ltb c k) h)

  mutual
    unfolding collect

    uses_lower : (at : ℕ) (e : Expr) → Each Sound (collect (uses_where (bad_call f k n) (bad_iterator k)) at e) → Each (Below k) (uses e)
    uses_lower at (bool_lit b) h = tt
    uses_lower at (int_lit i) h = tt
    uses_lower at (float_lit b) h = tt
    uses_lower at (char_lit c) h = tt
    uses_lower at (var x) h = tt
    uses_lower at (unary op e) h = uses_lower (at + 2) e h
    uses_lower at (binary op l r) h =
        let t = each_append Sound (collect items (at + 2) l) (collect items (at + 2 + expr_size l) r) h in
        each_join (Below k) (uses l) (uses r) (uses_lower _ l t.0) (uses_lower _ r t.1)
    uses_lower at (if_then_else c t e) h =
        let C = collect items (at + 1) c in
        let D = collect items (at + 1 + expr_size c) t in
        let E = collect items (at + 1 + expr_size c + expr_size t) e in
        let u = each_append Sound C (D ++ E) h in
        let v = each_append Sound D E u.1 in
        each_join (Below k) (uses c) (uses t ++ uses e) (uses_lower _ c u.0) (each_join (Below k) (uses t) (uses e) (uses_lower _ t v.0) (uses_lower _ e v.1))
    uses_lower at (pre e) h = uses_lower (at + 1) e h
    uses_lower at (arrow a b) h =
        let t = each_append Sound (collect items (at + 1) a) (collect items (at + 1 + expr_size a) b) h in
        each_join (Below k) (uses a) (uses b) (uses_lower _ a t.0) (uses_lower _ b t.1)
    uses_lower at (cast t e) h = uses_lower _ e h
    uses_lower at (call c es) h = ((sound_call f k n c (count es) h.0).lower, all_lower (at + 3) es h.1)
    uses_lower at (tuple es) h = all_lower (at + 2) es h
    uses_lower at (index a i) h =
        let t = each_append Sound (collect items (at + 1) a) (collect items (at + 1 + expr_size a) i) h in
        each_join (Below k) (uses a) (uses i) (uses_lower _ a t.0) (uses_lower _ i t.1)
    uses_lower at (literal es) h = all_lower (at + 2) es h
    uses_lower at (map_over c es) h = (iterated c h.0, all_lower (at + 4) es h.1)
    uses_lower at (fold_over c e es) h =
        let t = each_append Sound (collect items (at + 4) e) (collect_all items (at + 4 + expr_size e) es) h.1 in
        (iterated c h.0, each_join (Below k) (uses e) (uses_all es) (uses_lower _ e t.0) (all_lower _ es t.1))

    pub all_lower : (at : ℕ) (es : Exprs) → Each Sound (collect_all (uses_where (bad_call f k n) (bad_iterator k)) at es) → Each (Below k) (uses_all es)
    all_lower at nil h = tt
    all_lower at (cons e es) h =
        let t = each_append Sound (collect items at e) (collect_all items (at + expr_size e) es) h in
        each_join (Below k) (uses e) (uses_all es) (uses_lower at e t.0) (all_lower _ es t.1)

-- those of n expressions
pub plan_lower : {file tab rows consts : List ℕ} {node level n at : ℕ} → Plan file tab rows consts node level n at → Each (Below node) (uses_all (exprs_at file level n at))
plan_lower {file} {node = node} {level = level} {n = n} {at = at} p = all_lower (file_at file) node (node_in file node) at (exprs_at file level n at) p.sound
