-- Shapes, as the bytes and the tables tell them.
use Prim.Native.Nat.{ℕ, zero, suc, ◌+◌, ◌-◌, ◌*◌, ◌≤◌, ◌<◌}
use mathlib.Core.Bool.{true, false, ◌&&◌}
use mathlib.Core.List.{List, [], ◌∷◌, ◌++◌, map, map-append}
use mathlib.Core.Logic.{by_cases}
use mathlib.Core.Option.{Option, none, some}
use mathlib.Core.Path.{◌≡◌, refl, sym, ap, ◌∙◌}
use native.Mathlib.Decide.{ℕ_discrete}
use native.Mathlib.Omega.{arith}
use lib.ListN.{length, get_or, length-append, length-map, get_or-append}
use lib.Seq.{get_or-append-add}
use lib.Dec.{T, eqb, ltb, leb, leb→le, ltb→lt, eqb→eq}
use borrow.Author.Tests.{eq-eqb, ne_eqb}
use Rattle.ol_spec.specs.Lists.{maybe, all_of}
use Rattle.ol_spec.specs.Syntax.{Expr, var, pre, call, map_over, fold_over, Exprs, nil, cons, count, Node, Variable, VarTy, scalar, array, bool, length_in, variables}
use Rattle.ol_spec.specs.Limits.{base}
use Rattle.ol_spec.specs.Places.{placed_nodes}
use Rattle.ol_spec.specs.Shapes.{Sized, output_shape}
use Rattle.ol_spec.specs.Within.{byte_fits, count_fits, name_fits, ty_fits, var_ty_fits, variable_fits}
use Rattle.ol_spec.specs.Admission.{may_call, callee_in, shape_in}
use Rattle.ol_spec.proofs.Tests.{T_and, not_false}
use Rattle.ol_tables.specs.At.{file_at}
use Rattle.ol_tables.specs.Heads.{code_of}
use Rattle.ol_tables.specs.Stands.{NodeStands}
use Rattle.ol_tables.specs.Tables.{Each, node_of, place_of, row_at, var_ty_of, var_ty_at}
use Rattle.ol_tables.proofs.Forms.{each_join}
use Rattle.ol_tables.proofs.HeadsFile.{node_at_lem}
use Rattle.ol_shapes.specs.Codes.{ArrayFits, length_shape, type_shape, call_shape}
use Rattle.ol_shapes.specs.Sits.{long_in, Scoped, Sits}
use Rattle.ol_shapes.specs.Judges.{MapIs, ShapeIs}
use Rattle.ol_shapes.proofs.Codes.{code_told, code_low, only_var, only_pre, only_call, only_literal, only_iterator, scalar_form, no_name}
use Rattle.ol_shapes.proofs.Sitting.{sits_head, sits_inside, sits_some, sits_own, sits_uses, sits_parts, sits_deeper}

-- ---- numbers

pub no_length : {n : ℕ} → n ≡ 0 → length_shape n ≡ none
no_length {n} e = rw (eq-eqb n 0 e) refl

pub some_length : {n : ℕ} → (n ≡ 0 → ⊥) → length_shape n ≡ some n
some_length {n = n} e = rw (ne_eqb n 0 e) refl

-- ---- arrays have elements

pub length_shape_lem : (o : Option ℕ) → ArrayFits o → length_shape (maybe 0 (λ n. n) o) ≡ o
length_shape_lem none h = refl
length_shape_lem (some n) h = some_length {n = n} (λ e. omega arith)

pub type_fits : (enums : ℕ) (t : VarTy) → T (var_ty_fits base enums t) → ArrayFits (length_in t)
type_fits enums (scalar t) h = tt
type_fits enums (array n t) h =
    let w = T_and (leb 1 n) (leb n 32) (T_and (byte_fits n) _ (T_and (count_fits 1 32 n) (ty_fits enums t) h).0).1 in
    leb→le 1 n w.0

abbrev pub VariableFits : Variable → Type 0
VariableFits v = ArrayFits (length_in v.ty)

variables_fit : (enums : ℕ) (vs : List Variable) → T (all_of (variable_fits base enums) vs) → Each VariableFits vs
variables_fit enums [] h = tt
variables_fit enums (v ∷ vs) h =
    let w = T_and (variable_fits base enums v) _ h in
    (type_fits enums v.ty (T_and (name_fits v.name) _ w.0).1, variables_fit enums vs w.1)

fits_at : (vs : List Variable) (i : ℕ) → Each VariableFits vs → ArrayFits (length_in (var_ty_at vs i))
fits_at [] zero h = tt
fits_at [] (suc i) h = tt
fits_at (v ∷ vs) zero h = h.0
fits_at (v ∷ vs) (suc i) h = fits_at vs i h.1

pub node_fits_lem : {s : List ℕ} {enums at : ℕ} {n : Node} → NodeStands s enums at n → Each VariableFits (variables n)
node_fits_lem {s} {enums} {at} {n} h =
    each_join VariableFits (n.inputs ++ n.outputs) n.locals (each_join VariableFits n.inputs n.outputs (variables_fit enums n.inputs h.inputs.fit) (variables_fit enums n.outputs h.outputs.fit))
    (variables_fit enums n.locals h.locals.fit)

-- ---- the types of a node's variables

map_at : (vs ws : List Variable) (i : ℕ) → i < length vs → var_ty_at (vs ++ ws) i ≡ var_ty_at vs i
map_at vs ws i h = ap (λ l. get_or l i (scalar bool)) (map-append var_ty_of vs ws) ∙ get_or-append (map var_ty_of vs) (map var_ty_of ws) (scalar bool) i (omega (arith, length-map vs var_ty_of))

map_behind : (vs ws : List Variable) (i : ℕ) → var_ty_at (vs ++ ws) (length vs + i) ≡ var_ty_at ws i
map_behind vs ws i =
    ap (λ l. get_or l (length vs + i) (scalar bool)) (map-append var_ty_of vs ws)
    ∙ ap (λ m. get_or (map var_ty_of vs ++ map var_ty_of ws) (m + i) (scalar bool)) (sym (length-map vs var_ty_of)) ∙ get_or-append-add (map var_ty_of vs) (map var_ty_of ws) i (scalar bool)

pub input_type_lem : (n : Node) (i : ℕ) → i < length n.inputs → var_ty_at (variables n) i ≡ var_ty_at n.inputs i
input_type_lem n i h = map_at (n.inputs ++ n.outputs) n.locals i (omega (arith, length-append n.inputs n.outputs)) ∙ map_at n.inputs n.outputs i h

pub output_type : (n : Node) (i : ℕ) → i < length n.outputs → var_ty_at (variables n) (length n.inputs + i) ≡ var_ty_at n.outputs i
output_type n i h = map_at (n.inputs ++ n.outputs) n.locals (length n.inputs + i) (omega (arith, length-append n.inputs n.outputs)) ∙ map_behind n.inputs n.outputs i

pub variables_many : (n : Node) → length (variables n) ≡ length n.inputs + length n.outputs + length n.locals
variables_many n = omega (arith, length-append (n.inputs ++ n.outputs) n.locals, length-append n.inputs n.outputs)

module _ {s rows slots plans : List ℕ} {k : ℕ} {locals : List Sized} (sc : Scoped s rows slots plans k locals) where
  module _ (c : ℕ) (low : c < length (file_at s).nodes) where
    pub scoped_node : NodeStands s (length (file_at s).enums) (place_of (placed_nodes (file_at s)) c) (node_of (file_at s) c)
    scoped_node = node_at_lem sc.stands c low

    pub type_fit : (i : ℕ) → ArrayFits (length_in (var_ty_at (variables (node_of (file_at s) c)) i))
    type_fit i = fits_at (variables (node_of (file_at s) c)) i (node_fits_lem scoped_node)

    -- the shape of a variable
    pub type_shape_lem : (i : ℕ) → i < length (variables (node_of (file_at s) c)) → type_shape rows plans c i ≡ length_in (var_ty_at (variables (node_of (file_at s) c)) i)
    type_shape_lem i h =
        ap (λ n. length_shape (get_or plans (n + 2 * i + 1) 0)) (sc.typed.row c low).place
        ∙ ap length_shape (sc.typed.types c low i h).length
        ∙ length_shape_lem (length_in (var_ty_at (variables (node_of (file_at s) c)) i)) (type_fit i)

    pub input_shape : (i : ℕ) → i < length (node_of (file_at s) c).inputs → type_shape rows plans c i ≡ length_in (var_ty_at (node_of (file_at s) c).inputs i)
    input_shape i h =
        let n = node_of (file_at s) c in
        type_shape_lem i (omega (arith, variables_many n)) ∙ ap length_in (input_type_lem n i h)

    pub output_shape_lem : (i : ℕ) → i < length (node_of (file_at s) c).outputs → type_shape rows plans c (length (node_of (file_at s) c).inputs + i) ≡ length_in (var_ty_at (node_of (file_at s) c).outputs i)
    output_shape_lem i h =
        let n = node_of (file_at s) c in
        type_shape_lem (length n.inputs + i) (omega (arith, variables_many n)) ∙ ap length_in (output_type n i h)

    -- the shape of a call
    pub call_shape_is : call_shape rows plans c ≡ output_shape (node_of (file_at s) c).outputs
    call_shape_is = go (node_of (file_at s) c).outputs refl
      where
        n : Node
        n = node_of (file_at s) c

        many : row_at rows c 3 ≡ length (node_of (file_at s) c).outputs
        many = (sc.typed.row c low).outputs

        go : (os : List Variable) → (node_of (file_at s) c).outputs ≡ os → call_shape rows plans c ≡ output_shape os
        go [] e = rw (many ∙ ap (λ (l : List Variable). length l) e) refl
        go (v ∷ []) e =
            let one : length (node_of (file_at s) c).outputs ≡ 1 = ap (λ (l : List Variable). length l) e in
            let z : length (node_of (file_at s) c).inputs ≡ length (node_of (file_at s) c).inputs + 0 = omega arith in
            rw (many ∙ one) (ap (type_shape rows plans c) ((sc.typed.row c low).inputs ∙ z) ∙ output_shape_lem 0 (omega (arith, one)) ∙ ap (λ (l : List Variable). length_in (var_ty_at l 0)) e)
        go (v ∷ w ∷ os) e = rw (many ∙ ap (λ (l : List Variable). length l) e, ne_eqb (length (v ∷ w ∷ os)) 1 (λ z. omega arith)) refl

pub few_nodes_lem : {s rows slots plans : List ℕ} {k : ℕ} {locals : List Sized} → Scoped s rows slots plans k locals → length (file_at s).nodes ≤ 32
few_nodes_lem sc = sc.stands.few_nodes

-- ---- the shapes of forms

module _ {s rows slots plans : List ℕ} {k : ℕ} {locals : List Sized} {level at : ℕ} where
  pub sits_code : (e : Expr) (es : Exprs) → Sits s rows slots plans k locals level at (cons e es) → get_or s at 0 ≡ code_of e
  sits_code e es h = code_told s at e (sits_head h)

  -- a call's node, and an iterator's, are among the file's
  pub call_low : (c : ℕ) (as' es : Exprs) → Sits s rows slots plans k locals level at (cons (call c as') es) → (c < length (file_at s).nodes) × (count as' ≡ length (node_of (file_at s) c).inputs)
  call_low c as' es h =
      let f = file_at s in
      let n = node_of f k in
      let ok = not_false (ltb c k && may_call n.kind (callee_in f c).kind && eqb (count as') (length (callee_in f c).inputs)) (sits_uses h).0 in
      let w = T_and (ltb c k && may_call n.kind (callee_in f c).kind) _ ok in
      (omega (arith, ltb→lt c k (T_and (ltb c k) _ w.0).0, h.scope.low), eqb→eq (count as') (length (callee_in f c).inputs) w.1)

  pub map_low : (c : ℕ) (as' es : Exprs) → Sits s rows slots plans k locals level at (cons (map_over c as') es) → c < length (file_at s).nodes
  map_low c as' es h = omega (arith, ltb→lt c k (not_false (ltb c k) (sits_uses h).0), h.scope.low)

  pub fold_low : (c : ℕ) (a : Expr) (as' es : Exprs) → Sits s rows slots plans k locals level at (cons (fold_over c a as') es) → c < length (file_at s).nodes
  fold_low c a as' es h = omega (arith, ltb→lt c k (not_false (ltb c k) (sits_uses h).0), h.scope.low)

  -- a byte of 15 or more is an iterator's
  pub iterator_code : (e : Expr) (es : Exprs) → Sits s rows slots plans k locals level at (cons e es) → 15 ≤ get_or s at 0 → code_of e ≡ 15
  iterator_code e es h le = omega (arith, sits_code e es h, code_low e)

  pub iterator_byte : (e : Expr) (es : Exprs) → Sits s rows slots plans k locals level at (cons e es) → 15 ≤ get_or s at 0 → get_or s at 0 ≡ 15
  iterator_byte e es h le = sits_code e es h ∙ iterator_code e es h le

  own_shape : (x : ℕ) (es : Exprs) → Sits s rows slots plans k locals level at (cons (var x) es) → length_shape (get_or slots at 0) ≡ long_in s locals x
  own_shape x es h = ap length_shape ((sits_own h).0.length at refl (sits_inside h)) ∙ length_shape_lem (long_in s locals x) (h.scope.sized x)

  pub form_var : (e : Expr) (es : Exprs) → Sits s rows slots plans k locals level at (cons e es) → get_or s at 0 ≡ 4 → length_shape (get_or slots at 0) ≡ shape_in (file_at s) locals e
  form_var e es h q = only_var (λ e. Sits s rows slots plans k locals level at (cons e es) → length_shape (get_or slots at 0) ≡ shape_in (file_at s) locals e) (λ x h. own_shape x es h) e (sym (sits_code e es h) ∙ q) h

  pub form_call : (e : Expr) (es : Exprs) → Sits s rows slots plans k locals level at (cons e es) → get_or s at 0 ≡ 11 → {d : ℕ} {r : Option ℕ} → d ≡ get_or s (at + 1) 0 → (d < 32 → r ≡ call_shape rows plans d) → r ≡ shape_in (file_at s) locals e
  form_call e es h q {d} {r} to t =
      only_call (λ e. Sits s rows slots plans k locals level at (cons e es) → r ≡ shape_in (file_at s) locals e)
      (λ c as' h.
      let same : d ≡ c = to ∙ (sits_head h).1 in
      let low = (call_low c as' es h).0 in
      t (omega (arith, low, same, few_nodes_lem h.scope)) ∙ ap (call_shape rows plans) same ∙ call_shape_is h.scope c low)
      e (sym (sits_code e es h) ∙ q) h

  pub form_literal : (e : Expr) (es : Exprs) → Sits s rows slots plans k locals level at (cons e es) → get_or s at 0 ≡ 14 → some (get_or s (at + 1) 0) ≡ shape_in (file_at s) locals e
  form_literal e es h q = only_literal (λ e. Sits s rows slots plans k locals level at (cons e es) → some (get_or s (at + 1) 0) ≡ shape_in (file_at s) locals e) (λ as' h. ap some (sits_head h).1) e (sym (sits_code e es h) ∙ q) h

  pub form_other : (e : Expr) (es : Exprs) → Sits s rows slots plans k locals level at (cons e es) → MapIs s at false → ¬ (get_or s at 0 ≡ 4) → ¬ (get_or s at 0 ≡ 8) → ¬ (get_or s at 0 ≡ 11) → ¬ (get_or s at 0 ≡ 14) → none ≡ shape_in (file_at s) locals e
  form_other e es h m n4 n8 n11 n14 =
      let c = sits_code e es h in
      by_cases (ℕ_discrete (get_or s at 0) 15)
      (λ q. only_iterator (λ e. Sits s rows slots plans k locals level at (cons e es) → none ≡ shape_in (file_at s) locals e) (λ k as' h. absurd (m (omega (arith, (sits_head h).0)) (sits_head h).1)) (λ k a as' h. refl) e (sym c ∙ q) h)
      (λ q. sym (scalar_form (file_at s) locals e (λ z. n4 (c ∙ z)) (λ z. n8 (c ∙ z)) (λ z. n11 (c ∙ z)) (λ z. n14 (c ∙ z)) (λ z. q (c ∙ z))))

  -- a map without arrays
  pub map_none : (e : Expr) (es : Exprs) → Sits s rows slots plans k locals level at (cons e es) → MapIs s at true → get_or s (at + 3) 0 ≡ 0 → some 0 ≡ shape_in (file_at s) locals e
  map_none e es h m z =
      only_iterator (λ e. Sits s rows slots plans k locals level at (cons e es) → some 0 ≡ shape_in (file_at s) locals e) (λ c as' h. go c as' (sym (sits_head h).3 ∙ z)) (λ c a as' h. absurd (omega (arith, (sits_head h).1, m.1))) e (iterator_code e es h m.0) h
    where
      go : (c : ℕ) (as' : Exprs) → count as' ≡ 0 → some 0 ≡ shape_in (file_at s) locals (map_over c as')
      go c nil e = refl
      go c (cons a as') e = absurd (omega arith)

-- a pre of a Var, and of another
module _ {s rows slots plans : List ℕ} {k : ℕ} {locals : List Sized} {level at : ℕ} where
  pre_part : (a : Expr) (es : Exprs) → Sits s rows slots plans k locals level at (cons (pre a) es) → Sits s rows slots plans k locals level (at + 1) (cons a nil)
  pre_part a es h = sits_parts (sits_deeper (omega arith) h)

  pub form_pre : (e : Expr) (es : Exprs) → Sits s rows slots plans k locals level at (cons e es) → get_or s at 0 ≡ 8 → get_or s (at + 1) 0 ≡ 4 → length_shape (get_or slots (at + 1) 0) ≡ shape_in (file_at s) locals e
  form_pre e es h q r =
      only_pre (λ e. Sits s rows slots plans k locals level at (cons e es) → length_shape (get_or slots (at + 1) 0) ≡ shape_in (file_at s) locals e)
      (λ a h. only_var (λ a. Sits s rows slots plans k locals level (at + 1) (cons a nil) → length_shape (get_or slots (at + 1) 0) ≡ shape_in (file_at s) locals (pre a))
      (λ x g. own_shape x nil g) a (sym (code_told s (at + 1) a (sits_head (pre_part a es h))) ∙ r) (pre_part a es h))
      e (sym (code_told s at e (sits_head h)) ∙ q) h

  pub form_pre_other : (e : Expr) (es : Exprs) → Sits s rows slots plans k locals level at (cons e es) → get_or s at 0 ≡ 8 → ¬ (get_or s (at + 1) 0 ≡ 4) → none ≡ shape_in (file_at s) locals e
  form_pre_other e es h q r =
      only_pre (λ e. Sits s rows slots plans k locals level at (cons e es) → none ≡ shape_in (file_at s) locals e)
      (λ a h. sym (ap (maybe none (long_in s locals)) (no_name a (λ z. r (code_told s (at + 1) a (sits_head (pre_part a es h)) ∙ z)))))
      e (sym (code_told s at e (sits_head h)) ∙ q) h

-- a map is as long as its first array
pub map_first : {s rows slots plans : List ℕ} {k : ℕ} {locals : List Sized} {level at : ℕ} {inner : Option ℕ} (e : Expr) (es : Exprs) → Sits s rows slots plans k locals level at (cons e es) → MapIs s at true
    → ¬ (get_or s (at + 3) 0 ≡ 0) → ShapeIs s rows slots plans (level - 1) (at + 4) inner → some (maybe 0 (λ n. n) inner) ≡ shape_in (file_at s) locals e
map_first {s} {rows} {slots} {plans} {k} {locals} {level} {at} {inner} e es h m z i =
    only_iterator (λ e. Sits s rows slots plans k locals level at (cons e es) → some (maybe 0 (λ n. n) inner) ≡ shape_in (file_at s) locals e)
    (λ c as' h. go c as' (λ y. z ((sits_head h).3 ∙ y)) (sits_parts (sits_deeper (omega (arith, sits_some h)) h)))
    (λ c a as' h. absurd (omega (arith, (sits_head h).1, m.1))) e (iterator_code e es h m.0) h
  where
    go : (c : ℕ) (as' : Exprs) → ¬ (count as' ≡ 0) → Sits s rows slots plans k locals (level - 1) (at + 4) as' → some (maybe 0 (λ n. n) inner) ≡ shape_in (file_at s) locals (map_over c as')
    go c nil y g = absurd (y refl)
    go c (cons a as') y g = ap (λ o. some (maybe 0 (λ n. n) o)) (i.is k locals a as' g)
