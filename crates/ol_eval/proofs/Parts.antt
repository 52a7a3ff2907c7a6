-- Laws of one part of a call, a Tuple, a literal or an iterator: its cells are left at the front of `to`, and passed on.
use Prim.Native.Nat.{ℕ, zero, suc, ◌+◌, ◌*◌, ◌≤◌, ◌<◌}
use mathlib.Core.Bool.{Bool}
use mathlib.Core.List.{List, [], ◌∷◌, ◌++◌, map}
use mathlib.Core.Option.{Option, none, some}
use mathlib.Core.Path.{◌≡◌, refl, sym, ap, subst, ◌∙◌}
use native.Mathlib.Omega.{arith}
use lib.ListN.{length, take, drop, replicate, length-append, length-replicate, take-append-drop}
use lib.Seq.{length-take-le}
use Rattle.std.specs.Prelude.{MatchOption, max}
use Rattle.std.specs.Prelude.{Option as Callee, Some, None}
use Rattle.ol_spec.specs.Lists.{maybe, is_some}
use Rattle.ol_spec.specs.Syntax.{Ty, VarTy, scalar, array, Variable, Node, variables, type_cells}
use Rattle.ol_spec.specs.Cell.{values_of}
use Rattle.ol_spec.specs.Types.{fit}
use Rattle.ol_spec.specs.Step.{fit_all}
use Rattle.ol_spec.specs.Eval.{Outcomes, values, failure, overflow, several, cells_by}
use Rattle.ol_spec.specs.declared.Value.{Value}
use Rattle.ol_spec.specs.declared.Outcome.{Outcome}
use Rattle.ol_spec.specs.declared.Outcome.TheVariants as Out
use Rattle.ol_tables.specs.At.{node_in, expr_at, end_at}
use Rattle.ol_tables.specs.Tables.{enum_at, element_of, var_ty_at}
use Rattle.ol_tables.proofs.Lending.{put_tail, put_tail_lem, drop_put}
use Rattle.ol_frame.specs.Walk.{nodes_in}
use Rattle.ol_frame.specs.Plans.{Program, Plan, shape_in, span_in, seg_at, eval_in, array_in}
use Rattle.ol_frame.specs.Outcomes.{ending_of}
use Rattle.ol_frame.specs.Stores.{passed_with, Puts, FitsPart}
use Rattle.ol_frame.specs.declared.outcomes.Ending.{Ending}
use Rattle.ol_frame.proofs.Programs.{Long, no_length}
use Rattle.ol_frame.proofs.Shaping.{span_long}
use Rattle.ol_frame.proofs.Storing.{typed, values_append, values_front}
use Rattle.ol_eval.specs.Post.{EvalsTo}
use Rattle.ol_eval.specs.Calls.{Holds, as_is, RanTo, ArrayTo, Part, PartTo, cells_at, passed_part}
use Rattle.ol_eval.specs.declared.eval.Step.{Step}

-- ---- values in cells, one behind the other

-- a front that was kept
pub values_kept : (a : ℕ) (s x : List ℕ) → 9 * a ≤ length s → values_of a (put_tail (9 * a) s x) ≡ values_of a s
values_kept a s x le =
    let l : 9 * a ≤ length (take (9 * a) s) = omega (arith, length-take-le (9 * a) s le) in
    ap (values_of a) (put_tail_lem (9 * a) s x) ∙ values_front a (take (9 * a) s) x l
    ∙ sym (values_front a (take (9 * a) s) (drop (9 * a) s) l) ∙ ap (values_of a) (take-append-drop (9 * a) s)

-- and what was put behind it
pub values_behind : (a b : ℕ) (s x : List ℕ) → 9 * a ≤ length s → values_of (a + b) (put_tail (9 * a) s x) ≡ values_of a s ++ values_of b x
values_behind a b s x le =
    values_append a b (put_tail (9 * a) s x) ∙ (λ i. values_kept a s x le i ++ values_of b (drop_put (9 * a) s x le i))

-- ---- values fitted to the types of cells

pub fit_append : (ts us : List Ty) (vs ws : List Value) → length vs ≡ length ts → fit_all (ts ++ us) (vs ++ ws) ≡ fit_all ts vs ++ fit_all us ws
unfolding fit_all
fit_append [] us [] ws e = refl
fit_append [] us (v ∷ vs) ws e = absurd (omega arith)
fit_append (t ∷ ts) us [] ws e = absurd (omega arith)
fit_append (t ∷ ts) us (v ∷ vs) ws e = ap (λ (l : List Value). fit t v ∷ l) (fit_append ts us vs ws (omega arith))

fit_many : (n : ℕ) (t : Ty) (ws : List Value) → length ws ≡ n → fit_all (replicate n t) ws ≡ map (fit t) ws
unfolding fit_all
fit_many zero t [] e = refl
fit_many zero t (w ∷ ws) e = absurd (omega arith)
fit_many (suc n) t [] e = absurd (omega arith)
fit_many (suc n) t (w ∷ ws) e = ap (λ (l : List Value). fit t w ∷ l) (fit_many n t ws (omega arith))

-- the cells of one variable
pub fit_type : (t : VarTy) (ws : List Value) → length ws ≡ length (type_cells t) → fit_all (type_cells t) ws ≡ map (fit (element_of t)) ws
unfolding fit_all
fit_type (scalar t) [] e = absurd (omega arith)
fit_type (scalar t) (w ∷ []) e = refl
fit_type (scalar t) (w ∷ v ∷ ws) e = absurd (omega arith)
fit_type (array n t) ws e = fit_many n t ws (e ∙ length-replicate n t)

-- the variable behind others
pub type_behind : (vs : List Variable) (v : Variable) (ws : List Variable) (i : ℕ) → length vs ≡ i → var_ty_at (vs ++ v ∷ ws) i ≡ v.ty
type_behind [] v ws zero e = refl
type_behind [] v ws (suc i) e = absurd (omega arith)
type_behind (u ∷ vs) v ws zero e = absurd (omega arith)
type_behind (u ∷ vs) v ws (suc i) e = type_behind vs v ws i (omega arith)

-- the type of an input is that of its variable
pub input_type : (n : Node) (i : ℕ) → i < length n.inputs → var_ty_at (variables n) i ≡ var_ty_at n.inputs i
input_type n i h = go n.inputs n.outputs n.locals i h
  where
    go : (vs ws us : List Variable) (i : ℕ) → i < length vs → var_ty_at (vs ++ ws ++ us) i ≡ var_ty_at vs i
    go [] ws us i h = absurd (omega arith)
    go (v ∷ vs) ws us zero h = refl
    go (v ∷ vs) ws us (suc i) h = go vs ws us i (omega arith)

-- ---- values passed on, by the table

-- the enum's number of the input that they are passed on as
abbrev enum_for : List ℕ → Callee ℕ → ℕ → ℕ
enum_for tab (Some k) i = enum_at tab k i
enum_for tab None i = 0

passed_type : {file tab rows : List ℕ} (callee : Callee ℕ) (i : ℕ) → Program file tab rows → MatchOption callee (Unit {0}) (λ k. (k < nodes_in file) × (i < length (node_in file k).inputs) × (Unit {0}))
    → (vs : List Value) → map (passed_with tab callee i (enum_for tab callee i)) vs ≡ passed_part file callee i vs
passed_type {file} {tab} (Some k) i p c vs =
    let N = node_in file k in
    let l : i < length (variables N) = omega (arith, c.1, length-append (N.inputs ++ N.outputs) N.locals, length-append N.inputs N.outputs) in
    ap (λ (t : Ty). map (fit t) vs) ((typed k p c.0).types i l ∙ ap element_of (input_type N i c.1))
passed_type None i p c [] = refl
passed_type {tab = tab} None i p c (v ∷ vs) = ap (λ (l : List Value). v ∷ l) (passed_type {tab = tab} None i p c vs)

-- an input of the callee is told by a part
known_input : {file : List ℕ} (callee : Callee ℕ) {i node level at m free : ℕ} → Part file callee i node level at m free → MatchOption callee (Unit {0}) (λ k. (k < nodes_in file) × (i < length (node_in file k).inputs) × (Unit {0}))
known_input (Some k) q = (q.called.0, q.called.1, tt)
known_input None q = tt

module _ {file tab rows : List ℕ} (consts : List ℕ) {callee : Callee ℕ} {i node level at m free : ℕ} (p : Program file tab rows) (q : Part file callee i node level at m free) (first : Bool) (cells before : List ℕ) where
  -- a scalar, whose value was put
  pub part_scalar : {old new room room' : List ℕ} {r : Step Outcome} {end : Ending} → shape_in file node (expr_at file level at) ≡ none → EvalsTo file consts level at node first cells before old r new → end ≡ ending_of (several r.out) → Puts tab callee i r.out room room'
      → PartTo file consts callee i level at node first cells before old (record { out = end; next = r.next; used = r.used }) room' new
  unfolding cells_by
  part_scalar {old} {new} {room} {room'} {r} {end} s h e w =
      subst (λ (o : Option ℕ). RanTo (passed_part file callee i) (cells_by (is_some o) (λ x. array_in file consts node first cells before (expr_at file level at) x) (λ x. eval_in file consts node first cells before (expr_at file level at) x) (take (seg_at file level at) old)) (end_at file level at) (seg_at file level at) old (record { out = end; next = r.next; used = r.used }) (values_of (maybe 1 (λ n. n) o) room') new) (sym s)
      (record {
        end_is = e ∙ ap (λ (o : Outcome). ending_of (several o)) h.out;
        next_is = h.next_is;
        used_is = h.used_is;
        values_are = go (eval_in file consts node first cells before (expr_at file level at) (take (seg_at file level at) old)).out h.out;
        state = h.state;
      })
    where
      go : (o : Outcome) → r.out ≡ o → Holds (passed_part file callee i) (several o) (values_of 1 room')
      go (Out.Value v) f = ap (λ (x : Value). x ∷ []) (w.value v f (enum_for tab callee i)) ∙ passed_type callee i p (known_input callee q) (v ∷ [])
      go (Out.Failure c) f = tt
      go Out.Overflow f = tt

  -- an array, whose cells were passed on
  pub part_array : {old new : List ℕ} (room room' : List ℕ) {r : Step Ending} (n : ℕ) → shape_in file node (expr_at file level at) ≡ some n → m ≡ n → ArrayTo file consts level at node first cells before old r room new → FitsPart tab callee i m room room'
      → PartTo file consts callee i level at node first cells before old r room' new
  unfolding cells_by
  part_array {old} {new} room room' {r} n s e h w =
      let W = array_in file consts node first cells before (expr_at file level at) (take (seg_at file level at) old) in
      let v : Holds as_is W.out (values_of n room) = subst (λ (o : Option ℕ). Holds as_is W.out (values_of (maybe 0 (λ x. x) o) room)) s h.values_are in
      subst (λ (o : Option ℕ). RanTo (passed_part file callee i) (cells_by (is_some o) (λ x. array_in file consts node first cells before (expr_at file level at) x) (λ x. eval_in file consts node first cells before (expr_at file level at) x) (take (seg_at file level at) old)) (end_at file level at) (seg_at file level at) old r (values_of (maybe 1 (λ x. x) o) room') new) (sym s)
      (record { end_is = h.end_is; next_is = h.next_is; used_is = h.used_is; values_are = go W.out v; state = h.state })
    where
      go : (o : Outcomes) → Holds as_is o (values_of n room) → Holds (passed_part file callee i) o (values_of n room')
      go (values vs) f =
          ap (λ (x : ℕ). values_of x room') (sym e) ∙ w.values (enum_for tab callee i) ∙ passed_type callee i p (known_input callee q) (values_of m room)
          ∙ ap (passed_part file callee i) (ap (λ (x : ℕ). values_of x room) e ∙ f)
      go (failure c) f = tt
      go overflow f = tt

-- ---- its cells

-- how many cells an expression has, by its array's length
pub cells_told : (o : Option ℕ) → Long o → max (maybe 0 (λ n. n) o) 1 ≡ maybe 1 (λ n. n) o
cells_told none l = refl
cells_told (some n) l = omega (arith, (l n refl).0)

module _ {file tab rows consts : List ℕ} {node level at : ℕ} (p : Plan file tab rows consts node level 1 at) where
  pub cells_of_span : (m : ℕ) → m ≡ span_in file node (expr_at file level at) → max m 1 ≡ cells_at file node level at
  cells_of_span m e = ap (λ (n : ℕ). max n 1) e ∙ cells_told (shape_in file node (expr_at file level at)) (span_long file level at p)

  -- what has no length is a scalar
  pub span_scalar : (m : ℕ) → m ≡ span_in file node (expr_at file level at) → m ≡ 0 → shape_in file node (expr_at file level at) ≡ none
  span_scalar m e z = no_length (shape_in file node (expr_at file level at)) (span_long file level at p) (sym e ∙ z)

pub some_length : (o : Option ℕ) → ¬ (maybe 0 (λ n. n) o ≡ 0) → o ≡ some (maybe 0 (λ n. n) o)
some_length none h = absurd (h refl)
some_length (some n) h = refl

-- and what has one is an array
pub span_array : (file : List ℕ) (node level at m : ℕ) → m ≡ span_in file node (expr_at file level at) → ¬ (m ≡ 0) → shape_in file node (expr_at file level at) ≡ some m
span_array file node level at m e z = some_length (shape_in file node (expr_at file level at)) (λ w. z (e ∙ w)) ∙ ap some (sym e)

-- on the part of the states that is lent
pub part_moved : (file consts : List ℕ) (callee : Callee ℕ) (i level at node : ℕ) (first : Bool) (cells before : List ℕ) {s s' : List ℕ} {r : Step Ending} (room : List ℕ) {new : List ℕ} → s ≡ s' → PartTo file consts callee i level at node first cells before s r room new → PartTo file consts callee i level at node first cells before s' r room new
part_moved file consts callee i level at node first cells before {r = r} room {new = new} e h = subst (λ (x : List ℕ). PartTo file consts callee i level at node first cells before x r room new) e h

-- with the callee by an equation
pub part_named : (file consts : List ℕ) {callee callee' : Callee ℕ} (i level at node : ℕ) (first : Bool) (cells before : List ℕ) {s : List ℕ} {r : Step Ending} (room : List ℕ) {new : List ℕ} → callee ≡ callee' → PartTo file consts callee i level at node first cells before s r room new → PartTo file consts callee' i level at node first cells before s r room new
part_named file consts i level at node first cells before {s} {r} room {new} e h = subst (λ (k : Callee ℕ). PartTo file consts k i level at node first cells before s r room new) e h

pub part_called : (file : List ℕ) {callee callee' : Callee ℕ} (node level i at m free : ℕ) → callee' ≡ callee → Part file callee i node level at m free → Part file callee' i node level at m free
part_called file node level i at m free e h = subst (λ (k : Callee ℕ). Part file k i node level at m free) (sym e) h

-- an array has at most 32 elements
pub span_few : {file tab rows consts : List ℕ} {node level at : ℕ} → Plan file tab rows consts node level 1 at → (m : ℕ) → m ≡ span_in file node (expr_at file level at) → m ≤ 32
span_few {file} {node = node} {level = level} {at = at} p m e = go (shape_in file node (expr_at file level at)) (span_long file level at p) e
  where
    go : (o : Option ℕ) → Long o → m ≡ maybe 0 (λ n. n) o → m ≤ 32
    go none l e = omega (arith, e)
    go (some n) l e = omega (arith, e, (l n refl).1)
