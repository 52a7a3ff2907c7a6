-- Laws of iterators: a map's elements first to last, a fold's from the seed on, and one call of the iterated Function.
use Prim.Native.Nat.{ℕ, suc, ◌+◌, ◌-◌, ◌*◌, ◌≤◌, ◌<◌}
use mathlib.Core.Bool.{◌&&◌}
use mathlib.Core.List.{List, [], ◌∷◌, ◌++◌, map, append_assoc, append-nil}
use mathlib.Core.Path.{◌≡◌, refl, sym, ap, subst, ◌∙◌}
use native.Mathlib.Omega.{arith}
use lib.Dec.{T, eqb, eqb→eq}
use lib.ListN.{length, take, drop, length-append, length-map}
use lib.Seq.{take_at, drop-drop}
use Rattle.std.specs.Prelude.{Some}
use Rattle.ol_spec.specs.Lists.{all_of}
use Rattle.ol_spec.specs.Syntax.{Ty, NodeKind, Function, Operator, Imported, VarTy, scalar, array, Variable, Node, variables, cell_types}
use Rattle.ol_spec.specs.Cell.{cell, value_of, values_of}
use Rattle.ol_spec.specs.Types.{fit}
use Rattle.ol_spec.specs.Admission.{is_function, is_scalar, iterable}
use Rattle.ol_spec.specs.Eval.{Outcomes, values, failure, overflow, several, single, cons_out, then_out, elements_at, map_next, map_from, fold_from}
use Rattle.ol_spec.specs.Step.{fit_all, input_count, output_count, calls}
use Rattle.ol_spec.specs.declared.Value.{Value}
use Rattle.ol_spec.specs.declared.Outcome.{Outcome}
use Rattle.ol_spec.specs.declared.Outcome.TheVariants as Out
use Rattle.ol_spec.proofs.Tests.{T_and}
use Rattle.ol_spec.proofs.Cells.{length_cell}
use Rattle.ol_tables.specs.At.{file_at, node_in}
use Rattle.ol_tables.specs.Tables.{element_of, var_ty_at, site_bytes}
use Rattle.ol_state.proofs.Instances.{no_size_lem}
use Rattle.ol_frame.specs.Outcomes.{ending_of}
use Rattle.ol_frame.specs.Plans.{globals_in}
use Rattle.ol_frame.specs.Stores.{PassedOn, Leaves, groups, element_type, Gathers}
use Rattle.ol_frame.specs.declared.outcomes.Ending.{Ending}
use Rattle.ol_frame.specs.declared.outcomes.Ending.TheVariants as End
use Rattle.ol_frame.proofs.Programs.{node_fit}
use Rattle.ol_frame.proofs.Storing.{typed, passed_as, values_next, values_drop}
use Rattle.ol_eval.specs.Calls.{Holds, as_is, Steppable, SiteTo, Iterated, AppliesTo, MapsTo}
use Rattle.ol_eval.proofs.Arguments.{cons_all}
use Rattle.ol_eval.proofs.Parts.{input_type}

-- ---- a map

cons_next : (vs : List Value) (v : Value) (o : Outcomes) → cons_all vs (cons_out v o) ≡ cons_all (vs ++ v ∷ []) o
cons_next vs v (values ws) = ap values (sym (append_assoc vs (v ∷ []) ws))
cons_next vs v (failure c) = refl
cons_next vs v overflow = refl

module _ (f : List Value → Outcome) (vss : List (List Value)) where
  -- one element more
  pub map_turn : (want : Outcomes) (vs : List Value) (j m : ℕ) (v : Value) → want ≡ cons_all vs (map_from f vss j (suc m)) → f (elements_at j vss) ≡ Out.Value v → want ≡ cons_all (vs ++ v ∷ []) (map_from f vss (suc j) m)
  unfolding map_from map_next
  map_turn want vs j m v w e = w ∙ ap (λ (o : Outcome). cons_all vs (map_next o (λ u. map_from f vss (suc j) m))) e ∙ cons_next vs v (map_from f vss (suc j) m)

  -- one that failed or overflowed
  pub map_stop : (want : Outcomes) (vs : List Value) (j m : ℕ) (o : Outcome) (got : List Value) → want ≡ cons_all vs (map_from f vss j (suc m)) → f (elements_at j vss) ≡ o → ((v : Value) → ¬ (o ≡ Out.Value v)) → MapsTo want (ending_of (several o)) got
  unfolding map_from map_next
  map_stop want vs j m (Out.Value v) got w e n = absurd (n v refl)
  map_stop want vs j m (Out.Failure c) got w e n =
      let z : want ≡ failure c = w ∙ ap (λ (o : Outcome). cons_all vs (map_next o (λ u. map_from f vss (suc j) m))) e in
      record { end_is = ap ending_of (sym z); values_are = subst (λ (o : Outcomes). Holds as_is o got) (sym z) tt }
  map_stop want vs j m Out.Overflow got w e n =
      let z : want ≡ overflow = w ∙ ap (λ (o : Outcome). cons_all vs (map_next o (λ u. map_from f vss (suc j) m))) e in
      record { end_is = ap ending_of (sym z); values_are = subst (λ (o : Outcomes). Holds as_is o got) (sym z) tt }

  pub map_done : (want : Outcomes) (vs : List Value) (j : ℕ) → want ≡ cons_all vs (map_from f vss j 0) → MapsTo want End.Values vs
  unfolding map_from
  map_done want vs j w =
      let z : want ≡ values vs = w ∙ ap values (append-nil vs) in
      record { end_is = ap ending_of (sym z); values_are = subst (λ (o : Outcomes). Holds as_is o vs) (sym z) refl }

  -- nothing is done yet
  pub map_start : (n : ℕ) → map_from f vss 0 n ≡ cons_all [] (map_from f vss 0 (n - 0))
  map_start n = let z : n ≡ n - 0 = omega arith in ap (map_from f vss 0) z ∙ none (map_from f vss 0 (n - 0))
    where
      none : (o : Outcomes) → o ≡ cons_all [] o
      none (values ws) = refl
      none (failure c) = refl
      none overflow = refl

-- ---- a fold

module _ (f : List Value → Outcome) where
  -- the elements that are left
  pub elements_left : (n j : ℕ) (s : List ℕ) → j < n → drop j (values_of n s) ≡ value_of (take 9 (drop (9 * j) s)) ∷ drop (j + 1) (values_of n s)
  elements_left n j s l =
      let z : n - j ≡ suc (n - (j + 1)) = omega arith in
      let y : 9 * j + 9 ≡ 9 * (j + 1) = omega arith in
      sym (values_drop j n s (omega arith)) ∙ ap (λ (m : ℕ). values_of m (drop (9 * j) s)) z
      ∙ ap (λ (vs : List Value). value_of (take 9 (drop (9 * j) s)) ∷ vs) (ap (values_of (n - (j + 1))) (drop-drop 9 (9 * j) s ∙ ap (λ (m : ℕ). drop m s) y) ∙ values_drop (j + 1) n s (omega arith))

  pub fold_turn : (want out next : Outcome) (v : Value) (n j : ℕ) (s : List ℕ) → want ≡ then_out (λ w. fold_from f w (drop j (values_of n s))) out → out ≡ Out.Value v → j < n → next ≡ f (v ∷ value_of (take 9 (drop (9 * j) s)) ∷ [])
      → want ≡ then_out (λ w. fold_from f w (drop (j + 1) (values_of n s))) next
  unfolding fold_from
  fold_turn want out next v n j s w o l e =
      w ∙ ap (then_out (λ w. fold_from f w (drop j (values_of n s)))) o ∙ ap (fold_from f v) (elements_left n j s l) ∙ ap (then_out (λ w. fold_from f w (drop (j + 1) (values_of n s)))) (sym e)

  pub fold_stop : (want out : Outcome) (vs : List Value) → want ≡ then_out (λ w. fold_from f w vs) out → ((v : Value) → ¬ (out ≡ Out.Value v)) → out ≡ want
  fold_stop want out vs w n = go out w n
    where
      go : (o : Outcome) → want ≡ then_out (λ w. fold_from f w vs) o → ((v : Value) → ¬ (o ≡ Out.Value v)) → o ≡ want
      go (Out.Value v) w n = absurd (n v refl)
      go (Out.Failure c) w n = sym w
      go Out.Overflow w n = sym w

  pub fold_done : (want out : Outcome) (n j : ℕ) (s : List ℕ) → want ≡ then_out (λ w. fold_from f w (drop j (values_of n s))) out → n ≤ j → out ≡ want
  unfolding fold_from
  fold_done want out n j s w l = go out (w ∙ ap (λ (vs : List Value). then_out (λ w. fold_from f w vs) out) none)
    where
      none : drop j (values_of n s) ≡ []
      none = nothing (drop j (values_of n s)) (omega (arith, lib.ListN.length-drop j (values_of n s), Rattle.ol_spec.proofs.CellLengths.length_values n s))
        where
          nothing : (vs : List Value) → length vs ≡ 0 → vs ≡ []
          nothing [] e = refl
          nothing (v ∷ vs) e = absurd (omega arith)

      go : (o : Outcome) → want ≡ then_out (λ w. fold_from f w []) o → o ≡ want
      go (Out.Value v) w = sym w
      go (Out.Failure c) w = sym w
      go Out.Overflow w = sym w

-- ---- the iterated Function

-- scalars have a cell each
scalar_cells : (vs : List Variable) → T (all_of is_scalar vs) → cell_types vs ≡ map element_type vs
scalar_cells [] t = refl
scalar_cells (v ∷ vs) t = let w = T_and (is_scalar v) (all_of is_scalar vs) t in go v.ty w.0 (scalar_cells vs w.1)
  where
    go : (y : VarTy) → T (Rattle.ol_spec.specs.Admission.takes Rattle.ol_spec.specs.Admission.scalars (Rattle.ol_spec.specs.Syntax.length_in y)) → cell_types vs ≡ map element_type vs → Rattle.ol_spec.specs.Syntax.type_cells y ++ cell_types vs ≡ element_of y ∷ map element_type vs
    go (scalar x) q e = ap (λ (l : List Ty). x ∷ l) e
    go (array n x) q e = absurd q

front_of : (vs ws : List Variable) (c : ℕ) → c ≡ length vs → take c (vs ++ ws) ≡ vs
front_of vs ws c e = take_at vs ws c (sym e)

module _ {file tab rows consts : List ℕ} {k : ℕ} (h : Iterated file tab rows consts k) where
  abbrev node : Node
  node = node_in file k

  first_part : T (is_function (node_in file k).kind && eqb (length (node_in file k).inputs) (length (node_in file k).inputs) && eqb (length (node_in file k).outputs) 1) × T (all_of is_scalar (node_in file k).inputs)
  first_part = T_and (is_function node.kind && eqb (length node.inputs) (length node.inputs) && eqb (length node.outputs) 1) (all_of is_scalar node.inputs) (T_and (is_function node.kind && eqb (length node.inputs) (length node.inputs) && eqb (length node.outputs) 1 && all_of is_scalar node.inputs) (all_of is_scalar node.outputs) h.function).0

  scalar_inputs : T (all_of is_scalar (node_in file k).inputs)
  scalar_inputs = first_part.1

  scalar_outputs : T (all_of is_scalar (node_in file k).outputs)
  scalar_outputs = (T_and (is_function node.kind && eqb (length node.inputs) (length node.inputs) && eqb (length node.outputs) 1 && all_of is_scalar node.inputs) (all_of is_scalar node.outputs) h.function).1

  second_part : T (is_function (node_in file k).kind && eqb (length (node_in file k).inputs) (length (node_in file k).inputs)) × T (eqb (length (node_in file k).outputs) 1)
  second_part = T_and (is_function node.kind && eqb (length node.inputs) (length node.inputs)) (eqb (length node.outputs) 1) first_part.0

  pub iterated_kind : (node_in file k).kind ≡ Function
  iterated_kind = go node.kind (T_and (is_function node.kind) (eqb (length node.inputs) (length node.inputs)) second_part.0).0
    where
      go : (t : NodeKind) → T (is_function t) → t ≡ Function
      go Function t = refl
      go Operator t = absurd t
      go Imported t = absurd t

  pub iterated_inputs : input_count (node_in file k) ≡ length (node_in file k).inputs
  iterated_inputs = ap length (scalar_cells node.inputs scalar_inputs) ∙ length-map node.inputs element_type

  pub iterated_outputs : output_count (node_in file k) ≡ 1
  iterated_outputs = ap length (scalar_cells node.outputs scalar_outputs) ∙ length-map node.outputs element_type ∙ eqb→eq (length node.outputs) 1 second_part.1

  pub iterated_few : length (node_in file k).inputs ≤ 32
  iterated_few = (node_fit h.running.program k h.below).inputs

  pub iterated_small : k < 32
  iterated_small = omega (arith, h.below, h.running.program.sized.few)

  -- a call of it has no record
  iterated_bytes : site_bytes (file_at file) k ≡ 0
  iterated_bytes = no_size_lem h.running.known h.below (λ o. other (sym iterated_kind ∙ o))
    where
      other : Function ≡ Operator → ⊥
      other e = let z : ◌≡◌ {A = ℕ} 0 1 = cc in omega arith

  pub iterated_steps : (free : ℕ) → 288 ≤ free → Steppable file tab rows consts k free [] []
  iterated_steps free l =
      record {
        running = h.running;
        below = h.below;
        kind = λ i. other (sym iterated_kind ∙ i);
        given = omega (arith, iterated_inputs, iterated_few);
        taken = omega (arith, iterated_outputs);
        sized = sym iterated_bytes;
        small = omega arith;
        same = refl;
      }
    where
      other : Function ≡ Imported → ⊥
      other e = let z : ◌≡◌ {A = ℕ} 0 1 = cc in omega arith

  -- its one output
  pub iterated_applies : (args args' : List ℕ) {end : Ending} {out : Outcome} {new : List ℕ} → SiteTo file consts k args [] end args' new → ((os : Outcomes) → Leaves os end 1 args' → out ≡ single os) → AppliesTo file consts k args out
  iterated_applies args args' {end} {out} s w vs e =
      let d = s vs e in
      w (calls (globals_in file consts) k vs []).out (leaves (calls (globals_in file consts) k vs []).out d.end_is (subst (λ (m : ℕ). Holds as_is (calls (globals_in file consts) k vs []).out (values_of m args')) iterated_outputs d.values_are))
    where
      leaves : (os : Outcomes) → end ≡ ending_of os → Holds as_is os (values_of 1 args') → Leaves os end 1 args'
      leaves (values vs) x y = (x, y)
      leaves (failure d) x y = x
      leaves overflow x y = x

  -- the elements gathered are its arguments
  pub gathered : (n c j : ℕ) (arrays args : List ℕ) → c ≡ length (node_in file k).inputs → Gathers tab rows k n c j arrays args → values_of (input_count (node_in file k)) args ≡ fit_all (cell_types (node_in file k).inputs) (elements_at j (groups n c arrays))
  gathered n c j arrays args e g =
      let l : c ≤ length (variables node) = omega (arith, e, length-append (node.inputs ++ node.outputs) node.locals, length-append node.inputs node.outputs) in
      let a : take c (variables node) ≡ node.inputs = ap (take c) (append_assoc node.inputs node.outputs node.locals) ∙ front_of node.inputs (node.outputs ++ node.locals) c e in
      ap (λ (m : ℕ). values_of m args) (iterated_inputs ∙ sym e) ∙ g node (typed k h.running.program h.below) l
      ∙ ap (λ (ts : List Ty). fit_all ts (elements_at j (groups n c arrays))) (ap (map element_type) a ∙ sym (scalar_cells node.inputs scalar_inputs))

  -- two values are, the running one and an element
  pub two_given : (v w a b : Value) (rest t u : List ℕ) → length (node_in file k).inputs ≡ 2 → 18 ≤ length t → PassedOn tab (Some k) 0 v a → value_of (cell a) ≡ a → t ≡ cell a ++ rest → PassedOn tab (Some k) 1 w b → value_of (cell b) ≡ b → u ≡ take 9 t ++ (cell b ++ drop (9 + 9) t)
      → values_of (input_count (node_in file k)) u ≡ fit_all (cell_types (node_in file k).inputs) (v ∷ w ∷ [])
  unfolding fit_all
  two_given v w a b rest t u two room pa ka ta pb kb ub =
      let ty = typed k h.running.program h.below in
      let l : 2 ≤ length (variables node) = omega (arith, two, length-append (node.inputs ++ node.outputs) node.locals, length-append node.inputs node.outputs) in
      let fa : a ≡ fit (element_of (var_ty_at node.inputs 0)) v = passed_as 0 v a ty (omega (arith, l)) pa ∙ ap (λ (y : VarTy). fit (element_of y) v) (input_type node 0 (omega (arith, two))) in
      let fb : b ≡ fit (element_of (var_ty_at node.inputs 1)) w = passed_as 1 w b ty (omega (arith, l)) pb ∙ ap (λ (y : VarTy). fit (element_of y) w) (input_type node 1 (omega (arith, two))) in
      let A : values_of 1 t ≡ a ∷ [] = ap (values_of 1) ta ∙ ap (λ (l : List ℕ). value_of l ∷ []) (take_at (cell a) rest 9 (length_cell a)) ∙ ap (λ (x : Value). x ∷ []) ka in
      let B : values_of 2 u ≡ a ∷ b ∷ [] = ap (values_of 2) ub ∙ values_next 1 t b (omega (arith, room)) kb ∙ ap (λ (vs : List Value). vs ++ b ∷ []) A in
      ap (λ (m : ℕ). values_of m u) (iterated_inputs ∙ two) ∙ B ∙ (λ i. fa i ∷ fb i ∷ []) ∙ go node.inputs two scalar_inputs
    where
      go : (is : List Variable) → length is ≡ 2 → T (all_of is_scalar is) → fit (element_of (var_ty_at is 0)) v ∷ fit (element_of (var_ty_at is 1)) w ∷ [] ≡ fit_all (cell_types is) (v ∷ w ∷ [])
      go [] e q = absurd (omega arith)
      go (x ∷ []) e q = absurd (omega arith)
      go (x ∷ y ∷ []) e q = sym (ap (λ (ts : List Ty). fit_all ts (v ∷ w ∷ [])) (scalar_cells (x ∷ y ∷ []) q))
      go (x ∷ y ∷ z ∷ is) e q = absurd (omega arith)
