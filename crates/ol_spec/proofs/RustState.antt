-- The bytes of specs/RustState are those that the relation of proofs/RustCalls speaks of.
use Prim.Native.Nat.{ℕ, zero, suc, ◌*◌, ◌<◌, ◌≤◌}
use mathlib.Core.Bool.{◌&&◌}
use mathlib.Core.List.Memᴰ.{head as here}
use mathlib.Core.List.Memᴰ.{tail as there}
use mathlib.Core.List.{List, [], ◌∷◌, ◌++◌, map, append-nil}
use mathlib.Core.Option.{Option}
use mathlib.Core.Path.{◌≡◌, refl, sym, ap, ap₂, subst, ◌∙◌}
use native.Mathlib.Omega.{arith}
use lib.ListN.{length, take, drop, get_or, length-drop, length-map, take-append-drop}
use lib.Seq.{length-take-le}
use lib.Dec.{T, leb, leb→le, eqb, eqb→eq}
use Rattle.ol_theory.specs.Member.{◌∈◌, Distinct}
use Rattle.ol_spec.specs.Lists.{maybe, concat, lookup, is_empty}
use Rattle.ol_spec.specs.Syntax.{NodeKind, Function, Operator, Imported, Node, Constant, File, constant_name, variables, variable_names}
use Rattle.ol_spec.specs.Cell.{cells, values_of, good_cells}
use Rattle.ol_spec.specs.Eval.{Globals, node_at, record_size, sites_size}
use Rattle.ol_spec.specs.Step.{cell_count, sites, own_size, old_cells}
use Rattle.ol_spec.specs.State.{globals_of, good_own}
use Rattle.ol_spec.specs.RustSim.{RValue, Env, get, State, state, States, get_state, past, child_calls, default_value}
use Rattle.ol_spec.specs.RustState.{all_cells, started_byte, state_or, calls_of, left_in, sites_bytes, site_bytes_by, instance_bytes, site_bytes}
use Rattle.ol_spec.specs.declared.Value.{Value}
use Rattle.ol_spec.proofs.Tests.{T_and, true_t}
use Rattle.ol_spec.proofs.Lists.{length_none}
use Rattle.ol_spec.proofs.Cells.{values_cells}
use Rattle.ol_spec.proofs.Segments.{Rec}
use Rattle.ol_spec.proofs.CellLengths.{length_values}
use Rattle.ol_spec.proofs.Runs.{Instance, inner_good}
use Rattle.ol_spec.proofs.Calls.{lower_site, size_of, to_instance}
use Rattle.ol_spec.proofs.States.{cells_part_lem}
use Rattle.ol_spec.proofs.RustEnv.{lookup_here, lookup_skip, packs_length, cells_back, values_read}
use Rattle.ol_spec.proofs.RustPlaces.{callee_of, sites_are, Home, home, Lie, lie_all}
use Rattle.ol_spec.proofs.RustEval.{shapes_in, Sites, sites_head}
use Rattle.ol_spec.proofs.RustCalls.{FileRust, held, InstRel, RelBy, RelAt, p}

-- an environment that has the constants' values gives them in file order
pub constants_read_lem : (f : File) (cs : List Constant) (vs : List RValue) (env : Env) → length vs ≡ length cs → Distinct (map constant_name cs)
    → ((y : ℕ) → y ∈ map constant_name cs → get y env ≡ lookup y (map constant_name cs) vs) → map (λ c. maybe (default_value f c.ty) (λ v. v) (get c.name env)) cs ≡ vs
constants_read_lem f [] [] env e q h = refl
constants_read_lem f [] (v ∷ vs) env e q h = absurd (omega arith)
constants_read_lem f (x ∷ xs) [] env e q h = absurd (omega arith)
constants_read_lem f (x ∷ xs) (v ∷ vs) env e q h =
    let ns = map constant_name xs in
    ap₂ {C = List RValue} (λ a l. a ∷ l) (ap (maybe (default_value f x.ty) (λ w. w)) (h x.name (here refl) ∙ lookup_here x.name x.name ns v vs refl))
    (constants_read_lem f xs vs env (omega arith) q.1 (λ y m. h y (there m) ∙ lookup_skip y x.name ns v vs (λ z. q.0 (subst (λ w. w ∈ ns) z m))))

-- a list with a first entry
first_of : (r : List ℕ) → 1 ≤ length r → r ≡ get_or r 0 0 ∷ drop 1 r
first_of [] h = absurd (omega arith)
first_of (x ∷ r) h = refl

none_left : (k : ℕ) → drop {A = ℕ} k [] ≡ []
none_left zero = refl
none_left (suc k) = refl

started_is : (b : ℕ) (es : List Env) → b ≤ 1 → eqb b 0 ≡ is_empty es → b ≡ started_byte es
started_is zero [] h e = refl
started_is zero (x ∷ es) h e = let z : ◌≡◌ {A = ℕ} 0 1 = cc in absurd (omega arith)
started_is (suc b) [] h e = absurd (omega (arith, eqb→eq (suc b) 0 (true_t (eqb (suc b) 0) e)))
started_is (suc b) (x ∷ es) h e = omega arith

module _ (f : File) (vs : List Value) (F : FileRust f vs) where
  abbrev g : Globals
  g = globals_of f vs

  abbrev D : ℕ
  D = length f.nodes

  -- the cells of a record, by its state
  pub left_is : (R : ℕ → List ℕ → Option State → Type 0) (N : ℕ) (n : Node) (r : List ℕ) (st : State) (calls : States) → Distinct (variable_names n) → InstRel f vs R N n r st calls
      → old_cells n r ≡ left_in f n (past st)
  left_is R N n r (state [] c) calls d i = i.new refl
  left_is R N n r (state (e ∷ es) c) calls d i =
      let l = length_values (cell_count n) (drop 1 r) in
      sym (ap all_cells (values_read f (λ x. default_value f x.ty) (variables n) (held n (old_cells n r)) e (packs_length (shapes_in (variables n)) (old_cells n r) ∙ length-map (variables n) _) d i.last) ∙ cells_back (variables n) (old_cells n r) l)

  -- a record begins with its started byte and its cells
  own_bytes : (R : ℕ → List ℕ → Option State → Type 0) (N : ℕ) (n : Node) (r : List ℕ) (st : State) (calls : States) → Distinct (variable_names n) → Instance g (p f vs) n r
      → InstRel f vs R N n r st calls → r ≡ started_byte (past st) ∷ cells (left_in f n (past st)) ++ drop (own_size n) r
  unfolding good_own
  own_bytes R N n r st calls d inst i =
      let m = cell_count n in
      let es = concat f.enums in
      let a = take (9 * m) (drop 1 r) in
      let b = drop (9 * m) (drop 1 r) in
      let w = T_and (leb (get_or r 0 0) 1 && good_cells es m (drop 1 r)) _ inst.own in
      let u = T_and (leb (get_or r 0 0) 1) _ w.0 in
      let la : length a ≡ 9 * m = length-take-le (9 * m) (drop 1 r) (omega (arith, length-drop 1 r, inst.sized)) in
      let ab : a ++ b ≡ drop 1 r = take-append-drop (9 * m) (drop 1 r) in
      let part = cells_part_lem es m a b [] la in
      let good : T (good_cells es m a) = subst T (ap (good_cells es m) (sym ab) ∙ part.0 ∙ ap (good_cells es m) (append-nil a)) u.1 in
      let vals : values_of m a ≡ old_cells n r = sym (ap (values_of m) (sym ab) ∙ part.1 ∙ ap (values_of m) (append-nil a)) in
      let is-cells : a ≡ cells (left_in f n (past st)) = sym (values_cells es m a la good) ∙ ap cells (vals ∙ left_is R N n r st calls d i) in
      first_of r (omega (arith, inst.sized))
      ∙ ap₂ {C = List ℕ} (λ x l. x ∷ l) (started_is (get_or r 0 0) (past st) (leb→le (get_or r 0 0) 1 u.0) i.fresh) (sym ab ∙ ap₂ ◌++◌ is-cells (drop_one r))
    where
      drop_one : (r : List ℕ) → drop (9 * cell_count n) (drop 1 r) ≡ drop (own_size n) r
      drop_one [] = none_left (9 * cell_count n) ∙ sym (none_left (own_size n))
      drop_one (x ∷ r) = let e : suc (9 * cell_count n) ≡ own_size n = omega arith in ap (λ k. drop k (x ∷ r)) e

  abbrev SiteIs : ℕ → Type 0
  SiteIs d = (k : ℕ) (r : List ℕ) (o : Option State) → k < d → k < D → Rec g (p f vs) k r → RelAt f vs d k r o → r ≡ site_bytes f d k o

  -- the records of these calls, the j-th of the node and those that follow
  sites_bytes_lem : (d : ℕ) (N : Home) → SiteIs d → (cs : List (ℕ × ℕ)) (j : ℕ) (s : List ℕ) (calls : States) → Lie N.addr j cs → ((c : ℕ) → c ∈ map callee_of cs → (c < d) × (c < D))
      → Sites g (p f vs) (RelAt f vs d) N (map callee_of cs) j s calls → s ≡ sites_bytes f (site_bytes f d) N.number cs calls
  unfolding sites_size
  sites_bytes_lem d N is [] j s calls l h q = length_none s q.good.sized
  sites_bytes_lem d N is (c ∷ cs) j s calls l h q =
      let w = sites_head q in
      sym (take-append-drop (record_size g c.1) s)
      ∙ ap₂ ◌++◌
      (is c.1 _ _ (h c.1 (here refl)).0 (h c.1 (here refl)).1 w.0 w.1 ∙ ap (λ i. site_bytes f d c.1 (get_state (N.number, i) calls)) l.0)
      (sites_bytes_lem d N is cs (suc j) _ calls l.1 (λ c m. h c (there m)) w.2)

  instance_by_lem : (d N : ℕ) → SiteIs d → (n : Node) (r : List ℕ) (st : State) (calls : States) → Distinct (variable_names n) → Instance g (p f vs) n r
      → InstRel f vs (RelAt f vs d) N n r st calls → ((c : ℕ) → c ∈ sites n → (c < d) × (c < D)) → r ≡ instance_bytes f (site_bytes f d) N n st calls
  instance_by_lem d N is n r st calls q inst i h =
      own_bytes (RelAt f vs d) N n r st calls q inst i
      ∙ ap {B = List ℕ} (λ l. started_byte (past st) ∷ cells (left_in f n (past st)) ++ l)
      (sites_bytes_lem d (home N n) is (calls_of 0 n.equations) 0 (drop (own_size n) r) calls (lie_all N n) (λ c m. h c (subst (λ l. c ∈ l) (sites_are n.equations 0) m))
      (subst (λ l. Sites g (p f vs) (RelAt f vs d) (home N n) l 0 (drop (own_size n) r) calls) (sym (sites_are n.equations 0)) (record { good = inner_good inst; each = i.inner })))

  site_bytes_lem : (d : ℕ) → SiteIs d
  site_bytes_lem zero k r o h b q i = absurd (omega arith)
  site_bytes_lem (suc d) k r o h b q i = go (node_at g k).kind refl (site_bytes_lem d) i
    where
      go : (t : NodeKind) → (node_at g k).kind ≡ t → SiteIs d → RelBy f vs t (RelAt f vs d) k r o → r ≡ site_bytes_by f t (site_bytes f d) k o
      go Function e is i = length_none r (q.sized ∙ size_of F.callable k Function b e)
      go Operator e is i =
          instance_by_lem d k is (node_at g k) r (state_or o) (child_calls (state_or o)) (F.nodes k b).sorted.distinct (to_instance F.callable k r b e q) i
          (λ c m. (omega (arith, lower_site F.callable k c m), omega (arith, lower_site F.callable k c m)))
      go Imported e is i = length_none r (q.sized ∙ size_of F.callable k Imported b e)

  -- an instance's record
  pub instance_bytes_lem : (d N : ℕ) (n : Node) (r : List ℕ) (st : State) (calls : States) → Distinct (variable_names n) → Instance g (p f vs) n r
      → InstRel f vs (RelAt f vs d) N n r st calls → ((c : ℕ) → c ∈ sites n → (c < d) × (c < D)) → r ≡ instance_bytes f (site_bytes f d) N n st calls
  instance_bytes_lem d N = instance_by_lem d N (site_bytes_lem d)
