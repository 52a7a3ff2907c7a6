-- One cycle: what a finished run leaves, in the kinds that it began with, solves the main equations on the old state, and nothing else does.
use Prim.Native.Nat.{ℕ, ◌+◌, ◌-◌, ◌<◌, ◌≤◌}
use mathlib.Core.Bool.{Bool, false, not}
use mathlib.Core.List.Memᴰ
use mathlib.Core.List.{List, [], ◌∷◌, ◌++◌, map, append_assoc}
use mathlib.Core.Logic.{◌↔◌, ⊎_elim, by_cases}
use mathlib.Core.Option.{some}
use mathlib.Core.Path.{◌≡◌, refl, sym, ap, subst, ◌∙◌}
use native.Mathlib.Omega.{arith}
use native.Mathlib.Decide.{ℕ_discrete, dec_lt}
use lib.ListN.{length, take, drop, get_or, get_elem?, length-map, get_or-append, get_or-map}
use lib.Seq.{set-get_or, get_or-take, get_or-drop, get_or-append-add, length-take-le, ext_get_or}
use lib.Dec.{T, T_not, not_T}
use Rattle.ol_theory.specs.Member.{◌∈◌, Distinct}
use Rattle.ol_theory.specs.Order as O
use Rattle.ol_theory.specs.System as Y
use Rattle.ol_theory.proofs.SystemProof as YP
use Rattle.ol_spec.specs.Lists.{maybe, concat, member}
use Rattle.ol_spec.specs.Syntax.{Node, File, variables, cell_names, cell_types, name_of, main}
use Rattle.ol_spec.specs.Cell.{tag, cells}
use Rattle.ol_spec.specs.Order.{order}
use Rattle.ol_spec.specs.Eval.{Globals, Outcomes, values, failure, overflow}
use Rattle.ol_spec.specs.Step.{cell_count, input_count, is_fresh, old_cells, old_segs, assign, no_equation, equation_at, eval_equation, run_all, calls}
use Rattle.ol_spec.specs.State.{globals_of}
use Rattle.ol_spec.specs.Demand3.{InKind, main_record, right_side, Satisfies, defined_names, Choice, Solves}
use Rattle.ol_spec.specs.declared.Value.{Value}
use Rattle.ol_spec.specs.declared.Value.TheVariants as Val
use Rattle.ol_spec.proofs.Tests.{member_in, in_member}
use Rattle.ol_spec.proofs.Lists.{get_elem_get_d, get_d_get_elem, get_elem_inside, get_d_is, concat_in}
use Rattle.ol_spec.proofs.Ordering.{Placed}
use Rattle.ol_spec.proofs.Slots.{names_length, in_slots, slots_in, cell_name}
use Rattle.ol_spec.proofs.CellLengths.{names_append, cells_length, length_values}
use Rattle.ol_spec.proofs.Counts.{CountIs}
use Rattle.ol_spec.proofs.MainFacts.{names_of}
use Rattle.ol_spec.proofs.MainSystem.{get_in, slots, fitted, assign_store, fitted_length, arity_of, fit_outs, system, view, run_view, names_in_lem, lawful, valid_order}
use Rattle.ol_spec.proofs.Same.{values?, search_below}

-- what is known of a node of an admitted file
pub record NodeOk (g : Globals) (n : Node) : Type 0 where
  pub apart : Distinct (concat (map names_of n.equations))
  pub no_input : (i x : ℕ) → x ∈ (equation_at n i).names → ¬ (x ∈ map name_of n.inputs)
  pub arity : (i : ℕ) → i < length n.equations → arity_of g n (equation_at n i).rhs ≡ length (slots n (equation_at n i).names)
  pub counts : (first : Bool) (before : List Value) (i : ℕ) (p : List Value) (s : List ℕ)
      → CountIs (arity_of g n (equation_at n i).rhs) (eval_equation g (calls g) n first before p i s).out
  pub placed : Placed n.equations

abbrev pub MainOk : File → List Value → Type 0
MainOk f vs = NodeOk (globals_of f vs) (main f)

tags_kinds : (p q : List Value) (d : Value) → map tag p ≡ map tag q → (x : ℕ) → tag (get_or p x d) ≡ tag (get_or q x d)
tags_kinds p q d e x = sym (get_or-map tag p x d) ∙ ap (λ l. get_or l x (tag d)) e ∙ get_or-map tag q x d

store_same : (l : List ℕ) (d : Value) (cs : List Value) → Y.store l (map (λ x. get_or cs x d) l) cs ≡ cs
unfolding Y.store
store_same [] d cs = refl
store_same (x ∷ l) d cs = ap (Y.store l (map (λ x. get_or cs x d) l)) (set-get_or cs x d) ∙ store_same l d cs

out_values : (n : Node) (xs : List ℕ) (o : Outcomes) (us : List Value) → fit_outs n xs o ≡ Y.values us → (ws : List Value) × (o ≡ values ws) × (fitted n xs ws ≡ us)
out_values n xs (values ws) us e = (ws, refl, cc)
out_values n xs (failure c) us e = let z : ◌≡◌ {A = ℕ} 0 1 = cc in absurd (omega arith)
out_values n xs overflow us e = let z : ◌≡◌ {A = ℕ} 0 1 = cc in absurd (omega arith)

pub same_values : {a b : List Value} → values a ≡ values b → a ≡ b
same_values e = cc

module _ (f : File) (vs : List Value) (ok : MainOk f vs) (old : List ℕ) where
  abbrev n : Node
  n = main f

  abbrev g : Globals
  g = globals_of f vs

  abbrev pub rec : List ℕ
  rec = main_record f vs old

  abbrev pub segs : List (List ℕ)
  segs = old_segs g n rec

  abbrev pub sys : Y.System Value (List ℕ)
  sys = system n g (calls g) (is_fresh rec) (old_cells n rec)

  pub sys_lawful : Y.Lawful sys
  sys_lawful = lawful n g (calls g) (is_fresh rec) (old_cells n rec) ok.apart ok.arity (ok.counts (is_fresh rec) (old_cells n rec))

  pub sys_valid : O.ValidOrder (length n.equations) (Y.deps sys) (order n.equations)
  sys_valid =
      valid_order n g (calls g) (is_fresh rec) (old_cells n rec) ok.apart ok.arity (ok.counts (is_fresh rec) (old_cells n rec)) (order n.equations) ok.placed.valid

  right_count : (cs : List Value) (i : ℕ) → i < length n.equations → (ws : List Value) → right_side f vs old cs i ≡ values ws
      → length ws ≡ length (slots n (equation_at n i).names)
  right_count cs i b ws e = subst (CountIs (arity_of g n (equation_at n i).rhs)) e (ok.counts (is_fresh rec) (old_cells n rec) i cs (get_or segs i [])) ∙ ok.arity i b

  sat_satisfies : (cs : List Value) (i : ℕ) → i < length n.equations → Y.Sat sys cs segs i → Satisfies f vs old cs i
  sat_satisfies cs i b s =
      let xs = (equation_at n i).names in
      let w = out_values n xs (right_side f vs old cs i) _ s in
      record {
        results = w.0;
        succeeds = w.1;
        each = right_count cs i b w.0 w.1;
        exactly = assign_store n xs w.0 cs ∙ ap (λ us. Y.store (slots n xs) us cs) w.2 ∙ store_same (slots n xs) (Val.Bool false) cs;
      }

  satisfies_sat : (cs : List Value) (i : ℕ) → i < length n.equations → length cs ≡ cell_count n → Satisfies f vs old cs i → Y.Sat sys cs segs i
  satisfies_sat cs i b e s =
      let xs = (equation_at n i).names in
      let us = fitted n xs s.results in
      let stored : Y.store (slots n xs) us cs ≡ cs = sym (assign_store n xs s.results cs) ∙ s.exactly in
      let each : length us ≡ length (slots n xs) = fitted_length n xs s.results s.each in
      let read = YP.store_read (slots n xs) us cs (Val.Bool false) (sys_lawful.once i b) (λ x m. omega (arith, sys_lawful.slots i b x m, e)) each in
      ap (fit_outs n xs) s.succeeds ∙ ap Y.values (sym read ∙ ap (λ c. map (λ x. get_or c x (Val.Bool false)) (slots n xs)) stored)

  satisfies? : (ds : List Value) (i : ℕ) → Dec (Satisfies f vs old ds i)
  satisfies? ds i = go (right_side f vs old ds i) refl
    where
      go : (o : Outcomes) → right_side f vs old ds i ≡ o → Dec (Satisfies f vs old ds i)
      go (values ws) e =
          by_cases (ℕ_discrete (length ws) (length (slots n (equation_at n i).names)))
          (λ c. by_cases (values? (assign n (equation_at n i).names ws ds) ds)
          (λ q. yes (record { results = ws; succeeds = e; each = c; exactly = q }))
          (λ h. no (λ s. let z : s.results ≡ ws = same_values (sym s.succeeds ∙ e) in h (subst (λ u. assign n (equation_at n i).names u ds ≡ ds) z s.exactly))))
          (λ h. no (λ s. let z : s.results ≡ ws = same_values (sym s.succeeds ∙ e) in h (ap length (sym z) ∙ s.each)))
      go (failure c) e = no (λ s. let q : values s.results ≡ failure c = sym s.succeeds ∙ e in let z : ◌≡◌ {A = ℕ} 0 1 = cc in omega arith)
      go overflow e = no (λ s. let q : values s.results ≡ overflow = sym s.succeeds ∙ e in let z : ◌≡◌ {A = ℕ} 0 1 = cc in omega arith)

  -- ---- a slot and its name

  abbrev name : ℕ → ℕ
  name x = get_or (cell_names (variables n)) x 0

  slot_undefined : (x : ℕ) → x < cell_count n → Y.Undefined sys x → ¬ (name x ∈ concat (map names_of n.equations))
  slot_undefined x b u m =
      let w = concat_in names_of no_equation n.equations (name x) m in
      u w.0 w.1 (slots_in n (equation_at n w.0).names (name x) x w.2 (omega (arith, names_length (variables n))) refl)

  name_undefined : (x : ℕ) → ¬ (name x ∈ concat (map names_of n.equations)) → Y.Undefined sys x
  name_undefined x h i b m =
      let w = in_slots n (equation_at n i).names x m in
      h (Memᴰ.cast w.3 (names_in_lem n.equations i w.0 w.1))

  input_undefined : (x : ℕ) → x < input_count n → Y.Undefined sys x
  input_undefined x b =
      name_undefined x (λ m.
      let w = concat_in names_of no_equation n.equations (name x) m in
      let rest = n.outputs ++ n.locals in
      let inside : x < length (cell_names n.inputs) = omega (arith, names_length n.inputs) in
      let same : name x ≡ get_or (cell_names n.inputs) x 0 =
      ap (λ l. get_or (cell_names l) x 0) (append_assoc n.inputs n.outputs n.locals) ∙ ap (λ l. get_or l x 0) (names_append n.inputs rest)
      ∙ get_or-append (cell_names n.inputs) (cell_names rest) 0 x inside in
      ok.no_input w.0 (name x) w.2 (cell_name n.inputs (name x) (Memᴰ.cast same (get_in (cell_names n.inputs) x inside))))

  -- the name of a cell that no equation defines stands in no equation's names
  not_defined : (x y : ℕ) → get_elem? (cell_names (variables n)) x ≡ some y
      → T (not (member y (defined_names f vs old))) ↔ (¬ (name x ∈ concat (map names_of n.equations)))
  not_defined x y e =
      let names = defined_names f vs old in
      let same : name x ≡ y = get_d_is (cell_names (variables n)) x 0 y e in (
        λ t m. T_not (member y names) t (in_member y names (Memᴰ.cast (sym same) m)),
        λ h. not_T (member y names) (λ t. h (Memᴰ.cast same (member_in y names t))),
      )

  -- ---- the cells that a cycle starts from: the inputs, and the old cells of the others

  abbrev pub begin : List Value → List Value
  begin ins = ins ++ drop (input_count n) (old_cells n rec)

  abbrev at : List Value → ℕ → Value
  at cs x = get_or cs x (Val.Bool false)

  -- the run as the theory has it
  pub run_theory : (ins : List Value)
      → view n g (calls g) (is_fresh rec) (old_cells n rec) (run_all g (calls g) n (is_fresh rec) (old_cells n rec) (order n.equations) (begin ins) segs)
      ≡ Y.run_eqs sys (order n.equations) (begin ins) segs
  run_theory ins = run_view n g (calls g) (is_fresh rec) (old_cells n rec) (order n.equations) (begin ins) segs

  pub same_kinds : (ins : List Value) → InKind f (begin ins) → (cs : List Value) → InKind f cs → Y.SameKinds sys cs (begin ins)
  same_kinds ins kinds cs k x h = tags_kinds cs (begin ins) (Val.Bool false) (k ∙ sym kinds) x

  module _ (ins : List Value) (inputs : length ins ≡ input_count n) where
    begin_input : (x : ℕ) → x < input_count n → at (begin ins) x ≡ at ins x
    begin_input x h = get_or-append ins _ (Val.Bool false) x (omega arith)

    begin_other : (x : ℕ) → input_count n ≤ x → at (begin ins) x ≡ at (old_cells n rec) x
    begin_other x h =
        let k = x - length ins in
        let q : x ≡ length ins + k = omega arith in
        let r : input_count n + k ≡ x = omega arith in
        ap (at (begin ins)) q ∙ get_or-append-add ins (drop (input_count n) (old_cells n rec)) k (Val.Bool false)
        ∙ get_or-drop (input_count n) (old_cells n rec) k (Val.Bool false) ∙ ap (at (old_cells n rec)) r

  module _ (ins : List Value) (inputs : length ins ≡ input_count n) (begins : length (begin ins) ≡ cell_count n) (kinds : InKind f (begin ins))
      (counted : length segs ≡ length n.equations) where
    kind_length : (cs : List Value) → InKind f cs → length cs ≡ cell_count n
    kind_length cs k = sym (length-map cs tag) ∙ ap length k ∙ length-map (cell_types (variables n)) _

    -- a solution is a choice, and a choice that satisfies all equations is a solution
    chosen : (cs : List Value) → InKind f cs → Y.Solution sys (begin ins) segs cs → Choice f vs old ins cs
    chosen cs k sol =
        let k' = input_count n in
        let size = kind_length cs k in
        let taken : length (take k' cs) ≡ k' = length-take-le k' cs (omega (arith, size, cells_length n)) in
        record {
          in_kind = k;
          inputs = ext_get_or (Val.Bool false) (take k' cs) ins (taken ∙ sym inputs) (λ x b.
              let h : x < k' = omega (arith, taken) in
              get_or-take k' cs x (Val.Bool false) h ∙ sol.kept x (omega (arith, cells_length n)) (input_undefined x h) ∙ begin_input ins inputs x h);
          held = λ x v h e t.
              let b : x < cell_count n = omega (arith, get_elem_inside (cell_names (variables n)) x v e, names_length (variables n)) in
              get_elem_get_d cs x (Val.Bool false) (omega (arith, size))
              ∙ ap some (sol.kept x b (name_undefined x ((not_defined x v e).0 t)) ∙ begin_other ins inputs x h)
              ∙ sym (get_elem_get_d (old_cells n rec) x (Val.Bool false) (omega (arith, length_values (cell_count n) (drop 1 rec))));
        }

    choice_solution : (ds : List Value) → Choice f vs old ins ds → ((i : ℕ) → i < length n.equations → Satisfies f vs old ds i) → Y.Solution sys (begin ins) segs ds
    choice_solution ds c all =
        let size = kind_length ds c.in_kind in
        record {
          size = size;
          kinds = same_kinds ins kinds ds c.in_kind;
          kept = λ x h u. by_cases (dec_lt x (input_count n))
              (λ b. sym (get_or-take (input_count n) ds x (Val.Bool false) b) ∙ ap (λ l. at l x) c.inputs ∙ sym (begin_input ins inputs x b))
              (λ b.
              let v = name x in
              let e = get_elem_get_d (cell_names (variables n)) x 0 (omega (arith, names_length (variables n))) in
              let o = old_cells n rec in
              get_d_get_elem ds x (Val.Bool false) ∙ ap (maybe (Val.Bool false) (λ a. a)) (c.held x v (omega arith) e ((not_defined x v e).1 (slot_undefined x h u)))
              ∙ sym (get_d_get_elem o x (Val.Bool false)) ∙ sym (begin_other ins inputs x (omega arith)));
          holds = λ i b. satisfies_sat ds i b size (all i b);
        }

    pub solves : (cs : List Value) (ss : List (List ℕ)) → Y.run_eqs sys (order n.equations) (begin ins) segs ≡ Y.finished cs ss → InKind f cs → Solves f vs old ins cs (cells cs)
    solves cs ss e k =
        let sol = YP.run_solution sys sys_lawful (order n.equations) sys_valid (begin ins) segs begins counted cs ss e (same_kinds ins kinds cs k) in
        record {
          bytes = refl;
          choice = chosen cs k sol;
          satisfied = λ i b. sat_satisfies cs i b (sol.holds i b);
          unique = λ ds c d.
              ⊎_elim
              (λ all. absurd (d (YP.solution_unique sys sys_lawful (order n.equations) sys_valid (begin ins) segs begins counted ds cs (choice_solution ds c all) sol)))
              (λ w. w)
              (search_below (Satisfies f vs old ds) (satisfies? ds) (length n.equations));
        }
