-- A file without the faults 6 to 11 and 22, with right tables, is what running its nodes asks.
use Prim.Native.Nat.{ℕ, ◌+◌, ◌≤◌, ◌<◌}
use mathlib.Core.Bool.{true}
use mathlib.Core.List.Memᴰ.{append_cases as in_append}
use mathlib.Core.List.Memᴰ.{append_right as in_right}
use mathlib.Core.List.Memᴰ.{not-nil as in_nil}
use mathlib.Core.List.{List, [], ◌++◌, map}
use mathlib.Core.Logic.{by_cases, ⊎_elim}
use mathlib.Core.Option.{none}
use mathlib.Core.Path.{◌≡◌, sym, ap, subst, ◌∙◌}
use native.Mathlib.Omega.{arith}
use native.Mathlib.Decide.{dec_lt}
use lib.ListN.{length, get_or, get_or-eq_default}
use lib.Seq.{take_all}
use lib.Dec.{T, ltb, ltb→lt}
use Rattle.ol_theory.specs.Member.{◌∈◌}
use Rattle.ol_theory.proofs.OrderProof.{valid_length}
use Rattle.ol_theory.proofs.SystemProof.{in_order_distinct}
use Rattle.ol_spec.specs.Lists.{concat, member}
use Rattle.ol_spec.specs.Syntax.{Expr, Equation, Constant, File, no_node, variables, variable_names, name_of, constant_cells, rhs_of}
use Rattle.ol_spec.specs.Places.{equation_size, node_size, placed_constants, placed_nodes, placed_equations, placed_names, equations_start, nodes_start, rhs_place, collect}
use Rattle.ol_spec.specs.Encode.{equation_bytes}
use Rattle.ol_spec.specs.Limits.{base, relay_loader}
use Rattle.ol_spec.specs.Within.{name_fits, section_fits, equation_fits}
use Rattle.ol_spec.specs.Order.{order}
use Rattle.ol_spec.specs.Shapes.{arrays_in, constant_arrays}
use Rattle.ol_spec.specs.Step.{sites, no_equation}
use Rattle.ol_spec.specs.Demand3.{Bytes}
use Rattle.ol_spec.specs.Admission.{variants, constant_names, constant_cell_names, head_size, used_at, used, constant_uses, equation_uses, node_uses, fault7, in_constant, in_equation, arity, uses_where, bad_call, bad_iterator, node_calls, fault9, numbered, under_name, misplaced_in, first_some, constant_misplaced, node_misplaced, fault22}
use Rattle.ol_spec.proofs.Tests.{T_and, member_in}
use Rattle.ol_spec.proofs.Lists.{All, all_at, all_in_lem}
use Rattle.ol_spec.proofs.Forms.{Allowed, may_be, may_iterate, runnable_at, sites_used}
use Rattle.ol_spec.proofs.Rights.{by_right}
use Rattle.ol_spec.proofs.ReadFacts.{FileRead, NodeRead, EquationRead, TupleOk, file_read}
use Rattle.ol_spec.proofs.Admits.{Clean, first_clean, clean_parts, clean_each, or_else_none, first_some_none, node_runnable, used_lower}
use Rattle.ol_spec.proofs.MainFacts.{names_of, unseen_all, seen_by, taken_in, names_seen, names_fresh, fresh_out, Shaped, shapes, shaped_arity}
use Rattle.ol_spec.proofs.MainSystem.{names_in_lem}
use Rattle.ol_spec.proofs.Slots.{names_length}
use Rattle.ol_spec.proofs.Ordering.{deps_of}
use Rattle.ol_spec.proofs.Admitted.{node_placed}
use Rattle.ol_spec.proofs.RoundTrip.{encode_read}
use Rattle.ol_spec.proofs.RoundTrip.Parts.{Here}
use Rattle.ol_spec.proofs.RoundTrip.Items.{equation_size_lem}
use Rattle.ol_spec.proofs.RoundTrip.Placed.{placed_here, equation_here}
use Rattle.ol_tables.specs.At.{file_at, node_in, expr_at, ReadsAll}
use Rattle.ol_tables.specs.Stands.{NodeStands}
use Rattle.ol_tables.specs.Tables.{Each, Sound, HasSlot, HasCell, Slotted, place_of, cell_of, lengths_in}
use Rattle.ol_tables.proofs.HeadsFile.{node_at_lem, equation_stands}
use Rattle.ol_state.specs.Known.{Known}
use Rattle.ol_frame.specs.Walk.{nodes_in, Below}
use Rattle.ol_frame.specs.Plans.{known_in, constants_in, names_in, Program, Constants, Named}
use Rattle.ol_frame.specs.Shapes.{Suited, head_item}
use Rattle.ol_frame.specs.Equations.{count_in, place_in, equation_in, rhs_in}
use Rattle.ol_frame.specs.Nodes.{EquationPlan, NodePlan, Running}
use Rattle.ol_frame.proofs.Programs.{laid, narrow, constants_some, known_few, some_output}
use Rattle.ol_frame.proofs.Running.{each_in}
use Rattle.ol_run.specs.Admitted.{Admitted}
use Rattle.ol_run.specs.Admitted.{Sound as NoFaults}
use Rattle.ol_run.proofs.Constant.{names_many}
use Rattle.ol_run.proofs.Placing.{each_all, all_each, each_two, all_right, fits_all, clean_sound, item_at, place_at_lem, number_at}
use Rattle.ol_run.proofs.Standing.{root_read, read_collected}
use Rattle.ol_run.proofs.Seen.{cell_free, seen_parts}
use Rattle.ol_run.proofs.Suits.{rhs_suited}

-- ---- nodes, by what fault 7 and fault 9 say

-- the names that each equation uses are seen
node_seen : (f : File) → fault7 f ≡ none → (k : ℕ) → k < length f.nodes
    → All (λ q. Clean (equation_uses (seen_by f (get_or f.nodes k no_node)) q)) (placed_equations (place_of (placed_nodes f) k) (get_or f.nodes k no_node))
unfolding fault7
node_seen f e k b =
    let a = constant_uses (variants f) (placed_constants f) in
    let h = node_uses (constant_names f ++ variants f) in
    let bs = concat (map h (placed_nodes f)) in
    let c = (clean_parts a bs (first_clean (a ++ bs) e)).1 in
    let n = get_or f.nodes k no_node in
    let w = place_at_lem node_size (λ x. Clean (h x)) no_node (nodes_start f) f.nodes k b (clean_each h (placed_nodes f) c) in
    clean_each (equation_uses (seen_by f n)) (placed_equations (place_of (placed_nodes f) k) n) w

-- no call and no iterator in an equation is faulted
node_called : (f : File) → fault9 f ≡ none → (k : ℕ) → k < length f.nodes
    → All (λ q. Clean (in_equation (uses_where (bad_call f k (get_or f.nodes k no_node)) (bad_iterator k)) q)) (placed_equations (place_of (placed_nodes f) k) (get_or f.nodes k no_node))
unfolding fault9
node_called f e k b =
    let a = concat (map (in_constant (uses_where (λ c args. true) (λ c. true))) (placed_constants f)) in
    let bs = concat (map (node_calls f) (numbered 0 (placed_nodes f))) in
    let c = (clean_parts a bs (first_clean (a ++ bs) e)).1 in
    let n = get_or f.nodes k no_node in
    let w = number_at node_size (λ x. Clean (node_calls f x)) no_node 0 (nodes_start f) f.nodes (clean_each (node_calls f) (numbered 0 (placed_nodes f)) c) k k (omega arith) b in
    clean_each (in_equation (uses_where (bad_call f k n) (bad_iterator k))) (placed_equations (place_of (placed_nodes f) k) n) w

-- no equation's parts are of a wrong shape
node_shaped : (f : File) → fault22 f ≡ none → (k : ℕ) → k < length f.nodes
    → All (λ q. misplaced_in f (arrays_in (variables (get_or f.nodes k no_node))) q ≡ none) (placed_equations (place_of (placed_nodes f) k) (get_or f.nodes k no_node))
unfolding fault22
node_shaped f e k b =
    let each = first_some_none (node_misplaced f) (placed_nodes f) (or_else_none (first_some (map (constant_misplaced f) (placed_constants f))) _ e).1 in
    let n = get_or f.nodes k no_node in
    let w = place_at_lem node_size (λ p. node_misplaced f p ≡ none) no_node (nodes_start f) f.nodes k b each in
    first_some_none (misplaced_in f (arrays_in (variables n))) (placed_equations (place_of (placed_nodes f) k) n) w

-- ---- the file

module _ {s rows tab : List ℕ} (a : Admitted s rows tab) (bytes : Bytes s) where
  abbrev f : File
  f = file_at s

  abbrev sound : NoFaults (file_at s)
  sound = a.ordered.shaped.sound

  beyond : (k : ℕ) → ¬ (k < nodes_in s) → node_in s k ≡ no_node
  beyond k h = get_or-eq_default f.nodes no_node (omega arith)

  stands_at : (k : ℕ) → k < nodes_in s → NodeStands s (length f.enums) (place_of (placed_nodes f) k) (node_in s k)
  stands_at k b = node_at_lem a.stands k b

  is_file : FileRead f
  is_file = file_read s bytes relay_loader f a.reads.end a.reads.is

  is_node : (k : ℕ) → k < nodes_in s → NodeRead (length f.enums) (node_in s k)
  is_node k b = all_at (NodeRead (length f.enums)) f.nodes k no_node is_file.nodes_read b

  pub program : Program s tab rows
  program =
      record {
        sized = record { small = a.stands.short; few = a.stands.few_nodes; table = a.rowed };
        table = a.tabled;
        fits = (encode_read relay_loader s f a.reads.end bytes a.reads.is).2;
        no6 = sound.no6;
      }

  arity_some : (k : ℕ) (e : Expr) → TupleOk (rhs_of e) → Allowed f.nodes (arrays_in (variables (node_in s k))) (constant_arrays f.constants) (may_be f.nodes) (may_iterate f.nodes) e → 1 ≤ arity f (rhs_of e)
  arity_some k =
      by_right (λ e r. TupleOk r → Allowed f.nodes (arrays_in (variables (node_in s k))) (constant_arrays f.constants) (may_be f.nodes) (may_iterate f.nodes) e → 1 ≤ arity f r)
      (λ e r p. omega arith)
      (λ c es r p. some_output program c (ltb→lt c (length f.nodes) (T_and (ltb c (length f.nodes)) _ p.0).0))
      (λ es r p. omega arith)

  -- ---- calls

  known : Known f s tab rows
  known =
      record {
        encoded = (encode_read relay_loader s f a.reads.end bytes a.reads.is).0;
        within = program.fits;
        lower = λ k c m.
            by_cases (dec_lt k (nodes_in s)) (λ b. used_lower f sound.no9 k b c (sites_used (node_in s k).equations c m))
            (λ h. absurd (in_nil (subst (λ n. c ∈ sites n) (beyond k h) m)));
        rowed = a.rowed;
        tabled = a.tabled;
      }

  -- ---- equations

  module _ (k i : ℕ) (b : k < nodes_in s) (lt : i < count_in s k) where
    abbrev place : ℕ
    place = place_in s k i

    abbrev q : Equation
    q = equation_in s k i

    is_here : Here s (place_in s k i) (equation_bytes (equation_in s k i))
    is_here =
        let ns = stands_at k b in
        let start = equations_start (place_of (placed_nodes f) k) (node_in s k) + 1 in
        item_at equation_size (λ p. Here s p.0 (equation_bytes p.1)) (0, no_equation) start (node_in s k).equations i lt (placed_here equation_bytes equation_size equation_size_lem start (node_in s k).equations ns.equations.here)

    is_fit : T (equation_fits base (length f.enums) (equation_in s k i))
    is_fit = all_at (λ q. T (equation_fits base (length f.enums) q)) (node_in s k).equations i no_equation (fits_all (equation_fits base (length f.enums)) (node_in s k).equations (stands_at k b).equations.fit) lt

    is_read : ReadsAll s 24 1 (rhs_in s k i) × (expr_at s 24 (rhs_in s k i) ≡ (equation_in s k i).rhs)
    is_read = root_read s q.rhs (rhs_in s k i) (omega (arith, a.stands.few_enums)) (T_and (section_fits 1 16 name_fits q.names) _ is_fit).1 (equation_here place q is_here).1

    -- the names that it uses are seen
    is_seen : All (λ p. T (member p.1 (seen_by f (node_in s k)))) (used (rhs_in s k i) (equation_in s k i).rhs)
    is_seen =
        let n = node_in s k in
        let own = placed_names (place + 1) q.names in
        let uses = used (rhs_in s k i) q.rhs in
        let start = equations_start (place_of (placed_nodes f) k) n + 1 in
        all_right (λ p. T (member p.1 (seen_by f n))) own uses
        (unseen_all (seen_by f n) (own ++ uses) (item_at equation_size (λ q. Clean (equation_uses (seen_by f n) q)) (0, no_equation) start n.equations i lt (node_seen f sound.no7 k b)))

    is_called : Each Sound (collect (uses_where (bad_call f k (node_in s k)) (bad_iterator k)) (rhs_in s k i) (equation_in s k i).rhs)
    is_called =
        let n = node_in s k in
        let bad = uses_where (bad_call f k n) (bad_iterator k) in
        let start = equations_start (place_of (placed_nodes f) k) n + 1 in
        clean_sound (collect bad (rhs_in s k i) q.rhs)
        (item_at equation_size (λ q. Clean (in_equation bad q)) (0, no_equation) start n.equations i lt (node_called f sound.no9 k b))

    is_shaped : misplaced_in f (arrays_in (variables (node_in s k))) (place_in s k i, equation_in s k i) ≡ none
    is_shaped =
        let n = node_in s k in
        let start = equations_start (place_of (placed_nodes f) k) n + 1 in
        item_at equation_size (λ q. misplaced_in f (arrays_in (variables n)) q ≡ none) (0, no_equation) start n.equations i lt (node_shaped f a.ordered.shaped.no22 k b)

    -- it gives as many values as it has names, which are variables of its node
    is_counted : arity f (rhs_of (equation_in s k i).rhs) ≡ length (equation_in s k i).names
    is_counted =
        let n = node_in s k in
        let read = (is_node k b).eqs in
        let r = all_at EquationRead n.equations i no_equation read lt in
        let runs = runnable_at f.nodes (arrays_in (variables n)) (constant_arrays f.constants) n.equations i (node_runnable f sound.no9 a.ordered.shaped.no22 k b read) in
        shaped_arity f q (all_at (Shaped f) n.equations i no_equation (shapes f sound.no10 k b) lt) r.named (arity_some k q.rhs r.right.1 runs.1)

    is_declared : Each (λ x. x ∈ variable_names (node_in s k)) (equation_in s k i).names
    is_declared =
        let n = node_in s k in
        let seen : ℕ → Type 0 = λ x. T (member x (seen_by f n)) in
        each_in (λ x. x ∈ variable_names n) q.names
        (λ x m.
        let t = all_in_lem seen q.names x (all_at (λ q. All seen q.names) n.equations i no_equation (names_seen f sound.no7 k b) lt) m in
        let new = fresh_out (taken_in f n) (concat (map names_of n.equations)) (names_fresh f sound.no8 k b) x (names_in_lem n.equations i x m) in
        ⊎_elim (λ v. v) (λ v. absurd (new (in_right (map name_of n.inputs) v))) (in_append (variable_names n) (member_in x (seen_by f n) t)))

    is_slotted : Slotted tab (names_in s k) (constant_cell_names f) (lengths_in f (variables (node_in s k))) (rhs_in s k i) (equation_in s k i).rhs
    is_slotted =
        let n = node_in s k in
        let P : ℕ × Equation → Type 0 = λ q. Slotted tab (names_in s k) (constant_cell_names f) (lengths_in f (variables n)) (rhs_place q.0 q.1) q.1.rhs in
        let start = equations_start (place_of (placed_nodes f) k) n + 1 in
        item_at equation_size P (0, no_equation) start n.equations i lt (each_all P (placed_equations (place_of (placed_nodes f) k) n) (a.tabled.tabs_of k b).slots)

    is_defined : Each (HasSlot tab (variable_names (node_in s k)) (constant_names f)) (placed_names (place_in s k i + 1) (equation_in s k i).names)
    is_defined =
        let n = node_in s k in
        let P : ℕ × Equation → Type 0 = λ q. Each (HasSlot tab (variable_names n) (constant_names f)) (placed_names (q.0 + 1) q.1.names) in
        let start = equations_start (place_of (placed_nodes f) k) n + 1 in
        item_at equation_size P (0, no_equation) start n.equations i lt (each_all P (placed_equations (place_of (placed_nodes f) k) n) (a.tabled.tabs_of k b).defined)

    -- with the cells of all constants
    module _ (consts : List ℕ) (all : known_in consts ≡ length (constant_cell_names (file_at s))) where
      all_names : constants_in s consts ≡ constant_cell_names (file_at s)
      all_names = take_all (known_in consts) (constant_cell_names f) (omega (arith, all))

      has_all : Constants s consts
      has_all = record { count = length f.constants; cells = all ∙ names_many f.constants ∙ ap (λ (cs : List Constant). length (concat (map constant_cells cs))) (sym (take_all (length f.constants) f.constants (omega arith))) }

      few_names : length (constant_cell_names (file_at s)) ≤ 2048
      few_names = omega (arith, all, known_few program has_all)

      is_named : Each (Named s tab consts k) (used (rhs_in s k i) (equation_in s k i).rhs)
      is_named =
          let n = node_in s k in
          let vs = names_in s k in
          let long = lengths_in f (variables n) in
          let seen : ℕ × ℕ → Type 0 = λ p. T (member p.1 (seen_by f n)) in
          let uses = used (rhs_in s k i) q.rhs in
          each_two (HasCell tab vs (constant_cell_names f) long) seen (Named s tab consts k)
          (λ p h t. record {
            cell = subst (λ cs. HasCell tab vs cs long p) (sym all_names) h;
            variant = λ e.
                cell_free (variables n) f.constants (variants f) p.1 (laid program k).filled (constants_some program) (omega (arith, names_length (variables n), narrow program k)) few_names (seen_parts (variable_names n) (constant_names f) (variants f) p.1 t)
                (subst (λ cs. cell_of vs cs p.1 ≡ 65535) all_names e);
          })
          uses is_slotted (all_each seen uses is_seen)

      equation_plan : EquationPlan s tab rows consts k i
      equation_plan =
          let st = equation_stands q is_fit is_here in
          let n = node_in s k in
          let locals = arrays_in (variables n) in
          let suits = rhs_suited f locals (map (under_name f locals) q.names) (rhs_in s k i) q.rhs is_shaped in
          record {
            plan = record {
              program = program;
              known = has_all;
              node≤ = omega arith;
              level≤ = omega arith;
              reads = is_read.0;
              named = subst (Each (Named s tab consts k)) (sym (read_collected s used_at (rhs_in s k i) q.rhs is_read.0 is_read.1)) is_named;
              sound = subst (Each Sound) (sym (read_collected s (uses_where (bad_call f k n) (bad_iterator k)) (rhs_in s k i) q.rhs is_read.0 is_read.1)) is_called;
              suited = subst (Each (Suited f locals)) (sym (read_collected s head_item (rhs_in s k i) q.rhs is_read.0 is_read.1)) suits.0;
            };
            tree = is_read.1;
            count = st.count;
            defined = is_defined;
            declared = is_declared;
            arity_is = is_counted;
            suits = suits.1;
          }

  -- ---- all nodes

  node_plan : (consts : List ℕ) → known_in consts ≡ length (constant_cell_names (file_at s)) → (k : ℕ) → k < nodes_in s → NodePlan s tab rows consts k
  node_plan consts all k b =
      let qs = (node_in s k).equations in
      let p = node_placed f a.ordered.no11 k b in
      record {
        few = (stands_at k b).few_equations;
        equations = λ i lt. equation_plan k i b lt consts all;
        all = valid_length (length qs) (deps_of qs) (order qs) p.valid;
        inside = each_in (Below (count_in s k)) (order qs) p.valid.inside;
        once = in_order_distinct (deps_of qs) [] (order qs) p.valid.in_order;
      }

-- the nodes can be run, once all constants have their cells
pub running : {s rows tab : List ℕ} → Admitted s rows tab → (consts : List ℕ) → Bytes s → length consts ≡ head_size (file_at s) → Running s tab rows consts
running {s} a consts bytes long =
    let all : known_in consts ≡ length (constant_cell_names (file_at s)) = omega (arith, names_many (file_at s).constants) in
    record { known = known a bytes; program = program a bytes; constants = all; nodes = node_plan a bytes consts all }
