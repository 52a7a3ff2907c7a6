-- The slots that a file's walk leaves: every name of every equation has what its entry in its node's table tells.
use Prim.Native.Nat.{ℕ, zero, suc, ◌+◌, ◌≤◌, ◌<◌}
use mathlib.Core.List.{List, [], ◌∷◌, map}
use mathlib.Core.Path.{◌≡◌, refl, subst, ◌∙◌}
use native.Mathlib.Omega.{arith}
use lib.ListN.{length, get_or}
use Rattle.ol_spec.specs.Lists.{sum}
use Rattle.ol_spec.specs.Syntax.{Equation, Node, File, no_node}
use Rattle.ol_spec.specs.Step.{no_equation}
use Rattle.ol_spec.specs.Places.{equation_size, node_size, placed, placed_equations, placed_nodes, equations_start, nodes_start}
use Rattle.ol_spec.specs.Encode.{equation_bytes, node_bytes}
use Rattle.ol_spec.specs.Limits.{base}
use Rattle.ol_spec.specs.Within.{equation_fits, node_fits}
use Rattle.ol_spec.proofs.RoundTrip.Items.{equation_size_lem, node_size_lem}
use Rattle.ol_tables.specs.At.{file_at}
use Rattle.ol_tables.specs.Tables.{Each}
use Rattle.ol_tables.specs.Stands.{Listed, EquationStands, NodeStands, FileStands}
use Rattle.ol_tables.proofs.HeadsFile.{passing_start, passing_item, equation_stands, node_stands}
use Rattle.ol_check.specs.Judging.{entry_cell, slot_equation, slot_equations}
use Rattle.ol_check.specs.NodesJudged.{node_table, slot_nodes}
use Rattle.ol_check.proofs.EquationLaws.{EquationHeld, equation_below, equation_length, equation_held}

-- the first of a list stands there, the others behind it
equations_cons : (s : List ℕ) (enums at : ℕ) (q : Equation) (qs : List Equation) → Listed equation_bytes (equation_fits base enums) s at (q ∷ qs)
    → EquationStands s enums at q × Listed equation_bytes (equation_fits base enums) s (at + equation_size q) qs
equations_cons s enums at q qs h =
    let it = passing_item equation_size_lem no_equation (passing_start equation_bytes (equation_fits base enums) equation_size h) (omega arith) in
    (equation_stands q it.fit it.here, it.on.left)

nodes_cons : (s : List ℕ) (enums at : ℕ) (n : Node) (ns : List Node) → Listed node_bytes (node_fits base enums) s at (n ∷ ns) → NodeStands s enums at n × Listed node_bytes (node_fits base enums) s (at + node_size n) ns
nodes_cons s enums at n ns h =
    let it = passing_item node_size_lem no_node (passing_start node_bytes (node_fits base enums) node_size h) (omega arith) in
    (node_stands n it.fit it.here, it.on.left)

-- ---- equations

module _ (s names : List ℕ) (k enums : ℕ) where
  pub equations_below : (qs : List Equation) (at : ℕ) → Listed equation_bytes (equation_fits base enums) s at qs → (slots : List ℕ) (j : ℕ) → j ≤ at → get_or (slot_equations s names k slots (placed equation_size at qs)) j 0 ≡ get_or slots j 0
  unfolding slot_equations
  equations_below [] at h slots j le = refl
  equations_below (q ∷ qs) at h slots j le =
      let w = equations_cons s enums at q qs h in
      equations_below qs (at + equation_size q) w.1 (slot_equation s names k slots (at, q)) j (omega arith) ∙ equation_below s names k w.0 slots j le

  pub equations_length : (qs : List Equation) (at : ℕ) → Listed equation_bytes (equation_fits base enums) s at qs → (slots : List ℕ) → length (slot_equations s names k slots (placed equation_size at qs)) ≡ length slots
  unfolding slot_equations
  equations_length [] at h slots = refl
  equations_length (q ∷ qs) at h slots =
      let w = equations_cons s enums at q qs h in
      equations_length qs (at + equation_size q) w.1 (slot_equation s names k slots (at, q)) ∙ equation_length s names k w.0 slots

  pub equations_held : ((e : ℕ) → entry_cell (file_at s) k e < 65536) → (qs : List Equation) (at : ℕ) → Listed equation_bytes (equation_fits base enums) s at qs → (slots final : List ℕ) → length s ≤ length slots → length s ≤ length final
      → ((j : ℕ) → j < at + sum (map equation_size qs) → get_or final j 0 ≡ get_or (slot_equations s names k slots (placed equation_size at qs)) j 0) → Each (EquationHeld (file_at s) k names final) (placed equation_size at qs)
  unfolding slot_equations
  equations_held small [] at h slots final room far same = tt
  equations_held small (q ∷ qs) at h slots final room far same =
      let w = equations_cons s enums at q qs h in
      let next = slot_equation s names k slots (at, q) in (
        equation_held s names k w.0 small slots final room far (λ j lt. same j (omega arith) ∙ equations_below qs (at + equation_size q) w.1 next j (omega arith)),
        equations_held small qs (at + equation_size q) w.1 next final (omega (arith, equation_length s names k w.0 slots)) far (λ j lt. same j (omega arith)),
      )

-- ---- nodes

-- every name of the equations of a node, which is number k, has what the node's table tells
abbrev pub NodeSlotted : File → List ℕ → List ℕ → ℕ → ℕ × Node → Type 0
NodeSlotted f names slots k n = Each (EquationHeld f k (node_table names n.1) slots) (placed_equations n.0 n.1)

-- nodes, the first being number k
abbrev pub NodesSlotted : File → List ℕ → List ℕ → ℕ → List (ℕ × Node) → Type 0
NodesSlotted f names slots k [] = Unit
NodesSlotted f names slots k (n ∷ ns) = NodeSlotted f names slots k n × NodesSlotted f names slots (k + 1) ns

module _ (s names : List ℕ) (enums : ℕ) where
  pub nodes_below : (ns : List Node) (at k : ℕ) → Listed node_bytes (node_fits base enums) s at ns → (slots : List ℕ) (j : ℕ) → j ≤ at → get_or (slot_nodes s names slots k (placed node_size at ns)) j 0 ≡ get_or slots j 0
  unfolding slot_nodes
  nodes_below [] at k h slots j le = refl
  nodes_below (n ∷ ns) at k h slots j le =
      let w = nodes_cons s enums at n ns h in
      nodes_below ns (at + node_size n) (k + 1) w.1 _ j (omega arith) ∙ equations_below s (node_table names n) k enums n.equations (equations_start at n + 1) w.0.equations slots j (omega arith)

  pub nodes_length : (ns : List Node) (at k : ℕ) → Listed node_bytes (node_fits base enums) s at ns → (slots : List ℕ) → length (slot_nodes s names slots k (placed node_size at ns)) ≡ length slots
  unfolding slot_nodes
  nodes_length [] at k h slots = refl
  nodes_length (n ∷ ns) at k h slots =
      let w = nodes_cons s enums at n ns h in
      nodes_length ns (at + node_size n) (k + 1) w.1 _ ∙ equations_length s (node_table names n) k enums n.equations (equations_start at n + 1) w.0.equations slots

  nodes_held : ((k e : ℕ) → entry_cell (file_at s) k e < 65536) → (ns : List Node) (at k : ℕ) → Listed node_bytes (node_fits base enums) s at ns → (slots final : List ℕ) → length s ≤ length slots → length s ≤ length final
      → ((j : ℕ) → j < at + sum (map node_size ns) → get_or final j 0 ≡ get_or (slot_nodes s names slots k (placed node_size at ns)) j 0) → NodesSlotted (file_at s) names final k (placed node_size at ns)
  unfolding slot_nodes
  nodes_held small [] at k h slots final room far same = tt
  nodes_held small (n ∷ ns) at k h slots final room far same =
      let w = nodes_cons s enums at n ns h in
      let next = slot_equations s (node_table names n) k slots (placed_equations at n) in (
        equations_held s (node_table names n) k enums (small k) n.equations (equations_start at n + 1) w.0.equations slots final room far (λ j lt. same j (omega arith) ∙ nodes_below ns (at + node_size n) (k + 1) w.1 next j (omega arith)),
        nodes_held small ns (at + node_size n) (k + 1) w.1 next final (omega (arith, equations_length s (node_table names n) k enums n.equations (equations_start at n + 1) w.0.equations slots)) far (λ j lt. same j (omega arith)),
      )

-- node k of them
pub slotted_at : (f : File) (names slots : List ℕ) (ns : List Node) (at i k : ℕ) → k < length ns → NodesSlotted f names slots i (placed node_size at ns) → NodeSlotted f names slots (i + k) (get_or (map (λ p. p.0) (placed node_size at ns)) k 0, get_or ns k no_node)
slotted_at f names slots [] at i k lt h = absurd (omega arith)
slotted_at f names slots (n ∷ ns) at i zero lt h = let z : i + 0 ≡ i = omega arith in rw z h.0
slotted_at f names slots (n ∷ ns) at i (suc k) lt h =
    let z : i + 1 + k ≡ i + suc k = omega arith in
    subst (λ m. NodeSlotted f names slots m (get_or (map (λ p. p.0) (placed node_size (at + node_size n) ns)) k 0, get_or ns k no_node)) z (slotted_at f names slots ns (at + node_size n) (i + 1) k (omega arith) h.1)

-- what the walk over a file's nodes leaves
pub file_slotted : {s : List ℕ} → FileStands s (file_at s) → ((k e : ℕ) → entry_cell (file_at s) k e < 65536) → (names slots : List ℕ) → length s ≤ length slots
    → NodesSlotted (file_at s) names (slot_nodes s names slots 0 (placed_nodes (file_at s))) 0 (placed_nodes (file_at s))
file_slotted {s} st small names slots room =
    let f = file_at s in
    nodes_held s names (length f.enums) small f.nodes (nodes_start f) 0 st.nodes slots (slot_nodes s names slots 0 (placed_nodes f)) room (omega (arith, nodes_length s names (length f.enums) f.nodes (nodes_start f) 0 st.nodes slots)) (λ j lt. refl)
