-- The orders of all nodes of a file, as bytes.
use Rattle.std.specs.Prelude.{ℕ, zero, suc, ◌+◌, ◌*◌, ◌≤◌, ◌<◌, Bool, true, List, [], ◌∷◌, map, ◌≡◌, length, get_or, All, Result, Ok, Err}
use Rattle.std.proofs.Math.Option.{Option, none, some}
use Rattle.std.proofs.lemmas.List.Edits.{sets}
use Rattle.ol_spec.specs.Lists.{maybe}
use Rattle.ol_spec.specs.Syntax.{Equation, Node, File, no_node, variables}
use Rattle.ol_spec.specs.Places.{placed_nodes}
use Rattle.ol_spec.specs.Limits.{base, relay_loader}
use Rattle.ol_spec.specs.Read.{got, read_file}
use Rattle.ol_spec.specs.Order.{definer, order, unplaced}
use Rattle.ol_spec.specs.Admission.{ring_in, fault11}
use Rattle.ol_tables.specs.Tables.{row_at, node_of, slots_from, two_at, plans_of, plan_in, equation_place}
use Rattle.ol_spec.specs.declared.Limits.{Limits}
use Rattle.ol_order.specs.Tables.{entries_for}
use Rattle.ol_ir.specs.Walks.{place_of}

-- an error is the place of the first equation that is never placed
abbrev pub Ring : Type 0
Ring = Result (Unit {0}) ℕ

abbrev pub ring_place : Ring → Option ℕ
ring_place (Err p) = some p
ring_place (Ok tt) = none

-- no equation defines a name from n on
abbrev pub LowNames : ℕ → List Equation → Type 0
LowNames n qs = (x : ℕ) → n ≤ x → definer qs x ≡ none

-- the bytes start with the order of the equations
abbrev pub StartsWith : List Equation → List ℕ → Type 0
StartsWith qs out = (j : ℕ) → j < length qs → get_or out j 0 ≡ get_or (order qs) j 0

-- the bytes with the order of the equations from `from` on; as they were, where an equation is never placed
abbrev pub row_written : List Equation → ℕ → List ℕ → List ℕ
row_written qs from before = maybe (sets before from (order qs)) (λ i. before) (unplaced qs)

-- of equations that start at these places: the place of the first that is never placed, or their order
pub record EquationsDone (qs : List Equation) (starts before out : List ℕ) (r : Ring) : Type 0 where
  pub found : ring_place r ≡ maybe none (λ i. some (get_or starts i 0)) (unplaced qs)
  pub few : length (order qs) ≤ length qs
  pub order : unplaced qs ≡ none → StartsWith qs out
  pub written : out ≡ row_written qs 0 before

-- every entry of a node's order is the index of one of its equations, which are at most the limit, and the limit is below 255
pub record PlacesFit (l : Limits) (n : Node) : Type 0 where
  pub inside : All (λ i. i < length n.equations) (order n.equations)
  pub within : length n.equations ≤ l.equations
  pub few : l.equations < 255

-- so is a byte enough for an equation's place in the sequence, in every node of every file that reads
abbrev pub PlacesAreBytes : Type 0
PlacesAreBytes = (s : List ℕ) (f : File) (end : ℕ) → read_file s relay_loader ≡ got f end → (k : ℕ) → k < length f.nodes → PlacesFit base (node_of f k)

-- what a plan that starts at `plan` says of n equations: where each starts
unfoldable pub starts_in : List ℕ → ℕ → ℕ → List ℕ
starts_in tab plan zero = []
starts_in tab plan (suc n) = two_at tab plan ∷ starts_in tab (plan + 2) n

-- of the node n that starts at `at`: the place of the first equation that is never placed, or their order, from `from` on
pub record NodeDone (at : ℕ) (n : Node) (from : ℕ) (before out : List ℕ) (r : Ring) : Type 0 where
  pub found : ring_place r ≡ ring_in (at, n)
  pub few : length (order n.equations) ≤ length n.equations
  pub order : ring_in (at, n) ≡ none → (j : ℕ) → j < length n.equations → get_or out (from + j) 0 ≡ get_or (order n.equations) j 0
  pub written : out ≡ row_written n.equations from before

-- A file reads without fault, with so many enums and its nodes at these places. With `low`, no equation defines a name from the number of entries on that the table of definers has
pub record NodesStand (s : List ℕ) (enums : ℕ) (places : List ℕ) (low : Bool) : Type 0 where
  pub file : File
  pub end : ℕ
  pub is : read_file s relay_loader ≡ got file end
  pub counted : length file.enums ≡ enums
  pub placed : places ≡ map place_of (placed_nodes file)
  pub lows : low ≡ true → (k : ℕ) → k < length file.nodes → LowNames (entries_for s) (get_or file.nodes k no_node).equations

-- the rows have the numbers of node k's variables and equations, and its plan says where each equation stands
pub record NodePlanned (f : File) (rows tab : List ℕ) (k : ℕ) : Type 0 where
  pub variables : row_at rows k 4 ≡ length (variables (node_of f k))
  pub count : row_at rows k 5 ≡ length (node_of f k).equations
  pub places : (i : ℕ) → i < length (node_of f k).equations → two_at (plans_of tab) (plan_in f k + 2 * i) ≡ equation_place f k i

-- the table of a file, from the orders on, has the plans of its nodes
pub record Planned (s rows tab : List ℕ) : Type 0 where
  pub long : slots_from ≤ length tab
  pub file : (f : File) (end : ℕ) → read_file s relay_loader ≡ got f end → (k : ℕ) → k < length f.nodes → NodePlanned f rows tab k

-- entry k * 80 + j is the index of the equation of node k that runs j-th
abbrev pub OrderOf : File → List ℕ → ℕ → Type 0
OrderOf f orders k =
    (j : ℕ) → j < length (get_or f.nodes k no_node).equations → get_or orders (k * 80 + j) 0 ≡ get_or (order (get_or f.nodes k no_node).equations) j 0

-- the bytes with the orders of these nodes, of which the first is node k, up to the first node with an equation that is never placed
unfoldable pub orders_written : ℕ → List Node → List ℕ → List ℕ
orders_written k [] t = t
orders_written k (n ∷ ns) t = maybe (orders_written (suc k) ns (sets t (k * 80) (order n.equations))) (λ i. t) (unplaced n.equations)

-- 11, or the orders of all nodes. In both cases all bytes are told: those of the nodes before the first with a ring have their orders, the others are as they were before
pub record OrdersDone (f : File) (before orders : List ℕ) (r : Ring) : Type 0 where
  pub found : ring_place r ≡ fault11 f
  pub written : orders ≡ orders_written 0 f.nodes before
  pub order : fault11 f ≡ none → (k : ℕ) → k < length f.nodes → OrderOf f orders k
