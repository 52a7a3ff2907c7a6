-- What the ordering of a file's nodes asks and gives.
use Rattle.std.specs.Prelude.{ℕ, ◌≤◌, ◌<◌, true, List, ◌≡◌, take, drop, get_or}
use Rattle.ol_spec.specs.Syntax.{Node, File}
use Rattle.ol_spec.specs.Limits.{base, relay_loader}
use Rattle.ol_spec.specs.Read.{got, read_file}
use Rattle.ol_tables.specs.Numbers.{numbers}
use Rattle.ol_order.specs.Tables.{node_at, entries_for}
use Rattle.ol_order.specs.Orders.{Ring, NodesStand, Planned, OrdersDone}
use Rattle.ol_order.specs.declared.table.Nodes.{Nodes}

-- where node k starts
abbrev pub nth_place : Nodes → ℕ → ℕ
nth_place n k = get_or n.places.now k 0

-- node k
abbrev pub nth_node : Nodes → ℕ → Node
nth_node n k = node_at n.file.now base n.enums (nth_place n k)

-- the nodes stand in a file that reads, and its table has their plans
pub record OrdersAsked (n : Nodes) (tab : List ℕ) : Type 0 where
  pub stand : NodesStand n.file.now n.enums n.places.now n.low
  pub planned : Planned n.file.now (numbers n.rows.now) tab

-- a table of definers of n entries serves the nodes: with `low` each name that an equation defines has an entry of its own
pub record Entries (nodes : Nodes) (n : ℕ) : Type 0 where
  pub some : 0 < n
  pub few : n ≤ 1024
  pub own : nodes.low ≡ true → n ≡ entries_for nodes.file.now

-- the first 2,560 bytes of the table have their orders, the others stay
pub record OrdersTold (n : Nodes) (before after : List ℕ) (r : Ring) : Type 0 where
  pub done : (f : File) (end : ℕ) → read_file n.file.now relay_loader ≡ got f end → OrdersDone f (take 2560 before) (take 2560 after) r
  pub kept : drop 2560 after ≡ drop 2560 before
