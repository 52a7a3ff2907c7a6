-- The lengths of the nodes' records, and of an instance of the last node.
use Rattle.std.specs.Prelude.{ℕ, ◌+◌, ◌*◌, ◌≤◌, ◌<◌, min, List, [], ◌∷◌, map, ◌≡◌, length, get_or, set}
use Rattle.std.proofs.Math.Option.{none}
use Rattle.ol_spec.specs.Lists.{concat}
use Rattle.ol_spec.specs.Syntax.{Node, File, main, constant_cells}
use Rattle.ol_spec.specs.Step.{instance_size, sizes_at}
use Rattle.ol_spec.specs.Admission.{state_size, fault9}
use Rattle.ol_tables.specs.Tables.{row_at, size_cap, site_bytes, node_of}
use Rattle.ol_check.specs.Records.{instance_b, record_by}
use Rattle.ol_check.specs.RowsDone.{NodeRow}
use Rattle.ol_check.specs.NodesJudged.{place_in}

-- the lengths of the records are in the rows
abbrev pub SizesIn : File → List ℕ → Type 0
SizesIn f rows = (k : ℕ) → k < length f.nodes → row_at rows k 6 ≡ min (site_bytes f k) size_cap

-- the lengths of the records are in the rows, where 9 does not hold, and all else is as before
pub record SizesDone (f : File) (rows rows' : List ℕ) : Type 0 where
  pub row : (k : ℕ) → k < length f.nodes → NodeRow (node_of f k) (place_in f k) k rows'
  pub others : (k j : ℕ) → j < 8 → (j ≡ 6 → ⊥) → row_at rows' k j ≡ row_at rows k j
  pub above : (j : ℕ) → 256 ≤ j → get_or rows' j 0 ≡ get_or rows j 0
  pub sizes : fault9 f ≡ none → SizesIn f rows'

-- an instance of the last node has so many bytes, up to the cap
abbrev pub MainSized : File → ℕ → Type 0
MainSized f n = n ≡ min (instance_size (sizes_at (length f.nodes) f.nodes) (main f)) size_cap

-- the state's length by the number of the constants' cells and by the bytes of an instance of the last node, which is the file's where these are the file's
pub record StateSized (cells n r : ℕ) : Type 0 where
  pub is : r ≡ min (9 * cells + n) size_cap
  pub sized : (f : File) → cells ≡ length (concat (map constant_cells f.constants)) → MainSized f n → r ≡ min (state_size f) size_cap

-- the rows after the records of these nodes are stored, the first being number k, each as the rows before it tell; and the bytes of an instance of the last, up to the cap
abbrev pub instance_by : List ℕ → ℕ → Node → ℕ
instance_by rows nodes n = min (instance_b rows nodes n) size_cap

abbrev pub size_node : List ℕ → ℕ → ℕ → Node → List ℕ
size_node rows nodes k n = set rows (k * 8 + 6) (record_by (row_at rows k 0) (instance_by rows nodes n))

unfoldable pub size_nodes : List ℕ → ℕ → ℕ → List Node → List ℕ
size_nodes rows nodes k [] = rows
size_nodes rows nodes k (n ∷ ns) = size_nodes (size_node rows nodes k n) nodes (k + 1) ns

unfoldable pub last_size : ℕ → List ℕ → ℕ → ℕ → List Node → ℕ
last_size size rows nodes k [] = size
last_size size rows nodes k (n ∷ ns) = last_size (instance_by rows nodes n) (size_node rows nodes k n) nodes (k + 1) ns

-- the records' lengths as the rows tell them, and those of the file where 9 does not hold
pub record NodesSized (f : File) (rows rows' : List ℕ) (size n : ℕ) : Type 0 where
  pub stored : rows' ≡ size_nodes rows (length f.nodes) 0 f.nodes
  pub last : n ≡ last_size size rows (length f.nodes) 0 f.nodes
  pub done : SizesDone f rows rows'
  pub main : 1 ≤ length f.nodes → fault9 f ≡ none → MainSized f n
