-- The equations of a node: where each stands, and where its records start among those of all.
use Rattle.std.specs.Prelude.{ℕ, suc, ◌+◌, ◌*◌, Bool, ◌&&◌, cond, List, map, ◌≡◌, eqb, length, take, get_or}
use Rattle.ol_spec.specs.Lists.{concat}
use Rattle.ol_spec.specs.Syntax.{Equation}
use Rattle.ol_spec.specs.Places.{placed_nodes, placed_equations, rhs_place}
use Rattle.ol_spec.specs.Eval.{sites_size}
use Rattle.ol_spec.specs.Step.{equation_sites, sites, no_equation, equation_at}
use Rattle.ol_tables.specs.At.{file_at, node_in}
use Rattle.ol_tables.specs.Table.{tab_of, rows_of}
use Rattle.ol_tables.specs.Tables.{place_of, row_at, plans_from}
use Rattle.ol_tables.specs.Heads.{parts_at, next_at}
use Rattle.ol_tables.specs.Walks.{skip_at}
use Rattle.ol_frame.specs.Walk.{sizes_in}

-- how many equations node k has
abbrev pub count_in : List ℕ → ℕ → ℕ
count_in file k = length (node_in file k).equations

-- where equation i of node k stands
abbrev pub place_in : List ℕ → ℕ → ℕ → ℕ
place_in file k i = (get_or (placed_equations (place_of (placed_nodes (file_at file)) k) (node_in file k)) i (0, no_equation)).0

-- the equation, and where its right side stands
abbrev pub equation_in : List ℕ → ℕ → ℕ → Equation
equation_in file k i = equation_at (node_in file k) i

abbrev pub rhs_in : List ℕ → ℕ → ℕ → ℕ
rhs_in file k i = rhs_place (place_in file k i) (equation_in file k i)

-- the bytes of the records of the equations before equation i
abbrev pub offset_in : List ℕ → ℕ → ℕ → ℕ
offset_in file k i = sites_size (sizes_in file) (concat (map equation_sites (take i (node_in file k).equations)))

-- the bytes of the records of all its equations
abbrev pub records_in : List ℕ → ℕ → ℕ
records_in file k = sites_size (sizes_in file) (sites (node_in file k))

-- where node k's plan goes on behind the types of its variables, in the table of a file
abbrev pub plan_at : List ℕ → ℕ → ℕ
plan_at t k = 1394 + plans_from (tab_of t) + row_at (rows_of t) k 7 + 2 * row_at (rows_of t) k 4

-- the parts of an expression that are evaluated one after the other: how many, and where they start. All of them, but of a fold its arrays without the seed
abbrev pub is_map : List ℕ → ℕ → Bool
is_map s at = eqb (get_or s (at + 1) 0) 0

abbrev pub is_fold : List ℕ → ℕ → Bool
is_fold s at = eqb (get_or s at 0) 15 && eqb (get_or s (at + 1) 0) 1

abbrev pub arrays_count : List ℕ → ℕ → ℕ
arrays_count s at = cond (is_fold s at) (get_or s (at + 3) 0) (parts_at s at)

abbrev pub arrays_start : List ℕ → ℕ → ℕ
arrays_start s at = cond (is_fold s at) (skip_at s 1 (next_at s at)) (next_at s at)

-- equation i of node k stands at `at`, and its records among those of the node's equations from a up to b
pub record EquationIs (file : List ℕ) (k i at a b : ℕ) : Type 0 where
  pub place : at ≡ place_in file k i
  pub starts : a ≡ offset_in file k i
  pub ends : b ≡ offset_in file k (suc i)
