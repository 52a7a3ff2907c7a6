-- What the start of an admitted file is told.
use Rattle.std.specs.Prelude.{ℕ, suc, ◌*◌, ◌≤◌, List, ◌≡◌, length}
use Rattle.ol_spec.specs.Syntax.{Operator}
use Rattle.ol_spec.specs.Cell.{cells}
use Rattle.ol_spec.specs.Admission.{head_size, state_size}
use Rattle.ol_tables.specs.At.{file_at}
use Rattle.ol_tables.specs.Tables.{node_of}
use Rattle.ol_tables.specs.Table.{tab_of, rows_of, known_of, consts_of}
use Rattle.ol_state.specs.Known.{Known}
use Rattle.ol_sim.specs.Judging.{values_in}

-- a fresh state can be written: the constants' cells, an Operator as the main node, and a buffer of the state's length
pub record StartReady (s t : List ℕ) (main : ℕ) (state : List ℕ) : Type 0 where
  pub known : Known (file_at s) s (tab_of t) (rows_of t)
  pub held : consts_of t ≡ cells (values_in (file_at s))
  pub long : length (consts_of t) ≡ head_size (file_at s)
  pub full : length (consts_of t) ≡ 9 * known_of t
  pub last : suc main ≡ length (file_at s).nodes
  pub operator : (node_of (file_at s) main).kind ≡ Operator
  pub sized : length state ≡ state_size (file_at s)
  pub small : length state ≤ 32768
