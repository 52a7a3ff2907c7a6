-- What answering the call of an admitted file is told.
use Rattle.std.specs.Prelude.{ℕ, suc, ◌≤◌, List, ◌≡◌, length}
use Rattle.ol_spec.specs.Syntax.{Operator}
use Rattle.ol_spec.specs.Admission.{head_size, state_size}
use Rattle.ol_tables.specs.At.{file_at}
use Rattle.ol_tables.specs.Tables.{node_of}
use Rattle.ol_tables.specs.Table.{tab_of, rows_of, known_of, consts_of}
use Rattle.ol_frame.specs.Nodes.{Running}
use Rattle.ol_run.specs.Admitted.{Admitted}
use Rattle.ol_sim.specs.Judging.{Held}

-- an admitted file: its table t, the length of its state, its constants' cells, and its main node
pub record AnswerReady (s t : List ℕ) (size main : ℕ) : Type 0 where
  pub tables : Admitted s (rows_of t) (tab_of t)
  pub running : Running s (tab_of t) (rows_of t) (consts_of t)
  pub sized : size ≡ state_size (file_at s)
  pub small : size ≤ 32768
  pub held : Held (file_at s) (known_of t) (consts_of t)
  pub long : length (consts_of t) ≡ head_size (file_at s)
  pub last : suc main ≡ length (file_at s).nodes
  pub operator : (node_of (file_at s) main).kind ≡ Operator
