-- What the judging of a state is told: the file is encoded and its tables are right, 13 and 14 do not hold, and the constants' cells are so many, all in the table.
use Rattle.std.specs.Prelude.{ℕ, ◌*◌, ◌≤◌, List, ◌≡◌, length}
use Rattle.ol_spec.specs.Syntax.{Operator, File, main}
use Rattle.ol_spec.specs.Admission.{head_size, state_size}
use Rattle.ol_tables.specs.Tables.{Variants}
use Rattle.ol_state.specs.Known.{Known}

pub record Ready (f : File) (s tab rows table : List ℕ) (n : ℕ) (consts : List ℕ) : Type 0 where
  pub known : Known f s tab rows
  pub names : Variants f table
  pub operator : (main f).kind ≡ Operator
  pub small : state_size f ≤ 32768
  pub head : length consts ≡ head_size f
  pub full : length consts ≡ 9 * n
