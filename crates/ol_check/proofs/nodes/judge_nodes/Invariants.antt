use mathlib.Core.Path.{◌≡◌}
use Rattle.ol_tables.specs.At.{file_at}
use Rattle.ol_check.specs.Judging.{findings}
use Rattle.ol_check.specs.NodesJudged.{PlansBelow, TypesLeft, ConstantsLeft}
use Rattle.ol_check.proofs.NodeLaws.{NodesGoing}
use Rattle.ol_check.proofs.SizeTable.{RowsKept, SizesGoing}
use Rattle.ol_tables.specs.Numbers.{numbers}
use Rattle.ol_check.proofs.nodes.judge_nodes.Given as goal

abbrev pub invariant-loop-k : goal.invariant-loop-k
invariant-loop-k l =
    record {
      same : l.names ≡ l.initial.names;
      kept : RowsKept (numbers l.initial.rows) (numbers l.rows);
      going : NodesGoing l.file l.initial.names (file_at l.file) l.initial.slots (findings l.initial.g) l.slots (findings l.g) l.k;
      sized : SizesGoing l.file (numbers l.initial.rows) l.nodes l.initial.g.size (numbers l.rows) l.g.size l.k;
      planned : PlansBelow (file_at l.file) l.plans l.k;
      typed : TypesLeft (file_at l.file) l.initial.plans l.plans;
      constants : ConstantsLeft (file_at l.file) l.initial.plans l.plans;
    }
