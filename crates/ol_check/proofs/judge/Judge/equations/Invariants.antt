use Rattle.ol_spec.specs.Admission.{bad_call}
use Rattle.ol_tables.specs.At.{file_at}
use Rattle.ol_tables.specs.Tables.{node_of}
use Rattle.ol_check.specs.Judging.{findings, seen_in}
use Rattle.ol_check.proofs.EquationLaws.{EquationsGoing}
use Rattle.ol_check.proofs.PlanLaws.{PlanGoing}
use lib.ListN.{length}
use Rattle.ol_tables.specs.Numbers.{numbers}
use Rattle.ol_check.proofs.judge.Judge.equations.Given as goal

abbrev pub invariant-loop-i : goal.invariant-loop-i
invariant-loop-i l =
    let s = l.self.file.now in
    let n = node_of (file_at s) l.self.node in
    record {
      going : EquationsGoing s l.self.names.now (numbers l.self.rows.now) l.self.nodes l.self.node (file_at s) (seen_in (file_at s) l.self.node) (bad_call (file_at s) l.self.node n) l.inputs (length (file_at s).enums) n.equations l.initial.slots l.initial.defined (findings l.initial.g) l.slots l.defined (findings l.g) l.i;
      planned : PlanGoing (numbers l.self.rows.now) l.self.nodes l.initial.g.size l.initial.g.next n.equations 0 l.i l.initial.plan l.plan l.g.size;
    }
