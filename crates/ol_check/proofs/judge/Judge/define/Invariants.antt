use Prim.Native.Nat.{◌+◌, ◌*◌}
use Rattle.ol_check.proofs.EquationLaws.{NamesGoing}
use Rattle.ol_check.proofs.judge.Judge.define.Given as goal

abbrev pub invariant-loop-i : goal.invariant-loop-i
invariant-loop-i l =
    NamesGoing l.self.file.now l.self.names.now l.inputs l.many l.initial.slots l.initial.defined l.initial.g l.slots l.defined l.g l.i (l.initial.g.next + 2 * l.i)
