use Prim.Native.Nat.{◌+◌, ◌*◌}
use Rattle.ol_check.proofs.EntryLoops.{VariantsGoing}
use Rattle.ol_check.proofs.names.declare_variants.Given as goal

abbrev pub invariant-loop-i : goal.invariant-loop-i
invariant-loop-i l = VariantsGoing l.file l.initial.names l.names l.count l.at l.i (l.at + 2 * l.i)
