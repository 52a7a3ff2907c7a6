use Rattle.std.proofs.Common.{◌≡◌, take}
use Rattle.relay_text.specs.Text.{hexed}
use Rattle.relay_text.specs.Lines.{Appends}
use Rattle.relay_text.proofs.line.Line.hex.Given as goal

abbrev pub invariant-loop-b : goal.invariant-loop-b
invariant-loop-b l = record { same_reference : l.self.out.ghost_name ≡ l.initial.self.out.ghost_name; appends : Appends l.initial.self l.self (hexed (take l.b-index l.bytes)) }
