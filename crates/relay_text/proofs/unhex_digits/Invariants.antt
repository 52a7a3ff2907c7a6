use Rattle.std.proofs.Common.{◌≡◌, drop}
use Rattle.relay_text.proofs.Laws.{Left, Front}
use Rattle.relay_text.proofs.unhex_digits.Given as goal

abbrev pub invariant-loop-i : goal.invariant-loop-i
invariant-loop-i l = Left l.text l.out l.i × Front l.text l.out l.i × (drop l.i l.out ≡ drop l.i l.initial.out)
