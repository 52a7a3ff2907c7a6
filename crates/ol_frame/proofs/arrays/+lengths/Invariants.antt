use Rattle.std.proofs.Common.{◌+◌, ◌*◌}
use Rattle.ol_frame.proofs.arrays.+lengths.Given as goal

abbrev pub decreases-array_length : goal.decreases-array_length
decreases-array_length l = l.level * 2 + 1

abbrev pub decreases-iterator_length : goal.decreases-iterator_length
decreases-iterator_length l = l.level * 2
