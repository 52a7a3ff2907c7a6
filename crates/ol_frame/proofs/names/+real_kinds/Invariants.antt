use Rattle.std.proofs.Common.{◌+◌, ◌*◌}
use Rattle.ol_frame.proofs.names.+real_kinds.Given as goal

abbrev pub decreases-real_kind : goal.decreases-real_kind
decreases-real_kind l = l.level * 2

abbrev pub decreases-real_kinds : goal.decreases-real_kinds
decreases-real_kinds l = l.level * 2 + 1
