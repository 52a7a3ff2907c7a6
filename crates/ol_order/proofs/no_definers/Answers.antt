use Prim.Native.Nat.{ℕ}
use mathlib.Core.Path.{sym}
use lib.ListN.{length-replicate}
use Rattle.std.specs.Prelude as Std
use Rattle.ol_order.proofs.Answers.{same_each}
use Rattle.ol_order.proofs.no_definers.Goals as goal

pub returns : goal.returns
returns g c = record { long = sym (length-replicate {A = Std.Option ℕ} g.row.N Std.None); none = same_each g.row.N }
