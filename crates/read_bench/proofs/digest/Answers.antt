use Prim.Native.Nat.{◌+◌}
use mathlib.Core.Path.{sym, ap, ◌∙◌}
use Rattle.read_bench.specs.Digests.{loaded_digest}
use Rattle.read_bench.proofs.digest.Goals as goal

pub returns-in-Err : goal.returns-in-Err
returns-in-Err c = ap (λ n. 256 + n) c.from.ensures ∙ sym (ap loaded_digest c.in-Err.is)
