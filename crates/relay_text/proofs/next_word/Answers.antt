use Prim.Native.Nat.{◌+◌}
use mathlib.Core.Bool.{true, false}
use native.Mathlib.Omega.{arith}
use Rattle.relay_text.proofs.Laws.{rest_of, word_is}
use Rattle.relay_text.proofs.next_word.Goals as goal

pub returns : goal.returns
returns c =
    let from = rest_of c.args.line.now c.args.at c.run.result true c.requires c.run.ensures in
    let to = rest_of c.args.line.now (c.args.at + c.run.result) c.run-2.result false (omega (arith, from.0)) c.run-2.ensures in
    (omega arith, to.0, word_is c.args.line.now c.args.at _ _ from.1 to.1)
