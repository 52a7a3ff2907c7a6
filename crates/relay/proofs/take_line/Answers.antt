use native.Mathlib.Omega.{arith}
use Prim.Native.Nat.{◌-◌}
use mathlib.Core.Path.{◌≡◌, sym, ◌∙◌}
use lib.ListN.{length, take, drop}
use Rattle.relay.proofs.Lines.{takes_whole, takes_on}
use Rattle.relay.proofs.take_line.Goals as goal

pub returns-in-Some : goal.returns-in-Some
returns-in-Some c =
    let few : c.unwrap_or.result ≡ c.in-Some.k = rw c.in-Some.is at c.unwrap_or.ensures in
    takes_whole c.args.line.now c.args.input.now c.put-length.new.out c.args.i c.within-end.result c.min-at.result c.min-from.result c.put-length.result c.min-n.result c.within-end.ensures.prefix_len.0 c.within-end.ensures.s_value (omega (arith, c.min-at.ensures)) (omega (arith, c.min-from.ensures)) (omega arith) (omega arith) c.put-length.ensures.1 c.in-Some.k (sym c.in-Some.is ∙ c.line_end-found.ensures) (omega (arith, c.min-n.ensures, few))

pub returns-in-None : goal.returns-in-None
returns-in-None c =
    let few : c.unwrap_or.result ≡ length (take (c.within-end.result - c.min-at.result) (drop c.min-at.result c.args.input.now)) = rw c.in-None.is at c.unwrap_or.ensures in
    takes_on c.args.line.now c.args.input.now c.put-length.new.out c.args.i c.within-end.result c.min-at.result c.min-from.result c.put-length.result c.min-n.result c.within-end.ensures.prefix_len.0 c.within-end.ensures.s_value (omega (arith, c.min-at.ensures)) (omega (arith, c.min-from.ensures)) (omega arith) (omega arith) c.put-length.ensures.1 (sym c.in-None.is ∙ c.line_end-found.ensures) (omega (arith, c.min-n.ensures, few))
