use Prim.Native.Nat.{◌+◌, ◌-◌}
use mathlib.Core.Path.{sym, ap, ◌∙◌}
use native.Mathlib.Omega.{arith}
use Rattle.ol_check.specs.Spans.{end_from, behind_enum}
use Rattle.ol_check.proofs.SpanLaws.{less_none, end_on_lem, end_none}
use Rattle.ol_check.proofs.rows.enums_end.Goals as goal

pub loop-init : goal.loop-init
loop-init c = (omega arith, ap (λ n. end_from (behind_enum c.args.file.now) n c.args.at) (less_none c.args.count))

pub names_end-next-requires : goal.names_end-next-requires
names_end-next-requires c = omega (arith, c.loop.invariant.0, c.loop-test.true, c.requires.0, c.requires.1)

pub loop-preserved : goal.loop-preserved
loop-preserved c =
    (omega (arith, c.loop.invariant.0, c.names_end-next.ensures, c.type_inv.file c.loop.next), ap (end_from (behind_enum c.args.file.now) (c.args.count - (c.loop.counter + 1))) c.names_end-next.ensures ∙ sym (end_on_lem (behind_enum c.args.file.now) c.args.count c.loop.counter c.loop.next c.loop-test.true) ∙ c.loop.invariant.1)

pub returns : goal.returns
returns c = sym (end_none (behind_enum c.args.file.now) c.args.count c.loop.counter c.loop.next c.loop-test.false) ∙ c.loop.invariant.1
