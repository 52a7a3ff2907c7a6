use mathlib.Core.Path.{◌∙◌}
use native.Mathlib.Omega.{arith}
use Rattle.ol_ir.proofs.Onward.{exprs_next, turns_end, erred}
use Rattle.ol_ir.proofs.Exprs.{above_parts, few, falls_deeper, turn_deep, turn_leaf, turn_last, turn_parts, parts_halt, turn_fault}
use Rattle.ol_ir.proofs.Reader.+exprs.Goals as goal

pub loop-left-init : goal.loop-left-init
loop-left-init t c = (omega arith, record { is = exprs_next _ _ _ })

pub returns-then-depth-eq0 : goal.returns-then-depth-eq0
returns-then-depth-eq0 t c = turn_deep c.args.self.now.file.now c.args.self.now.limits.now c.args.self.now.enums c.loop-left.invariant.1 c.loop-left-test.true c.if-depth-eq0.true (c.deep.ensures c.args.self.now.limits.now c.args.self.now.enums)

pub returns-in_err-h : goal.returns-in_err-h
returns-in_err-h t c = erred _ _ c.from_residual.ensures.1 ∙ turn_fault c.args.self.now.file.now c.args.self.now.limits.now c.args.self.now.enums c.loop-left.invariant.1 c.loop-left-test.true (omega arith) c.head.ensures c.in_err-h.was

pub loop-left-preserved-then-h-eq0 : goal.loop-left-preserved-then-h-eq0
loop-left-preserved-then-h-eq0 t c =
    (c.loop-left.invariant.0, turn_leaf c.args.self.now.file.now c.args.self.now.limits.now c.args.self.now.enums c.loop-left.invariant.1 c.loop-left-test.true (omega arith) c.head.ensures c.in_ok-h.was c.if-h-eq0.true)

pub loop-left-smaller-then-left-eq0 : goal.loop-left-smaller-then-left-eq0
loop-left-smaller-then-left-eq0 t c =
    falls_deeper c.loop-left.depth (above_parts c.args.self.now.limits.now) c.in_ok-h.h.count c.loop-left.left (omega arith) (few c.args.self.now.file.now c.args.self.now.limits.now c.args.self.now.enums c.loop-left.next c.in_ok-h.h.count c.in_ok-h.h.at c.head.ensures c.in_ok-h.was) c.loop-left-test.true

pub loop-left-preserved-then-left-eq0 : goal.loop-left-preserved-then-left-eq0
loop-left-preserved-then-left-eq0 t c =
    (omega (arith, c.loop-left.invariant.0), turn_last c.args.self.now.file.now c.args.self.now.limits.now c.args.self.now.enums c.loop-left.invariant.1 c.loop-left-test.true (omega arith) c.head.ensures c.in_ok-h.was c.if-left-eq0.true)

pub returns-in_err-next : goal.returns-in_err-next
returns-in_err-next t c =
    erred _ _ c.from_residual-in_err-next.ensures.1 ∙ parts_halt c.args.self.now.file.now c.args.self.now.limits.now c.args.self.now.enums c.loop-left.invariant.1 c.loop-left-test.true (omega arith) c.head.ensures c.in_ok-h.was c.exprs.ensures c.in_err-next.was

pub loop-left-preserved : goal.loop-left-preserved
loop-left-preserved t c =
    (c.loop-left.invariant.0, turn_parts c.args.self.now.file.now c.args.self.now.limits.now c.args.self.now.enums c.loop-left.invariant.1 c.loop-left-test.true (omega arith) c.head.ensures c.in_ok-h.was c.exprs.ensures c.in_ok-next.was)

pub returns : goal.returns
returns t c = turns_end c.loop-left.invariant.1 c.loop-left-test.false
