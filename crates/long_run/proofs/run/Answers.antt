use Rattle.std.proofs.Common.{◌≡◌, arith}
use Rattle.long_run.specs.Runs.{none, stand, inputs_at}
use Rattle.long_run.proofs.Laws.{tally_is, inputs_first, inputs_second, paired, after_none, after_more}
use Rattle.long_run.proofs.run.Goals as goal
use Rattle.long_run.proofs.run.Goals.{then-i-eq0, else-i-eq0}

pub loop-i-init : goal.loop-i-init
loop-i-init c = after_none c.args.file.now c.args.fresh.now c.args.first.now c.args.second.now _ c.args.a.now c.args.b.now c.args.values.now (tally_is c.default-t.ensures.0 c.default-t.ensures.1)

pub loop-i-preserved : goal.loop-i-preserved
loop-i-preserved c =
    let f = c.args.first.now in
    let s = c.args.second.now in
    let i = c.loop-i.i in
    let x = c.if-i-eq0.inputs.now in
    let e : x ≡ inputs_at i f s =
    elim c.if-i-eq0.branch [ then-i-eq0 w ↦ (let q = inputs_first i f s w.if-i-eq0.true in cc) | else-i-eq0 w ↦ (let q = inputs_second i f s w.if-i-eq0.false in cc) ] in
    let p = rw e at (paired c.args.file.now c.args.fresh.now x c.loop-i.a c.loop-i.b c.loop-i.values c.loop-i.t _ _ _ _ _ _ c.step-t.ensures c.step-t-in-loop-i.ensures) in
    after_more c.args.file.now c.args.fresh.now f s i (stand none c.args.a.now c.args.b.now c.args.values.now) c.loop-i.t _ c.loop-i.a c.loop-i.b c.loop-i.values _ _ _ c.loop-i.invariant p

pub returns : goal.returns
returns c = let e : c.loop-i.i ≡ 500000 = omega arith in rw e at c.loop-i.invariant
