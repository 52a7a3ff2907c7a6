use Rattle.std.proofs.Common.{sym, ◌∙◌}
use Rattle.long_run.proofs.Laws.{tally_is, run_done, run_unstarted, run_not_fresh}
use Rattle.long_run.proofs.run_file.Goals as goal
use Rattle.long_run.proofs.run_file.Goals.{then-is_err-via-then-is_err, then-is_err-via-else-is_err+then-is_err-2}

pub returns-then-is_err : goal.returns-then-is_err
returns-then-is_err c =
    let e = tally_is c.default.ensures.0 c.default.ensures.1 in
    elim c.then-is_err.branch [
      | then-is_err-via-then-is_err w ↦
          run_not_fresh c.args.file.now c.args.first.now c.args.second.now c.args.fresh.now c.args.a.now c.args.b.now c.args.values.now _ _ c.start.ensures (sym c.is_err.ensures.value ∙ w.if-is_err.true) _ e
      | then-is_err-via-else-is_err+then-is_err-2 w ↦
          run_unstarted c.args.file.now c.args.first.now c.args.second.now c.args.fresh.now c.args.a.now c.args.b.now c.args.values.now _ _ c.start.ensures _ _ w.start-else-is_err.ensures (sym c.is_err.ensures.value ∙ w.if-is_err.false) (sym w.is_err-else-is_err.ensures.value ∙ w.if-is_err-2.true) _ e
    ]

pub returns : goal.returns
returns c =
    run_done c.args.file.now c.args.first.now c.args.second.now c.args.fresh.now c.args.a.now c.args.b.now c.args.values.now _ _ c.start.ensures _ _ c.start-else-is_err.ensures (sym c.is_err.ensures.value ∙ c.if-is_err.false) (sym c.is_err-else-is_err.ensures.value ∙ c.if-is_err-2.false) _ c.run-t.ensures.counts
