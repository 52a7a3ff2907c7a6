use Rattle.ol_tables.specs.At.{file_at}
use Rattle.ol_check.proofs.NamesBelow.{low_within}
use Rattle.ol_run.proofs.Admitted.{running}
use Rattle.ol_sim.proofs.Begins.{empty_zeros}
use Rattle.ol_sim.proofs.Starts.{admits_of, judged_whole, judged_refused}
use Rattle.ol_sim.proofs.Serving.{consts_many, answer_ready, names_tell, refused_serves}
use Rattle.ol_sim.proofs.serve.serve_named.Goals as goal

pub judge_names-requires : goal.judge_names-requires
judge_names-requires g c =
    let f = file_at c.args.project.now.file.now in
    let r = c.requires in
    record {
      loads = r.loads;
      names_ready = record { sections = r.sections_ready; empty = empty_zeros f g.row.N (low_within g.row.N f r.below); lows = r.lows };
      found = r.found;
    }

pub call-requires : goal.call-requires
call-requires g c =
    let s = c.args.project.now.file.now in
    let st = c.requires.sections_ready in
    let reads = c.requires.loads.reads in
    let judged = c.in_ok-admitted.ensures.judged in
    let admits = admits_of reads judged in
    let empty = empty_zeros (file_at s) g.row.N (low_within g.row.N (file_at s) c.requires.below) in
    c.requires.callable _ (record {
      ready = answer_ready admits (running admits.tables _ c.requires.loads.bytes (consts_many admits));
      tells = names_tell st.rowed.stands empty admits.tables.ordered.shaped.sound.no6 c.judge_names.ensures.named;
      judged = judged_whole reads judged;
    })

pub returns-in_err-admitted : goal.returns-in_err-admitted
returns-in_err-admitted g c = refused_serves _ _ c.args.project.now.file.now c.from_residual.result c.from_residual.ensures.1 (judged_refused c.requires.loads.reads c.in_err-admitted.ensures.judged)
