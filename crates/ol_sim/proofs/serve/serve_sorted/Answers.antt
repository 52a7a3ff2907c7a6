use Rattle.ol_tables.specs.At.{file_at}
use Rattle.ol_sim.proofs.Begins.{declared_ready, blank_zeros, false_not_true}
use Rattle.ol_sim.proofs.serve.serve_sorted.Goals as goal

pub sort_file-s-requires : goal.sort_file-s-requires
sort_file-s-requires g c = declared_ready c.requires.sections_ready.rowed

pub serve_named-requires : goal.serve_named-requires
serve_named-requires g c =
    let f = file_at c.args.project.now.file.now in
    let r = c.requires in
    record {
      callable = r.callable;
      loads = r.loads;
      sections_ready = r.sections_ready;
      below = r.below;
      lows = λ e. absurd (false_not_true e);
      found = record { clash = c.sort_file-s.ensures.finds (blank_zeros f g.row.N r.below); arrays = c.sort_file-s.ensures.arrays };
      fits = r.fits;
    }
