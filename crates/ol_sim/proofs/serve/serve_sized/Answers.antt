use Rattle.ol_tables.proofs.HeadsFile.{file_stands}
use Rattle.ol_sim.proofs.Begins.{file_ready, zeros_fit}
use Rattle.ol_sim.proofs.serve.serve_sized.Goals as goal

pub serve_with-requires : goal.serve_with-requires
serve_with-requires g c =
    let r = c.requires in
    record {
      callable = r.callable;
      loads = r.loads;
      ready = file_ready g.row.N r.loads.reads r.loads.bytes r.room.0 (zeros_fit g.row.N (file_stands r.loads.bytes r.loads.reads) r.counted r.room.0 r.room.1 r.room.2);
    }
