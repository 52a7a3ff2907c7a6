use Rattle.ol_tables.proofs.Forms.{parted, reads_in}
use Rattle.ol_frame.proofs.Passing.{low_code, head_passed}
use Rattle.ol_frame.proofs.skip.pass.Goals as goal

pub at-requires : goal.at-requires
at-requires c =
    let f = c.args.file.now in
    let a = c.args.at in
    let p = c.requires.0 in
    reads_in f c.args.level a (parted f c.args.level 0 a p.reads).head

pub returns-in-Bool : goal.returns-in-Bool
returns-in-Bool c =
    let f = c.args.file.now in
    let p = c.requires.0 in
    head_passed f p (low_code c.at.ensures c.in-Bool.is) c.head.ensures
