use Rattle.std.proofs.Common.{◌+◌, ◌-◌, length, refl, arith}
use Rattle.std.proofs.lemmas.Slice.{take-put_mid, drop-put_mid}
use Rattle.relay_text.proofs.put.Goals as goal

pub returns : goal.returns
returns c =
    let at = c.args.at in
    let out = c.args.out.now in
    let piece = c.args.piece.now in (
      refl,
      rw c.copy_from_slice.ensures.after (take-put_mid at (at + length piece - at) out piece (at + length piece) refl (omega arith)),
      rw c.copy_from_slice.ensures.after (drop-put_mid at (at + length piece - at) out piece (at + length piece) (omega arith) (omega arith) (omega arith)),
    )
