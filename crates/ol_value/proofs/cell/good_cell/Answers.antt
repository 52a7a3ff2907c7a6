use mathlib.Core.Path.{ap, ◌∙◌}
use Prim.Native.Nat.{◌<◌, ◌^◌}
use native.Mathlib.Omega.{arith}
use lib.ListN.{get_or, take, drop}
use Rattle.ol_spec.specs.Lists.{same}
use Rattle.ol_spec.specs.Cell.{cell, payload, value_by}
use Rattle.ol_value.proofs.Digits.{Bytes, good_is, cell_value}
use Rattle.ol_value.proofs.cell.good_cell.Goals as goal

pub returns : goal.returns
returns c =
    let s = c.args.bytes.now in
    let at = c.args.at in
    let p = c.read_number-p.ensures in
    let is = c.value_by-v.ensures ∙ ap (value_by (get_or s at 0)) p ∙ cell_value s at c.requires in
    let small : payload c.value_by-v.result < 2 ^ 64 = omega (arith, c.payload_of.type_inv, c.payload_of.ensures) in
    let known : Bytes s = λ i. omega (arith, c.type_inv.bytes i) in
    rw (c.tag_of.ensures, c.payload_of.ensures, p) (good_is s at c.requires known c.value_by-v.result small ∙ ap (λ v. same (cell v) (take 9 (drop at s))) is)
