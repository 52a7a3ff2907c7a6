use Prim.Native.Nat.{ℕ, ◌<◌}
use mathlib.Core.List.{◌++◌}
use mathlib.Core.Path.{◌≡◌, refl, sym, ap, ◌∙◌}
use native.Mathlib.Omega.{arith}
use native.Mathlib.Numerals.{add-one}
use lib.ListN.{length, take, drop, set}
use lib.Seq.{get_or-take, length-take-le}
use Rattle.ol_frame.proofs.Copying.{byte_copied, bytes_copied}
use Rattle.ol_frame.proofs.copies.copy.Goals as goal

pub loop-i-init : goal.loop-i-init
loop-i-init c = refl

pub loop-i-preserved : goal.loop-i-preserved
loop-i-preserved c =
    let f = c.args.from.now in
    let t = c.args.to.now in
    let n = c.min-n.result in
    let i = c.loop-i.i in
    let long : length (take n f) ≡ n = length-take-le n f (omega arith) in
    let low : i < n = omega arith in
    ap (set c.loop-i.to i) (get_or-take n f i 0 low) ∙ byte_copied i f t c.loop-i.to c.loop-i.invariant (omega arith) (omega arith) ∙ ap (λ (k : ℕ). take k f ++ drop k t) (sym (add-one i))

pub returns : goal.returns
returns c =
    let f = c.args.from.now in
    let n = c.min-n.result in
    let long : length (take n f) ≡ n = length-take-le n f (omega arith) in
    bytes_copied c.loop-i.i f c.args.to.now c.loop-i.to c.loop-i.invariant (omega arith)
