use Prim.Native.Nat.{◌+◌}
use mathlib.Core.Path.{◌∙◌, sym, ap}
use native.Mathlib.Omega.{arith}
use Rattle.std.specs.Prelude.{Ok, Err}
use Rattle.ol_ir.specs.Nexts.{counted_at, counted_of}
use Rattle.ol_ir.proofs.Bytes.{count_is, count_low, count_high, count_end}
use Rattle.ol_ir.proofs.Onward.{erred}
use Rattle.ol_ir.proofs.read.count.Goals as goal
use Rattle.ol_ir.proofs.read.count.Goals.{else-lo-n-via-then-lo-n+else-n-hi, else-lo-n-via-else-lo-n}

pub returns-in_err-n-clause-is : goal.returns-in_err-n-clause-is
unfolding counted_of
returns-in_err-n-clause-is c = erred _ _ c.from_residual.ensures.1 ∙ (ap Err c.in_err-n.ensures.1 ∙ sym (ap counted_of (count_end _ c.args.at c.args.lo c.args.hi c.in_err-n.ensures.0)))

pub returns-then-n-hi-clause-is : goal.returns-then-n-hi-clause-is
unfolding counted_of
returns-then-n-hi-clause-is c =
    let b = c.in_ok-n.ensures in
    ap (λ n. Ok (counted_at n (c.args.at + 1))) b.1 ∙ sym (ap counted_of (count_is _ c.args.at c.args.lo c.args.hi b.0 (omega (arith, b.1)) (omega (arith, b.1))))

pub returns-else-lo-n-clause-is : goal.returns-else-lo-n-clause-is
unfolding counted_of
returns-else-lo-n-clause-is c =
    let b = c.in_ok-n.ensures in
    elim c.else-lo-n.branch [
      | else-lo-n-via-then-lo-n+else-n-hi w ↦ c.refused.ensures ∙ sym (ap counted_of (count_high _ c.args.at c.args.lo c.args.hi b.0 (omega (arith, b.1)) (omega (arith, b.1))))
      | else-lo-n-via-else-lo-n w ↦ c.refused.ensures ∙ sym (ap counted_of (count_low _ c.args.at c.args.lo c.args.hi b.0 (omega (arith, b.1))))
    ]
