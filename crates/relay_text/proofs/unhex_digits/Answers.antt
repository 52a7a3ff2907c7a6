use Rattle.std.proofs.Common.{◌≡◌, ◌+◌, ◌*◌, ◌/◌, length, arith, refl}
use Rattle.relay_text.proofs.Laws.{left_start, left_odd, left_end, left_high, left_low, left_byte, front_odd, front_end, front_high, front_low, front_byte_lem, front_written, byte_kept}
use Rattle.relay_text.proofs.unhex_digits.Goals as goal

pub loop-i-init : goal.loop-i-init
loop-i-init c = (left_start c.args.text.now c.args.out.now, refl, refl)

pub loop-i-preserved : goal.loop-i-preserved
loop-i-preserved c =
    let loop = c.loop-i in
    let high = c.in_ok-high in
    let low = c.in_ok-low in (
      left_byte c.args.text.now loop.out loop.i loop.invariant.0 (omega arith) high.high (high.ensures) low.low (low.ensures) (omega arith),
      front_byte_lem c.args.text.now loop.out loop.i loop.invariant.1 (omega arith) high.high (high.ensures) low.low (low.ensures) (omega arith),
      byte_kept loop.out c.args.out.now loop.i (high.high * 16 + low.low) loop.invariant.2,
    )

pub returns-in_err-high : goal.returns-in_err-high
returns-in_err-high c =
    let loop = c.loop-i in (
      rw c.from_residual.ensures (left_high c.args.text.now loop.out loop.i loop.invariant.0 (omega arith) (c.in_err-high.ensures)),
      front_written c.args.text.now loop.out c.args.out.now loop.i (front_high c.args.text.now loop.out loop.i loop.invariant.1 (omega arith) (c.in_err-high.ensures)) (omega arith) loop.invariant.2,
    )

pub returns-in_err-low : goal.returns-in_err-low
returns-in_err-low c =
    let loop = c.loop-i in
    let high = c.in_ok-high in (
      rw c.from_residual-in_err-low.ensures (left_low c.args.text.now loop.out loop.i loop.invariant.0 (omega arith) high.high (high.ensures) (c.in_err-low.ensures)),
      front_written c.args.text.now loop.out c.args.out.now loop.i (front_low c.args.text.now loop.out loop.i loop.invariant.1 (omega arith) high.high (high.ensures) (c.in_err-low.ensures)) (omega arith) loop.invariant.2,
    )

pub returns-then-text-eq0 : goal.returns-then-text-eq0
returns-then-text-eq0 c =
    let loop = c.loop-i in
    let i : length c.args.text.now / 2 ≡ loop.i = omega arith in (
      rw i (omega arith, left_end c.args.text.now loop.out loop.i loop.invariant.0 (omega arith)),
      front_written c.args.text.now loop.out c.args.out.now loop.i (front_end c.args.text.now loop.out loop.i loop.invariant.1 (omega arith)) (omega arith) loop.invariant.2,
    )

pub returns-else-text-eq0 : goal.returns-else-text-eq0
returns-else-text-eq0 c =
    let loop = c.loop-i in (
      left_odd c.args.text.now loop.out loop.i loop.invariant.0 (omega arith),
      front_written c.args.text.now loop.out c.args.out.now loop.i (front_odd c.args.text.now loop.out loop.i loop.invariant.1 (omega arith)) (omega arith) loop.invariant.2,
    )
