use native.Mathlib.Omega.{arith}
use Rattle.ol_check.proofs.Standing.{stands}
use Rattle.ol_check.proofs.KnownLaws.{one_each}
use Rattle.ol_check.proofs.ConstantLaws.{constants_start_lem, constants_turn, constants_done, constants_cut, constant_at_lem, constant_looks, types_start, so_far_turn, so_far_done}
use Rattle.ol_check.proofs.constants.judge_constants.Goals as goal

pub loop-i-init : goal.loop-i-init
loop-i-init c = record { going = constants_start_lem c.requires.4 c.requires.5.unentered; small = c.requires.6; typed = types_start }

pub returns-then-file-g : goal.returns-then-file-g
returns-then-file-g c =
    absurd (constants_cut c.requires.4 c.loop-i.invariant.going (omega (arith, c.loop-i-test.true, c.requires.1)) c.if-file-g.true)

pub constant-requires : goal.constant-requires
constant-requires c =
    let st = stands c.type_inv.file c.requires.5.reads in
    let w = c.loop-i.invariant in (
      record {
        short = c.requires.0;
        inside = omega (arith, c.if-file-g.false, c.requires.0);
        low = omega (arith, c.loop-i-test.true, c.requires.2);
        near = c.requires.5.near;
        looks = constant_looks c.loop-i.names c.loop-i.g.next st w.going.within w.typed;
        scalars = one_each st c.requires.5.scalars 0;
      },
      c.requires.3,
      w.small,
    )

pub loop-i-preserved : goal.loop-i-preserved
loop-i-preserved c =
    let st = stands c.type_inv.file c.requires.5.reads in
    let w = c.loop-i.invariant in
    record {
      going = constants_turn c.requires.4 w.going (omega (arith, c.loop-i-test.true, c.requires.1)) c.loop-i.auto.names _ _ _ c.constant.ensures;
      small = omega (arith, c.constant.ensures.walked.sized);
      typed = so_far_turn st.few_enums c.requires.5.room w.typed (omega (arith, c.loop-i-test.true, c.requires.1)) (constant_at_lem c.requires.4 w.going (omega (arith, c.loop-i-test.true, c.requires.1))) c.constant.ensures.typed;
    }

pub returns : goal.returns
returns c =
    record { judged = constants_done c.requires.4 c.loop-i.invariant.going (omega (arith, c.loop-i-test.false, c.requires.1)); typed = so_far_done c.loop-i.invariant.typed (omega (arith, c.loop-i-test.false, c.requires.1)) }
