use Prim.Native.Nat.{◌+◌, ◌-◌, ◌*◌, ◌≤◌, ◌<◌}
use mathlib.Core.Path.{◌≡◌, refl, ap, ◌∙◌}
use lib.ListN.{length}
use native.Mathlib.Omega.{arith}
use Rattle.ol_tables.specs.At.{file_at}
use Rattle.ol_tables.specs.Tables.{node_of, two_put}
use Rattle.ol_check.proofs.EquationLaws.{equations_start_lem, equations_turn, equations_done, equations_cut, equations_sized}
use Rattle.ol_check.proofs.PlanLaws.{plan_start, plan_least, plan_turn, plan_done}
use Rattle.ol_check.proofs.judge.Judge.equations.Goals as goal

pub loop-i-init : goal.loop-i-init
loop-i-init c = record { going = equations_start_lem c.requires.1 c.requires.0.stand; planned = plan_start c.requires.1 }

pub returns-then-self-g : goal.returns-then-self-g
returns-then-self-g c =
    absurd (equations_cut c.loop-i.invariant.going (omega (arith, c.loop-i-test.true, c.requires.0.count)) c.if-self-g.true)

pub overflow_sub-g : goal.overflow_sub-g
overflow_sub-g c = plan_least c.loop-i.invariant.planned c.requires.1

pub equation-requires : goal.equation-requires
equation-requires c = (omega (arith, c.if-self-g.false, c.args.self.now.short), c.loop-i.invariant.going.sized.0)

pub loop-i-preserved : goal.loop-i-preserved
loop-i-preserved c =
    let w = c.loop-i.invariant in
    let qs = (node_of (file_at c.args.self.now.file.now) c.args.self.now.node).equations in
    let lt : c.loop-i.i < length qs = omega (arith, c.loop-i-test.true, c.requires.0.count) in
    let room : 0 + 4 * length qs ≤ length c.loop-i.plan = omega (arith, c.requires.3, c.loop-i.auto.plan, c.requires.0.count) in
    let first : 2 * c.loop-i.i ≡ 0 + 2 * c.loop-i.i = omega arith in
    let second : 2 * c.args.many + 2 * c.loop-i.i ≡ 0 + 2 * c.args.many + 2 * c.loop-i.i = omega arith in
    record {
      going = equations_turn w.going lt _ _ _ c.requires.0.context c.equation.ensures;
      planned = plan_turn w.planned _ _ c.requires.0.count lt room c.requires.2 (c.put_two.ensures ∙ ap (λ q. two_put c.loop-i.plan q c.loop-i.g.next) first) (c.put_two-in-loop-i.ensures ∙ ap (λ q. two_put c.put_two.new.tab q (c.loop-i.g.size - c.args.g.now.size)) second) w.going.passing.place (omega arith) refl c.requires.1 _ (equations_sized w.going lt c.requires.0.context c.equation.ensures);
    }

pub returns : goal.returns
returns c =
    (equations_done c.loop-i.invariant.going (omega (arith, c.loop-i-test.false, c.requires.0.count)), plan_done _ c.loop-i.invariant.planned c.loop-i.auto.i-end c.loop-i-test.false)
