use mathlib.Core.Path.{refl, sym, subst, ◌∙◌}
use Prim.Native.Nat.{ℕ, ◌+◌}
use native.Mathlib.Omega.{arith}
use Rattle.ol_run.proofs.Constant.{Going, going_start, going_place, going_turn, going_storing, going_stuck, going_next, going_done}
use Rattle.ol_run.proofs.constants.constant_values.Goals as goal

pub returns-then-count-eq0 : goal.returns-then-count-eq0
returns-then-count-eq0 c = going_done c.requires (going_start c.requires c.put_two.ensures) (sym c.if-count-eq0.true)

pub loop-init : goal.loop-init
loop-init c = (refl, going_start c.requires c.put_two.ensures)

pub overflow_add-pos : goal.overflow_add-pos
overflow_add-pos c = omega (arith, going_place c.requires c.loop.invariant.1 c.loop-test.true, c.requires.stands.short)

pub type_at-n-requires : goal.type_at-n-requires
type_at-n-requires c = omega (arith, going_place c.requires c.loop.invariant.1 c.loop-test.true)

pub constant_value-s-requires-clause-due : goal.constant_value-s-requires-clause-due
constant_value-s-requires-clause-due c =
    (record { index = c.loop.counter; turn = going_turn c.requires c.loop.invariant.1 c.loop-test.true c.type_at-n.result.0 c.type_at-n.ensures.0 }, omega (arith, c.loop.invariant.0))

pub returns-in_default : goal.returns-in_default
returns-in_default c =
    let g = c.loop.invariant.1 in
    let t = going_turn c.requires g c.loop-test.true c.type_at-n.result.0 c.type_at-n.ensures.0 in
    going_stuck c.requires g c.loop-test.true (c.constant_value-s.ensures c.loop.counter t) c.in_default.not-Values

pub store_constant-known-requires : goal.store_constant-known-requires
store_constant-known-requires c =
    going_storing c.requires c.loop.invariant.1 c.loop-test.true c.type_at-n.result.0 c.cells_for.result c.constant_value-s.new.cells c.type_at-n.ensures.0 c.cells_for.ensures (omega (arith, c.loop.invariant.0, c.constant_value-s.auto.cells))

pub loop-preserved : goal.loop-preserved
loop-preserved c =
    let g = c.loop.invariant.1 in
    let t = going_turn c.requires g c.loop-test.true c.type_at-n.result.0 c.type_at-n.ensures.0 in
    let n = going_next c.requires g c.loop-test.true c.type_at-n.result.0 c.cells_for.result c.type_at-n.result.1 c.type_at-n.ensures.0 c.cells_for.ensures c.type_at-n.ensures.1 (c.constant_value-s.ensures c.loop.counter t) c.in-Values.is c.store_constant-known.ensures.1 in
    (c.constant_value-s.auto.cells ∙ c.loop.invariant.0, subst (λ (k : ℕ). Going c.args.file.now c.args.tab.now c.store_constant-known.new.tab c.args.count c.constant_value-s.result.next k (c.loop.counter + 1)) (sym c.store_constant-known.ensures.0) n)

pub returns : goal.returns
returns c = going_done c.requires c.loop.invariant.1 (omega arith)
