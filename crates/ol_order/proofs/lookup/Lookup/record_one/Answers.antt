use mathlib.Core.Path.{sym, ◌∙◌}
use native.Mathlib.Omega.{arith}
use Rattle.ol_spec.specs.Order.{definer}
use Rattle.ol_ir.proofs.Scans.{scan_told}
use Rattle.ol_order.specs.Equations.{those}
use Rattle.ol_order.proofs.Turns.{as_many}
use Rattle.ol_order.proofs.Scanning.{pending_done, in_file, name_after, name_none, name_room, name_some, parts_after, parts_few, parts_pending, found_some, found_none, found_few, start_inside, right_start}
use Rattle.ol_order.proofs.lookup.Lookup.record_one.Goals as goal

pub overflow_add-at : goal.overflow_add-at
overflow_add-at g c =
    let e = c.args.self.equations in
    omega (arith, start_inside e.file.now e.limits e.enums e.starts.now e.readable c.args.k c.requires.k_in_bounds)

pub overflow_add-at-2 : goal.overflow_add-at-2
overflow_add-at-2 g c =
    let e = c.args.self.equations in
    omega (arith, (right_start e.file.now e.limits e.enums e.starts.now e.readable c.args.k c.requires.k_in_bounds c.byte.ensures (those e) c.args.lists.now c.args.n).inside)

pub loop-left-init : goal.loop-left-init
loop-left-init g c =
    let e = c.args.self.equations in
    right_start e.file.now e.limits e.enums e.starts.now e.readable c.args.k c.requires.k_in_bounds c.byte.ensures (those e) c.args.lists.now c.args.n

pub overflow_cast-lists : goal.overflow_cast-lists
overflow_cast-lists g c =
    let e = c.args.self.equations in
    omega (arith, found_few (those e) c.in-Name.x (omega (arith, as_many e.file.now e.limits e.enums e.starts.now, e.readable.few)) (found_some (definer (those e) c.in-Name.x) c.in-Some.ensures))

pub bounds-lists-end : goal.bounds-lists-end
bounds-lists-end g c =
    let e = c.args.self.equations in
    omega (arith, name_room e.file.now e.limits e.enums (those e) c.loop-left.invariant c.loop-left-test.true (λ x n f. c.scan.ensures.is ∙ scan_told e.file.now e.limits e.enums e.limits.nesting _ x n f) c.in-Name.is (found_some (definer (those e) c.in-Name.x) c.in-Some.ensures), c.requires.room, c.loop-left.auto.lists)

pub loop-left-smaller-in-Some : goal.loop-left-smaller-in-Some
loop-left-smaller-in-Some g c =
    let e = c.args.self.equations in
    omega (arith, name_after e.file.now e.limits e.enums (those e) c.loop-left.invariant c.loop-left-test.true (λ x n f. c.scan.ensures.is ∙ scan_told e.file.now e.limits e.enums e.limits.nesting _ x n f) c.in-Name.is, in_file e.file.now e.limits e.enums (those e) c.loop-left.invariant c.loop-left-test.true (λ x n f. c.scan.ensures.is ∙ scan_told e.file.now e.limits e.enums e.limits.nesting _ x n f))

pub loop-left-preserved-in-Some : goal.loop-left-preserved-in-Some
loop-left-preserved-in-Some g c =
    let e = c.args.self.equations in
    name_some e.file.now e.limits e.enums (those e) c.loop-left.invariant c.loop-left-test.true (λ x n f. c.scan.ensures.is ∙ scan_told e.file.now e.limits e.enums e.limits.nesting _ x n f) c.in-Name.is (found_some (definer (those e) c.in-Name.x) c.in-Some.ensures)

pub loop-left-smaller-in_default : goal.loop-left-smaller-in_default
loop-left-smaller-in_default g c =
    let e = c.args.self.equations in
    omega (arith, name_after e.file.now e.limits e.enums (those e) c.loop-left.invariant c.loop-left-test.true (λ x n f. c.scan.ensures.is ∙ scan_told e.file.now e.limits e.enums e.limits.nesting _ x n f) c.in-Name.is, in_file e.file.now e.limits e.enums (those e) c.loop-left.invariant c.loop-left-test.true (λ x n f. c.scan.ensures.is ∙ scan_told e.file.now e.limits e.enums e.limits.nesting _ x n f))

pub loop-left-preserved-in_default : goal.loop-left-preserved-in_default
loop-left-preserved-in_default g c =
    let e = c.args.self.equations in
    name_none e.file.now e.limits e.enums (those e) c.loop-left.invariant c.loop-left-test.true (λ x n f. c.scan.ensures.is ∙ scan_told e.file.now e.limits e.enums e.limits.nesting _ x n f) c.in-Name.is (found_none (definer (those e) c.in-Name.x) (sym c.in_default.is ∙ c.find.ensures))

pub overflow_add-left : goal.overflow_add-left
overflow_add-left g c =
    let e = c.args.self.equations in
    omega (arith, parts_few e.file.now e.limits e.enums (those e) c.loop-left.invariant c.loop-left-test.true (λ x n f. c.scan.ensures.is ∙ scan_told e.file.now e.limits e.enums e.limits.nesting _ x n f) c.in-Parts.is)

pub loop-left-smaller : goal.loop-left-smaller
loop-left-smaller g c =
    let e = c.args.self.equations in
    omega (arith, in_file e.file.now e.limits e.enums (those e) c.loop-left.invariant c.loop-left-test.true (λ x n f. c.scan.ensures.is ∙ scan_told e.file.now e.limits e.enums e.limits.nesting _ x n f), parts_after e.file.now e.limits e.enums (those e) c.loop-left.invariant c.loop-left-test.true (λ x n f. c.scan.ensures.is ∙ scan_told e.file.now e.limits e.enums e.limits.nesting _ x n f) c.in-Parts.is)

pub loop-left-preserved : goal.loop-left-preserved
loop-left-preserved g c =
    let e = c.args.self.equations in
    parts_pending e.file.now e.limits e.enums (those e) c.loop-left.invariant c.loop-left-test.true (λ x n f. c.scan.ensures.is ∙ scan_told e.file.now e.limits e.enums e.limits.nesting _ x n f) c.in-Parts.is

pub returns : goal.returns
returns g c =
    let e = c.args.self.equations in
    let d = pending_done e.file.now e.limits e.enums (those e) c.loop-left.invariant c.loop-left-test.false in
    record { end = d.1; written = d.0 }
