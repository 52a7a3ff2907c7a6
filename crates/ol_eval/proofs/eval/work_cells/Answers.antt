use Rattle.std.proofs.Common.{ℕ, ◌*◌, ◌-◌, ap, subst, sym, ◌∙◌, arith}
use borrow.Author.Tests.{eqb-true, eqb-false}
use Rattle.std.specs.Prelude.{max}
use Rattle.ol_tables.specs.At.{expr_at}
use Rattle.ol_tables.specs.Table.{consts_of, rows_of, tab_of}
use Rattle.ol_frame.specs.Plans.{Plan, span_in}
use Rattle.ol_frame.proofs.Planning.{plan_head, plan_call}
use Rattle.ol_tables.proofs.Forms.{reads_in, reads_deep, call_form}
use Rattle.ol_eval.specs.Calls.{callee_cells}
use Rattle.ol_eval.proofs.Working.{call_work, first_array, arrays_work, arrays_most, callee_told, iterator_code, iterator_far}
use Rattle.ol_eval.proofs.eval.work_cells.Goals as goal

pub is_at-requires : goal.is_at-requires
is_at-requires c = reads_in c.args.file.now c.args.level c.args.at (plan_head c.args.file.now c.requires.0.plan)

pub bounds-file-at : goal.bounds-file-at
bounds-file-at c =
    let b = eqb-true _ 11 (sym c.is_at.ensures ∙ c.if-is_at.true) in
    omega (arith, (call_form c.args.file.now c.args.level c.args.at (plan_head c.args.file.now c.requires.0.plan) b).0.inside)

pub cells_of-inputs-requires : goal.cells_of-inputs-requires
cells_of-inputs-requires c =
    let q = c.requires.0.plan in
    let b = eqb-true _ 11 (sym c.is_at.ensures ∙ c.if-is_at.true) in
    let l = (plan_call c.args.file.now q b).lower in
    (omega (arith, q.program.table.long), omega (arith, l, q.node≤, q.program.sized.few, c.from-k.ensures), omega arith)

pub cells_of-requires : goal.cells_of-requires
cells_of-requires c =
    let q = c.requires.0.plan in
    let b = eqb-true _ 11 (sym c.is_at.ensures ∙ c.if-is_at.true) in
    let l = (plan_call c.args.file.now q b).lower in
    (omega (arith, q.program.table.long), omega (arith, l, q.node≤, q.program.sized.few, c.from-k.ensures), omega arith)

pub overflow_sub-cells_of : goal.overflow_sub-cells_of
overflow_sub-cells_of c =
    let q = c.requires.0.plan in
    let b = eqb-true _ 11 (sym c.is_at.ensures ∙ c.if-is_at.true) in
    let l = (plan_call c.args.file.now q b).lower in
    (callee_told c.from-k.result c.cells_of-inputs.result c.cells_of.result q.program (omega (arith, l, q.node≤, c.from-k.ensures)) c.cells_of-inputs.ensures.0 c.cells_of.ensures.0).0

pub arrays_of-h-requires : goal.arrays_of-h-requires
arrays_of-h-requires c =
    let b = iterator_code c.args.file.now c.args.at c.requires.1 (eqb-false _ 11 (sym c.is_at.ensures ∙ c.if-is_at.false)) in
    omega (arith, iterator_far c.args.file.now c.args.level c.args.at (plan_head c.args.file.now c.requires.0.plan) b)

pub array_length-requires : goal.array_length-requires
array_length-requires c =
    let f = c.args.file.now in
    let q = c.requires.0 in
    let b = iterator_code f c.args.at c.requires.1 (eqb-false _ 11 (sym c.is_at.ensures ∙ c.if-is_at.false)) in
    record { node = q.node; plan = subst (λ (s : ℕ). Plan f (tab_of c.args.tab.now) (rows_of c.args.tab.now) (consts_of c.args.tab.now) q.node (c.args.level - 1) 1 s) (sym c.arrays_of-h.ensures.1) (first_array q.plan b) }

pub overflow_sub-level : goal.overflow_sub-level
overflow_sub-level c = reads_deep c.args.file.now c.args.level c.args.at (plan_head c.args.file.now c.requires.0.plan)

pub overflow_mul-result : goal.overflow_mul-result
overflow_mul-result c =
    let f = c.args.file.now in
    let q = c.requires.0 in
    let b = iterator_code f c.args.at c.requires.1 (eqb-false _ 11 (sym c.is_at.ensures ∙ c.if-is_at.false)) in
    let n = c.array_length.ensures q.node (subst (λ (s : ℕ). Plan f (tab_of c.args.tab.now) (rows_of c.args.tab.now) (consts_of c.args.tab.now) q.node (c.args.level - 1) 1 s) (sym c.arrays_of-h.ensures.1) (first_array q.plan b)) in
    let most = arrays_most q.plan b c.arrays_of-h.result.count c.array_length.result c.arrays_of-h.ensures.0 (n ∙ ap (λ (s : ℕ). span_in f q.node (expr_at f (c.args.level - 1) s)) c.arrays_of-h.ensures.1) in
    omega (arith, most)

pub returns-then-is_at : goal.returns-then-is_at
returns-then-is_at c = λ node q.
    let f = c.args.file.now in
    let b = eqb-true _ 11 (sym c.is_at.ensures ∙ c.if-is_at.true) in
    let l = (plan_call f q b).lower in
    let k = c.from-k.result in
    let t = callee_told k c.cells_of-inputs.result c.cells_of.result q.program (omega (arith, l, q.node≤, c.from-k.ensures)) c.cells_of-inputs.ensures.0 c.cells_of.ensures.0 in
    c.max.ensures ∙ (λ j. max (t.2 j) (t.1 j)) ∙ ap (callee_cells f) c.from-k.ensures ∙ sym (call_work f node c.args.level c.args.at b)

pub returns-else-is_at : goal.returns-else-is_at
returns-else-is_at c = λ node q.
    let f = c.args.file.now in
    let b = iterator_code f c.args.at c.requires.1 (eqb-false _ 11 (sym c.is_at.ensures ∙ c.if-is_at.false)) in
    let n = c.array_length.ensures node (subst (λ (s : ℕ). Plan f (tab_of c.args.tab.now) (rows_of c.args.tab.now) (consts_of c.args.tab.now) node (c.args.level - 1) 1 s) (sym c.arrays_of-h.ensures.1) (first_array q b)) in
    (λ j. c.arrays_of-h.ensures.0 j * (n ∙ ap (λ (s : ℕ). span_in f node (expr_at f (c.args.level - 1) s)) c.arrays_of-h.ensures.1) j) ∙ sym (arrays_work q b)
