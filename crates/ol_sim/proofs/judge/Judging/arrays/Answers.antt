use Rattle.std.proofs.Common.{◌≡◌, take, drop, sym, ap, subst, ◌∙◌}
use Rattle.ol_tables.specs.Numbers.{numbers}
use Rattle.ol_tables.specs.Table.{half_of}
use Rattle.ol_tables.proofs.Lending.{tail_all}
use Rattle.ol_shapes.specs.Laid.{Laid}
use Rattle.ol_sim.specs.Judging.{slots_of, plans_of}
use Rattle.ol_sim.proofs.Chain.{no_place, passed_by_lem}
use Rattle.ol_sim.proofs.Steps.{order_ready}
use Rattle.ol_sim.proofs.Shapes.{laid, found_same}
use Rattle.ol_sim.proofs.Plain.{no_arrays_no_22}
use Rattle.ol_sim.proofs.judge.Judging.arrays.Goals as goal
use Rattle.ol_sim.proofs.judge.Judging.arrays.Goals.{then-found+in_ok-refuse_at, else-found}

pub misshapen-misplaced-requires : goal.misshapen-misplaced-requires
misshapen-misplaced-requires c =
    let cut = c.split_at in
    let s = c.args.self.now.project.file.now in
    let rows = numbers c.args.self.now.rows.now in
    let t = c.args.tab.now in
    let h = c.requires.arrays_ready in
    let sections = h.walked.sections.rowed.sections in
    let slots : slots_of t ≡ cut.result.0.now = sym (cut.ensures.front ∙ ap (take (half_of t)) (tail_all 4210 t)) in
    let plans : plans_of t ≡ cut.result.1.now = sym (cut.ensures.back ∙ ap (drop (half_of t)) (tail_all 4210 t)) in
    (subst (λ l. Laid s rows l cut.result.1.now) slots (subst (λ l. Laid s rows (slots_of t) l) plans (laid h)), sections.constants, sections.nodes)

pub order-requires-clause-order_ready : goal.order-requires-clause-order_ready
order-requires-clause-order_ready c =
    let h = c.requires.arrays_ready in
    elim c.if-found.branch [
      | then-found+in_ok-refuse_at w ↦ order_ready h (no_place 22 w.misshapen-misplaced.result w.in_ok-refuse_at.ensures (found_same w.misshapen-misplaced.result ∙ w.misshapen-misplaced.ensures))
      | else-found w ↦ order_ready h (no_arrays_no_22 _ (sym h.about ∙ w.if-found.false))
    ]

pub returns : goal.returns
returns c =
    let h = c.requires.arrays_ready in
    elim c.if-found.branch [
      | then-found+in_ok-refuse_at w ↦ passed_by_lem (no_place 22 w.misshapen-misplaced.result w.in_ok-refuse_at.ensures (found_same w.misshapen-misplaced.result ∙ w.misshapen-misplaced.ensures)) c.order.ensures
      | else-found w ↦ passed_by_lem (no_arrays_no_22 _ (sym h.about ∙ w.if-found.false)) c.order.ensures
    ]
