use Prim.Native.Nat.{ℕ, ◌-◌}
use native.Mathlib.Omega.{arith}
use mathlib.Core.Path.{sym, ap, ◌∙◌}
use lib.ListN.{length, take, length-replicate}
use lib.Seq.{length-take-le}
use Rattle.ol_spec.specs.Cycle.{ordering}
use Rattle.ol_spec.specs.Limits.{relay_loader}
use Rattle.rows.specs.Rows.{all_agree}
use Rattle.order_grid.specs.Questions.{order_row, order_agrees}
use Rattle.order_grid.proofs.Laws.{marks_taken}
use Rattle.order_grid.proofs.order_agrees.Goals as goal

pub slice_bounds-order_gives-end : goal.slice_bounds-order_gives-end
slice_bounds-order_gives-end c = sym (length-take-le ((length c.args.wanted.now) - 2) c.marks-buffer.result (omega (arith, ap length c.marks-buffer.ensures ∙ length-replicate {A = ℕ} 512 170)))

pub slice_bounds-order_gives-end-2 : goal.slice_bounds-order_gives-end-2
slice_bounds-order_gives-end-2 c = sym (length-take-le (length c.args.wanted.now) c.room-found.result (omega arith))

pub order_gives-requires : goal.order_gives-requires
order_gives-requires c = omega (arith, length-take-le (length c.args.wanted.now) c.room-found.result (omega arith), length-take-le ((length c.args.wanted.now) - 2) c.marks-buffer.result (omega (arith, ap length c.marks-buffer.ensures ∙ length-replicate {A = ℕ} 512 170)))

pub returns : goal.returns
unfolding order_agrees
returns c = c.order_gives.ensures ∙ ap (λ b. all_agree (order_row (ordering relay_loader c.args.file.now c.args.node b)) c.args.wanted.now) (ap (take ((length c.args.wanted.now) - 2)) c.marks-buffer.ensures ∙ marks_taken ((length c.args.wanted.now) - 2) 512 170 (omega (arith, c.requires)))
