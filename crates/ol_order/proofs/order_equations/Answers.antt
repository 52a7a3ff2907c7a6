use mathlib.Core.Path.{sym, ap, ◌∙◌}
use Rattle.std.proofs.Common.{of_calls}
use Rattle.ol_spec.specs.Cycle.{OrderingCall}
use Rattle.ol_order.proofs.Answers.{answer_fault, answer_done, answer_short, all_well, erred}
use Rattle.ol_order.proofs.order_equations.Goals as goal
use native.Mathlib.Omega.{arith}

pub returns-in_err-map_err : goal.returns-in_err-map_err
returns-in_err-map_err g c =
    let e = answer_fault c.args.equations.starts.now c.args.buffer.now c.sort.ensures.order _ c.map_err.ensures.cases c.in_err-map_err.was (λ first h. search (of_calls, h)) in
    record { answer = erred c.from_residual.result c.from_residual.ensures.1 ∙ ap (λ (c : OrderingCall). c.answer) e; written = ap (λ (c : OrderingCall). c.buffer) e }

pub returns-then-buffer-order : goal.returns-then-buffer-order
returns-then-buffer-order g c =
    let e = answer_short c.args.equations.starts.now c.args.buffer.now c.sort.ensures.order (all_well c.map_err.ensures.variant c.in_ok-map_err.was) (λ h. c.if-buffer-order.true (h ∙ sym c.sort.ensures.order.long)) in
    record { answer = ap (λ (c : OrderingCall). c.answer) e; written = ap (λ (c : OrderingCall). c.buffer) e }

pub returns : goal.returns
returns g c =
    let e = answer_done c.args.equations.starts.now c.args.buffer.now c.sort.ensures.order (all_well c.map_err.ensures.variant c.in_ok-map_err.was) (omega (arith, c.if-buffer-order.false, c.sort.ensures.order.long)) in
    record { answer = ap (λ (c : OrderingCall). c.answer) e; written = c.copy.ensures ∙ ap (λ (c : OrderingCall). c.buffer) e }
