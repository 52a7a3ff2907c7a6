use Rattle.std.proofs.Common.{ℕ, ◌+◌, drop, sym, ap, ◌∙◌}
use Rattle.relay_text.specs.Text.{number_from}
use Rattle.relay_text.proofs.Laws.{number_stop, number_more, number_end}
use Rattle.relay_text.proofs.decimal.Goals as goal

pub returns-then-not-is_ascii_digit : goal.returns-then-not-is_ascii_digit
returns-then-not-is_ascii_digit c =
    rw (sym c.is_empty.ensures ∙ c.if-is_empty.false)
    (sym (c.loop-c.invariant.1 ∙ number_stop c.loop-c.value c.args.text.now c.loop-c.c-index c.loop-c-test.true (c.if-not-is_ascii_digit.ensures).cases))

pub loop-c-preserved : goal.loop-c-preserved
loop-c-preserved c = (
  c.with_digit-value.ensures.0,
  c.loop-c.invariant.1
      ∙ number_more c.loop-c.value c.args.text.now c.loop-c.c-index c.loop-c-test.true (c.if-not-is_ascii_digit.ensures).cases.0 (c.if-not-is_ascii_digit.ensures).cases.1
      ∙ ap (λ (v : ℕ). number_from v (drop (c.loop-c.c-index + 1) c.args.text.now)) (sym c.with_digit-value.ensures.1),
)

pub returns : goal.returns
returns c =
    rw (sym c.is_empty.ensures ∙ c.if-is_empty.false) (sym (c.loop-c.invariant.1 ∙ number_end c.loop-c.value c.args.text.now c.loop-c.c-index c.loop-c-test.false))
