use Rattle.std.proofs.Common.{◌+◌, ◌-◌, sym, ap, ◌∙◌, arith}
use Rattle.relay_text.specs.declared.Word.{Word}
use Rattle.relay_text.specs.Text.{words_up_to}
use Rattle.relay_text.proofs.Laws.{words_next, words_none, words_done, empty_word, word_goes_on}
use Rattle.relay_text.proofs.words.Goals as goal

pub returns-then-is_empty : goal.returns-then-is_empty
returns-then-is_empty c =
    let w = c.next_word-w in
    words_none c.args.line.now 6 c.loop-n.n c.loop-n.at c.loop-n-test.true
    (empty_word c.args.line.now c.loop-n.at w.result w.ensures.2 w.ensures.0 (sym c.is_empty.ensures ∙ c.if-is_empty.true)) ∙ c.loop-n.invariant.1

pub loop-n-preserved : goal.loop-n-preserved
loop-n-preserved c =
    let w = c.next_word-w in (
      w.ensures.1,
      ap (λ (r : Word). c.loop-n.n + 1 + words_up_to (6 - (c.loop-n.n + 1)) c.args.line.now r.to) w.ensures.2
          ∙ sym (words_next c.args.line.now 6 c.loop-n.n c.loop-n.at c.loop-n-test.true (word_goes_on c.args.line.now c.loop-n.at w.result w.ensures.2 (sym c.is_empty.ensures ∙ c.if-is_empty.false)))
          ∙ c.loop-n.invariant.1,
    )

pub returns : goal.returns
returns c =
    let e = words_done c.args.line.now 6 c.loop-n.n c.loop-n.at c.loop-n-test.false in
    omega (arith, e, c.loop-n.invariant.1)
