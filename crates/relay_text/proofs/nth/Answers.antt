use Rattle.std.proofs.Common.{ℕ, ◌+◌, ◌-◌, sym, ap, ◌∙◌, arith}
use Rattle.relay_text.specs.declared.Word.{Word}
use Rattle.relay_text.specs.Text.{behind, word_at}
use Rattle.relay_text.proofs.Laws.{behind_next, behind_done}
use Rattle.relay_text.proofs.nth.Goals as goal

pub loop-init : goal.loop-init
loop-init c = (omega arith, ap (λ (j : ℕ). behind c.args.line.now j 0) (omega arith))

pub loop-preserved : goal.loop-preserved
loop-preserved c =
    let w = c.next_word-at in (
      w.ensures.1,
      ap (λ (r : Word). behind c.args.line.now (c.args.k - (c.loop.counter + 1)) r.to) w.ensures.2
          ∙ sym (behind_next c.args.line.now c.args.k c.loop.counter c.loop.at c.loop-test.true) ∙ c.loop.invariant.1,
    )

pub returns : goal.returns
returns c =
    let w = c.next_word in
    (w.ensures.0, w.ensures.1, w.ensures.2 ∙ ap (word_at c.args.line.now) (sym (behind_done c.args.line.now c.args.k c.loop.counter c.loop.at c.loop-test.false) ∙ c.loop.invariant.1))
