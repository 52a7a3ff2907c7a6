use Rattle.std.proofs.Common.{◌∙◌, rules, arith}
use Rattle.relay.proofs.Asks.{asks_long, asks_silent, asks_unknown, asks_words, asks_obeyed, first_word}
use Rattle.relay.proofs.request.ask.Goals as goal

pub returns-then-line-gt-LONGEST : goal.returns-then-line-gt-LONGEST
returns-then-line-gt-LONGEST c = asks_long c.args.line.now c.if-line-gt-LONGEST.true

pub returns-then-is_silent : goal.returns-then-is_silent
returns-then-is_silent c = asks_silent c.args.line.now c.is_silent.result (λ h. omega (arith, h)) c.is_silent.ensures c.if-is_silent.true

pub returns-in_err-c : goal.returns-in_err-c
returns-in_err-c c =
    rw (asks_unknown c.args.line.now c.is_silent.result c.command_named.result (λ h. omega (arith, h)) c.is_silent.ensures c.if-is_silent.false (first_word c.args.line.now c.nth-w.result c.nth-w.ensures.2 c.command_named.ensures) _ c.in_err-c.was) (search rules)

pub returns-then-not-fits : goal.returns-then-not-fits
returns-then-not-fits c =
    asks_words c.args.line.now c.is_silent.result c.command_named.result (λ h. omega (arith, h)) c.is_silent.ensures c.if-is_silent.false (first_word c.args.line.now c.nth-w.result c.nth-w.ensures.2 c.command_named.ensures) c.in_ok-c.c c.in_ok-c.was
    c.words.result c.fits.result c.words.ensures c.fits.ensures c.if-not-fits.true

pub returns : goal.returns
returns c =
    asks_obeyed c.args.line.now c.is_silent.result c.command_named.result (λ h. omega (arith, h)) c.is_silent.ensures c.if-is_silent.false (first_word c.args.line.now c.nth-w.result c.nth-w.ensures.2 c.command_named.ensures) c.in_ok-c.c c.in_ok-c.was
    c.words.result c.fits.result c.words.ensures c.fits.ensures c.if-not-fits.false
    ∙ c.ask_by.ensures
