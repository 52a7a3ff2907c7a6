use Rattle.std.proofs.Common.{◌≡◌, ℕ, ap, ◌∙◌, arith}
use Rattle.io.specs.Digits.{last_digits}
use Rattle.relay_text.specs.Text.{places}
use Rattle.relay_text.proofs.Laws.{places_fewest, appends_as}
use Rattle.relay_text.proofs.line.Line.number.Goals as goal

pub returns-clause-appends : goal.returns-clause-appends
returns-clause-appends c =
    let e : c.decimal-k.result ≡ places 19 c.args.n = places_fewest 19 c.args.n c.decimal-k.result (omega arith) c.decimal-k.ensures.len in
    appends_as _ _ _ _ (c.decimal-k.ensures.digits ∙ ap (λ (j : ℕ). last_digits 10 j c.args.n) e) c.piece.ensures.appends
