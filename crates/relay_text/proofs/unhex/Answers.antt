use Rattle.std.proofs.Common.{◌≡◌, [], ◌∷◌, sym, ◌∙◌, arith}
use lib.Pointwise.{bytes_decides}
use Rattle.relay_text.specs.Text.{bytes_of}
use Rattle.relay_text.proofs.Laws.{hyphen_bytes, hyphen_written, other_bytes}
use Rattle.relay_text.proofs.unhex.Goals as goal

pub returns-then-eq : goal.returns-then-eq
returns-then-eq c =
    let e : c.args.text.now ≡ 45 ∷ [] = (bytes_decides c.args.text.now c.as_slice.result.now).0 (sym c.eq.ensures ∙ c.if-eq.true) ∙ c.as_slice.ensures in
    ((omega arith, rw e hyphen_bytes), rw e (hyphen_written c.args.out.now))

pub returns : goal.returns
returns c =
    let e : bytes_of c.args.text.now ≡ _ = other_bytes c.args.text.now (rw c.as_slice.ensures at (sym c.eq.ensures ∙ c.if-eq.false)) in
    (rw e c.unhex_digits.ensures.0, c.unhex_digits.ensures.1)
