use Rattle.std.proofs.Common.{refl, arith}
use Rattle.std.proofs.lemmas.Result.{err_from_is_err_and}
use Rattle.relay.specs.Requests.{silent}
use Rattle.relay.specs.Kept.{standing}
use Rattle.relay.proofs.Tellings.{of_line, reply_wrong, no_file, about_replies}
use Rattle.relay.proofs.session.Session.obey.Goals as goal

pub returns-in_err-ask : goal.returns-in_err-ask
returns-in_err-ask c =
    let p = err_from_is_err_and c.from_residual.result c.from_residual.ensures.1 in
    rw (p.1, p.2) (refl, λ no. reply_wrong no _ _ _ c.in_err-ask.ensures)

pub returns-in_err-kept-in-About : goal.returns-in_err-kept-in-About
returns-in_err-kept-in-About c =
    let p = err_from_is_err_and c.from_residual-in_err-kept-in-About.result c.from_residual-in_err-kept-in-About.ensures.1 in
    rw (p.1, p.2) (refl, λ no. no_file no _ c.args.self.now _ c.in_err-kept-in-About.field-0.0 (rw c.in-About.is at c.in_ok-ask.ensures) c.in_err-kept-in-About.ensures.ok_part c.in_err-kept-in-About.ensures.value)

pub returns-in-Silent : goal.returns-in-Silent
returns-in-Silent c = λ no. of_line no _ _ silent (rw c.in-Silent.is at c.in_ok-ask.ensures) (record { said = record { inside = omega arith; is = refl }; kept = refl })

pub returns-in-File : goal.returns-in-File
returns-in-File c = λ no. of_line no _ _ _ (rw c.in-File.is at c.in_ok-ask.ensures) (c.open_file.ensures no (standing c.args.self.now))

pub returns-in_ok-kept-in-About : goal.returns-in_ok-kept-in-About
returns-in_ok-kept-in-About c = λ no. of_line no _ _ _ (rw c.in-About.is at c.in_ok-ask.ensures) (about_replies no _ c.args.self.now _ _ _ c.in_ok-kept-in-About.ensures.ok_part c.tell_about.ensures)
