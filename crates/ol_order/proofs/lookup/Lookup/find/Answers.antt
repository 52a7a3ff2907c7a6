use mathlib.Core.Path.{ap, ◌∙◌}
use native.Mathlib.Omega.{arith}
use Rattle.ol_order.specs.Tables.{as_option}
use Rattle.ol_order.proofs.Turns.{as_many}
use Rattle.ol_order.proofs.Definers.{entry_some, entry_none}
use Rattle.ol_order.proofs.lookup.Lookup.find.Goals as goal

pub returns-then-self : goal.returns-then-self
returns-then-self g c = c.definer.ensures ∙ c.args.self.told.lows c.if-self.true c.args.x

pub overflow_add-d : goal.overflow_add-d
overflow_add-d g c =
    let e = c.args.self.equations in
    omega (arith, as_many e.file.now e.limits e.enums e.starts.now, e.readable.few, (entry_some c.args.self.told c.args.x c.in_ok-d.ensures).0)

pub search-requires : goal.search-requires
search-requires g c =
    let e = c.args.self.equations in
    omega (arith, as_many e.file.now e.limits e.enums e.starts.now, (entry_some c.args.self.told c.args.x c.in_ok-d.ensures).0)

pub returns : goal.returns
returns g c = c.search.ensures ∙ ap as_option (entry_some c.args.self.told c.args.x c.in_ok-d.ensures).1

pub returns-in_err-d : goal.returns-in_err-d
returns-in_err-d g c = c.from_residual.ensures ∙ entry_none c.args.self.told c.args.x c.in_err-d.ensures
