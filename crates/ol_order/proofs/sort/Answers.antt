use Prim.Native.Nat.{ℕ, ◌+◌}
use mathlib.Core.Path.{◌≡◌, sym, ◌∙◌}
use native.Mathlib.Omega.{arith}
use lib.ListN.{length, take, replicate}
use lib.Seq.{length-take-le}
use Rattle.ol_order.specs.Equations.{those}
use Rattle.ol_order.proofs.Definers.{starts_defined, definers_made}
use Rattle.ol_order.proofs.Turns.{as_many}
use Rattle.ol_order.proofs.Waiting.{waits_made}
use Rattle.ol_order.proofs.sort.Goals as goal

pub invariant_of-lookup : goal.invariant_of-lookup
invariant_of-lookup g c =
    let e = c.args.equations in
    record { entries = c.requires.entries; told = definers_made g.row.N (those e) c.args.low c.args.definers.now _ c.requires.entries c.requires.blank (c.define_all.ensures ∙ starts_defined g.row.N e.file.now e.limits e.enums e.starts.now c.args.definers.now e.readable) }

pub place-requires : goal.place-requires
place-requires g c =
    let e = c.args.equations in
    let many = as_many e.file.now e.limits e.enums e.starts.now in
    let long : length (take (length e.starts.now + 1) (replicate {A = ℕ} 81 0)) ≡ length e.starts.now + 1 = length-take-le (length e.starts.now + 1) (replicate 81 0) (omega (arith, e.readable.few)) in
    record {
      equations = those e;
      waits = waits_made (those e) c.args.lists.now (take (length e.starts.now + 1) (replicate 81 0)) c.requires.room (omega (arith, long, many)) c.record_all.ensures.lists c.record_all.ensures.begins;
      room = c.requires.order_len ∙ sym many;
      few = omega (arith, many, e.readable.few);
    }

pub returns-clause-order : goal.returns-clause-order
returns-clause-order g c =
    let e = c.args.equations in
    let many = as_many e.file.now e.limits e.enums e.starts.now in
    let long : length (take (length e.starts.now + 1) (replicate {A = ℕ} 81 0)) ≡ length e.starts.now + 1 = length-take-le (length e.starts.now + 1) (replicate 81 0) (omega (arith, e.readable.few)) in
    c.place.ensures (those e) (waits_made (those e) c.args.lists.now (take (length e.starts.now + 1) (replicate 81 0)) c.requires.room (omega (arith, long, many)) c.record_all.ensures.lists c.record_all.ensures.begins)

pub returns-clause-table : goal.returns-clause-table
returns-clause-table g c =
    let e = c.args.equations in
    c.define_all.ensures ∙ starts_defined g.row.N e.file.now e.limits e.enums e.starts.now c.args.definers.now e.readable
