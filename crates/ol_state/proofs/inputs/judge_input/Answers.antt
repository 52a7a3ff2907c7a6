use mathlib.Core.List.{[]}
use mathlib.Core.Path.{sym, ap, ◌∙◌}
use lib.ListN.{length, take, drop, get_or}
use lib.Dec.{eqb}
use Rattle.ol_spec.specs.Lists.{member}
use Rattle.ol_spec.specs.Cell.{tag}
use Rattle.ol_value.specs.Codes.{name_in}
use Rattle.ol_tables.specs.At.{file_at}
use Rattle.ol_state.proofs.Enums.{enum_names, enum_below, other_tag, input_enum, input_other, input_kind, input_cell}
use Rattle.ol_state.proofs.inputs.judge_input.Goals as goal

pub returns-then-not-good_cell : goal.returns-then-not-good_cell
returns-then-not-good_cell c =
    input_cell (file_at c.args.file.now) c.args.code c.args.e (take 9 (drop c.args.at c.args.cells.now)) (sym c.good_cell.ensures ∙ c.if-not-good_cell.true)

pub returns-else-in_type : goal.returns-else-in_type
returns-else-in_type c =
    let good = sym c.good_cell.ensures ∙ c.if-not-good_cell.false in
    c.if-in_type.false ∙ input_kind (file_at c.args.file.now) c.args.code c.args.e (take 9 (drop c.args.at c.args.cells.now)) c.read_cell-v.ensures good (sym (c.in_type.ensures c.args.e) ∙ c.if-in_type.false)

pub returns-in-Enum : goal.returns-in-Enum
returns-in-Enum c =
    let h = c.requires.0 in
    let f = file_at c.args.file.now in
    let good = sym c.good_cell.ensures ∙ c.if-not-good_cell.false in
    let kind = sym (c.in_type.ensures c.args.e) ∙ c.if-in_type.true in
    let enum = ap (λ v. eqb (tag v) 4) c.in-Enum.is in
    let below = enum_below (length f.enums) c.args.code c.args.e c.read_cell-v.result h.fits kind enum in
    let name = c.from.ensures ∙ sym (ap name_in c.in-Enum.is) in
    input_enum f c.args.code c.args.e (take 9 (drop c.args.at c.args.cells.now)) c.read_cell-v.ensures good kind enum (c.has_variant.ensures (get_or f.enums c.args.e []) (c.enum_at.ensures.here below) (enum_names f h.within c.args.e below) ∙ ap (λ x. member x (get_or f.enums c.args.e [])) name)

pub returns-in_default : goal.returns-in_default
returns-in_default c =
    let good = sym c.good_cell.ensures ∙ c.if-not-good_cell.false in
    let kind = sym (c.in_type.ensures c.args.e) ∙ c.if-in_type.true in
    input_other (file_at c.args.file.now) c.args.code c.args.e (take 9 (drop c.args.at c.args.cells.now)) c.read_cell-v.ensures good kind (other_tag c.read_cell-v.result c.in_default.not-Enum)
