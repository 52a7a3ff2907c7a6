use mathlib.Core.Path.{ap, ◌∙◌}
use native.Mathlib.Omega.{arith}
use lib.ListN.{get_or}
use Rattle.ol_check.proofs.Standing.{stands}
use Rattle.ol_check.proofs.RowLoops.{behind_enums}
use Rattle.ol_check.proofs.rows.constant_cells.Goals as goal

pub enums_end-c-requires : goal.enums_end-c-requires
enums_end-c-requires c =
    let st = stands c.type_inv.file c.requires in
    (omega (arith, c.byte.ensures.is, st.enum_count, st.few_enums), omega arith)

pub overflow_add-c : goal.overflow_add-c
overflow_add-c c =
    let st = stands c.type_inv.file c.requires in
    omega (arith, behind_enums st c.byte.ensures c.enums_end-c.ensures, st.inside, st.short)

pub cells_in-requires : goal.cells_in-requires
cells_in-requires c =
    let st = stands c.type_inv.file c.requires in
    let here = behind_enums st c.byte.ensures c.enums_end-c.ensures in
    record { reads = c.requires; many = c.byte-2.ensures.is ∙ ap (λ p. get_or c.args.file.now p 0) (omega (arith, here)) ∙ st.constant_count; place = here }
