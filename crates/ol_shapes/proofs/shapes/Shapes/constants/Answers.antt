use Prim.Native.Nat.{◌+◌, ◌<◌}
use mathlib.Core.Path.{refl, sym, ap, subst, ◌∙◌}
use native.Mathlib.Omega.{arith}
use lib.ListN.{length}
use Rattle.ol_spec.specs.Limits.{base}
use Rattle.ol_spec.specs.Places.{constant_size, constants_start, placed_constants}
use Rattle.ol_spec.specs.Encode.{constant_bytes}
use Rattle.ol_spec.specs.Within.{constant_fits}
use Rattle.ol_spec.specs.Admission.{constant_misplaced}
use Rattle.ol_tables.specs.At.{file_at}
use Rattle.ol_tables.proofs.HeadsFile.{Passing}
use Rattle.ol_tables.proofs.Walking.{ty_small}
use Rattle.ol_shapes.specs.Codes.{fault_of}
use Rattle.ol_shapes.proofs.Judging.{erred}
use Rattle.ol_shapes.proofs.Firsts.{first_turn, first_stop, first_end}
use Rattle.ol_shapes.proofs.Laying.{no_constant}
use Rattle.ol_shapes.proofs.Walking.{constants_start_lem, constant_near, constant_found, constants_turn, constants_many}
use Rattle.ol_shapes.proofs.shapes.Shapes.constants.Goals as goal

pub loop-init : goal.loop-init
loop-init c =
    let s = c.args.self.now.file.now in
    (subst (Passing constant_bytes (constant_fits base (length (file_at s).enums)) constant_size s (constants_start (file_at s)) (file_at s).constants 0) (sym c.requires.3) (constants_start_lem c.requires.0 c.requires.1), refl)

pub overflow_add-ty : goal.overflow_add-ty
overflow_add-ty c = omega (arith, constant_near c.requires.0 c.requires.1 c.loop.counter c.loop.next c.loop.invariant.0 (omega (arith, c.loop-test.true, c.requires.2)))

pub array_length-requires : goal.array_length-requires
array_length-requires c = omega (arith, constant_near c.requires.0 c.requires.1 c.loop.counter c.loop.next c.loop.invariant.0 (omega (arith, c.loop-test.true, c.requires.2)))

pub overflow_add-ty-in-loop : goal.overflow_add-ty-in-loop
overflow_add-ty-in-loop c =
    omega (
      arith,
      constant_near c.requires.0 c.requires.1 c.loop.counter c.loop.next c.loop.invariant.0 (omega (arith, c.loop-test.true, c.requires.2)),
      c.ty_size.ensures,
      ty_small c.args.self.now.file.now (c.loop.next + 2),
    )

pub returns-in_err-next : goal.returns-in_err-next
returns-in_err-next c =
    let f = file_at c.args.self.now.file.now in
    let i = c.loop.counter in
    let low : i < length f.constants = omega (arith, c.loop-test.true, c.requires.2) in
    ap fault_of (erred c.from_residual.result c.from_residual.ensures.1)
    ∙ first_stop (constant_misplaced f) (0, no_constant) (placed_constants f) i c.loop.invariant.1 (omega (arith, low, constants_many c.requires.0 c.requires.1))
    (constant_found c.requires.0 c.requires.1 i c.loop.next c.loop.invariant.0 low c.array_length.ensures c.shape_of.ensures c.under-place.ensures c.ty_size.ensures refl c.in_err-next.ensures)

pub loop-preserved : goal.loop-preserved
loop-preserved c =
    let f = file_at c.args.self.now.file.now in
    let i = c.loop.counter in
    let low : i < length f.constants = omega (arith, c.loop-test.true, c.requires.2) in
    let found = constant_found c.requires.0 c.requires.1 i c.loop.next c.loop.invariant.0 low c.array_length.ensures c.shape_of.ensures c.under-place.ensures c.ty_size.ensures refl c.in_ok-next.ensures in (
      constants_turn c.requires.0 c.requires.1 i c.loop.next c.loop.invariant.0 low c.array_length.ensures c.shape_of.ensures c.under-place.ensures c.ty_size.ensures refl c.in_ok-next.ensures refl,
      first_turn (constant_misplaced f) (0, no_constant) (placed_constants f) i c.loop.invariant.1 (omega (arith, low, constants_many c.requires.0 c.requires.1)) found,
    )

pub returns : goal.returns
returns c =
    let f = file_at c.args.self.now.file.now in
    first_end (constant_misplaced f) (0, no_constant) (placed_constants f) c.loop.counter c.loop.invariant.1 (omega (arith, c.loop-test.false, c.requires.2, constants_many c.requires.0 c.requires.1))
