use native.Mathlib.Omega.{arith}
use mathlib.Core.Path.{ap, ◌∙◌}
use lib.ListN.{get_or-eq_default}
use Rattle.ol_spec.specs.Numbers.{residue}
use Rattle.ol_spec.specs.Real.{single, double, from_bits, of_int, truncate, add_r, sub_r, mul_r, div_r, neg_r, eq_r, lt_r, le_r}
use Rattle.ieee_vectors.specs.Operations.{d_bits, s_bits, operations, read_single, result_of}
use borrow.Author.Rules.{sfits_of}
use mir.Facts.{to_z-of_z}
use mir.Syntax.{w64}
use mir.Val.{of_z}
use Rattle.ol_value.proofs.Backs.{signed_is, residue_is}
use Rattle.ieee_vectors.proofs.operations.result.Goals as goal

pub returns-in-0 : goal.returns-in-0
unfolding result_of
returns-in-0 c =
    rw c.in-0.is
    (c.f64_bits.ensures ∙ ap d_bits (c.i64_to_f64.ensures ∙ ap (of_int double) (to_z-of_z {w = w64} (sfits_of c.cast_signed.type_inv) ∙ c.cast_signed.ensures ∙ signed_is c.args.a)))

pub returns-in-1 : goal.returns-in-1
unfolding result_of
returns-in-1 c =
    rw c.in-1.is
    (c.from.ensures ∙ c.f32_bits.ensures ∙ ap s_bits (c.i64_to_f32.ensures ∙ ap (of_int single) (to_z-of_z {w = w64} (sfits_of c.cast_signed-in-1.type_inv) ∙ c.cast_signed-in-1.ensures ∙ signed_is c.args.a)))

pub returns-in-2 : goal.returns-in-2
unfolding result_of
returns-in-2 c = rw c.in-2.is (cc)

pub returns-in-3 : goal.returns-in-3
unfolding result_of
returns-in-3 c = rw c.in-3.is (cc)

pub returns-in-4 : goal.returns-in-4
unfolding result_of
returns-in-4 c =
    let z = c.f64_to_i64.result in
    let f = sfits_of c.f64_to_i64.type_inv in
    rw c.in-4.is
    (c.cast_unsigned.ensures ∙ ap (of_z w64) (to_z-of_z {w = w64} f) ∙ residue_is z f ∙ ap (residue 64) (c.f64_to_i64.ensures ∙ ap truncate c.f64_of_bits-x.ensures))

pub returns-in-5 : goal.returns-in-5
unfolding result_of
returns-in-5 c =
    let z = c.f32_to_i64.result in
    let f = sfits_of c.f32_to_i64.type_inv in
    rw c.in-5.is
    (c.cast_unsigned-in-5.ensures ∙ ap (of_z w64) (to_z-of_z {w = w64} f) ∙ residue_is z f
    ∙ ap (residue 64) (c.f32_to_i64.ensures ∙ ap truncate (c.f32_of_bits-s.ensures ∙ ap (from_bits single) c.low.ensures)))

pub returns-in-6 : goal.returns-in-6
unfolding result_of add_r
returns-in-6 c = rw c.in-6.is (cc)

pub returns-in-7 : goal.returns-in-7
unfolding result_of sub_r
returns-in-7 c = rw c.in-7.is (cc)

pub returns-in-8 : goal.returns-in-8
unfolding result_of mul_r
returns-in-8 c = rw c.in-8.is (cc)

pub returns-in-9 : goal.returns-in-9
unfolding result_of div_r
returns-in-9 c = rw c.in-9.is (cc)

pub returns-in-10 : goal.returns-in-10
unfolding result_of add_r
returns-in-10 c = rw c.in-10.is (cc)

pub returns-in-11 : goal.returns-in-11
unfolding result_of sub_r
returns-in-11 c = rw c.in-11.is (cc)

pub returns-in-12 : goal.returns-in-12
unfolding result_of mul_r
returns-in-12 c = rw c.in-12.is (cc)

pub returns-in-13 : goal.returns-in-13
unfolding result_of div_r
returns-in-13 c = rw c.in-13.is (cc)

pub returns-in-14 : goal.returns-in-14
unfolding result_of neg_r
returns-in-14 c = rw c.in-14.is (cc)

pub returns-in-15 : goal.returns-in-15
unfolding result_of neg_r
returns-in-15 c = rw c.in-15.is (cc)

pub returns-in-16 : goal.returns-in-16
unfolding result_of eq_r
returns-in-16 c = rw c.in-16.is (cc)

pub returns-in-17 : goal.returns-in-17
unfolding result_of lt_r
returns-in-17 c = rw c.in-17.is (cc)

pub returns-in-18 : goal.returns-in-18
unfolding result_of le_r
returns-in-18 c = rw c.in-18.is (cc)

pub returns-in-19 : goal.returns-in-19
unfolding result_of eq_r
returns-in-19 c = rw c.in-19.is (cc)

pub returns-in-20 : goal.returns-in-20
unfolding result_of lt_r
returns-in-20 c = rw c.in-20.is (cc)

pub returns-in-21 : goal.returns-in-21
unfolding result_of le_r
returns-in-21 c = rw c.in-21.is (cc)

pub returns-in-22 : goal.returns-in-22
unfolding result_of
returns-in-22 c = rw c.in-22.is (cc)

pub returns-in_default : goal.returns-in_default
unfolding result_of
returns-in_default c = rw (get_or-eq_default operations read_single {n = c.args.op} (omega arith)) (cc)
