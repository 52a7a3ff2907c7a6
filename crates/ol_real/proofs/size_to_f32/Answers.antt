use Rattle.std.proofs.Common.{◌∙◌, arith}
use Rattle.ol_real.proofs.Singles.{digits_small, normal_kept, small_kept, infinite_single, double_single, zero_single}
use Rattle.ol_real.proofs.size_to_f32.Goals as goal

pub overflow_add-m : goal.overflow_add-m
overflow_add-m c = omega (arith, digits_small c.args.b)

pub nearest_single-requires-in-897-to-2046 : goal.nearest_single-requires-in-897-to-2046
nearest_single-requires-in-897-to-2046 c = normal_kept c.args.b (omega arith) (omega arith)

pub nearest_single-requires : goal.nearest_single-requires
nearest_single-requires c = small_kept c.args.b (omega arith) (omega arith)

pub returns-in-2047-to-18446744073709551615 : goal.returns-in-2047-to-18446744073709551615
returns-in-2047-to-18446744073709551615 c = infinite_single c.args.b c.requires (omega arith)

pub returns-in-897-to-2046 : goal.returns-in-897-to-2046
returns-in-897-to-2046 c = c.nearest_single-in-897-to-2046.ensures ∙ double_single c.args.b (omega arith) 29 _ (omega arith) (omega arith)

pub returns-in-873-to-896 : goal.returns-in-873-to-896
returns-in-873-to-896 c = c.nearest_single.ensures ∙ double_single c.args.b (omega arith) _ 0 (omega arith) (omega arith)

pub returns-in_default : goal.returns-in_default
returns-in_default c = zero_single c.args.b (omega arith) (omega arith)
