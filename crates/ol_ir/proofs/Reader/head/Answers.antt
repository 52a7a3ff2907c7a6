use Prim.Native.Nat.{◌+◌}
use mathlib.Core.Path.{◌∙◌, sym, ap, refl}
use Rattle.ol_spec.specs.Lists.{up_to}
use Rattle.ol_spec.specs.Read.{byte, number, coded, ty_r, bools, unary_ops, bin_ops, bool_code, char_code, var_code, unary_code}
use Rattle.ol_spec.specs.Read.{binary_code, if_code, pre_code, arrow_code, cast_code, call_code, tuple_code, index_code, literal_code, iterator_code}
use Rattle.ol_tables.specs.FormCodes.{code_of_form}
use Rattle.ol_ir.specs.Nexts.{counted_of}
use Rattle.ol_ir.proofs.Forms.{code_next}
use Rattle.ol_ir.proofs.Heads.{one_byte, head_is, head_parts, head_number, head_byte, head_none}
use Rattle.ol_ir.proofs.Onward.{parts_of, erred}
use Rattle.ol_ir.proofs.Reader.head.Goals as goal

pub returns-in_err-form : goal.returns-in_err-form
unfolding counted_of
returns-in_err-form c = erred _ _ c.from_residual.ensures.1 ∙ sym (ap counted_of (head_none c.args.self.now.file.now c.args.self.now.limits.now c.args.self.now.enums c.args.at c.in_err-form.ensures))

pub returns-in_err-code-in-Bool : goal.returns-in_err-code-in-Bool
unfolding parts_of
returns-in_err-code-in-Bool c = erred _ _ c.from_residual-in_err-code-in-Bool.ensures.1 ∙ head_parts c.args.self.now.file.now c.args.self.now.limits.now c.args.self.now.enums c.args.at 0 0 bool_code (coded c.args.self.now.file.now bools (c.args.at + 1)) c.in_ok-form.ensures.0 (c.in_ok-form.ensures.1 ∙ ap code_of_form c.in-Bool.is) refl refl (sym (ap (parts_of 0) c.in_err-code-in-Bool.was)) (c.code.ensures ∙ code_next _ (up_to 2) bools _ refl)

pub returns-in_ok-code-in-Bool : goal.returns-in_ok-code-in-Bool
unfolding parts_of
returns-in_ok-code-in-Bool c = head_parts c.args.self.now.file.now c.args.self.now.limits.now c.args.self.now.enums c.args.at 0 0 bool_code (coded c.args.self.now.file.now bools (c.args.at + 1)) c.in_ok-form.ensures.0 (c.in_ok-form.ensures.1 ∙ ap code_of_form c.in-Bool.is) refl refl (sym (ap (parts_of 0) c.in_ok-code-in-Bool.was)) (c.code.ensures ∙ code_next _ (up_to 2) bools _ refl)

pub returns-in_err-bytes-in-Char : goal.returns-in_err-bytes-in-Char
unfolding parts_of
returns-in_err-bytes-in-Char c = erred _ _ c.from_residual-in_err-bytes-in-Char.ensures.1 ∙ head_parts c.args.self.now.file.now c.args.self.now.limits.now c.args.self.now.enums c.args.at 3 0 char_code (byte c.args.self.now.file.now (c.args.at + 1)) c.in_ok-form.ensures.0 (c.in_ok-form.ensures.1 ∙ ap code_of_form c.in-Char.is) refl refl (sym (ap (parts_of 0) c.in_err-bytes-in-Char.was)) (c.bytes-in-Char.ensures ∙ one_byte _ _)

pub returns-in_ok-bytes-in-Char : goal.returns-in_ok-bytes-in-Char
unfolding parts_of
returns-in_ok-bytes-in-Char c = head_parts c.args.self.now.file.now c.args.self.now.limits.now c.args.self.now.enums c.args.at 3 0 char_code (byte c.args.self.now.file.now (c.args.at + 1)) c.in_ok-form.ensures.0 (c.in_ok-form.ensures.1 ∙ ap code_of_form c.in-Char.is) refl refl (sym (ap (parts_of 0) c.in_ok-bytes-in-Char.was)) (c.bytes-in-Char.ensures ∙ one_byte _ _)

pub returns-in_err-bytes-in-Var : goal.returns-in_err-bytes-in-Var
unfolding parts_of
returns-in_err-bytes-in-Var c = erred _ _ c.from_residual-in_err-bytes-in-Var.ensures.1 ∙ head_parts c.args.self.now.file.now c.args.self.now.limits.now c.args.self.now.enums c.args.at 4 0 var_code (number c.args.self.now.file.now 2 0 (c.args.at + 1)) c.in_ok-form.ensures.0 (c.in_ok-form.ensures.1 ∙ ap code_of_form c.in-Var.is) refl refl (sym (ap (parts_of 0) c.in_err-bytes-in-Var.was)) c.bytes-in-Var.ensures

pub returns-in_ok-bytes-in-Var : goal.returns-in_ok-bytes-in-Var
unfolding parts_of
returns-in_ok-bytes-in-Var c = head_parts c.args.self.now.file.now c.args.self.now.limits.now c.args.self.now.enums c.args.at 4 0 var_code (number c.args.self.now.file.now 2 0 (c.args.at + 1)) c.in_ok-form.ensures.0 (c.in_ok-form.ensures.1 ∙ ap code_of_form c.in-Var.is) refl refl (sym (ap (parts_of 0) c.in_ok-bytes-in-Var.was)) c.bytes-in-Var.ensures

pub returns-in_err-code-in-Unary : goal.returns-in_err-code-in-Unary
unfolding parts_of
returns-in_err-code-in-Unary c = erred _ _ c.from_residual-in_err-code-in-Unary.ensures.1 ∙ head_parts c.args.self.now.file.now c.args.self.now.limits.now c.args.self.now.enums c.args.at 5 1 unary_code (coded c.args.self.now.file.now unary_ops (c.args.at + 1)) c.in_ok-form.ensures.0 (c.in_ok-form.ensures.1 ∙ ap code_of_form c.in-Unary.is) refl refl (sym (ap (parts_of 1) c.in_err-code-in-Unary.was)) (c.code-in-Unary.ensures ∙ code_next _ (up_to 2) unary_ops _ refl)

pub returns-in_ok-code-in-Unary : goal.returns-in_ok-code-in-Unary
unfolding parts_of
returns-in_ok-code-in-Unary c = head_parts c.args.self.now.file.now c.args.self.now.limits.now c.args.self.now.enums c.args.at 5 1 unary_code (coded c.args.self.now.file.now unary_ops (c.args.at + 1)) c.in_ok-form.ensures.0 (c.in_ok-form.ensures.1 ∙ ap code_of_form c.in-Unary.is) refl refl (sym (ap (parts_of 1) c.in_ok-code-in-Unary.was)) (c.code-in-Unary.ensures ∙ code_next _ (up_to 2) unary_ops _ refl)

pub returns-in_err-code-in-Binary : goal.returns-in_err-code-in-Binary
unfolding parts_of
returns-in_err-code-in-Binary c = erred _ _ c.from_residual-in_err-code-in-Binary.ensures.1 ∙ head_parts c.args.self.now.file.now c.args.self.now.limits.now c.args.self.now.enums c.args.at 6 2 binary_code (coded c.args.self.now.file.now bin_ops (c.args.at + 1)) c.in_ok-form.ensures.0 (c.in_ok-form.ensures.1 ∙ ap code_of_form c.in-Binary.is) refl refl (sym (ap (parts_of 2) c.in_err-code-in-Binary.was)) (c.code-in-Binary.ensures ∙ code_next _ (up_to 20) bin_ops _ refl)

pub returns-in_ok-code-in-Binary : goal.returns-in_ok-code-in-Binary
unfolding parts_of
returns-in_ok-code-in-Binary c = head_parts c.args.self.now.file.now c.args.self.now.limits.now c.args.self.now.enums c.args.at 6 2 binary_code (coded c.args.self.now.file.now bin_ops (c.args.at + 1)) c.in_ok-form.ensures.0 (c.in_ok-form.ensures.1 ∙ ap code_of_form c.in-Binary.is) refl refl (sym (ap (parts_of 2) c.in_ok-code-in-Binary.was)) (c.code-in-Binary.ensures ∙ code_next _ (up_to 20) bin_ops _ refl)

pub returns-in-If : goal.returns-in-If
returns-in-If c = head_byte c.args.self.now.file.now c.args.self.now.limits.now c.args.self.now.enums c.args.at 7 3 if_code c.in_ok-form.ensures.0 (c.in_ok-form.ensures.1 ∙ ap code_of_form c.in-If.is) refl refl

pub returns-in-Pre : goal.returns-in-Pre
returns-in-Pre c = head_byte c.args.self.now.file.now c.args.self.now.limits.now c.args.self.now.enums c.args.at 8 1 pre_code c.in_ok-form.ensures.0 (c.in_ok-form.ensures.1 ∙ ap code_of_form c.in-Pre.is) refl refl

pub returns-in-Arrow : goal.returns-in-Arrow
returns-in-Arrow c = head_byte c.args.self.now.file.now c.args.self.now.limits.now c.args.self.now.enums c.args.at 9 2 arrow_code c.in_ok-form.ensures.0 (c.in_ok-form.ensures.1 ∙ ap code_of_form c.in-Arrow.is) refl refl

pub returns-in_err-ty-in-Cast : goal.returns-in_err-ty-in-Cast
unfolding parts_of
returns-in_err-ty-in-Cast c = erred _ _ c.from_residual-in_err-ty-in-Cast.ensures.1 ∙ head_parts c.args.self.now.file.now c.args.self.now.limits.now c.args.self.now.enums c.args.at 10 1 cast_code (ty_r c.args.self.now.file.now c.args.self.now.limits.now c.args.self.now.enums (c.args.at + 1)) c.in_ok-form.ensures.0 (c.in_ok-form.ensures.1 ∙ ap code_of_form c.in-Cast.is) refl refl (sym (ap (parts_of 1) c.in_err-ty-in-Cast.was)) (c.ty.ensures c.args.self.now.limits.now)

pub returns-in_ok-ty-in-Cast : goal.returns-in_ok-ty-in-Cast
unfolding parts_of
returns-in_ok-ty-in-Cast c = head_parts c.args.self.now.file.now c.args.self.now.limits.now c.args.self.now.enums c.args.at 10 1 cast_code (ty_r c.args.self.now.file.now c.args.self.now.limits.now c.args.self.now.enums (c.args.at + 1)) c.in_ok-form.ensures.0 (c.in_ok-form.ensures.1 ∙ ap code_of_form c.in-Cast.is) refl refl (sym (ap (parts_of 1) c.in_ok-ty-in-Cast.was)) (c.ty.ensures c.args.self.now.limits.now)

pub returns-in-Call : goal.returns-in-Call
returns-in-Call c = c.call.ensures.is ∙ sym (ap counted_of (head_is c.args.self.now.file.now c.args.self.now.limits.now c.args.self.now.enums c.args.at 11 call_code c.in_ok-form.ensures.0 (c.in_ok-form.ensures.1 ∙ ap code_of_form c.in-Call.is) refl))

pub returns-in-Tuple : goal.returns-in-Tuple
returns-in-Tuple c = c.count.ensures.is ∙ sym (ap counted_of (head_is c.args.self.now.file.now c.args.self.now.limits.now c.args.self.now.enums c.args.at 12 tuple_code c.in_ok-form.ensures.0 (c.in_ok-form.ensures.1 ∙ ap code_of_form c.in-Tuple.is) refl))

pub returns-in-Index : goal.returns-in-Index
returns-in-Index c = head_byte c.args.self.now.file.now c.args.self.now.limits.now c.args.self.now.enums c.args.at 13 2 index_code c.in_ok-form.ensures.0 (c.in_ok-form.ensures.1 ∙ ap code_of_form c.in-Index.is) refl refl

pub returns-in-Literal : goal.returns-in-Literal
returns-in-Literal c = c.count-in-Literal.ensures.is ∙ sym (ap counted_of (head_is c.args.self.now.file.now c.args.self.now.limits.now c.args.self.now.enums c.args.at 14 literal_code c.in_ok-form.ensures.0 (c.in_ok-form.ensures.1 ∙ ap code_of_form c.in-Literal.is) refl))

pub returns-in-Iterator : goal.returns-in-Iterator
returns-in-Iterator c = c.iterator.ensures ∙ sym (ap counted_of (head_is c.args.self.now.file.now c.args.self.now.limits.now c.args.self.now.enums c.args.at 15 iterator_code c.in_ok-form.ensures.0 (c.in_ok-form.ensures.1 ∙ ap code_of_form c.in-Iterator.is) refl))

pub returns-in_err-bytes-in-Int : goal.returns-in_err-bytes-in-Int
unfolding parts_of
returns-in_err-bytes-in-Int c = erred _ _ c.from_residual-in_err-bytes-in-Int.ensures.1 ∙ head_number c.args.self.now.file.now c.args.self.now.limits.now c.args.self.now.enums c.args.at c.in_ok-form.form c.in_ok-form.ensures.0 c.in_ok-form.ensures.1 c.in-Int.is (sym (ap (parts_of 0) c.in_err-bytes-in-Int.was)) c.bytes.ensures

pub returns-in_ok-bytes-in-Int : goal.returns-in_ok-bytes-in-Int
unfolding parts_of
returns-in_ok-bytes-in-Int c = head_number c.args.self.now.file.now c.args.self.now.limits.now c.args.self.now.enums c.args.at c.in_ok-form.form c.in_ok-form.ensures.0 c.in_ok-form.ensures.1 c.in-Int.is (sym (ap (parts_of 0) c.in_ok-bytes-in-Int.was)) c.bytes.ensures
