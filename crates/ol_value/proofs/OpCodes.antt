-- Operators by their codes, at a code that the reader knows.
use mathlib.Core.Path.{◌≡◌, ap}
use mathlib.Core.Option.{some}
use Prim.Native.Nat.{ℕ}
use lib.ListN.{get_elem?}
use Rattle.ol_spec.specs.Lists.{maybe}
use Rattle.ol_spec.specs.Syntax.{BinOp, UnaryOp}
use Rattle.ol_spec.specs.Read.{bin_ops, unary_ops}
use Rattle.ol_spec.specs.Operators.{binary_of, unary_of}
use Rattle.ol_spec.specs.declared.Value.{Value}
use Rattle.ol_spec.specs.declared.Outcome.TheVariants as Out
use Rattle.ol_spec.specs.declared.Cause.TheVariants as Why
use Rattle.ol_value.specs.Codes.{binary_by, unary_by}

pub binary_known : (op : ℕ) {o : BinOp} → get_elem? bin_ops op ≡ some o → (v w : Value) → binary_by op v w ≡ binary_of o v w
binary_known op e v w = ap (maybe (Out.Failure Why.Other) (λ o. binary_of o v w)) e

pub unary_known : (op : ℕ) {o : UnaryOp} → get_elem? unary_ops op ≡ some o → (v : Value) → unary_by op v ≡ unary_of o v
unary_known op e v = ap (maybe (Out.Failure Why.Other) (λ o. unary_of o v)) e
