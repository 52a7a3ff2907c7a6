-- The depth of calls does not matter, once it suffices.
use Prim.Native.Nat.{ℕ, suc, ◌<◌}
use mathlib.Core.List.{List}
use mathlib.Core.Path.{◌≡◌}
use native.Mathlib.Omega.{arith}
use lib.ListN.{length}
use Rattle.ol_theory.specs.Member.{◌∈◌}
use Rattle.ol_spec.specs.Eval.{Globals, node_at}
use Rattle.ol_spec.specs.Step.{call_by, calls_at, calls}
use Rattle.ol_spec.specs.declared.Value.{Value}
use Rattle.ol_spec.proofs.Forms.{used_by}
use Rattle.ol_spec.proofs.Other.{calls_stable}

-- what calls mean at a node is a call of it, whose own calls mean the same; each node calls and iterates nodes of lower numbers only
pub calls_of : (g : Globals) → ((k c : ℕ) → c ∈ used_by (node_at g k) → c < k) → (k : ℕ) (vs : List Value) (r : List ℕ) → k < length g.nodes
    → calls g k vs r ≡ call_by g (node_at g k).kind (calls g) (node_at g k) vs r
unfolding calls_at
calls_of g lower k vs r h = calls_stable g lower (length g.nodes) (suc (length g.nodes)) k h (omega arith) vs r
