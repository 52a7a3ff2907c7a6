-- Every right side of an admitted file fills exactly its names' cells: specs/ArrayClaims' FillsClaim.
use Prim.Native.Nat.{◌<◌}
use mathlib.Core.Path.{◌≡◌, subst, ◌∙◌}
use lib.ListN.{length, get_or}
use Rattle.ol_spec.specs.Syntax.{Node, no_node}
use Rattle.ol_spec.specs.Limits.{Loader}
use Rattle.ol_spec.specs.Eval.{values}
use Rattle.ol_spec.specs.Step.{slots_of, equation_at, eval_equation, calls_at}
use Rattle.ol_spec.specs.State.{globals_of}
use Rattle.ol_spec.specs.ArrayClaims.{FillsClaim}
use Rattle.ol_spec.proofs.Lists.{get_elem_inside, get_d_is}
use Rattle.ol_spec.proofs.ReadFacts.{file_read}
use Rattle.ol_spec.proofs.Admits.{admits}
use Rattle.ol_spec.proofs.Counts.{CountIs}
use Rattle.ol_spec.proofs.MainSystem.{arity_of}
use Rattle.ol_spec.proofs.Admitted.{right_counts, node_ok}

pub fills_claim : (ld : Loader) → FillsClaim ld
unfolding FillsClaim
fills_claim ld s f vs bytes e k n q i h d first before cs seg ws r =
    let a = admits ld s f vs e in
    let read = file_read s bytes ld f a.end a.read in
    let b = get_elem_inside f.nodes k n q in
    let m = get_or f.nodes k no_node in
    subst (λ (n : Node). i < length n.equations → (eval_equation (globals_of f vs) (calls_at (globals_of f vs) d) n first before cs i seg).out ≡ values ws → length ws ≡ length (slots_of n (equation_at n i).names))
    (get_d_is f.nodes k no_node n q)
    (λ h r. subst (CountIs (arity_of (globals_of f vs) m (equation_at m i).rhs)) r (right_counts ld s f vs read a k b d first before i cs seg) ∙ (node_ok ld s f vs read a k b).arity i h) h r
