-- An expression that stands in a file is read there, and what a type that stands there is.
use Prim.Native.Nat.{ℕ, ◌+◌, ◌≤◌}
use mathlib.Core.List.{List}
use mathlib.Core.Path.{◌≡◌, ap, ◌∙◌}
use lib.ListN.{length}
use lib.Dec.{T}
use Rattle.ol_spec.specs.Syntax.{Expr, nil, cons}
use Rattle.ol_spec.specs.Places.{collect, collect_all}
use Rattle.ol_spec.specs.Encode.{expr_bytes}
use Rattle.ol_spec.specs.Read.{expr_r}
use Rattle.ol_spec.specs.Limits.{base}
use Rattle.ol_spec.specs.Within.{root_fits}
use Rattle.ol_spec.specs.declared.Limits.{Limits}
use Rattle.ol_spec.proofs.RoundTrip.Parts.{Here}
use Rattle.ol_spec.proofs.RoundTrip.Taken.{root_takes}
use Rattle.ol_tables.specs.At.{file_at, expr_at, exprs_at, ReadsAll}
use Rattle.ol_tables.proofs.Forms.{reads, one_read, one_tree, limits_base}
use Rattle.ol_tables.proofs.HeadLaws.{walk_one}

-- ---- expressions

-- an expression within the limits is read where it stands
pub root_read : (s : List ℕ) (e : Expr) (at : ℕ) → length (file_at s).enums ≤ 256 → T (root_fits base (length (file_at s).enums) e) → Here s at (expr_bytes e) → ReadsAll s 24 1 at × (expr_at s 24 at ≡ e)
root_read s e at few t h =
    let m = length (file_at s).enums in
    let n = at + length (expr_bytes e) in
    let r = reads s 24 at e n (ap (λ (l : Limits). expr_r s l m 24 at) (limits_base s) ∙ (root_takes s base m few e t).reads at h) in
    (one_read s 24 at r.0, r.1)

-- what is collected from an expression that is read
pub read_collected : {B : Type 0} (s : List ℕ) (g : ℕ → Expr → List B) (at : ℕ) (e : Expr) → ReadsAll s 24 1 at → expr_at s 24 at ≡ e → collect_all g at (exprs_at s 24 1 at) ≡ collect g at e
read_collected s g at e h t = ap (collect_all g at) ((one_tree s 24 at h).0 ∙ ap (λ (x : Expr). cons x nil) t) ∙ walk_one g at e
