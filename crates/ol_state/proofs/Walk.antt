-- The walk over a node's call sites: the calls of an equation's right side are met, then those of the next.
use Prim.Native.Nat.{ℕ, zero, suc, ◌+◌, ◌-◌, ◌*◌, ◌<◌, ◌≤◌}
use mathlib.Core.List.{List, [], ◌∷◌, ◌++◌, map, append-nil}
use mathlib.Core.Path.{◌≡◌, refl, sym, ap, ap₂, ◌∙◌}
use native.Mathlib.Omega.{arith}
use lib.Dec.{T}
use lib.ListN.{length, get_or, length-append}
use mathlib.Core.Bool.{cond}
use borrow.Author.Tests.{lt-ltb, le-ltb}
use Rattle.ol_spec.specs.Lists.{concat, all_of}
use Rattle.ol_spec.specs.Syntax.{nil, cons, Equation}
use Rattle.ol_spec.specs.Places.{rhs_place, exprs_size}
use Rattle.ol_spec.specs.Encode.{name_bytes, section_bytes, expr_bytes, equation_bytes}
use Rattle.ol_spec.specs.Limits.{base}
use Rattle.ol_spec.specs.Within.{equation_fits}
use Rattle.ol_spec.specs.Eval.{callees}
use Rattle.ol_spec.specs.Step.{equation_sites}
use Rattle.ol_spec.proofs.Tests.{T_and}
use Rattle.ol_spec.proofs.RoundTrip.Parts.{Here, here_front, here_back}
use Rattle.ol_spec.proofs.RoundTrip.Items.{names_size, expr_size_lem}
use Rattle.ol_tables.specs.Walks.{skip_at, sites_at, CallMet, NoCall}
use Rattle.ol_tables.specs.declared.heads.Call.{Call}
use Rattle.ol_tables.proofs.HeadLaws.{headed}
use Rattle.ol_tables.proofs.HeadsFile.{equation_stands}
use Rattle.ol_tables.proofs.Skipping.{walk_none, skip_stands, sites_stand}
use Rattle.ol_state.specs.Ahead.{right_at, equations_ahead, ahead}

-- ---- equations

module _ (s : List ℕ) where
  -- the next equation
  equations_next : (n at : ℕ) → 0 < n → at < length s → equations_ahead s n at ≡ ahead s (right_at s at) (n - 1) 1
  unfolding equations_ahead ahead
  equations_next zero at h i = absurd (omega arith)
  equations_next (suc n) at h i =
      let e : suc n - 1 ≡ n = omega arith in
      ap (λ b. cond b (sites_at s 1 (right_at s at) ++ equations_ahead s n (skip_at s 1 (right_at s at))) []) (lt-ltb at (length s) i)
      ∙ ap (λ m. sites_at s 1 (right_at s at) ++ equations_ahead s m (skip_at s 1 (right_at s at))) (sym e)

  -- none is left
  equations_none : (n at : ℕ) → n ≤ 0 → equations_ahead s n at ≡ []
  unfolding equations_ahead
  equations_none zero at h = refl
  equations_none (suc n) at h = absurd (omega arith)

  -- the file ends
  equations_end : (n at : ℕ) → length s ≤ at → equations_ahead s n at ≡ []
  unfolding equations_ahead
  equations_end zero at h = refl
  equations_end (suc n) at h = ap (λ b. cond b (sites_at s 1 (right_at s at) ++ equations_ahead s n (skip_at s 1 (right_at s at))) []) (le-ltb at (length s) h)

  -- no expression stands before them
  pub ahead_equations : (at eqs : ℕ) → ahead s at eqs 0 ≡ equations_ahead s eqs at
  unfolding ahead
  ahead_equations at eqs = ap₂ (λ (ks : List ℕ) (p : ℕ). ks ++ equations_ahead s eqs p) (walk_none _ _ s (length s) 0 at (omega arith)) (walk_none _ _ s (length s) 0 at (omega arith))

  -- one expression, then equations
  ahead_first : {right place end n m : ℕ} {own : List ℕ} → right ≡ place → sites_at s 1 place ≡ own → skip_at s 1 place ≡ end → n ≡ m → ahead s right n 1 ≡ own ++ equations_ahead s m end
  unfolding ahead
  ahead_first {m = m} p o e d = (λ i. sites_at s 1 (p i) ++ equations_ahead s (d i) (skip_at s 1 (p i))) ∙ ap₂ (λ (ks : List ℕ) (q : ℕ). ks ++ equations_ahead s m q) o e

  -- equations that stand there
  pub equations_stand : (enums at : ℕ) (qs : List Equation) → Here s at (concat (map equation_bytes qs)) → T (all_of (equation_fits base enums) qs) → equations_ahead s (length qs) at ≡ concat (map equation_sites qs)
  equations_stand enums at [] h t = equations_none 0 at (omega arith)
  equations_stand enums at (q ∷ qs) h t =
      let u = T_and (equation_fits base enums q) _ t in
      let st = equation_stands q u.0 (here_front (equation_bytes q) _ h) in
      let one = st.rhs in
      let ns = section_bytes name_bytes q.names in
      let e = expr_bytes q.rhs in
      let p : right_at s at ≡ rhs_place at q = ap (λ n. at + 1 + 2 * n) st.count in
      let inside = (headed q.rhs nil one).inside in
      let size : rhs_place at q + exprs_size (cons q.rhs nil) ≡ at + length (equation_bytes q) = omega (arith, names_size q.names, length-append ns e, expr_size_lem q.rhs) in
      let d : suc (length qs) - 1 ≡ length qs = omega arith in
      equations_next (suc (length qs)) at (omega arith) (omega arith)
      ∙ ahead_first p (sites_stand refl one ∙ append-nil (callees q.rhs)) (skip_stands refl one ∙ size) d
      ∙ ap (λ ks. callees q.rhs ++ ks) (equations_stand enums (at + length (equation_bytes q)) qs (here_back (equation_bytes q) _ h) u.1)

-- ---- the next call site

module _ {s : List ℕ} {pos : ℕ} (left : ℕ) {more : ℕ} where
  -- a call is met
  pub site_met : {c : Call} → CallMet s more pos c → ahead s pos left more ≡ c.callee ∷ ahead s c.at left c.left
  unfolding ahead
  site_met m = ap₂ (λ (ks : List ℕ) (p : ℕ). ks ++ equations_ahead s left p) m.is m.ends

  module _ {end : ℕ} (n : NoCall s more pos end) where
    -- the equations are left
    behind : ahead s pos left more ≡ equations_ahead s left end
    unfolding ahead
    behind = ap₂ (λ (ks : List ℕ) (p : ℕ). ks ++ equations_ahead s left p) n.none n.ends

    pub none_left : left ≡ 0 → ahead s pos left more ≡ []
    none_left z = behind ∙ equations_none s left end (omega arith)

    pub file_ends : length s ≤ end → ahead s pos left more ≡ []
    file_ends h = behind ∙ equations_end s left end h

    -- the names of the next are passed
    pub names_passed : {b : ℕ} → 0 < left → end < length s → b ≡ get_or s end 0 → ahead s pos left more ≡ ahead s (end + 1 + 2 * b) (left - 1) 1
    names_passed {b} u i e =
        behind ∙ equations_next s left end u i ∙ ap (λ m. ahead s (end + 1 + 2 * m) (left - 1) 1) (sym e)
