-- What a scan for reads finds, by the byte at which it looks.
use Prim.Native.Nat.{ℕ, zero, suc, ◌+◌, ◌*◌, ◌-◌, ◌≤◌, ◌<◌}
use mathlib.Core.Bool.{cond}
use mathlib.Core.List.{List}
use mathlib.Core.Option.{some}
use mathlib.Core.Logic.{by_cases}
use mathlib.Core.Path.{◌≡◌, refl, sym, ap, ◌∙◌}
use native.Mathlib.Decide.{dec_le, ℕ_discrete}
use native.Mathlib.Omega.{arith}
use borrow.Author.Tests.{lt-ltb, le-ltb, eq-eqb, ne_eqb}
use lib.ListN.{length, get_or, get_elem?}
use Rattle.std.specs.Prelude.{Ok, Err}
use Rattle.ol_spec.specs.Syntax.{Expr, bool_lit, int_lit, float_lit, char_lit, var, unary, binary, if_then_else, pre, arrow, cast, call, tuple, index, literal, map_over, fold_over, count}
use Rattle.ol_spec.specs.Places.{expr_size}
use Rattle.ol_spec.specs.Read.{got, then_read, byte, number, name_r, coded, expr_codes, ExprCode, expr_body, expr_r, var_code, pre_code}
use Rattle.ol_spec.specs.Answers.{fault_at}
use Rattle.ol_spec.specs.declared.Limits.{Limits}
use Rattle.ol_spec.proofs.Offsets.{steps, same_end, same_item}
use Rattle.ol_ir.specs.Nexts.{next_of}
use Rattle.ol_tables.specs.Heads.{code_of, head_size, parts_of, name_at, parts_at, next_at}
use Rattle.ol_tables.specs.Walks.{skip_at}
use Rattle.ol_ir.specs.Scans.{scan_of, scan_inside, scan_at}
use Rattle.ol_ir.specs.declared.Scan.TheVariants as Scn
use Rattle.ol_ir.proofs.Bytes.{byte_in, coded_is}
use Rattle.ol_ir.proofs.Forms.{number_out}
use Rattle.ol_ir.proofs.Sizes.{takes_expr}
use Rattle.ol_ir.proofs.Trees.{then_got, expr_at_lem}
use Rattle.ol_ir.proofs.Skips.{head_told, skip_expr}

-- ---- names

module _ (s : List ℕ) (at : ℕ) where
  name_is : at + 1 < length s → name_r s at ≡ got (get_or s at 0 * 256 + get_or s (at + 1) 0) (at + 1 + 1)
  unfolding number then_read
  name_is h =
      let a : at < length s = omega arith in
      let z : (0 * 256 + get_or s at 0) * 256 + get_or s (at + 1) 0 ≡ get_or s at 0 * 256 + get_or s (at + 1) 0 = omega arith in
      then_got (byte s at) _ (byte_in s at a) ∙ (then_got (byte s (at + 1)) _ (byte_in s (at + 1) h) ∙ ap (λ v. got v (at + 1 + 1)) z)

  name_none : length s ≤ at + 1 → (x n : ℕ) → name_r s at ≡ got x n → ⊥
  unfolding next_of
  name_none h x n e =
      let f : Err (fault_at 2 (length s)) ≡ Ok n = number_out s 2 at (omega arith) (omega arith) ∙ ap next_of e in
      let z : ◌≡◌ {A = ℕ} 0 1 = cc in omega arith

  -- a name that was read is what the bytes say
  pub name_told : (x n : ℕ) → name_r s at ≡ got x n → name_at s at ≡ x
  name_told x n e = by_cases (dec_le (length s) (at + 1)) (λ gone. absurd (name_none gone x n e)) (λ here. same_item (sym (name_is (omega arith)) ∙ e))

-- ---- expressions

-- what stands behind its first byte, a code
body_of : (s : List ℕ) (l : Limits) (enums d at : ℕ) (e : Expr) (n : ℕ) (c : ExprCode) → expr_r s l enums d at ≡ got e n → get_elem? expr_codes (get_or s at 0) ≡ some c → expr_body s l enums (expr_r s l enums (d - 1)) c (at + 1) ≡ got e n
unfolding expr_r
body_of s l enums zero at e n c g b = let i = (expr_at_lem s l enums zero at e n g).level in absurd (omega arith)
body_of s l enums (suc d) at e n c g b =
    let i = (expr_at_lem s l enums (suc d) at e n g).inside in
    let one : suc d - 1 ≡ d = omega arith in
    rw one (sym (then_got (coded s expr_codes at) _ (coded_is s at expr_codes i c b)) ∙ g)

module _ (s : List ℕ) (l : Limits) (enums d at : ℕ) (e : Expr) (n : ℕ) (g : expr_r s l enums d at ≡ got e n) where
  -- a Var
  pub var_at : get_or s at 0 ≡ 4 → (y : ℕ) × (m : ℕ) × (name_r s (at + 1) ≡ got y m) × (e ≡ var y)
  var_at b =
      let t = steps (name_r s (at + 1)) _ e n (body_of s l enums d at e n var_code g (ap (get_elem? expr_codes) b)) in
      (t.value, t.at, t.first, sym (same_item t.rest))

  -- a Pre, and its operand
  pub pre_at : get_or s at 0 ≡ 8 → (f : Expr) × (expr_r s l enums (d - 1) (at + 1) ≡ got f n) × (e ≡ pre f)
  pre_at b =
      let t = steps (expr_r s l enums (d - 1) (at + 1)) _ e n (body_of s l enums d at e n pre_code g (ap (get_elem? expr_codes) b)) in
      (t.value, t.first ∙ ap (got t.value) (same_end t.rest), sym (same_item t.rest))

  scan_var : get_or s at 0 ≡ 4 → Scn.Name (name_at s (at + 1)) (at + 3) ≡ scan_of at e
  scan_var b = let w = var_at b in ap (λ y. Scn.Name y (at + 3)) (name_told s (at + 1) w.0 w.1 w.2) ∙ ap (scan_of at) (sym w.3)

  scan_pre : get_or s at 0 ≡ 8 → Scn.Parts 0 (skip_at s 1 (at + 1)) ≡ scan_of at e
  scan_pre b =
      let w = pre_at b in
      let t = (takes_expr s l enums (d - 1)).is (at + 1) w.0 n w.1 in
      let m : skip_at s 1 (at + 1) ≡ at + 1 + expr_size w.0 = skip_expr s l enums (d - 1) (at + 1) w.1 ∙ omega (arith, t.ends, t.holds) in
      ap (Scn.Parts 0) m ∙ ap (scan_of at) (sym w.2)

  other : (e : Expr) → (code_of e ≡ 4 → ⊥) → (code_of e ≡ 8 → ⊥) → Scn.Parts (count (parts_of e)) (at + head_size e) ≡ scan_of at e
  other (bool_lit b) u v = refl
  other (int_lit i) u v = refl
  other (float_lit b) u v = refl
  other (char_lit c) u v = refl
  other (var x) u v = absurd (u refl)
  other (unary op f) u v = refl
  other (binary op a b) u v = refl
  other (if_then_else c a b) u v = refl
  other (pre f) u v = absurd (v refl)
  other (arrow a b) u v = refl
  other (cast t f) u v = refl
  other (call k es) u v = refl
  other (tuple es) u v = refl
  other (index a i) u v = refl
  other (literal es) u v = refl
  other (map_over k es) u v = refl
  other (fold_over k f es) u v = refl

  scan_parts : (get_or s at 0 ≡ 4 → ⊥) → (get_or s at 0 ≡ 8 → ⊥) → Scn.Parts (parts_at s at) (next_at s at) ≡ scan_of at e
  scan_parts u v =
      let c = (expr_at_lem s l enums d at e n g).code in
      let k = head_told s l enums d at e n g in
      ap (λ m. Scn.Parts m (next_at s at)) k.0 ∙ (ap (Scn.Parts (count (parts_of e))) k.1 ∙ other e (λ w. u (c ∙ w)) (λ w. v (c ∙ w)))

  -- of an expression that was read its bytes tell what the scan finds
  pub scan_told : scan_at s at ≡ scan_of at e
  unfolding scan_at
  scan_told =
      ap (λ b. cond b (scan_inside s at) (Scn.Parts 0 at)) (lt-ltb at (length s) (expr_at_lem s l enums d at e n g).inside)
      ∙ (by_cases (ℕ_discrete (get_or s at 0) 4) (λ b. rw (eq-eqb (get_or s at 0) 4 b) (scan_var b))
      (λ u. rw (ne_eqb (get_or s at 0) 4 u)
      (by_cases (ℕ_discrete (get_or s at 0) 8) (λ b. rw (eq-eqb (get_or s at 0) 8 b) (scan_pre b)) (λ v. rw (ne_eqb (get_or s at 0) 8 v) (scan_parts u v)))))

-- what the scan finds, by the bytes
module _ (s : List ℕ) (at : ℕ) where
  module _ (h : at < length s) where
    pub scans_name : get_or s at 0 ≡ 4 → Scn.Name (name_at s (at + 1)) (at + 3) ≡ scan_at s at
    unfolding scan_at
    scans_name b = sym (rw (lt-ltb at (length s) h, eq-eqb (get_or s at 0) 4 b) refl)

    pub scans_pre : get_or s at 0 ≡ 8 → Scn.Parts 0 (skip_at s 1 (at + 1)) ≡ scan_at s at
    unfolding scan_at
    scans_pre b = sym (rw (lt-ltb at (length s) h, ne_eqb (get_or s at 0) 4 (λ a. omega (arith, a, b)), eq-eqb (get_or s at 0) 8 b) refl)

    pub scans_parts : (get_or s at 0 ≡ 4 → ⊥) → (get_or s at 0 ≡ 8 → ⊥) → Scn.Parts (parts_at s at) (next_at s at) ≡ scan_at s at
    unfolding scan_at
    scans_parts a b = sym (rw (lt-ltb at (length s) h, ne_eqb (get_or s at 0) 4 a, ne_eqb (get_or s at 0) 8 b) refl)

  pub scans_end : length s ≤ at → Scn.Parts 0 at ≡ scan_at s at
  unfolding scan_at
  scans_end h = sym (rw (le-ltb at (length s) h) refl)
