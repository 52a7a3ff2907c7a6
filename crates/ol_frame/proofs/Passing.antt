-- Laws of passing over expressions, from call to call.
use Prim.Native.Nat.{ℕ, ◌+◌, ◌<◌, ◌≤◌, min}
use mathlib.Core.Bool.{Bool, true, false, not, ◌||◌}
use mathlib.Core.List.{List, [], append-nil}
use mathlib.Core.Logic.{◌⊎◌, ⊎_elim}
use mathlib.Core.Path.{◌≡◌, refl, sym, ap, subst, ◌∙◌}
use native.Mathlib.Omega.{arith}
use native.Mathlib.Nat.{zero-add}
use lib.ListN.{get_or}
use Rattle.ol_spec.specs.Lists.{is_empty}
use Rattle.ol_spec.specs.Places.{expr_size}
use Rattle.ol_spec.specs.Eval.{callees, callees_all, sites_size, size_in}
use Rattle.ol_spec.proofs.Segments.{sites_cons}
use Rattle.ol_ir.proofs.Skips.{walk_read, head_told}
use Rattle.ol_tables.specs.At.{limits_at, enums_at, expr_at, end_at, exprs_at, ends_at, Reads, ReadsAll}
use Rattle.ol_tables.specs.Tables.{Each, row_at}
use Rattle.ol_tables.specs.Heads.{head_size as head_of}
use Rattle.ol_tables.specs.Walks.{HeadOf, skip_at, sites_at, CallMet, NoCall}
use Rattle.ol_tables.specs.declared.heads.Parts.{Parts}
use Rattle.ol_tables.specs.declared.heads.Call.{Call}
use Rattle.ol_tables.specs.declared.form.Form.{Form}
use Rattle.ol_tables.specs.declared.form.Form.TheVariants as Frm
use Rattle.ol_tables.specs.FormCodes.{code_of_form}
use Rattle.ol_tables.proofs.Forms.{parted, one_tree, by_form, reads_end}
use Rattle.ol_frame.specs.Walk.{nodes_in, sizes_in, Below, Sized, Passable, Skips, SkipsTo}

or_true : (b : Bool) → b || true ≡ true
or_true true = refl
or_true false = refl

or_false : (b : Bool) → b ≡ b || false
or_false true = refl
or_false false = refl

-- the codes of a literal and a Var are below 5
pub low_code : {code : ℕ} {form : Form} → min code 15 ≡ code_of_form form → (form ≡ Frm.Bool) ⊎ ((form ≡ Frm.Int) ⊎ ((form ≡ Frm.Float) ⊎ ((form ≡ Frm.Char) ⊎ (form ≡ Frm.Var)))) → code < 5
low_code {code} {form} h =
    ⊎_elim (λ e. low Frm.Bool (omega arith) e) (⊎_elim (λ e. low Frm.Int (omega arith) e) (⊎_elim (λ e. low Frm.Float (omega arith) e) (⊎_elim (λ e. low Frm.Char (omega arith) e) (λ e. low Frm.Var (omega arith) e))))
  where
    low : (g : Form) → code_of_form g < 5 → form ≡ g → code < 5
    low g l e = omega (arith, l, h ∙ ap code_of_form e)

module _ (s : List ℕ) where
  pub callees_one : (level at : ℕ) → ReadsAll s level 1 at → callees_all (exprs_at s level 1 at) ≡ callees (expr_at s level at)
  callees_one level at h = ap callees_all (one_tree s level at h).0 ∙ append-nil (callees (expr_at s level at))

  min_below : (a b : ℕ) → a ≤ b → min a b ≡ a
  min_below a b h = omega arith

  -- the bytes of a callee's record
  pub row_size : {rows : List ℕ} (k : ℕ) → Sized s rows → k < nodes_in s → size_in (sizes_in s) k ≤ 32768 → row_at rows k 6 ≡ size_in (sizes_in s) k
  row_size k z h room = (z.table.rows_of k h).size ∙ min_below (size_in (sizes_in s) k) 65536 (omega arith)

  abbrev pub filled : List ℕ → Bool
  filled ks = not (is_empty ks)

  -- a literal and a Var are their heads, and call nothing
  only_head : (level at : ℕ) → Reads s level at → get_or s at 0 < 5 → (expr_size (expr_at s level at) ≡ head_of (expr_at s level at)) × (callees (expr_at s level at) ≡ [])
  only_head level at h =
      by_form s (λ c e. c < 5 → (expr_size e ≡ head_of e) × (callees e ≡ [])) (λ b l. (refl, refl)) (λ i l. (refl, refl)) (λ b l. (refl, refl)) (λ c l. (refl, refl)) (λ x l. (refl, refl))
      (λ op e l. absurd (omega arith)) (λ op a b l. absurd (omega arith)) (λ c t e l. absurd (omega arith)) (λ e l. absurd (omega arith)) (λ a b l. absurd (omega arith)) (λ t e l. absurd (omega arith))
      (λ k es l. absurd (omega arith)) (λ es l. absurd (omega arith)) (λ a i l. absurd (omega arith)) (λ es l. absurd (omega arith)) (λ k es l. absurd (omega arith))
      (λ k e es l. absurd (omega arith)) level at h

  -- they are passed over with their heads
  pub head_passed : {rows : List ℕ} {level at : ℕ} {r : Parts} → Passable s rows level 1 at → get_or s at 0 < 5 → HeadOf s at r → SkipsTo s level 1 at (record { next = r.start; used = 0; has = false })
  unfolding sites_size
  head_passed {level = level} {at = at} p l t =
      let h = (parted s level 0 at p.reads).head in
      let k = head_told s (limits_at s) (enums_at s) level at (expr_at s level at) (end_at s level at) h.is in
      let o = only_head level at h l in
      let c = callees_one level at p.reads ∙ o.1 in
      record {
        next_is = t.next ∙ k.1 ∙ ap (λ (n : ℕ). at + n) (sym o.0) ∙ sym (reads_end s level at h) ∙ sym (one_tree s level at p.reads).1;
        used_is = ap (sites_size (sizes_in s)) (sym c);
        has_is = ap filled (sym c);
      }

  -- The expressions passed over have these callees and end there: `left` are still to be passed over at `next`.
  pub record Rest (ks : List ℕ) (end next used : ℕ) (has : Bool) (left : ℕ) : Type 0 where
    pub sum : used + sites_size (sizes_in s) (sites_at s left next) ≡ sites_size (sizes_in s) ks
    pub ends : skip_at s left next ≡ end
    pub found : filled ks ≡ has || filled (sites_at s left next)
    pub below : Each (Below (nodes_in s)) (sites_at s left next)

  pub rest_start : {rows : List ℕ} {level count at : ℕ} → Passable s rows level count at → Rest (callees_all (exprs_at s level count at)) (ends_at s level count at) at 0 false count
  rest_start {level = level} {count = count} {at = at} p =
      let w = walk_read s level count at p.reads in
      record {
        sum = zero-add _ ∙ ap (sites_size (sizes_in s)) w.1;
        ends = w.0;
        found = ap filled (sym w.1);
        below = subst (Each (Below (nodes_in s))) (sym w.1) p.below;
      }

  module _ {ks : List ℕ} {end next used : ℕ} {has : Bool} {left : ℕ} (l : Rest ks end next used has left) where
    module _ {c : Call} (m : CallMet s left next c) where
      -- a call of a node of the file
      pub met_below : c.callee < nodes_in s
      met_below = (subst (Each (Below (nodes_in s))) m.is l.below).0

      -- its record is one of those that are left
      met_sum : sites_size (sizes_in s) (sites_at s left next) ≡ size_in (sizes_in s) c.callee + sites_size (sizes_in s) (sites_at s c.left c.at)
      met_sum = ap (sites_size (sizes_in s)) m.is ∙ sites_cons (sizes_in s) c.callee (sites_at s c.left c.at)

      module _ {rows : List ℕ} (z : Sized s rows) (room : sites_size (sizes_in s) ks ≤ 32768) where
        met_size : row_at rows c.callee 6 ≡ size_in (sizes_in s) c.callee
        met_size = row_size c.callee z met_below (omega (arith, l.sum, met_sum))

        pub met_room : used + row_at rows c.callee 6 ≤ 32768
        met_room = omega (arith, l.sum, met_sum, met_size)

        -- it is passed
        pub met_on : {n : ℕ} → n ≡ row_at rows c.callee 6 → Rest ks end c.at (used + n) true c.left
        met_on {n} e =
            record {
              sum = omega (arith, l.sum, met_sum, met_size, e);
              ends = sym m.ends ∙ l.ends;
              found = l.found ∙ ap (λ (is : List ℕ). has || filled is) m.is ∙ or_true has;
              below = (subst (Each (Below (nodes_in s))) m.is l.below).1;
            }

    -- no call is left
    pub rest_done : {at : ℕ} → NoCall s left next at → Skips (filled ks) end (sites_size (sizes_in s) ks) (record { next = at; used = used; has = has })
    unfolding sites_size
    rest_done n =
        let none = ap (sites_size (sizes_in s)) n.none in
        record {
          next_is = sym n.ends ∙ l.ends;
          used_is = omega (arith, l.sum, none);
          has_is = or_false has ∙ ap (λ (is : List ℕ). has || filled is) (sym n.none) ∙ sym l.found;
        }
