-- The scan for an expression's reads: what is left to scan are expressions, one behind the other.
use Prim.Native.Nat.{ℕ, ◌+◌, ◌-◌, ◌*◌, ◌≤◌, ◌<◌}
use mathlib.Core.List.{List, [], ◌∷◌, ◌++◌, append-nil, append_assoc}
use mathlib.Core.Logic.{◌⊎◌, inl, inr, ⊎_elim}
use mathlib.Core.Option.{Option, none, some}
use mathlib.Core.Path.{◌≡◌, refl, sym, ap, subst, ◌∙◌}
use native.Mathlib.Omega.{arith}
use lib.ListN.{length, get_or, set}
use lib.Seq.{sets}
use native.Mathlib.Numerals.{add-one}
use Rattle.ol_spec.specs.Syntax.{Expr, bool_lit, int_lit, float_lit, char_lit, var, unary, binary, if_then_else, pre, arrow, cast, call, tuple, index, literal, map_over, fold_over, Exprs, nil}
use Rattle.ol_spec.specs.Syntax.{cons, count, Equation}
use Rattle.ol_spec.specs.Places.{expr_size, rhs_place}
use Rattle.ol_spec.specs.Read.{got, Reader, many_exprs, name_r, expr_r}
use Rattle.ol_spec.specs.Order.{reads, reads_all, definer}
use Rattle.ol_spec.proofs.Ordering.{definer_inside}
use Rattle.std.specs.Prelude as Std
use Rattle.ol_order.specs.Tables.{equation_at, as_option, with_definer, definers_of, waited}
use Rattle.ol_order.specs.Post.{Readable}
use Rattle.ol_order.proofs.Turns.{each_read}
use Rattle.ol_spec.specs.declared.Limits.{Limits}
use Rattle.ol_tables.specs.Heads.{head_size, parts_of, joined, Byte}
use Rattle.ol_tables.proofs.Skipping.{some_size, count_size}
use Rattle.ol_ir.specs.Scans.{scan_of}
use Rattle.ol_ir.specs.declared.Scan.{Scan}
use Rattle.ol_ir.specs.declared.Scan.TheVariants as Scn
use Rattle.ol_ir.specs.Nexts.{counted_of}
use Rattle.ol_ir.proofs.Bytes.{CountIs, counted_is}
use Rattle.ol_ir.proofs.Items.{section_at, equation_at_lem}
use Rattle.ol_ir.proofs.Sizes.{takes_expr, takes_exprs}
use Rattle.ol_ir.proofs.Skips.{many_first, many_join, many_none}
use Rattle.ol_ir.proofs.Trees.{many_cons, deeper_parts, expr_at_lem}

-- ---- lists of expressions

reads_join : (xs ys : Exprs) → reads_all (joined xs ys) ≡ reads_all xs ++ reads_all ys
unfolding joined
reads_join nil ys = refl
reads_join (cons x xs) ys = ap (λ l. reads x ++ l) (reads_join xs ys) ∙ sym (append_assoc (reads x) (reads_all xs) (reads_all ys))

-- ---- a step of the scan

-- an expression that is neither a Var nor a Pre has the reads of its parts
abbrev Found : ℕ → Expr → ℕ → Type 0
Found at e p = (x : ℕ) × (scan_of at e ≡ Scn.Name x p) × (reads e ≡ x ∷ [])

module _ (s : List ℕ) (l : Limits) (enums d : ℕ) where
  abbrev r : Reader Expr
  r = expr_r s l enums d

  abbrev Parted : ℕ → Expr → ℕ → Type 0
  Parted at e p = (k : ℕ) × (q : ℕ) × (parts : Exprs) × (scan_of at e ≡ Scn.Parts k q) × (many_exprs k r q ≡ got parts p) × (reads e ≡ reads_all parts) × (at < q)

  module _ (at : ℕ) (p : ℕ) where
    parted : (e : Expr) → r at ≡ got e p → scan_of at e ≡ Scn.Parts (count (parts_of e)) (at + head_size e) → reads e ≡ reads_all (parts_of e) → 1 ≤ head_size e → Parted at e p
    parted e f g h i =
        let x = expr_at_lem s l enums d at e p f in
        (count (parts_of e), at + head_size e, parts_of e, g, deeper_parts s l enums (d - 1) d (count (parts_of e)) (at + head_size e) (omega arith) x.parts, h, omega arith)

    step_of : (e : Expr) → r at ≡ got e p → Found at e p ⊎ Parted at e p
    unfolding many_exprs
    step_of (bool_lit b) f = inr (parted (bool_lit b) f refl refl (omega arith))
    step_of (int_lit i) f = inr (parted (int_lit i) f refl refl (omega arith))
    step_of (float_lit b) f = inr (parted (float_lit b) f refl refl (omega arith))
    step_of (char_lit c) f = inr (parted (char_lit c) f refl refl (omega arith))
    step_of (var x) f = let t = (takes_expr s l enums d).is at (var x) p f in let z : at + 3 ≡ p = omega (arith, t.ends, t.holds) in inl (x, ap (Scn.Name x) z, refl)
    step_of (unary op e) f = inr (parted (unary op e) f refl (sym (append-nil (reads e))) (omega arith))
    step_of (binary op a b) f = inr (parted (binary op a b) f refl (ap (λ y. reads a ++ y) (sym (append-nil (reads b)))) (omega arith))
    step_of (if_then_else c a b) f = inr (parted (if_then_else c a b) f refl (ap (λ y. reads c ++ (reads a ++ y)) (sym (append-nil (reads b)))) (omega arith))
    step_of (pre e) f =
        let t = (takes_expr s l enums d).is at (pre e) p f in
        let z : at + 1 + expr_size e ≡ p = omega (arith, t.ends, t.holds) in
        inr (0, p, nil, ap (Scn.Parts 0) z, refl, refl, omega (arith, z))
    step_of (arrow a b) f = inr (parted (arrow a b) f refl (ap (λ y. reads a ++ y) (sym (append-nil (reads b)))) (omega arith))
    step_of (cast t e) f = inr (parted (cast t e) f refl (sym (append-nil (reads e))) (omega arith))
    step_of (call k es) f = inr (parted (call k es) f refl refl (omega arith))
    step_of (tuple es) f = inr (parted (tuple es) f refl refl (omega arith))
    step_of (index a i) f = inr (parted (index a i) f refl (ap (λ y. reads a ++ y) (sym (append-nil (reads i)))) (omega arith))
    step_of (literal es) f = inr (parted (literal es) f refl refl (omega arith))
    step_of (map_over k es) f = inr (parted (map_over k es) f refl refl (omega arith))
    step_of (fold_over k e es) f = inr (parted (fold_over k e es) f refl refl (omega arith))

-- ---- what is left to scan

-- what the search for a definer gives
pub found_some : (o : Option ℕ) {d : ℕ} → Std.Some d ≡ as_option o → o ≡ some d
found_some none e = let z : ◌≡◌ {A = ℕ} 0 1 = cc in absurd (omega arith)
found_some (some j) {d} e = let z : d ≡ j = cc in ap some (sym z)

pub found_none : (o : Option ℕ) → Std.None ≡ as_option o → o ≡ none
found_none none e = refl
found_none (some j) e = let z : ◌≡◌ {A = ℕ} 0 1 = cc in absurd (omega arith)

-- it is one of few equations
pub found_few : (qs : List Equation) (x : ℕ) {d : ℕ} → length qs < 255 → definer qs x ≡ some d → d < 255
found_few qs x {d} few e = omega (arith, (definer_inside 0 qs x d e).1)

-- `want` are the lists with all definers, m where they end; those of `left` expressions from `at` on are still to be written, from `end` on
pub record Pending (s : List ℕ) (l : Limits) (enums : ℕ) (qs : List Equation) (want : List ℕ) (m : ℕ) (lists : List ℕ) (end left at : ℕ) : Type 0 where
  pub exprs : Exprs
  pub stop : ℕ
  pub read : many_exprs left (expr_r s l enums l.nesting) at ≡ got exprs stop
  pub is : sets lists end (definers_of qs (reads_all exprs)) ≡ want
  pub counts : end + length (definers_of qs (reads_all exprs)) ≡ m
  pub inside : at ≤ length s

module _ (s : List ℕ) (l : Limits) (enums : ℕ) (qs : List Equation) where
  pub pending_start : (e : Expr) (at n end : ℕ) (lists : List ℕ) → expr_r s l enums l.nesting at ≡ got e n → Pending s l enums qs (sets lists end (definers_of qs (reads e))) (end + length (definers_of qs (reads e))) lists end 1 at
  unfolding many_exprs
  pending_start e at n end lists f =
      record {
        exprs = cons e nil;
        stop = n;
        read = many_cons (expr_r s l enums l.nesting) 0 at f refl;
        is = ap (λ v. sets lists end (definers_of qs v)) (append-nil (reads e));
        counts = ap (λ v. end + length (definers_of qs v)) (append-nil (reads e));
        inside = omega (arith, (expr_at_lem s l enums l.nesting at e n f).inside);
      }

  module _ {want lists : List ℕ} {m end left at : ℕ} (pd : Pending s l enums qs want m lists end left at) where
    pub pending_done : left ≤ 0 → (lists ≡ want) × (end ≡ m)
    pending_done h =
        let e = (many_none (expr_r s l enums l.nesting) left at pd.exprs pd.stop h pd.read).0 in
        (sym (ap (λ v. sets lists end (definers_of qs (reads_all v))) e) ∙ pd.is, omega (arith, ap (λ v. length (definers_of qs (reads_all v))) e, pd.counts))

    module _ {x : Scan} (u : 0 < left) (c : (e : Expr) (n : ℕ) → expr_r s l enums l.nesting at ≡ got e n → x ≡ scan_of at e) where
      abbrev first : (e : Expr) × (rest : Exprs) × (p : ℕ) × (expr_r s l enums l.nesting at ≡ got e p) × (many_exprs (left - 1) (expr_r s l enums l.nesting) p ≡ got rest pd.stop) × (cons e rest ≡ pd.exprs)
      first = many_first (expr_r s l enums l.nesting) left at pd.exprs pd.stop u pd.read

      pub in_file : at < length s
      in_file = let w = first in (expr_at_lem s l enums l.nesting at w.0 w.2 w.3).inside

      reads_first : reads_all pd.exprs ≡ reads first.0 ++ reads_all first.1
      reads_first = ap reads_all (sym first.5)

      scanned : x ≡ scan_of at first.0
      scanned = c first.0 first.2 first.3

      -- a Var: its name, and the rest behind it
      module _ {y q : ℕ} (g : x ≡ Scn.Name y q) where
        found : (q ≡ first.2) × (reads first.0 ≡ y ∷ [])
        found = ⊎_elim yes no (step_of s l enums l.nesting at first.2 first.0 first.3)
          where
            yes : Found at first.0 first.2 → (q ≡ first.2) × (reads first.0 ≡ y ∷ [])
            yes w =
                let h : Scn.Name y q ≡ Scn.Name w.0 first.2 = sym g ∙ (scanned ∙ w.1) in
                let a : w.0 ≡ y = cc in
                (cc, w.2 ∙ ap (λ v. v ∷ []) a)

            no : Parted s l enums l.nesting at first.0 first.2 → (q ≡ first.2) × (reads first.0 ≡ y ∷ [])
            no w =
                let h : Scn.Name y q ≡ Scn.Parts w.0 w.1 = sym g ∙ (scanned ∙ w.3) in
                let z : ◌≡◌ {A = ℕ} 0 1 = cc in
                absurd (omega arith)

        definers_here : {o : Option ℕ} → definer qs y ≡ o → definers_of qs (reads_all pd.exprs) ≡ with_definer o (definers_of qs (reads_all first.1))
        definers_here {o} e =
            ap (definers_of qs) (reads_first ∙ ap (λ v. v ++ reads_all first.1) found.1)
            ∙ ap (λ v. with_definer v (definers_of qs (reads_all first.1))) e

        pub name_after : at < q
        name_after = let t = (takes_expr s l enums l.nesting).is at first.0 first.2 first.3 in omega (arith, found.0, t.ends, t.holds, some_size first.0)

        rest_read : many_exprs (left - 1) (expr_r s l enums l.nesting) q ≡ got first.1 pd.stop
        rest_read = subst (λ v. many_exprs (left - 1) (expr_r s l enums l.nesting) v ≡ got first.1 pd.stop) (sym found.0) first.4

        rest_inside : q ≤ length s
        rest_inside = let t = (takes_expr s l enums l.nesting).is at first.0 first.2 first.3 in omega (arith, found.0, t.inside pd.inside)

        -- it has no definer
        pub name_none : definer qs y ≡ none → Pending s l enums qs want m lists end (left - 1) q
        name_none e =
            record {
              exprs = first.1;
              stop = pd.stop;
              read = rest_read;
              is = sym (ap (sets lists end) (definers_here e)) ∙ pd.is;
              counts = sym (ap (λ v. end + length v) (definers_here e)) ∙ pd.counts;
              inside = rest_inside;
            }

        module _ {d : ℕ} (e : definer qs y ≡ some d) where
          -- there is room for its definer
          pub name_room : end < m
          name_room = omega (arith, ap length (definers_here e), pd.counts)

          pub name_some : Pending s l enums qs want m (set lists end d) (end + 1) (left - 1) q
          name_some =
              record {
                exprs = first.1;
                stop = pd.stop;
                read = rest_read;
                is = rw (add-one end) (sym (ap (sets lists end) (definers_here e)) ∙ pd.is);
                counts = omega (arith, ap length (definers_here e), pd.counts);
                inside = rest_inside;
              }

      -- parts: they are scanned before the rest
      module _ {k q : ℕ} (g : x ≡ Scn.Parts k q) where
        split : (parts : Exprs) × (many_exprs k (expr_r s l enums l.nesting) q ≡ got parts first.2) × (reads first.0 ≡ reads_all parts) × (at < q)
        split = ⊎_elim no yes (step_of s l enums l.nesting at first.2 first.0 first.3)
          where
            no : Found at first.0 first.2 → (parts : Exprs) × (many_exprs k (expr_r s l enums l.nesting) q ≡ got parts first.2) × (reads first.0 ≡ reads_all parts) × (at < q)
            no w =
                let h : Scn.Parts k q ≡ Scn.Name w.0 first.2 = sym g ∙ (scanned ∙ w.1) in
                let z : ◌≡◌ {A = ℕ} 0 1 = cc in
                absurd (omega arith)

            yes : Parted s l enums l.nesting at first.0 first.2 → (parts : Exprs) × (many_exprs k (expr_r s l enums l.nesting) q ≡ got parts first.2) × (reads first.0 ≡ reads_all parts) × (at < q)
            yes w =
                let h : Scn.Parts k q ≡ Scn.Parts w.0 w.1 = sym g ∙ (scanned ∙ w.3) in
                let a : w.0 ≡ k = cc in
                let b : w.1 ≡ q = cc in
                (w.2, subst (λ v. many_exprs v (expr_r s l enums l.nesting) q ≡ got w.2 first.2) a (subst (λ v. many_exprs w.0 (expr_r s l enums l.nesting) v ≡ got w.2 first.2) b w.4), w.5, omega (arith, w.6))

        all_joined : many_exprs (left - 1 + k) (expr_r s l enums l.nesting) q ≡ got (joined split.0 first.1) pd.stop
        all_joined =
            let z : k + (left - 1) ≡ left - 1 + k = omega arith in
            subst (λ v. many_exprs v (expr_r s l enums l.nesting) q ≡ got (joined split.0 first.1) pd.stop) z
            (many_join (expr_r s l enums l.nesting) k q split.0 first.1 first.2 (left - 1) pd.stop split.1 first.4)

        pub parts_after : at < q
        parts_after = split.3

        ended : pd.stop ≤ length s
        ended = ((takes_exprs s (expr_r s l enums l.nesting) (takes_expr s l enums l.nesting) left).is at pd.exprs pd.stop pd.read).inside pd.inside

        -- no more than the file has bytes
        pub parts_few : left - 1 + k + q ≤ length s
        parts_few =
            let t = (takes_exprs s (expr_r s l enums l.nesting) (takes_expr s l enums l.nesting) (left - 1 + k)).is q (joined split.0 first.1) pd.stop all_joined in
            omega (arith, t.ends, t.holds.0, t.holds.1, count_size (joined split.0 first.1), ended)

        reads_joined : reads_all pd.exprs ≡ reads_all (joined split.0 first.1)
        reads_joined = reads_first ∙ (ap (λ v. v ++ reads_all first.1) split.2 ∙ sym (reads_join split.0 first.1))

        pub parts_pending : Pending s l enums qs want m lists end (left - 1 + k) q
        parts_pending =
            record {
              exprs = joined split.0 first.1;
              stop = pd.stop;
              read = all_joined;
              is = sym (ap (λ v. sets lists end (definers_of qs v)) reads_joined) ∙ pd.is;
              counts = sym (ap (λ v. end + length (definers_of qs v)) reads_joined) ∙ pd.counts;
              inside = omega (arith, parts_few);
            }

-- ---- an equation's right side

module _ (s : List ℕ) (l : Limits) (enums : ℕ) (starts : List ℕ) (rd : Readable s l enums starts) (k : ℕ) (h : k < length starts) where
  abbrev q : Equation
  q = equation_at s l enums (get_or starts k 0)

  names_counted : CountIs s 1 l.names (get_or starts k 0) (length q.names) (get_or starts k 0 + 1)
  unfolding counted_of
  names_counted =
      let f = each_read s l enums rd k h in
      let c = section_at s 1 l.names (name_r s) (get_or starts k 0) q.names _ (equation_at_lem s l enums (get_or starts k 0) q f.0 f.1).names in
      counted_is s 1 l.names (get_or starts k 0) (length q.names) (get_or starts k 0 + 1) (sym (ap counted_of c.counted))

  pub start_inside : get_or starts k 0 < length s
  start_inside = names_counted.inside

  -- it is to be scanned
  pub right_start : {r : ℕ} → Byte s (get_or starts k 0) r → (qs : List Equation) (lists : List ℕ) (n : ℕ) → Pending s l enums qs (sets lists n (waited qs q)) (n + length (waited qs q)) lists n 1 (get_or starts k 0 + 1 + 2 * r)
  unfolding waited
  right_start {r} b qs lists n =
      let right_place : rhs_place (get_or starts k 0) q ≡ get_or starts k 0 + 1 + 2 * r = omega (arith, names_counted.value, b.is) in
      let f = each_read s l enums rd k h in
      subst (λ v. Pending s l enums qs (sets lists n (definers_of qs (reads q.rhs))) (n + length (definers_of qs (reads q.rhs))) lists n 1 v) right_place
      (pending_start s l enums qs q.rhs (rhs_place (get_or starts k 0) q) f.0 n lists (equation_at_lem s l enums (get_or starts k 0) q f.0 f.1).right)
