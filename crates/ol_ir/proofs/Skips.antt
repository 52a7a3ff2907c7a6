-- Expressions and equations that were read, passed over head by head: what is left are expressions, one behind the other.
use Prim.Native.Nat.{ℕ, zero, suc, ◌+◌, ◌-◌, ◌*◌, ◌≤◌, ◌<◌}
use mathlib.Core.Bool.{Bool, true, false, cond}
use mathlib.Core.List.{List, [], ◌∷◌, ◌++◌, map}
use mathlib.Core.Logic.{by_cases}
use mathlib.Core.Path.{◌≡◌, refl, sym, ap, ap₂, subst, ◌∙◌}
use native.Mathlib.Decide.{dec_le, ℕ_discrete}
use native.Mathlib.Numerals.{add-one}
use native.Mathlib.Omega.{arith}
use lib.Dec.{eqb}
use lib.ListN.{length, get_or, set}
use lib.Seq.{sets}
use borrow.Author.Tests.{lt-ltb, ne_eqb}
use Rattle.std.specs.Prelude.{Ok, Err}
use Rattle.ol_spec.specs.Lists.{up_to}
use Rattle.ol_spec.specs.Syntax.{Expr, bool_lit, int_lit, float_lit, char_lit, var, unary, binary, if_then_else, pre, arrow, cast, call, tuple, index, literal, map_over, fold_over, Exprs, nil}
use Rattle.ol_spec.specs.Syntax.{cons, count, Equation, Node}
use Rattle.ol_spec.specs.Places.{rhs_place, equation_size, equations_start, placed_equations}
use Rattle.ol_spec.specs.Eval.{callees_all}
use Rattle.ol_spec.specs.Read.{Read, got, fault, Reader, many, many_exprs, byte, coded, count_r, name_r, ty_r, expr_r, equation_r, node_r, cast_code, call_code, tuple_code, index_code, literal_code, iterator_code, maps, folds, iterators}
use Rattle.ol_spec.specs.Answers.{fault_at}
use Rattle.ol_spec.specs.declared.Fault.{Fault}
use Rattle.ol_spec.specs.declared.Limits.{Limits}
use Rattle.ol_spec.proofs.Offsets.{steps, same_end, same_item}
use Rattle.ol_tables.specs.Heads.{code_of, head_size, parts_of, joined, parts_table, sizes_table, ty_size_at, parts_at, next_at}
use Rattle.ol_tables.specs.At.{limits_at, enums_at, exprs_at, ends_at, ReadsAll}
use Rattle.ol_tables.specs.Parts.{own_sites}
use Rattle.ol_tables.specs.Walks.{skip_by, skip_at, sites_by, sites_at}
use Rattle.ol_tables.proofs.Forms.{reads, reads_in, parted, none_read, own_read, code_is, iterator_of}
use Rattle.ol_tables.proofs.HeadLaws.{head_some}
use Rattle.ol_tables.proofs.Skipping.{count_size, callees_on, walk_next, walk_none}
use Rattle.ol_ir.specs.Nexts.{Counting, Next, counted_at, next_of, counted_of}
use Rattle.ol_ir.specs.Heads.{iterator_parts}
use Rattle.ol_ir.specs.Nodes.{interface_r, equations_r}
use Rattle.ol_ir.specs.Walks.{place_of, on_places, places_of, after_read, skip_equation_at, equation_places, start_places}
use Rattle.ol_ir.proofs.Bytes.{CountIs, counted_is}
use Rattle.ol_ir.proofs.Forms.{ty_plain, ty_enum, ty_none, ty_end}
use Rattle.ol_ir.proofs.Heads.{head_is}
use Rattle.ol_ir.proofs.Sizes.{takes_byte, takes_coded, takes_expr, takes_exprs, takes_equation}
use Rattle.ol_ir.proofs.Trees.{then_got, then_fault, many_cons, deeper_parts, ExprAt, expr_at_lem}
use Rattle.ol_ir.proofs.Items.{from_next, from_halt, from_items, from_no_items, places_placed, SectionAt, section_at, node_at_lem, equation_at_lem}

-- ---- lists of expressions

module _ (r : Reader Expr) where
  -- the first of those that were read, and the rest
  pub many_first : (left at : ℕ) (es : Exprs) (m : ℕ) → 0 < left → many_exprs left r at ≡ got es m → (e : Expr) × (rest : Exprs) × (p : ℕ) × (r at ≡ got e p) × (many_exprs (left - 1) r p ≡ got rest m) × (cons e rest ≡ es)
  unfolding many_exprs
  many_first zero at es m h f = absurd (omega arith)
  many_first (suc k) at es m h f =
      let t = steps (r at) _ es m f in
      let u = steps (many_exprs k r t.at) _ es m t.rest in
      let one : suc k - 1 ≡ k = omega arith in
      (t.value, u.value, t.at, t.first, rw one (u.first ∙ ap (got u.value) (same_end u.rest)), same_item u.rest)

  pub many_join : (k at : ℕ) (xs ys : Exprs) (p j m : ℕ) → many_exprs k r at ≡ got xs p → many_exprs j r p ≡ got ys m → many_exprs (k + j) r at ≡ got (joined xs ys) m
  unfolding many_exprs joined
  many_join zero at xs ys p j m f g =
      let z : 0 + j ≡ j = omega arith in
      let b : at ≡ p = same_end f in
      rw z (subst (λ q. many_exprs j r q ≡ got ys m) (sym b) g ∙ ap (λ v. got (joined v ys) m) (same_item f))
  many_join (suc k) at xs ys p j m f g =
      let t = steps (r at) _ xs p f in
      let u = steps (many_exprs k r t.at) _ xs p t.rest in
      let z : suc k + j ≡ suc (k + j) = omega arith in
      let w = many_join k t.at u.value ys p j m (u.first ∙ ap (got u.value) (same_end u.rest)) g in
      rw z (many_cons r (k + j) at t.first w ∙ ap (λ v. got (joined v ys) m) (same_item u.rest))

  pub many_none : (left at : ℕ) (es : Exprs) (m : ℕ) → left ≤ 0 → many_exprs left r at ≡ got es m → (es ≡ nil) × (at ≡ m)
  unfolding many_exprs
  many_none zero at es m h f = (sym (same_item f), same_end f)
  many_none (suc k) at es m h f = absurd (omega arith)

-- ---- a head, by its first byte

fixed : (e : Expr) → code_of e < 10 → (get_or parts_table (code_of e) 0 ≡ count (parts_of e)) × (get_or sizes_table (code_of e) 0 ≡ head_size e)
fixed (bool_lit b) h = (refl, refl)
fixed (int_lit i) h = (refl, refl)
fixed (float_lit b) h = (refl, refl)
fixed (char_lit c) h = (refl, refl)
fixed (var x) h = (refl, refl)
fixed (unary op e) h = (refl, refl)
fixed (binary op l r) h = (refl, refl)
fixed (if_then_else c t e) h = (refl, refl)
fixed (pre e) h = (refl, refl)
fixed (arrow a b) h = (refl, refl)
fixed (cast t e) h = absurd (omega arith)
fixed (call k es) h = absurd (omega arith)
fixed (tuple es) h = absurd (omega arith)
fixed (index a i) h = absurd (omega arith)
fixed (literal es) h = absurd (omega arith)
fixed (map_over k es) h = absurd (omega arith)
fixed (fold_over k s es) h = absurd (omega arith)

no_more : (e : Expr) → code_of e ≤ 15
no_more (bool_lit b) = omega arith
no_more (int_lit i) = omega arith
no_more (float_lit b) = omega arith
no_more (char_lit c) = omega arith
no_more (var x) = omega arith
no_more (unary op e) = omega arith
no_more (binary op l r) = omega arith
no_more (if_then_else c t e) = omega arith
no_more (pre e) = omega arith
no_more (arrow a b) = omega arith
no_more (cast t e) = omega arith
no_more (call k es) = omega arith
no_more (tuple es) = omega arith
no_more (index a i) = omega arith
no_more (literal es) = omega arith
no_more (map_over k es) = omega arith
no_more (fold_over k s es) = omega arith

-- where a type ends that was read
module _ (s : List ℕ) (l : Limits) (enums at p : ℕ) (e : next_of (ty_r s l enums at) ≡ Ok p) where
  no_type : (f : Fault) → Err f ≡ next_of (ty_r s l enums at) → ⊥
  no_type f g = let h : Err f ≡ Ok p = g ∙ e in let z : ◌≡◌ {A = ℕ} 0 1 = cc in omega arith

  type_inside : at < length s
  type_inside = by_cases (dec_le (length s) at) (λ gone. absurd (no_type (fault_at 2 (length s)) (ty_end s l enums at gone))) (λ no. omega arith)

  type_two : get_or s at 0 ≡ 12 → p ≡ at + 2
  type_two b =
      let w = from_next (coded s (up_to enums) (at + 1)) p (ty_enum s l enums at type_inside b ∙ e) in
      let t = (takes_coded s (up_to enums)).is (at + 1) w.0 p w.1 in
      omega (arith, t.ends, t.holds)

  type_scalar : get_or s at 0 ≡ 13 → ⊥
  type_scalar b = no_type (fault_at 3 at) (ty_none s l enums at type_inside (omega arith))

  type_one : (get_or s at 0 ≡ 12 → ⊥) → p ≡ at + 1
  type_one b =
      by_cases (dec_le 12 (get_or s at 0)) (λ h. absurd (no_type (fault_at 3 at) (ty_none s l enums at type_inside (omega arith))))
      (λ h. let g : Ok (at + 1) ≡ Ok p = ty_plain s l enums at type_inside (omega arith) ∙ e in let z : at + 1 ≡ p = cc in omega arith)

-- of an expression that was read its bytes tell how many parts it has, and where they start
module _ (s : List ℕ) (l : Limits) (enums d at : ℕ) (e : Expr) (n : ℕ) (r : expr_r s l enums d at ≡ got e n) where
  abbrev Told : Type 0
  Told = (parts_at s at ≡ count (parts_of e)) × (next_at s at ≡ at + head_size e)

  read : ExprAt s l enums d at e n
  read = expr_at_lem s l enums d at e n r

  -- the first byte says it
  told_fixed : code_of e < 10 → Told
  told_fixed h =
      let x = read in
      let w = fixed e h in
      let low = lt-ltb (get_or s at 0) 10 (omega (arith, x.code)) in
      (rw low (ap (λ v. get_or parts_table v 0) x.code ∙ w.0), rw (lt-ltb at (length s) x.inside, low) (ap (λ v. at + v) (ap (λ v. get_or sizes_table v 0) x.code ∙ w.1)))

  -- a Cast: its type has one byte or two
  told_cast : get_or s at 0 ≡ 10 → Told
  unfolding next_of
  told_cast c =
      let x = read in
      let t = steps (ty_r s l enums (at + 1)) _ (count (parts_of e)) (at + head_size e) (sym (head_is s l enums at 10 cast_code x.inside c refl) ∙ x.head) in
      let q : next_of (ty_r s l enums (at + 1)) ≡ Ok (at + head_size e) = ap next_of t.first ∙ ap Ok (same_end t.rest) in
      let size : at + 1 + ty_size_at s (at + 1) ≡ at + head_size e =
      by_cases (ℕ_discrete (get_or s (at + 1) 0) 12) (λ y. rw y (omega (arith, type_two s l enums (at + 1) (at + head_size e) q y)))
      (λ z. rw (ne_eqb (get_or s (at + 1) 0) 13 (type_scalar s l enums (at + 1) (at + head_size e) q), ne_eqb (get_or s (at + 1) 0) 12 z) (omega (arith, type_one s l enums (at + 1) (at + head_size e) q z))) in
      (rw c (same_item t.rest), rw (lt-ltb at (length s) x.inside, c) size)

  -- a call: its count of arguments stands behind the node's number
  told_call : get_or s at 0 ≡ 11 → Told
  unfolding counted_of
  told_call c =
      let x = read in
      let t = steps (byte s (at + 1)) _ (count (parts_of e)) (at + head_size e) (sym (head_is s l enums at 11 call_code x.inside c refl) ∙ x.head) in
      let u = (takes_byte s).is (at + 1) t.value t.at t.first in
      let w = counted_is s 0 l.arguments t.at (count (parts_of e)) (at + head_size e) (sym (ap counted_of t.rest)) in
      let p : t.at ≡ at + 2 = omega (arith, u.ends, u.holds) in
      (rw c (sym (w.value ∙ ap (λ v. get_or s v 0) p)), rw (lt-ltb at (length s) x.inside, c) (omega (arith, w.next)))

  -- a Tuple: its count stands behind the code
  told_tuple : get_or s at 0 ≡ 12 → Told
  unfolding counted_of
  told_tuple c =
      let x = read in
      let w = counted_is s 2 l.items (at + 1) (count (parts_of e)) (at + head_size e) (sym (ap counted_of (sym (head_is s l enums at 12 tuple_code x.inside c refl) ∙ x.head))) in
      (rw c (sym w.value), rw (lt-ltb at (length s) x.inside, c) (omega (arith, w.next)))

  -- an index has two parts
  told_index : get_or s at 0 ≡ 13 → Told
  told_index c =
      let x = read in
      let h : got 2 (at + 1) ≡ got (count (parts_of e)) (at + head_size e) = sym (head_is s l enums at 13 index_code x.inside c refl) ∙ x.head in
      (rw c (same_item h), rw (lt-ltb at (length s) x.inside, c) (same_end h))

  -- a literal: its count stands behind the code
  told_literal : get_or s at 0 ≡ 14 → Told
  unfolding counted_of
  told_literal c =
      let x = read in
      let w = counted_is s 1 l.elements (at + 1) (count (parts_of e)) (at + head_size e) (sym (ap counted_of (sym (head_is s l enums at 14 literal_code x.inside c refl) ∙ x.head))) in
      (rw c (sym w.value), rw (lt-ltb at (length s) x.inside, c) (omega (arith, w.next)))

  -- an iterator: its kind, its node's number and its count of arrays stand behind the code
  seeds : (b : Bool) (n : ℕ) → iterator_parts (cond b folds maps) n ≡ n + cond b 1 0
  seeds true n = omega arith
  seeds false n = omega arith

  told_iterator : get_or s at 0 ≡ 15 → Told
  unfolding counted_of
  told_iterator c =
      let x = read in
      let t = steps (coded s iterators (at + 1)) _ (count (parts_of e)) (at + head_size e) (sym (head_is s l enums at 15 iterator_code x.inside c refl) ∙ x.head) in
      let k = code_is s iterators (at + 1) t.value t.at t.first in
      let w = (iterator_of s (get_or s (at + 1) 0) t.value k.is).1 in
      let b = steps (byte s t.at) _ (count (parts_of e)) (at + head_size e) t.rest in
      let u = (takes_byte s).is t.at b.value b.at b.first in
      let v = steps (count_r s 0 l.arrays b.at) _ (count (parts_of e)) (at + head_size e) b.rest in
      let o = counted_is s 0 l.arrays b.at v.value v.at (sym (ap counted_of v.first)) in
      let p : b.at ≡ at + 3 = omega (arith, k.ends, u.ends, u.holds) in
      let many : v.value ≡ get_or s (at + 3) 0 = o.value ∙ ap (λ n. get_or s n 0) p in
      let parts : get_or s (at + 3) 0 + cond (eqb (get_or s (at + 1) 0) 1) 1 0 ≡ count (parts_of e) =
      sym (seeds (eqb (get_or s (at + 1) 0) 1) (get_or s (at + 3) 0)) ∙ ap₂ iterator_parts (sym w) (sym many) ∙ same_item v.rest in
      (rw c parts, rw (lt-ltb at (length s) x.inside, c) (omega (arith, o.next, p, same_end v.rest)))

  pub head_told : (parts_at s at ≡ count (parts_of e)) × (next_at s at ≡ at + head_size e)
  head_told =
      let c = read.code in
      by_cases (dec_le 10 (code_of e))
      (λ high. by_cases (ℕ_discrete (code_of e) 10) (λ y. told_cast (c ∙ y))
      (λ z. by_cases (ℕ_discrete (code_of e) 11) (λ y. told_call (c ∙ y))
      (λ w. by_cases (ℕ_discrete (code_of e) 12) (λ y. told_tuple (c ∙ y))
      (λ v. by_cases (ℕ_discrete (code_of e) 13) (λ y. told_index (c ∙ y))
      (λ u. by_cases (ℕ_discrete (code_of e) 14) (λ y. told_literal (c ∙ y)) (λ t. told_iterator (omega (arith, c, no_more e))))))))
      (λ low. told_fixed (omega arith))

-- ---- a walk over expressions

-- `left` expressions are read from `next` on, to n
pub record Passing (s : List ℕ) (l : Limits) (enums d n left next : ℕ) : Type 0 where
  pub exprs : Exprs
  pub read : many_exprs left (expr_r s l enums d) next ≡ got exprs n
  pub inside : next ≤ length s

pub passing_start : {s : List ℕ} {l : Limits} {enums d at n : ℕ} {e : Expr} → expr_r s l enums d at ≡ got e n → Passing s l enums d n 1 at
unfolding many_exprs
passing_start {s} {l} {enums} {d} {at} {n} {e} f =
    record { exprs = cons e nil; read = many_cons (expr_r s l enums d) 0 at f refl; inside = omega (arith, (expr_at_lem s l enums d at e n f).inside) }

module _ {s : List ℕ} {l : Limits} {enums d n left next : ℕ} (p : Passing s l enums d n left next) where
  -- no more than the file has bytes
  pub passing_few : left ≤ length s
  passing_few =
      let t = (takes_exprs s (expr_r s l enums d) (takes_expr s l enums d) left).is next p.exprs n p.read in
      omega (arith, t.ends, t.holds.0, t.holds.1, t.inside p.inside, count_size p.exprs)

  pub passing_done : left ≤ 0 → next ≡ n
  passing_done h = (many_none (expr_r s l enums d) left next p.exprs n h p.read).1

  module _ (u : 0 < left) where
    abbrev first : (e : Expr) × (rest : Exprs) × (m : ℕ) × (expr_r s l enums d next ≡ got e m) × (many_exprs (left - 1) (expr_r s l enums d) m ≡ got rest n) × (cons e rest ≡ p.exprs)
    first = many_first (expr_r s l enums d) left next p.exprs n u p.read

    pub passing_in : next < length s
    passing_in = let w = first in (expr_at_lem s l enums d next w.0 w.2 w.3).inside

    -- an expression's parts take its place
    unfoldable pub passing_on : Passing s l enums d n (left - 1 + parts_at s next) (next_at s next)
    passing_on =
        let w = first in
        let x = expr_at_lem s l enums d next w.0 w.2 w.3 in
        let k = head_told s l enums d next w.0 w.2 w.3 in
        let more = count (parts_of w.0) in
        let after = next + head_size w.0 in
        let parts : many_exprs more (expr_r s l enums d) after ≡ got (parts_of w.0) w.2 = deeper_parts s l enums (d - 1) d more after (omega arith) x.parts in
        let all : many_exprs (more + (left - 1)) (expr_r s l enums d) after ≡ got (joined (parts_of w.0) w.1) n = many_join (expr_r s l enums d) more after (parts_of w.0) w.1 w.2 (left - 1) n parts w.4 in
        let t = (takes_exprs s (expr_r s l enums d) (takes_expr s l enums d) left).is next p.exprs n p.read in
        let v = (takes_exprs s (expr_r s l enums d) (takes_expr s l enums d) (more + (left - 1))).is after (joined (parts_of w.0) w.1) n all in
        let many : more + (left - 1) ≡ left - 1 + parts_at s next = omega (arith, k.0) in
        record {
          exprs = joined (parts_of w.0) w.1;
          read = subst (λ m. many_exprs m (expr_r s l enums d) (next_at s next) ≡ got (joined (parts_of w.0) w.1) n) many (subst (λ q. many_exprs (more + (left - 1)) (expr_r s l enums d) q ≡ got (joined (parts_of w.0) w.1) n) (sym k.1) all);
          inside = omega (arith, k.1, v.ends, t.inside p.inside);
        }

-- where the walk ends
pub skip_read : (s : List ℕ) (m left next : ℕ) {l : Limits} {enums d n : ℕ} → length s - next ≤ m → Passing s l enums d n left next → skip_by s m left next ≡ n
skip_read s zero zero next h p = walk_none _ _ s 0 0 next (omega arith) ∙ passing_done p (omega arith)
skip_read s zero (suc left) next h p = let i = passing_in p (omega arith) in absurd (omega arith)
skip_read s (suc m) zero next h p = walk_none _ _ s (suc m) 0 next (omega arith) ∙ passing_done p (omega arith)
skip_read s (suc m) (suc left) next {l} {enums} {d} h p =
    let i = passing_in p (omega arith) in
    let w = first p (omega arith) in
    let k = head_told s l enums d next w.0 w.2 w.3 in
    let one : suc left - 1 ≡ left = omega arith in
    walk_next _ _ s m left next i (omega (arith, passing_few p)) ∙ ap (λ c. skip_by s m (c + parts_at s next) (next_at s next)) (sym one)
    ∙ skip_read s m (suc left - 1 + parts_at s next) (next_at s next) (omega (arith, k.1, head_some w.0)) (passing_on p (omega arith))

pub skip_expr : (s : List ℕ) (l : Limits) (enums d at : ℕ) {e : Expr} {n : ℕ} → expr_r s l enums d at ≡ got e n → skip_at s 1 at ≡ n
skip_expr s l enums d at f = skip_read s (length s) 1 at (omega arith) (passing_start f)

-- the callees that it meets
pub sites_read : (s : List ℕ) (m left next : ℕ) {d n : ℕ} → length s - next ≤ m → (p : Passing s (limits_at s) (enums_at s) d n left next) → sites_by s m left next ≡ callees_all p.exprs
unfolding passing_on
sites_read s zero zero next {d} {n} h p = walk_none _ _ s 0 0 next (omega arith) ∙ sym (ap callees_all (many_none (expr_r s (limits_at s) (enums_at s) d) 0 next p.exprs n (omega arith) p.read).0)
sites_read s zero (suc left) next h p = let i = passing_in p (omega arith) in absurd (omega arith)
sites_read s (suc m) zero next {d} {n} h p = walk_none _ _ s (suc m) 0 next (omega arith) ∙ sym (ap callees_all (many_none (expr_r s (limits_at s) (enums_at s) d) 0 next p.exprs n (omega arith) p.read).0)
sites_read s (suc m) (suc left) next {d} h p =
    let u : 0 < suc left = omega arith in
    let i = passing_in p u in
    let w = first p u in
    let k = head_told s (limits_at s) (enums_at s) d next w.0 w.2 w.3 in
    let r = reads s d next w.0 w.2 w.3 in
    let one : suc left - 1 ≡ left = omega arith in
    walk_next _ _ s m left next i (omega (arith, passing_few p))
    ∙ ap₂ (λ (ks ls : List ℕ). ks ++ ls) (own_read s d next r.0 ∙ ap own_sites r.1)
    (ap (λ c. sites_by s m (c + parts_at s next) (next_at s next)) (sym one) ∙ sites_read s m (suc left - 1 + parts_at s next) (next_at s next) (omega (arith, k.1, head_some w.0)) (passing_on p u))
    ∙ sym (callees_on w.0 w.1) ∙ ap callees_all w.5

-- of so many expressions that are read there: where they end, and their callees
pub walk_read : (s : List ℕ) (level n at : ℕ) → ReadsAll s level n at → (skip_at s n at ≡ ends_at s level n at) × (sites_at s n at ≡ callees_all (exprs_at s level n at))
walk_read s level zero at h =
    let z = none_read s level at in
    (walk_none _ _ s (length s) 0 at (omega arith) ∙ sym z.1, walk_none _ _ s (length s) 0 at (omega arith) ∙ sym (ap callees_all z.0))
walk_read s level (suc n) at h =
    let p : Passing s (limits_at s) (enums_at s) level (ends_at s level (suc n) at) (suc n) at = record { exprs = exprs_at s level (suc n) at; read = h.are; inside = omega (arith, reads_in s level at (parted s level n at h).head) } in
    (skip_read s (length s) (suc n) at (omega arith) p, sites_read s (length s) (suc n) at (omega arith) p)

-- ---- an equation

module _ (s : List ℕ) (l : Limits) (enums at : ℕ) (q : Equation) (n : ℕ) (r : equation_r s l enums at ≡ got q n) where
  counted : CountIs s 1 l.names at (length q.names) (at + 1)
  unfolding counted_of
  counted =
      let a = equation_at_lem s l enums at q n r in
      counted_is s 1 l.names at (length q.names) (at + 1) (sym (ap counted_of (section_at s 1 l.names (name_r s) at q.names (rhs_place at q) a.names).counted))

  equation_inside : at < length s
  equation_inside = counted.inside

  -- its right side stands behind its names
  equation_right : expr_r s l enums l.nesting (at + 1 + 2 * get_or s at 0) ≡ got q.rhs n
  equation_right = subst (λ m. expr_r s l enums l.nesting (at + 1 + 2 * m) ≡ got q.rhs n) counted.value (equation_at_lem s l enums at q n r).right

  -- where it ends, passed over
  pub equation_told : skip_equation_at s at ≡ n
  unfolding skip_equation_at
  equation_told = rw (lt-ltb at (length s) equation_inside) (skip_expr s l enums l.nesting _ equation_right)

-- ---- tables of the places of equations

pub places_turn : (s table t w : List ℕ) (i left m at q : ℕ) → sets table i (equation_places left s at) ≡ w → left ≡ m + 1 → q ≡ skip_equation_at s at → t ≡ set table i at → sets t (i + 1) (equation_places m s q) ≡ w
unfolding equation_places
places_turn s table t w i zero m at q e h f g = absurd (omega arith)
places_turn s table t w i (suc k) m at q e h f g =
    let one : m ≡ k = omega arith in
    rw (one, add-one i) (ap (λ v. sets v (suc i) (equation_places k s q)) g ∙ (ap (λ v. sets (set table i at) (suc i) (equation_places k s v)) f ∙ e))

pub places_end : (s table w : List ℕ) (i left at : ℕ) → sets table i (equation_places left s at) ≡ w → left ≤ 0 → table ≡ w
unfolding equation_places
places_end s table w i zero at e h = e
places_end s table w i (suc k) at e h = absurd (omega arith)

-- of equations that were read the walk finds the places
places_told : (s : List ℕ) (l : Limits) (enums k at : ℕ) (qs : List Equation) (end : ℕ) → many k (equation_r s l enums) at ≡ got qs end → equation_places k s at ≡ places_of k (equation_r s l enums) at
unfolding many equation_places places_of on_places
places_told s l enums zero at qs end e = refl
places_told s l enums (suc k) at qs end e =
    let t = steps (equation_r s l enums at) _ qs end e in
    let u = steps (many k (equation_r s l enums) t.at) _ qs end t.rest in
    ap (λ v. at ∷ equation_places k s v) (equation_told s l enums at t.value t.at t.first)
    ∙ (ap (λ v. at ∷ v) (places_told s l enums k t.at u.value u.at u.first) ∙ sym (ap (λ r. at ∷ on_places r (places_of k (equation_r s l enums))) t.first))

-- ---- the equations of a node

module _ (s : List ℕ) (l : Limits) (enums at : ℕ) where
  places_after : {r : Read ℕ} → equations_r s l enums at ≡ r → start_places s l enums at ≡ after_read r (λ n p. equation_places n s p)
  unfolding start_places
  places_after e = ap (λ v. after_read v (λ n p. equation_places n s p)) e

  -- by what the node's front and their count answer
  module _ {x : Next} (e : x ≡ next_of (interface_r s l enums at)) where
    module _ {p : ℕ} {y : Counting} (g : x ≡ Ok p) (i : y ≡ counted_of (count_r s 0 l.equations p)) where
      counted_there : equations_r s l enums at ≡ count_r s 0 l.equations p
      unfolding equations_r
      counted_there = then_got (interface_r s l enums at) _ (from_next (interface_r s l enums at) p (sym e ∙ g)).1

      pub starts_counted : y ≡ counted_of (equations_r s l enums at)
      starts_counted = i ∙ sym (ap counted_of counted_there)

      pub starts_placed : {n q : ℕ} → y ≡ Ok (counted_at n q) → equation_places n s q ≡ start_places s l enums at
      unfolding after_read
      starts_placed {n} {q} j = sym (places_after (counted_there ∙ from_items (count_r s 0 l.equations p) n q (sym i ∙ j)))

      pub starts_uncounted : {f : Fault} → y ≡ Err f → [] ≡ start_places s l enums at
      unfolding after_read
      starts_uncounted {f} j = sym (places_after (counted_there ∙ from_no_items (count_r s 0 l.equations p) f (sym i ∙ j)))

    module _ {f : Fault} (g : x ≡ Err f) where
      front_fault : equations_r s l enums at ≡ fault f.number f.place
      unfolding equations_r
      front_fault = then_fault (interface_r s l enums at) _ (from_halt (interface_r s l enums at) f (sym e ∙ g))

      pub front_refused : Err f ≡ counted_of (equations_r s l enums at)
      unfolding counted_of
      front_refused = sym (ap counted_of front_fault)

      pub front_placed : [] ≡ start_places s l enums at
      unfolding after_read
      front_placed = sym (places_after front_fault)

  -- of a node that was read
  module _ (n : Node) (end : ℕ) (r : node_r s l enums at ≡ got n end) where
    abbrev there : SectionAt s 0 l.equations (equation_r s l enums) (equations_start at n) n.equations end
    there = section_at s 0 l.equations (equation_r s l enums) (equations_start at n) n.equations end (node_at_lem s l enums at n end r).equations

    starts_read : equations_r s l enums at ≡ got (length n.equations) (equations_start at n + 1)
    unfolding equations_r
    starts_read = then_got (interface_r s l enums at) _ (from_next (interface_r s l enums at) (equations_start at n) (node_at_lem s l enums at n end r).front).1 ∙ there.counted

    pub starts_told : {x : Counting} → x ≡ counted_of (equations_r s l enums at) → x ≡ Ok (counted_at (length n.equations) (equations_start at n + 1))
    unfolding counted_of
    starts_told e = e ∙ ap counted_of starts_read

    pub starts_are : start_places s l enums at ≡ map place_of (placed_equations at n)
    unfolding after_read
    starts_are =
        places_after starts_read
        ∙ (places_told s l enums (length n.equations) (equations_start at n + 1) n.equations end there.items
        ∙ places_placed s equation_size (equation_r s l enums) (takes_equation s l enums) (length n.equations) (equations_start at n + 1) n.equations end there.items)
