-- Heads, as the bytes tell them.
use Prim.Native.Nat.{ℕ, zero, suc, ◌+◌, ◌-◌, ◌≤◌, ◌<◌}
use mathlib.Core.Bool.{Bool, true, false, ◌&&◌, cond}
use mathlib.Core.List.{List, [], ◌∷◌}
use mathlib.Core.Path.{◌≡◌, refl, sym, ap, subst, ◌∙◌}
use native.Mathlib.Omega.{arith}
use lib.ListN.{length, get_or}
use lib.Dec.{T, ltb, leb, eqb, leb→le}
use borrow.Author.Tests.{lt-ltb, ltb-true}
use Rattle.ol_spec.specs.Lists.{all_of}
use Rattle.ol_spec.proofs.Tests.{T_and}
use Rattle.ol_spec.specs.Syntax.{Expr, Exprs, nil, cons, count}
use Rattle.ol_spec.specs.Places.{exprs_size}
use Rattle.ol_tables.specs.Heads.{sizes_table, ty_size_at, next_at, parts_of, head_size, joined, Standing}
use Rattle.ol_tables.proofs.HeadLaws.{Headed, headed, parts_told, next_told, joined_count, head_ends}
use Rattle.ol_tables.specs.Walks.{HeadOf}
use Rattle.ol_tables.specs.declared.heads.Parts.{Parts}

-- what a test says of all entries of a list holds of each
each_entry : (p : ℕ → Bool) (l : List ℕ) (i : ℕ) → T (all_of p l) → i < length l → T (p (get_or l i 0))
each_entry p [] i t h = absurd (omega arith)
each_entry p (x ∷ l) zero t h = (T_and (p x) _ t).0
each_entry p (x ∷ l) (suc i) t h = each_entry p l i (T_and (p x) _ t).1 (omega arith)

-- a size of the table is 1 to 9, a number of parts at most 3
table_size : (c : ℕ) → c < 10 → (1 ≤ get_or sizes_table c 0) × (get_or sizes_table c 0 ≤ 9)
table_size c h =
    let w = T_and (leb 1 (get_or sizes_table c 0)) _ (each_entry (λ n. leb 1 n && leb n 9) sizes_table c tt h) in
    (leb→le _ _ w.0, leb→le _ _ w.1)

cond_small : (a b d : Bool) → cond a (2 + cond b 2 1) (cond d 2 1) ≤ 4
cond_small true true d = omega arith
cond_small true false d = omega arith
cond_small false b true = omega arith
cond_small false b false = omega arith

pub ty_small : (s : List ℕ) (at : ℕ) → ty_size_at s at ≤ 4
ty_small s at = cond_small (eqb (get_or s at 0) 13) (eqb (get_or s (at + 2) 0) 12) (eqb (get_or s at 0) 12)

-- a head has a byte at least
pub next_on_lem : (s : List ℕ) (at : ℕ) → at < length s → at < next_at s at
next_on_lem s at i =
    let c = get_or s at 0 in
    rw (lt-ltb at (length s) i) (pick (ltb c 10) (eqb c 10) (eqb c 11) (eqb c 13) (ltb c 15) (λ e. omega (arith, (table_size c (ltb-true c 10 e)).0)))
  where
    four : (d e g : Bool) → at < cond d (at + 3) (cond e (at + 1) (cond g (at + 2) (at + 4)))
    four true e g = omega arith
    four false true g = omega arith
    four false false true = omega arith
    four false false false = omega arith

    two : (b d e g : Bool) → at < cond b (at + 1 + ty_size_at s (at + 1)) (cond d (at + 3) (cond e (at + 1) (cond g (at + 2) (at + 4))))
    two true d e g = omega arith
    two false d e g = four d e g

    pick : (a b d e g : Bool) → (a ≡ true → at < at + get_or sizes_table (get_or s at 0) 0) → at < cond a (at + get_or sizes_table (get_or s at 0) 0) (cond b (at + 1 + ty_size_at s (at + 1)) (cond d (at + 3) (cond e (at + 1) (cond g (at + 2) (at + 4)))))
    pick true b d e g h = h refl
    pick false b d e g h = two b d e g

-- ---- a walk over expressions, head by head

-- of the expressions es at `at`, those that are left stand at `next`
pub record Going (s : List ℕ) (enums at : ℕ) (es : Exprs) (left next : ℕ) : Type 0 where
  pub rest : Exprs
  pub stands : Standing s enums next rest
  pub many : count rest ≡ left
  pub ends : at + exprs_size es ≡ next + exprs_size rest

unfoldable pub going_start : {s : List ℕ} {enums at : ℕ} {es : Exprs} {n : ℕ} → count es ≡ n → Standing s enums at es → Going s enums at es n at
going_start {es = es} e h = record { rest = es; stands = h; many = e; ends = refl }

-- the first of those that are left
pub record Turn {s : List ℕ} {enums at : ℕ} {es : Exprs} {left next : ℕ} (g : Going s enums at es left next) : Type 0 where
  pub expr : Expr
  pub others : Exprs
  pub are : g.rest ≡ cons expr others
  pub headed : Headed s enums next expr others

first_of : (s : List ℕ) (enums at : ℕ) (es rest : Exprs) (left next : ℕ) (st : Standing s enums next rest) (m : count rest ≡ left) (e : at + exprs_size es ≡ next + exprs_size rest) → 0 < left
    → Turn {s = s} {enums = enums} {at = at} {es = es} {left = left} {next = next} (record { rest = rest; stands = st; many = m; ends = e })
first_of s enums at es nil left next st m e h = absurd (omega arith)
first_of s enums at es (cons x xs) left next st m e h = record { expr = x; others = xs; are = refl; headed = headed x xs st }

pub going_turn : {s : List ℕ} {enums at : ℕ} {es : Exprs} {left next : ℕ} (g : Going s enums at es left next) → 0 < left → Turn g
going_turn {s} {enums} {at} {es} {left} {next} g h = first_of s enums at es g.rest left next g.stands g.many g.ends h

module _ {s : List ℕ} {enums at : ℕ} {es : Exprs} {left next : ℕ} (g : Going s enums at es left next) (t : Turn g) (p : Parts) (h : HeadOf s next p) where
  -- the walk's next list, after a head
  unfoldable pub going_on : Going s enums at es (left - 1 + p.count) p.start
  going_on =
      let e = t.expr in
      let o = t.others in
      let q : p.start ≡ next + head_size e = h.next ∙ next_told s next e t.headed.inside t.headed.head in
      let k : p.count ≡ count (parts_of e) = h.parts ∙ parts_told s next e t.headed.head in
      record {
        rest = joined (parts_of e) o;
        stands = subst (λ n. Standing s enums n (joined (parts_of e) o)) (sym q) t.headed.rest;
        many = omega (arith, joined_count (parts_of e) o, k, g.many, ap count t.are);
        ends = omega (arith, g.ends, ap exprs_size t.are, head_ends e o next, q);
      }

-- no expression is left
pub going_done : {s : List ℕ} {enums at : ℕ} {es : Exprs} {left next : ℕ} → Going s enums at es left next → (0 < left → ⊥) → next ≡ at + exprs_size es
going_done {s} {enums} {at} {es} {left} {next} g h = go g.rest g.many g.ends
  where
    go : (rest : Exprs) → count rest ≡ left → at + exprs_size es ≡ next + exprs_size rest → next ≡ at + exprs_size es
    go nil m e = omega arith
    go (cons x xs) m e = absurd (h (omega arith))
