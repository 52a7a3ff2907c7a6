-- The table of definers: each name's entry is its last definer.
use Prim.Native.Nat.{ℕ, zero, suc, ◌+◌, ◌-◌, ◌≤◌, ◌<◌}
use mathlib.Core.Bool.{Bool, true, false, cond, ◌||◌}
use mathlib.Core.List.{List, [], ◌∷◌, ◌++◌, map}
use mathlib.Core.Logic.{⊎_elim, by_cases}
use native.Mathlib.Decide.{dec_le}
use mathlib.Core.Option.{Option, none, some}
use mathlib.Core.Path.{◌≡◌, refl, sym, ap, subst, ◌∙◌}
use native.Mathlib.Numerals.{add-one}
use native.Mathlib.Omega.{arith}
use Rattle.std.proofs.Math.Nat.{mod-eq_of_lt, mod-lt}
use lib.ListN.{length, get_or, set, take, drop, length-set, length-map, drop_of_length-le, get_or-eq_default}
use lib.Seq.{drop-cons, take-suc, get_or-take, length-take-le, get_or-set_same, get_or-set_other}
use lib.Dec.{eqb, ltb}
use borrow.Author.Tests.{eqb-true, eqb-false, ne_eqb, lt-ltb, le-ltb}
use Rattle.ol_spec.specs.Lists.{any_of, member}
use Rattle.ol_spec.specs.Syntax.{Equation}
use Rattle.ol_spec.specs.Order.{later, definer_from, definer}
use Rattle.ol_spec.specs.Read.{Read, got, fault, many, count_r, name_r, equation_r}
use Rattle.std.specs.Prelude as Std
use Rattle.std.specs.Prelude.{MatchResult}
use Rattle.std.specs.List.{list_any}
use Rattle.ol_ir.specs.declared.Counted.{Counted}
use Rattle.ol_spec.specs.declared.Fault.{Fault}
use Rattle.ol_spec.specs.declared.Limits.{Limits}
use Rattle.ol_spec.proofs.Ordering.{later_cases, definer_inside}
use Rattle.ol_spec.proofs.Offsets.{steps, same_item}
use Rattle.ol_order.specs.Tables.{Table, is_got, entries_for, key_of, keyed, put, put_all, names_at, on_count, put_starts, on_defined, defined_at, as_option, no_equation, equation_at, equations_at}
use Rattle.ol_order.specs.Post.{Readable, Blank, Definers}
use Rattle.ol_order.proofs.Turns.{as_many, equation_here, each_read}
use Rattle.ol_order.proofs.Scanning.{found_some, found_none}
use Rattle.ol_tables.specs.Heads.{name_at}
use Rattle.ol_ir.specs.Nexts.{Next, Counting, counted_at, next_of, counted_of}
use Rattle.ol_ir.specs.Walks.{on_places}
use Rattle.ol_ir.proofs.Items.{from_next, from_halt, from_items, from_no_items, section_at, equation_at_lem}
use Rattle.ol_ir.proofs.Scans.{name_told}

-- ---- one equation's names

length_put : (xs : List ℕ) (i : ℕ) (t : Table) → length (put xs i t) ≡ length t
unfolding put
length_put [] i t = refl
length_put (x ∷ xs) i t = length_put xs i (set t x (Std.Some i)) ∙ length-set t x (Std.Some i)

cond_same : {A : Type 0} (b : Bool) (a : A) → cond b a a ≡ a
cond_same true a = refl
cond_same false a = refl

put_get : (xs : List ℕ) (i : ℕ) (t : Table) (x : ℕ) → x < length t → get_or (put xs i t) x Std.None ≡ cond (member x xs) (Std.Some i) (get_or t x Std.None)
unfolding put
put_get [] i t x h = refl
put_get (y ∷ xs) i t x h =
    put_get xs i (set t y (Std.Some i)) x (omega (arith, length-set t y (Std.Some i))) ∙ go (eqb x y) refl
  where
    go : (b : Bool) → eqb x y ≡ b → cond (member x xs) (Std.Some i) (get_or (set t y (Std.Some i)) x Std.None) ≡ cond (b || member x xs) (Std.Some i) (get_or t x Std.None)
    go true e =
        let p : y ≡ x = sym (eqb-true x y e) in
        ap (cond (member x xs) (Std.Some i)) (subst (λ z. get_or (set t z (Std.Some i)) x Std.None ≡ Std.Some i) (sym p) (get_or-set_same t x (Std.Some i) Std.None h)) ∙ cond_same (member x xs) (Std.Some i)
    go false e = ap (cond (member x xs) (Std.Some i)) (get_or-set_other t y x (Std.Some i) Std.None (eqb-false x y e))

-- ---- all equations

or_entry : Option ℕ → Std.Option ℕ → Std.Option ℕ
or_entry none v = v
or_entry (some j) v = Std.Some j

later_entry : (o : Option ℕ) (b : Bool) (i : ℕ) (v : Std.Option ℕ) → or_entry o (cond b (Std.Some i) v) ≡ or_entry (later o b i) v
unfolding or_entry
later_entry (some j) b i v = refl
later_entry none true i v = refl
later_entry none false i v = refl

put_all_get : (i : ℕ) (qs : List Equation) (t : Table) (x : ℕ) → x < length t → get_or (put_all i qs t) x Std.None ≡ or_entry (definer_from i qs x) (get_or t x Std.None)
unfolding put_all definer_from or_entry
put_all_get i [] t x h = refl
put_all_get i (q ∷ qs) t x h =
    put_all_get (suc i) qs (put q.names i t) x (omega (arith, length_put q.names i t))
    ∙ (ap (or_entry (definer_from (suc i) qs x)) (put_get q.names i t x h) ∙ later_entry (definer_from (suc i) qs x) (member x q.names) i (get_or t x Std.None))

or_none_entry : (o : Option ℕ) → or_entry o Std.None ≡ as_option o
unfolding or_entry
or_none_entry none = refl
or_none_entry (some j) = refl

-- the whole table, from one in which no name has a definer
definers_is : (qs : List Equation) (t : Table) (x : ℕ) → x < length t → get_or t x Std.None ≡ Std.None → get_or (put_all 0 qs t) x Std.None ≡ as_option (definer qs x)
definers_is qs t x h e = put_all_get 0 qs t x h ∙ (ap (or_entry (definer_from 0 qs x)) e ∙ or_none_entry (definer_from 0 qs x))

length_put_all : (i : ℕ) (qs : List Equation) (t : Table) → length (put_all i qs t) ≡ length t
unfolding put_all
length_put_all i [] t = refl
length_put_all i (q ∷ qs) t = length_put_all (suc i) qs (put q.names i t) ∙ length_put q.names i t

-- ---- the names of an equation, one after the other

-- of names that were read the bytes tell which they are
names_told : (s : List ℕ) (k at : ℕ) (xs : List ℕ) (n : ℕ) → many k (name_r s) at ≡ got xs n → names_at k s at ≡ xs
unfolding many names_at on_places
names_told s zero at xs n e = same_item e
names_told s (suc k) at xs n e =
    let t = steps (name_r s at) _ xs n e in
    let u = steps (many k (name_r s) t.at) _ xs n t.rest in
    ap (λ r. name_at s at ∷ on_places r (names_at k s)) t.first
    ∙ (ap (λ x. x ∷ names_at k s t.at) (name_told s at t.value t.at t.first) ∙ (ap (λ l. t.value ∷ l) (names_told s k t.at u.value u.at u.first) ∙ same_item u.rest))

-- so many names from a place on are the name there and those behind it
module _ (s : List ℕ) (at left : ℕ) {count x : ℕ} (u : count ≡ left + 1) (c : x ≡ name_at s at) {y : Next} (g : y ≡ next_of (name_r s at)) where
  name_first : names_at count s at ≡ x ∷ on_places (name_r s at) (names_at left s)
  unfolding names_at
  name_first =
      let z : count ≡ suc left = omega (arith, u) in
      ap (λ n. names_at n s at) z ∙ ap (λ v. v ∷ on_places (name_r s at) (names_at left s)) (sym c)

  pub names_on : {q : ℕ} → y ≡ Std.Ok q → names_at count s at ≡ x ∷ names_at left s q
  unfolding on_places
  names_on {q} h = name_first ∙ ap (λ r. x ∷ on_places r (names_at left s)) (from_next (name_r s at) q (sym g ∙ h)).1

  pub names_cut : {f : Fault} → y ≡ Std.Err f → names_at count s at ≡ x ∷ []
  unfolding on_places
  names_cut {f} h = name_first ∙ ap (λ r. x ∷ on_places r (names_at left s)) (from_halt (name_r s at) f (sym g ∙ h))

-- w is the table in which the entries of these names, of n, get i
module _ (n i : ℕ) (xs : List ℕ) (table : Table) {w : Table} (e : put (map (key_of n) xs) i table ≡ w) where
  pub puts_end : xs ≡ [] → table ≡ w
  unfolding put
  puts_end h = sym (ap (λ l. put (map (key_of n) l) i table) h) ∙ e

  pub puts_turn : {x : ℕ} {rest : List ℕ} {t : Table} → xs ≡ x ∷ rest → t ≡ set table (key_of n x) (Std.Some i) → put (map (key_of n) rest) i t ≡ w
  unfolding put
  puts_turn {x} {rest} {t} h k = ap (put (map (key_of n) rest) i) k ∙ (sym (ap (λ l. put (map (key_of n) l) i table) h) ∙ e)

-- ---- the equations, one after the other

-- w is the table in which the names of the equations from i on get their indices
module _ (entries : ℕ) (s starts : List ℕ) (table w : Table) (most i : ℕ) (e : put_starts entries s most i (drop i starts) table ≡ w) where
  pub all_end : length starts ≤ i → table ≡ w
  unfolding put_starts
  all_end h = sym (ap (λ k. put_starts entries s most i k table) (drop_of_length-le starts {i = i} h)) ∙ e

  module _ (u : i < length starts) {x : Counting} (g : x ≡ counted_of (count_r s 1 most (get_or starts i 0))) where
    next_start : on_count (count_r s 1 most (get_or starts i 0)) (λ n p. put_starts entries s most (suc i) (drop (suc i) starts) (put (map (key_of entries) (names_at n s p)) i table)) table ≡ w
    unfolding put_starts
    next_start = sym (ap (λ k. put_starts entries s most i k table) (drop-cons starts i 0 u)) ∙ e

    pub all_turn : {n p : ℕ} {t : Table} → x ≡ Std.Ok (counted_at n p) → t ≡ put (map (key_of entries) (names_at n s p)) i table → put_starts entries s most (i + 1) (drop (i + 1) starts) t ≡ w
    all_turn {n} {p} {t} h k =
        rw add-one
        (ap (put_starts entries s most (suc i) (drop (suc i) starts)) k
        ∙ (sym (ap (λ r. on_count r (λ n p. put_starts entries s most (suc i) (drop (suc i) starts) (put (map (key_of entries) (names_at n s p)) i table)) table) (from_items (count_r s 1 most (get_or starts i 0)) n p (sym g ∙ h))) ∙ next_start))

    pub all_not : {f : Fault} → x ≡ Std.Err f → table ≡ w
    all_not {f} h = sym (ap (λ r. on_count r (λ n p. put_starts entries s most (suc i) (drop (suc i) starts) (put (map (key_of entries) (names_at n s p)) i table)) table) (from_no_items (count_r s 1 most (get_or starts i 0)) f (sym g ∙ h))) ∙ next_start

-- of equations that were read the names are theirs
module _ (entries : ℕ) (s : List ℕ) (l : Limits) (enums : ℕ) where
  starts_put : (i : ℕ) (starts : List ℕ) (table : Table) → ((k : ℕ) → k < length starts → (n : ℕ) × (equation_r s l enums (get_or starts k 0) ≡ got (equation_at s l enums (get_or starts k 0)) n)) → put_starts entries s l.names i starts table ≡ put_all i (map (keyed entries) (equations_at s l enums starts)) table
  unfolding put_starts put_all
  starts_put i [] table h = refl
  starts_put i (a ∷ starts) table h =
      let f = h 0 (omega arith) in
      let q = equation_at s l enums a in
      let c = section_at s 1 l.names (name_r s) a q.names _ (equation_at_lem s l enums a q f.0 f.1).names in
      ap (λ r. on_count r (λ n p. put_starts entries s l.names (suc i) starts (put (map (key_of entries) (names_at n s p)) i table)) table) c.counted
      ∙ (ap (λ xs. put_starts entries s l.names (suc i) starts (put (map (key_of entries) xs) i table)) (names_told s (length q.names) (a + 1) q.names _ c.items)
      ∙ starts_put (suc i) starts (put (map (key_of entries) q.names) i table) (λ k g. h (suc k) (omega arith)))

  pub starts_defined : (starts : List ℕ) (table : Table) → Readable s l enums starts → put_starts entries s l.names 0 starts table ≡ put_all 0 (map (keyed entries) (equations_at s l enums starts)) table
  starts_defined starts table rd = starts_put 0 starts table (each_read s l enums rd)

-- ---- a name among those of an equation

-- the definitions' test of a list is the library's
pub any_is : (p : ℕ → Bool) (xs : List ℕ) → list_any p xs ≡ any_of p xs
any_is p [] = refl
any_is p (x ∷ xs) = ap (λ b. p x || b) (any_is p xs)

-- whether the count stands and one of so many names is it
pub defines_told : (s : List ℕ) (most at x : ℕ) {c : Counting} {b : Bool} (P : Counted → Type 0) → c ≡ counted_of (count_r s 1 most at) → MatchResult c P (λ f. b ≡ false) → ((n p : ℕ) → P (counted_at n p) → b ≡ member x (names_at n s p)) → b ≡ defined_at s most at x
unfolding defined_at counted_of
defines_told s most at x {c} {b} P g m h = go (count_r s 1 most at) (subst (λ r. MatchResult r P (λ f. b ≡ false)) g m)
  where
    go : (r : Read ℕ) → MatchResult (counted_of r) P (λ f. b ≡ false) → b ≡ on_defined r (λ n p. member x (names_at n s p))
    go (got n p) v = h n p v
    go (fault n p) v = v

-- of an equation that was read: whether it is one of its names
pub defined_is : (s : List ℕ) (l : Limits) (enums at : ℕ) (q : Equation) (end x : ℕ) → equation_r s l enums at ≡ got q end → defined_at s l.names at x ≡ member x q.names
unfolding defined_at
defined_is s l enums at q end x f =
    let c = section_at s 1 l.names (name_r s) at q.names _ (equation_at_lem s l enums at q end f).names in
    ap (λ r. on_defined r (λ n p. member x (names_at n s p))) c.counted ∙ ap (member x) (names_told s (length q.names) (at + 1) q.names _ c.items)

-- the same of those that start at the places of a table
pub defined_here : (s : List ℕ) (l : Limits) (enums : ℕ) (starts : List ℕ) → Readable s l enums starts → (k x : ℕ) → k < length starts → defined_at s l.names (get_or starts k 0) x ≡ member x (get_or (equations_at s l enums starts) k no_equation).names
defined_here s l enums starts rd k x h =
    let f = each_read s l enums rd k h in
    defined_is s l enums (get_or starts k 0) (equation_at s l enums (get_or starts k 0)) f.0 x f.1 ∙ ap (λ (q : Equation). member x q.names) (sym (equation_here s l enums starts k h))

-- ---- the search from the last equation to the first

definer_last : (i : ℕ) (qs : List Equation) (q : Equation) (x : ℕ) → definer_from i (qs ++ q ∷ []) x ≡ cond (member x q.names) (some (i + length qs)) (definer_from i qs x)
unfolding definer_from
definer_last i [] q x = go (member x q.names)
  where
    go : (b : Bool) → later none b i ≡ cond b (some (i + 0)) none
    go true = let z : i ≡ i + 0 = omega arith in ap some z
    go false = refl
definer_last i (r ∷ qs) q x = ap (λ o. later o (member x r.names) i) (definer_last (suc i) qs q x) ∙ go (member x q.names)
  where
    go : (b : Bool) → later (cond b (some (suc i + length qs)) (definer_from (suc i) qs x)) (member x r.names) i ≡ cond b (some (i + suc (length qs))) (later (definer_from (suc i) qs x) (member x r.names) i)
    go true = let z : suc i + length qs ≡ i + suc (length qs) = omega arith in ap some z
    go false = refl

-- o is the last of the first `left` equations that defines the name
module _ (qs : List Equation) (x left : ℕ) (o : Option ℕ) (e : o ≡ definer (take left qs) x) where
  search_end : left ≤ 0 → Std.None ≡ as_option o
  unfolding definer_from
  search_end h = let z : left ≡ 0 = omega arith in sym (ap as_option (e ∙ ap (λ k. definer (take k qs) x) z))

  module _ (k : ℕ) (f : left ≡ k + 1) (h : k < length qs) where
    last_here : o ≡ cond (member x (get_or qs k no_equation).names) (some k) (definer (take k qs) x)
    last_here =
        let z : left ≡ suc k = omega arith in
        let y : 0 + length (take k qs) ≡ k = omega (arith, length-take-le k qs (omega arith)) in
        e ∙ (ap (λ k. definer (take k qs) x) z
        ∙ (ap (λ v. definer v x) (take-suc qs k no_equation h)
        ∙ (definer_last 0 (take k qs) (get_or qs k no_equation) x ∙ ap (λ j. cond (member x (get_or qs k no_equation).names) (some j) (definer (take k qs) x)) y)))

    search_here : member x (get_or qs k no_equation).names ≡ true → Std.Some k ≡ as_option o
    search_here g = sym (ap as_option (last_here ∙ ap (λ b. cond b (some k) (definer (take k qs) x)) g))

    search_on : member x (get_or qs k no_equation).names ≡ false → o ≡ definer (take k qs) x
    search_on g = last_here ∙ ap (λ b. cond b (some k) (definer (take k qs) x)) g

-- the search, over the places at which the first n equations start
module _ (s : List ℕ) (l : Limits) (enums : ℕ) (starts : List ℕ) (rd : Readable s l enums starts) (x n : ℕ) (h : n ≤ length starts) where
  last_back : (d m : ℕ) → m + d ≡ n → ((k : ℕ) → m ≤ k → k < n → defined_at s l.names (get_or starts k 0) x ≡ false) → definer (take n (equations_at s l enums starts)) x ≡ definer (take m (equations_at s l enums starts)) x
  last_back zero m e f = let z : n ≡ m = omega arith in ap (λ k. definer (take k (equations_at s l enums starts)) x) z
  last_back (suc d) m e f =
      last_back d (m + 1) (omega arith) (λ k a b. f k (omega arith) b)
      ∙ search_on (equations_at s l enums starts) x (m + 1) _ refl m refl (omega (arith, as_many s l enums starts)) (sym (defined_here s l enums starts rd m x (omega arith)) ∙ f m (omega arith) (omega arith))

  pub search_told : (r : Std.Option ℕ) → (r ≡ Std.None → (k : ℕ) → k < n → defined_at s l.names (get_or starts k 0) x ≡ false)
      → ((i : ℕ) → r ≡ Std.Some i → (i < n) × (defined_at s l.names (get_or starts i 0) x ≡ true) × ((k : ℕ) → i < k → k < n → defined_at s l.names (get_or starts k 0) x ≡ false))
      → r ≡ as_option (definer (take n (equations_at s l enums starts)) x)
  search_told Std.None a b = search_end (equations_at s l enums starts) x 0 _ (last_back n 0 (omega arith) (λ k _. a refl k)) (omega arith)
  search_told (Std.Some i) a b =
      let t = b i refl in
      search_here (equations_at s l enums starts) x (i + 1) _ (last_back (n - (i + 1)) (i + 1) (omega (arith, t.0)) (λ k g. t.2 k (omega arith))) i refl (omega (arith, t.0, as_many s l enums starts))
      (sym (defined_here s l enums starts rd i x (omega (arith, t.0))) ∙ t.1)

-- ---- the first n equations

pub equations_take : (s : List ℕ) (l : Limits) (enums : ℕ) (n : ℕ) (starts : List ℕ) → equations_at s l enums (take n starts) ≡ take n (equations_at s l enums starts)
equations_take s l enums zero starts = refl
equations_take s l enums (suc n) [] = refl
equations_take s l enums (suc n) (a ∷ starts) = ap (λ v. equation_at s l enums a ∷ v) (equations_take s l enums n starts)

pub readable_take : {s : List ℕ} {l : Limits} {enums : ℕ} {starts : List ℕ} (n : ℕ) → Readable s l enums starts → n ≤ length starts → Readable s l enums (take n starts)
readable_take {s} {l} {enums} {starts} n rd h =
    let len : length (take n starts) ≡ n = length-take-le n starts h in
    record {
      each = λ k i. subst (λ p. is_got (equation_r s l enums p) ≡ true) (sym (get_or-take n starts k 0 (omega (arith, len)))) (rd.each k (omega (arith, len)));
      few = omega (arith, len, rd.few);
    }

-- ---- names with the same entry

later_none : (o : Option ℕ) (b : Bool) (i : ℕ) → later o b i ≡ none → (o ≡ none) × (b ≡ false)
later_none (some j) b i e = let z : ◌≡◌ {A = ℕ} 0 1 = cc in absurd (omega arith)
later_none none true i e = let z : ◌≡◌ {A = ℕ} 0 1 = cc in absurd (omega arith)
later_none none false i e = (refl, refl)

or_none : (a b : Bool) → (a || b) ≡ false → (a ≡ false) × (b ≡ false)
or_none true b e = let z : ◌≡◌ {A = ℕ} 0 1 = cc in absurd (omega arith)
or_none false b e = (refl, e)

-- a name is not there if its entry, of n, is not
key_out : (n x : ℕ) (xs : List ℕ) → member (key_of n x) (map (key_of n) xs) ≡ false → member x xs ≡ false
key_out n x [] e = refl
key_out n x (y ∷ xs) e =
    let w = or_none (eqb (key_of n x) (key_of n y)) (member (key_of n x) (map (key_of n) xs)) e in
    ap (λ b. b || member x xs) (ne_eqb x y (λ h. eqb-false (key_of n x) (key_of n y) w.0 (ap (key_of n) h))) ∙ key_out n x xs w.1

keyed_none : (n i : ℕ) (qs : List Equation) (x : ℕ) → definer_from i (map (keyed n) qs) (key_of n x) ≡ none → definer_from i qs x ≡ none
unfolding definer_from
keyed_none n i [] x e = refl
keyed_none n i (q ∷ qs) x e =
    let w = later_none (definer_from (suc i) (map (keyed n) qs) (key_of n x)) (member (key_of n x) (map (key_of n) q.names)) i e in
    ap (λ o. later o (member x q.names) i) (keyed_none n (suc i) qs x w.0) ∙ ap (λ b. later none b i) (key_out n x q.names w.1)

-- no equation behind the last one with the name's entry defines the name
keyed_some : (n i : ℕ) (qs : List Equation) (x d : ℕ) → definer_from i (map (keyed n) qs) (key_of n x) ≡ some d → definer_from i qs x ≡ definer_from i (take (suc d - i) qs) x
unfolding definer_from
keyed_some n i [] x d e = let z : ◌≡◌ {A = ℕ} 0 1 = cc in absurd (omega arith)
keyed_some n i (q ∷ qs) x d e = go (definer_from (suc i) (map (keyed n) qs) (key_of n x)) refl (keyed_some n (suc i) qs x d)
  where
    go : (o : Option ℕ) → definer_from (suc i) (map (keyed n) qs) (key_of n x) ≡ o → (definer_from (suc i) (map (keyed n) qs) (key_of n x) ≡ some d → definer_from (suc i) qs x ≡ definer_from (suc i) (take (suc d - suc i) qs) x) → later (definer_from (suc i) qs x) (member x q.names) i ≡ definer_from i (take (suc d - i) (q ∷ qs)) x
    go (some j) f h =
        let y : some j ≡ some d = sym (ap (λ o. later o (member (key_of n x) (map (key_of n) q.names)) i) f) ∙ e in
        let jd : j ≡ d = cc in
        let g : definer_from (suc i) (map (keyed n) qs) (key_of n x) ≡ some d = f ∙ y in
        let z : suc d - i ≡ suc (suc d - suc i) = omega (arith, (definer_inside (suc i) (map (keyed n) qs) (key_of n x) d g).0) in
        ap (λ o. later o (member x q.names) i) (h g) ∙ sym (ap (λ k. definer_from i (take k (q ∷ qs)) x) z)
    go none f h =
        let y : later none (member (key_of n x) (map (key_of n) q.names)) i ≡ some d = sym (ap (λ o. later o (member (key_of n x) (map (key_of n) q.names)) i) f) ∙ e in
        let id : i ≡ d = ⊎_elim (λ v. let z : ◌≡◌ {A = ℕ} 0 1 = cc in absurd (omega arith)) (λ v. v.1) (later_cases none (member (key_of n x) (map (key_of n) q.names)) i d y) in
        let z : suc d - i ≡ 1 = omega arith in
        ap (λ o. later o (member x q.names) i) (keyed_none n (suc i) qs x f) ∙ sym (ap (λ k. definer_from i (take k (q ∷ qs)) x) z)

-- names below n are their own entries
low_member : (n x : ℕ) (xs : List ℕ) → ((y : ℕ) → n ≤ y → member y xs ≡ false) → member x (map (key_of n) xs) ≡ member x xs
low_member n x [] h = refl
low_member n x (y ∷ xs) h =
    let below : y < n = by_cases (dec_le n y) (λ g. absurd (never y (or_none (eqb y y) (member y xs) (h y g)).0)) (λ g. omega arith) in
    let z : key_of n y ≡ y = mod-eq_of_lt below in
    ap (λ k. eqb x k || member x (map (key_of n) xs)) z ∙ ap (λ b. eqb x y || b) (low_member n x xs (λ v g. (or_none (eqb v y) (member v xs) (h v g)).1))
  where
    never : (y : ℕ) → eqb y y ≡ false → ⊥
    never y e = eqb-false y y e refl

low_keyed : (n i : ℕ) (qs : List Equation) (x : ℕ) → ((y : ℕ) → n ≤ y → definer_from i qs y ≡ none) → definer_from i (map (keyed n) qs) x ≡ definer_from i qs x
unfolding definer_from
low_keyed n i [] x h = refl
low_keyed n i (q ∷ qs) x h =
    ap (λ o. later o (member x (map (key_of n) q.names)) i) (low_keyed n (suc i) qs x (λ y g. (later_none (definer_from (suc i) qs y) (member y q.names) i (h y g)).0))
    ∙ ap (λ b. later (definer_from (suc i) qs x) b i) (low_member n x q.names (λ y g. (later_none (definer_from (suc i) qs y) (member y q.names) i (h y g)).1))

-- ---- what the table says of a name

module _ {n : ℕ} {qs : List Equation} {low : Bool} {table : Table} (df : Definers n qs low table) (x : ℕ) where
  pub entry_some : {d : ℕ} → Std.Some d ≡ get_or table (key_of n x) Std.None → (d < length qs) × (definer (take (d + 1) qs) x ≡ definer qs x)
  entry_some {d} h =
      let e = found_some (definer (map (keyed n) qs) (key_of n x)) (h ∙ df.is x) in
      let z : suc d - 0 ≡ d + 1 = omega arith in
      (omega (arith, (definer_inside 0 (map (keyed n) qs) (key_of n x) d e).1, length-map qs (keyed n)), sym (keyed_some n 0 qs x d e ∙ ap (λ k. definer (take k qs) x) z))

  pub entry_none : Std.None ≡ get_or table (key_of n x) Std.None → Std.None ≡ as_option (definer qs x)
  entry_none h = sym (ap as_option (keyed_none n 0 qs x (found_none (definer (map (keyed n) qs) (key_of n x)) (h ∙ df.is x))))

pub definers_made : (n : ℕ) (qs : List Equation) (low : Bool) (t w : Table) → 0 < n → Blank n qs low t → w ≡ put_all 0 (map (keyed n) qs) t → Definers n qs low w
definers_made n qs low t w pos blank e =
    record {
      is = λ x. entry (key_of n x) (omega (arith, mod-lt x pos, blank.long));
      lows = λ g x. by_cases (dec_le n x) (λ h. get_or-eq_default w Std.None (omega (arith, ap length e, length_put_all 0 (map (keyed n) qs) t, blank.long)) ∙ sym (ap as_option (blank.lows g x h))) (λ h. entry x (omega (arith, blank.long)) ∙ ap as_option (low_keyed n 0 qs x (blank.lows g)));
    }
  where
    entry : (x : ℕ) → x < length t → get_or w x Std.None ≡ as_option (definer (map (keyed n) qs) x)
    entry x h = ap (λ (l : Table). get_or l x Std.None) e ∙ definers_is (map (keyed n) qs) t x h (blank.is x)

-- ---- how many entries a file's table has

pub entries_within : (s : List ℕ) → (256 ≤ entries_for s) × (entries_for s ≤ 1024)
entries_within s = go (ltb 256 (length s))
  where
    go : (b : Bool) → (256 ≤ cond b 1024 256) × (cond b 1024 256 ≤ 1024)
    go true = (omega arith, omega arith)
    go false = (omega arith, omega arith)

pub entries_short : (s : List ℕ) → length s ≤ 256 → 256 ≡ entries_for s
entries_short s h = sym (ap (λ b. cond b 1024 256) (le-ltb 256 (length s) h))

pub entries_long : (s : List ℕ) → 256 < length s → 1024 ≡ entries_for s
entries_long s h = sym (ap (λ b. cond b 1024 256) (lt-ltb 256 (length s) h))
