-- What the table by name says: which names are visible, and that a node's variables leave no trace.
use Prim.Native.Nat.{ℕ, ◌+◌, ◌≤◌, ◌<◌}
use mathlib.Core.Bool.{Bool, true, false, not, ◌||◌, cond}
use mathlib.Core.List.{List, [], ◌∷◌, ◌++◌, map}
use mathlib.Core.Logic.{by_cases}
use mathlib.Core.Path.{◌≡◌, refl, sym, ap, subst, ◌∙◌}
use native.Mathlib.Omega.{arith}
use native.Mathlib.Decide.{dec_le}
use lib.ListN.{length, get_or, set, length-set, get_or-eq_default}
use lib.Seq.{get_or-set_same, get_or-set_other, ext_get_or, set_out}
use lib.Dec.{leb, eqb}
use borrow.Author.Tests.{le-leb, lt-leb, ne_eqb, eqb-false, eq-eqb}
use Rattle.ol_spec.specs.Lists.{member}
use Rattle.ol_spec.specs.Syntax.{Variable}
use Rattle.ol_tables.specs.Tables.{Each}
use Rattle.ol_check.specs.Judging.{Knows}
use Rattle.ol_check.specs.Entries.{declared, forgot, declare_all, forget_all, variable_entries, Global}

-- ---- one after the other

pub declare_append : (names : List ℕ) (ds es : List (ℕ × ℕ)) → declare_all names (ds ++ es) ≡ declare_all (declare_all names ds) es
unfolding declare_all
declare_append names [] es = refl
declare_append names (d ∷ ds) es = declare_append (declared names d.0 d.1) ds es

pub forget_append : (names xs ys : List ℕ) → forget_all names (xs ++ ys) ≡ forget_all (forget_all names xs) ys
unfolding forget_all
forget_append names [] ys = refl
forget_append names (x ∷ xs) ys = forget_append (forgot names x) xs ys

pub entries_append : (first : ℕ) (vs ws : List Variable) → variable_entries first (vs ++ ws) ≡ variable_entries first vs ++ variable_entries (first + length vs) ws
entries_append first [] ws = ap (λ n. variable_entries n ws) (omega arith)
entries_append first (v ∷ vs) ws =
    ap (λ l. (v.name, first + 1) ∷ l) (entries_append (first + 1) vs ws ∙ ap (λ n. variable_entries (first + 1) vs ++ variable_entries n ws) (omega arith))

-- ---- lengths

pub cond_length : (b : Bool) (names : List ℕ) (x e : ℕ) → length (cond b (set names x e) names) ≡ length names
cond_length true names x e = length-set names x e
cond_length false names x e = refl

pub declare_length : (names : List ℕ) (ds : List (ℕ × ℕ)) → length (declare_all names ds) ≡ length names
unfolding declare_all
declare_length names [] = refl
declare_length names (d ∷ ds) = declare_length (declared names d.0 d.1) ds ∙ cond_length (eqb (get_or names d.0 0) 0) names d.0 d.1

-- ---- one entry

-- equal or not
pub eq_cases : {P : Type 0} (y x : ℕ) → (y ≡ x → P) → ((y ≡ x → ⊥) → P) → P
eq_cases y x f g = by_cases (dec_le y x) (λ a. by_cases (dec_le x y) (λ b. f (omega arith)) (λ nb. g (λ e. omega arith))) (λ na. g (λ e. omega arith))

-- a store of one entry, or none
put_other : (b : Bool) (names : List ℕ) (x e y : ℕ) → (y ≡ x → ⊥) → get_or (cond b (set names x e) names) y 0 ≡ get_or names y 0
put_other true names x e y ne = get_or-set_other names x y e 0 ne
put_other false names x e y ne = refl

pub declared_other : (names : List ℕ) (x e y : ℕ) → (y ≡ x → ⊥) → get_or (declared names x e) y 0 ≡ get_or names y 0
declared_other names x e y ne = put_other (eqb (get_or names x 0) 0) names x e y ne

forgot_other : (names : List ℕ) (x y : ℕ) → (y ≡ x → ⊥) → get_or (forgot names x) y 0 ≡ get_or names y 0
forgot_other names x y ne = put_other (leb (get_or names x 0) 112) names x 0 y ne

pub declared_taken : (names : List ℕ) (x e : ℕ) → (get_or names x 0 ≡ 0 → ⊥) → declared names x e ≡ names
declared_taken names x e h = rw (ne_eqb (get_or names x 0) 0 h) refl

pub declared_free : (names : List ℕ) (x e : ℕ) → get_or names x 0 ≡ 0 → declared names x e ≡ set names x e
declared_free names x e z = rw z refl

set_small : (names : List ℕ) (x e n : ℕ) → e ≤ n → get_or names x 0 ≤ n → get_or (set names x e) x 0 ≤ n
set_small names x e n he hn =
    by_cases (dec_le (length names) x) (λ out. subst (λ l. get_or l x 0 ≤ n) (sym (set_out names x e out)) hn)
    (λ lt. let q = get_or-set_same names x e 0 (omega arith) in omega arith)

-- ---- visible names

member_move : (y x : ℕ) (a b : List ℕ) → member y (a ++ (x ∷ b)) ≡ member y (x ∷ (a ++ b))
member_move y x [] b = refl
member_move y x (z ∷ a) b = ap (λ m. eqb y z || m) (member_move y x a b) ∙ swap (eqb y z) (eqb y x) (member y (a ++ b))
  where
    swap : (p q r : Bool) → p || (q || r) ≡ q || (p || r)
    swap true true r = refl
    swap true false r = refl
    swap false q r = refl

pub knows_step : (names visible : List ℕ) (x e : ℕ) → Knows names visible → x < length names → 1 ≤ e → Knows (declared names x e) (x ∷ visible)
knows_step names visible x e k lt he y =
    eq_cases y x
    (λ q. rw (q, eq-eqb x x refl)
    (eq_cases (get_or names x 0) 0
    (λ z. rw (declared_free names x e z, get_or-set_same names x e 0 lt) (ne_eqb e 0 (λ w. omega arith)))
    (λ nz. rw (declared_taken names x e nz) (ne_eqb (get_or names x 0) 0 nz))))
    (λ ne. rw (declared_other names x e y ne, ne_eqb y x ne) (k y))

-- an entry that may be made: within the table, and not 0
abbrev pub Enterable : ℕ → ℕ × ℕ → Type 0
Enterable n d = (d.0 < n) × (1 ≤ d.1)

abbrev first_of : ℕ × ℕ → ℕ
first_of d = d.0

pub knows_all : (names visible : List ℕ) (ds : List (ℕ × ℕ)) → Knows names visible → Each (Enterable (length names)) ds → Knows (declare_all names ds) (map first_of ds ++ visible)
unfolding declare_all
knows_all names visible [] k ok = k
knows_all names visible (d ∷ ds) k ok =
    let names' = declared names d.0 d.1 in
    let same = cond_length (eqb (get_or names d.0 0) 0) names d.0 d.1 in
    let w = knows_all names' (d.0 ∷ visible) ds (knows_step names visible d.0 d.1 k ok.0.0 ok.0.1) (subst (λ n. Each (Enterable n) ds) (sym same) ok.1) in
    λ y. w y ∙ ap not (member_move y d.0 (map first_of ds) visible)

-- ---- taking back

declare_low : (y : ℕ) (names : List ℕ) (ds : List (ℕ × ℕ)) → Each (λ d. d.1 ≤ 112) ds → get_or names y 0 ≤ 112 → get_or (declare_all names ds) y 0 ≤ 112
unfolding declare_all
declare_low y names [] ok h = h
declare_low y names (d ∷ ds) ok h =
    declare_low y (declared names d.0 d.1) ds ok.1
    (eq_cases y d.0
    (λ q. rw q (eq_cases (get_or names d.0 0) 0
    (λ z. rw (declared_free names d.0 d.1 z) (set_small names d.0 d.1 112 ok.0 (omega arith)))
    (λ nz. rw (declared_taken names d.0 d.1 nz) (omega (arith, ap (λ n. get_or names n 0) q)))))
    (λ ne. omega (arith, declared_other names d.0 d.1 y ne)))

pub declare_high : (y : ℕ) (names : List ℕ) (ds : List (ℕ × ℕ)) → 1 ≤ get_or names y 0 → get_or (declare_all names ds) y 0 ≡ get_or names y 0
unfolding declare_all
declare_high y names [] h = refl
declare_high y names (d ∷ ds) h =
    let one : get_or (declared names d.0 d.1) y 0 ≡ get_or names y 0 =
    eq_cases y d.0 (λ q. ap (λ l. get_or l y 0) (declared_taken names d.0 d.1 (λ z. omega (arith, ap (λ n. get_or names n 0) q)))) (λ ne. declared_other names d.0 d.1 y ne) in
    declare_high y (declared names d.0 d.1) ds (omega arith) ∙ one

declare_other : (y : ℕ) (names : List ℕ) (ds : List (ℕ × ℕ)) → member y (map first_of ds) ≡ false → get_or (declare_all names ds) y 0 ≡ get_or names y 0
unfolding declare_all
declare_other y names [] m = refl
declare_other y names (d ∷ ds) m =
    let w = or_false (eqb y d.0) (member y (map first_of ds)) m in
    declare_other y (declared names d.0 d.1) ds w.1 ∙ declared_other names d.0 d.1 y (eqb-false y d.0 w.0)
  where
    or_false : (a b : Bool) → a || b ≡ false → (a ≡ false) × (b ≡ false)
    or_false true b e = let z : ◌≡◌ {A = ℕ} 0 1 = cc in absurd (omega arith)
    or_false false b e = (refl, e)

forget_high : (y : ℕ) (names xs : List ℕ) → 112 < get_or names y 0 → get_or (forget_all names xs) y 0 ≡ get_or names y 0
unfolding forget_all
forget_high y names [] h = refl
forget_high y names (x ∷ xs) h =
    let one : get_or (forgot names x) y 0 ≡ get_or names y 0 =
    eq_cases y x (λ q. rw (lt-leb (get_or names x 0) 112 (omega (arith, ap (λ n. get_or names n 0) q))) refl) (λ ne. forgot_other names x y ne) in
    forget_high y (forgot names x) xs (omega arith) ∙ one

forget_low : (y : ℕ) (names xs : List ℕ) → get_or names y 0 ≤ 112 → (member y xs ≡ false → get_or names y 0 ≡ 0) → get_or (forget_all names xs) y 0 ≡ 0
unfolding forget_all
forget_low y names [] h z = z refl
forget_low y names (x ∷ xs) h z =
    eq_cases y x
    (λ q.
    let gone : get_or (forgot names x) y 0 ≤ 0 = rw (q, le-leb (get_or names x 0) 112 (omega (arith, ap (λ n. get_or names n 0) q))) (zero_set names x) in
    forget_low y (forgot names x) xs (omega arith) (λ m. omega arith))
    (λ ne.
    let same = forgot_other names x y ne in
    forget_low y (forgot names x) xs (omega arith) (λ m. same ∙ z (rw (ne_eqb y x ne) m)))
  where
    zero_set : (names : List ℕ) (x : ℕ) → get_or (set names x 0) x 0 ≤ 0
    zero_set names x = by_cases (dec_le (length names) x) (λ out. rw (set_out names x 0 out) (omega (arith, get_or-eq_default names 0 out))) (λ lt. omega (arith, get_or-set_same names x 0 0 (omega arith)))

forget_length : (names xs : List ℕ) → length (forget_all names xs) ≡ length names
unfolding forget_all
forget_length names [] = refl
forget_length names (x ∷ xs) = forget_length (forgot names x) xs ∙ cond_length (leb (get_or names x 0) 112) names x 0

-- entered and taken back, the table is as before
pub restored : (names : List ℕ) (ds : List (ℕ × ℕ)) → Global names → Each (λ d. d.1 ≤ 112) ds → forget_all (declare_all names ds) (map first_of ds) ≡ names
restored names ds global ok =
    ext_get_or 0 (forget_all (declare_all names ds) (map first_of ds)) names (forget_length _ (map first_of ds) ∙ declare_length names ds) (λ y lt.
    by_cases (dec_le (get_or names y 0) 112)
    (λ low. forget_low y (declare_all names ds) (map first_of ds) (declare_low y names ds ok low) (λ m. declare_other y names ds m ∙ global y low) ∙ sym (global y low))
    (λ high.
    let same = declare_high y names ds (omega arith) in
    forget_high y (declare_all names ds) (map first_of ds) (omega arith) ∙ same))
