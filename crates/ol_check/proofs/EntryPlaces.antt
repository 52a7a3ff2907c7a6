-- The entry of a name after declarations, by its position among them.
use Prim.Native.Nat.{ℕ, suc, ◌+◌, ◌<◌}
use mathlib.Core.Bool.{Bool, true, false, ◌||◌, cond}
use mathlib.Core.List.{List, [], ◌∷◌, map}
use mathlib.Core.Option.{Option, none, some}
use mathlib.Core.Path.{◌≡◌, refl, sym, ap, subst, ◌∙◌}
use native.Mathlib.Omega.{arith}
use lib.ListN.{length, get_or}
use lib.Seq.{get_or-set_same}
use lib.Dec.{eqb}
use borrow.Author.Tests.{ne_eqb, eq-eqb}
use Rattle.ol_spec.specs.Lists.{maybe, member, position, position_if}
use Rattle.ol_spec.specs.Syntax.{Variable, Constant, name_of, constant_name}
use Rattle.ol_tables.specs.Tables.{Each}
use Rattle.ol_check.specs.Entries.{declared, declare_all, variable_entries, constant_entries, variant_entry, entry_in}
use Rattle.ol_check.proofs.EntryLaws.{Enterable, eq_cases, declared_other, declared_free, declare_high, cond_length}

-- ---- the entry of a name after declarations

-- a free entry gets that of the first declaration of its name
pub declare_free : (x : ℕ) (names : List ℕ) (ds : List (ℕ × ℕ)) → Each (Enterable (length names)) ds → get_or names x 0 ≡ 0 → get_or (declare_all names ds) x 0 ≡ entry_in ds x
unfolding declare_all
declare_free x names [] ok z = z
declare_free x names (d ∷ ds) ok z =
    let names' = declared names d.0 d.1 in
    let same = cond_length (eqb (get_or names d.0 0) 0) names d.0 d.1 in
    eq_cases x d.0
    (λ q.
    let zd : get_or names d.0 0 ≡ 0 = ap (λ n. get_or names n 0) (sym q) ∙ z in
    let put : get_or names' x 0 ≡ d.1 = ap (λ n. get_or names' n 0) q ∙ ap (λ l. get_or l d.0 0) (declared_free names d.0 d.1 zd) ∙ get_or-set_same names d.0 d.1 0 ok.0.0 in
    declare_high x names' ds (omega (arith, ok.0.1)) ∙ put ∙ sym (ap (λ b. cond b d.1 (entry_in ds x)) (eq-eqb x d.0 q)))
    (λ ne.
    declare_free x names' ds (subst (λ n. Each (Enterable n) ds) (sym same) ok.1) (declared_other names d.0 d.1 x ne ∙ z)
    ∙ sym (ap (λ b. cond b d.1 (entry_in ds x)) (ne_eqb x d.0 ne)))

-- ---- the entries by position

pub variable_entry : (x first : ℕ) (vs : List Variable) → entry_in (variable_entries first vs) x ≡ maybe 0 (λ i. first + i + 1) (position x (map name_of vs))
variable_entry x first [] = refl
variable_entry x first (v ∷ vs) = go (eqb x v.name) (position x (map name_of vs)) (variable_entry x (first + 1) vs)
  where
    go : (b : Bool) (p : Option ℕ) → entry_in (variable_entries (first + 1) vs) x ≡ maybe 0 (λ i. first + 1 + i + 1) p → cond b (first + 1) (entry_in (variable_entries (first + 1) vs) x) ≡ maybe 0 (λ i. first + i + 1) (position_if b p)
    go true p h = omega arith
    go false none h = h
    go false (some i) h = h ∙ omega arith

pub constant_entry : (x first : ℕ) (cs : List Constant) → entry_in (constant_entries first cs) x ≡ maybe 0 (λ i. first + i + 113) (position x (map constant_name cs))
constant_entry x first [] = refl
constant_entry x first (c ∷ cs) = go (eqb x c.name) (position x (map constant_name cs)) (constant_entry x (first + 1) cs)
  where
    go : (b : Bool) (p : Option ℕ) → entry_in (constant_entries (first + 1) cs) x ≡ maybe 0 (λ i. first + 1 + i + 113) p → cond b (first + 113) (entry_in (constant_entries (first + 1) cs) x) ≡ maybe 0 (λ i. first + i + 113) (position_if b p)
    go true p h = omega arith
    go false none h = h
    go false (some i) h = h ∙ omega arith

pub variant_entry_lem : (x : ℕ) (xs : List ℕ) → entry_in (map variant_entry xs) x ≡ cond (member x xs) 255 0
variant_entry_lem x [] = refl
variant_entry_lem x (y ∷ xs) = go (eqb x y) (member x xs) (variant_entry_lem x xs)
  where
    go : (b m : Bool) → entry_in (map variant_entry xs) x ≡ cond m 255 0 → cond b 255 (entry_in (map variant_entry xs) x) ≡ cond (b || m) 255 0
    go true m h = refl
    go false m h = h

-- a name's position is that of a member, within the list
pub position_at : (x i : ℕ) (xs : List ℕ) → position x xs ≡ some i → (i < length xs) × (member x xs ≡ true)
position_at x i [] e = let z : ◌≡◌ {A = ℕ} 0 1 = cc in absurd (omega arith)
position_at x i (y ∷ xs) e = go (eqb x y) (position x xs) (λ j q. position_at x j xs q) e
  where
    go : (b : Bool) (p : Option ℕ) → ((j : ℕ) → p ≡ some j → (j < length xs) × (member x xs ≡ true)) → position_if b p ≡ some i → (i < suc (length xs)) × (b || member x xs ≡ true)
    go true p h e = let z : 0 ≡ i = cc in (omega arith, refl)
    go false none h e = let z : ◌≡◌ {A = ℕ} 0 1 = cc in absurd (omega arith)
    go false (some j) h e = let z : suc j ≡ i = cc in let w = h j refl in (omega (arith, w.0), w.1)

-- a name that is no member has no position
pub position_none : (x : ℕ) (xs : List ℕ) → member x xs ≡ false → position x xs ≡ none
position_none x xs m = go (position x xs) (λ i q. position_at x i xs q)
  where
    go : (p : Option ℕ) → ((i : ℕ) → p ≡ some i → (i < length xs) × (member x xs ≡ true)) → p ≡ none
    go none h = refl
    go (some i) h = let w = (h i refl).1 in let z : ◌≡◌ {A = ℕ} 0 1 = cc in absurd (omega arith)
