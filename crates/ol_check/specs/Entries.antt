-- The table by name: entry 0 for none, a variable's index and 1, a constant's index and 113, 255 for a variant. The first entry of a name stays.
use Rattle.std.specs.Prelude.{ℕ, ◌+◌, ◌≤◌, cond, List, [], ◌∷◌, ◌≡◌, get_or, set, eqb, leb}
use Rattle.ol_spec.specs.Syntax.{Variable, Constant}

-- a name is entered, unless it has an entry; its entry is taken back, if it is a variable's
abbrev pub declared : List ℕ → ℕ → ℕ → List ℕ
declared names x e = cond (eqb (get_or names x 0) 0) (set names x e) names

abbrev pub forgot : List ℕ → ℕ → List ℕ
forgot names x = cond (leb (get_or names x 0) 112) (set names x 0) names

-- so many names with their entries
unfoldable pub declare_all : List ℕ → List (ℕ × ℕ) → List ℕ
declare_all names [] = names
declare_all names (d ∷ ds) = declare_all (declared names d.0 d.1) ds

unfoldable pub forget_all : List ℕ → List ℕ → List ℕ
forget_all names [] = names
forget_all names (x ∷ xs) = forget_all (forgot names x) xs

-- the entries of variables, the first being number `first`; of constants; of variants
abbrev pub variable_entries : ℕ → List Variable → List (ℕ × ℕ)
variable_entries first [] = []
variable_entries first (v ∷ vs) = (v.name, first + 1) ∷ variable_entries (first + 1) vs

abbrev pub constant_entries : ℕ → List Constant → List (ℕ × ℕ)
constant_entries first [] = []
constant_entries first (c ∷ cs) = (c.name, first + 113) ∷ constant_entries (first + 1) cs

abbrev pub variant_entry : ℕ → ℕ × ℕ
variant_entry x = (x, 255)

-- the entry of a name among declarations
abbrev pub entry_in : List (ℕ × ℕ) → ℕ → ℕ
entry_in [] x = 0
entry_in (d ∷ ds) x = cond (eqb x d.0) d.1 (entry_in ds x)

-- the entries of names with their places, the first being number `first`
abbrev pub entries_from : ℕ → List (ℕ × ℕ) → List (ℕ × ℕ)
entries_from first [] = []
entries_from first (p ∷ ps) = (p.1, first + 1) ∷ entries_from (first + 1) ps

-- the table outside a node: no entry is a variable's
abbrev pub Global : List ℕ → Type 0
Global names = (y : ℕ) → get_or names y 0 ≤ 112 → get_or names y 0 ≡ 0
