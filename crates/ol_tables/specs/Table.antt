-- The table of a file, as bytes (src/table.rt): its parts. What they say of the file is in Tables, of `rows`, `tab` and the constants' cells.
use Rattle.std.specs.Prelude.{ℕ, ◌+◌, ◌-◌, ◌*◌, ◌/◌, ◌%◌, ◌<◌, ◌≤◌, cond, List, map, ◌≡◌, ltb, length, take, drop, get_or, set}
use Rattle.ol_theory.specs.Member.{upto}
use Rattle.ol_tables.specs.Tables.{two_at, plans_from, start_at}

-- number i of the rows: three bytes
abbrev pub number_at : List ℕ → ℕ → ℕ
number_at t i = get_or t (3 * i) 0 * 65536 + get_or t (3 * i + 1) 0 * 256 + get_or t (3 * i + 2) 0

-- the rows
unfoldable pub rows_of : List ℕ → List ℕ
rows_of t = map (number_at t) (upto 272)

-- how many cells of constants are known, and these cells: behind their number, but in a wide table at its end
abbrev pub known_of : List ℕ → ℕ
known_of t = two_at t 816

abbrev pub consts_from : List ℕ → ℕ
consts_from t = cond (ltb (length t) 69747) 818 (length t - 18432)

abbrev pub consts_of : List ℕ → List ℕ
consts_of t = take (9 * known_of t) (drop (consts_from t) t)

-- the orders, the nodes' numbers, the slots and the plans
abbrev pub tab_of : List ℕ → List ℕ
tab_of t = drop 1394 t

-- how many bytes the slots have, and the plans
abbrev pub half_of : List ℕ → ℕ
half_of t = (length t - 4210) / 2

-- where the types of node k's variables start
abbrev pub types_at : List ℕ → ℕ → ℕ
types_at t k = 1394 + plans_from (tab_of t) + start_at (tab_of t) k

-- number i is stored
abbrev pub number_put : List ℕ → ℕ → ℕ → List ℕ
number_put t i n = set (set (set t (3 * i) (n / 65536)) (3 * i + 1) (n / 256 % 256)) (3 * i + 2) (n % 256)

-- the numbers of rows from index `first` up to `last` are stored, and nothing else is
pub record Packs (rows : List ℕ) (first last : ℕ) (t t' : List ℕ) : Type 0 where
  pub put : (i : ℕ) → first ≤ i → i < last → number_at t' i ≡ get_or rows i 0
  pub before : (i : ℕ) → i < first → number_at t' i ≡ number_at t i
  pub behind : (i : ℕ) → last ≤ i → i < 272 → number_at t' i ≡ number_at t i
  pub rest : drop 816 t' ≡ drop 816 t
