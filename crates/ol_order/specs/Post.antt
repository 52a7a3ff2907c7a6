-- What the functions of the ordering ask and give.
use Rattle.std.specs.Prelude.{ℕ, suc, ◌+◌, ◌-◌, ◌≤◌, ◌<◌, Bool, true, false, List, map, ◌≡◌, length, get_or, take, drop, Result, Ok, Err}
use Rattle.std.specs.Prelude as Std
use Rattle.std.proofs.Math.Option.{none}
use Rattle.std.proofs.lemmas.List.Edits.{sets}
use Rattle.ol_spec.specs.Lists.{member}
use Rattle.ol_spec.specs.Syntax.{Equation}
use Rattle.ol_spec.specs.Read.{got, equation_r, node_r}
use Rattle.ol_spec.specs.Order.{definer, order, unplaced}
use Rattle.ol_spec.specs.declared.Limits.{Limits}
use Rattle.ol_order.specs.Tables.{Table, is_got, key_of, keyed, no_equation, node_at, as_option, as_error, waited, waiting}

-- an equation is read at each of these places
pub record Readable (s : List ℕ) (l : Limits) (enums : ℕ) (starts : List ℕ) : Type 0 where
  pub each : (k : ℕ) → k < length starts → is_got (equation_r s l enums (get_or starts k 0)) ≡ true
  pub few : length starts ≤ 80

-- a node is read at the place
pub record NodeReads (s : List ℕ) (l : Limits) (enums at : ℕ) : Type 0 where
  pub end : ℕ
  pub is : node_r s l enums at ≡ got (node_at s l enums at) end
  pub few : l.equations ≤ 80

-- no name has a definer in the table of n entries yet, and with `low` no equation defines a name from n on
pub record Blank (n : ℕ) (qs : List Equation) (low : Bool) (table : Table) : Type 0 where
  pub is : (x : ℕ) → get_or table x Std.None ≡ Std.None
  pub long : n ≡ length table
  pub lows : low ≡ true → (x : ℕ) → n ≤ x → definer qs x ≡ none

-- a name's entry, of n, has the last equation that defines a name with the same entry; with `low` each name's own place has its last definer
pub record Definers (n : ℕ) (qs : List Equation) (low : Bool) (table : Table) : Type 0 where
  pub is : (x : ℕ) → get_or table (key_of n x) Std.None ≡ as_option (definer (map (keyed n) qs) (key_of n x))
  pub lows : low ≡ true → (x : ℕ) → get_or table x Std.None ≡ as_option (definer qs x)

-- the list of equation k, from its beginning up to the next one's, has the definers that it waits for
pub record Waits (qs : List Equation) (lists begins : List ℕ) : Type 0 where
  pub long : length begins ≡ suc (length qs)
  pub rising : (k : ℕ) → k < length qs → get_or begins k 0 ≤ get_or begins (suc k) 0
  pub inside : (k : ℕ) → k < length qs → get_or begins (suc k) 0 ≤ length lists
  pub is : (k : ℕ) → k < length qs → take (get_or begins (suc k) 0 - get_or begins k 0) (drop (get_or begins k 0) lists) ≡ waited qs (get_or qs k no_equation)

-- the lists of some equations, at most 80, and a buffer with one entry for each
pub record Listed (lists begins order : List ℕ) : Type 0 where
  pub equations : List Equation
  pub waits : Waits equations lists begins
  pub room : length order ≡ length equations
  pub few : length equations ≤ 80

-- The first n entries of `order` are the list of those placed, and each equation has its flag.
pub record State (qs : List Equation) (list : List ℕ) (placed : List Bool) (order : List ℕ) (n : ℕ) : Type 0 where
  pub front : take n order ≡ list
  pub flags : (j : ℕ) → j < length placed → get_or placed j false ≡ member j list
  pub flagged : length placed ≡ length qs
  pub room : length order ≡ length qs
  pub left : n + waiting placed ≡ length qs

-- the lists of some equations, so few that an index of theirs is a byte, of which the first `done` entries of `order` are placed
pub record Waiting (lists begins : List ℕ) (placed : List Bool) (order : List ℕ) (done : ℕ) : Type 0 where
  pub equations : List Equation
  pub waits : Waits equations lists begins
  pub few : length equations < 255
  pub state : State equations (take done order) placed order done

-- r is the first equation that is never placed; where there is none, `ord` is the order. In both cases those placed stand in front, in their order, and the rest is as it was before
pub record Sorts (qs : List Equation) (before ord : List ℕ) (r : Result (Unit {0}) ℕ) : Type 0 where
  pub long : length ord ≡ length qs
  pub few : length (order qs) ≤ length qs
  pub written : ord ≡ sets before 0 (order qs)
  pub ring : r ≡ as_error (unplaced qs)
  pub inside : (i : ℕ) → r ≡ Err i → i < length qs
  pub order : r ≡ Ok tt → ord ≡ order qs
