-- The constants' cells in the table of a file.
use Prim.Native.Nat.{ℕ, ◌+◌, ◌*◌, ◌-◌, ◌≤◌}
use mathlib.Core.List.{List}
use mathlib.Core.Logic.{by_cases}
use mathlib.Core.Path.{◌≡◌}
use native.Mathlib.Omega.{arith}
use native.Mathlib.Decide.{dec_le}
use lib.ListN.{length, take, drop, length-take, length-drop}
use Rattle.ol_spec.specs.Syntax.{File}
use Rattle.ol_tables.specs.Tables.{Tab}
use Rattle.ol_tables.specs.Table.{known_of, consts_from, consts_of, tab_of}
use Rattle.ol_tables.proofs.TableLaws.{consts_small, consts_large}

-- a table that is right has all parts but the constants' cells
pub known_room : {f : File} {n : ℕ} (t : List ℕ) → Tab f n (tab_of t) → 4210 ≤ length t
known_room t h = omega (arith, h.long, length-drop 1394 t)

-- the constants' cells start in it
pub consts_inside : (t : List ℕ) → 4210 ≤ length t → consts_from t ≤ length t
consts_inside t room = by_cases (dec_le 69747 (length t)) (λ h. omega (arith, consts_large t h)) (λ h. omega (arith, consts_small t (omega arith)))

module _ (t : List ℕ) (room : 4210 ≤ length t) where
  -- they are all in it
  pub known_inside : length (consts_of t) ≡ 9 * known_of t → consts_from t + 9 * known_of t ≤ length t
  known_inside full = omega (arith, full, consts_inside t room, length-take (9 * known_of t) (drop (consts_from t) t), length-drop (consts_from t) t)

-- they, as they are lent
pub consts_lent : (t : List ℕ) {a b : ℕ} → a ≡ consts_from t → b ≡ known_of t → take (a + 9 * b - a) (drop a t) ≡ consts_of t
consts_lent t {a} {b} p e =
    let n : a + 9 * b - a ≡ 9 * known_of t = omega (arith, e) in
    (λ i. take (n i) (drop (p i) t))
