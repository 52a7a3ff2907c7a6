-- Laws of a frame: the values of the cells that making one writes, and that writing its cells leaves the rest.
use Prim.Native.Nat.{ℕ, ◌-◌, ◌*◌, ◌≤◌}
use mathlib.Core.List.{List, ◌++◌}
use mathlib.Core.Path.{◌≡◌, refl, ap, ◌∙◌}
use native.Mathlib.Omega.{arith}
use lib.ListN.{length, take, drop}
use lib.Seq.{drop_at}
use Rattle.ol_spec.specs.Cell.{values_of}
use Rattle.ol_spec.specs.declared.Value.{Value}
use Rattle.ol_spec.proofs.CellLengths.{length_values}
use Rattle.ol_tables.specs.Tables.{row_at}
use Rattle.ol_state.specs.Defaults.{own_count, own_cells}
use Rattle.ol_state.proofs.DefaultCells.{length_cells_at}
use Rattle.ol_frame.specs.Frame.{Keeps}
use Rattle.ol_frame.specs.declared.frame.Frame.{Frame}
use Rattle.ol_frame.proofs.Storing.{values_front, values_copied, values_over}

pub keeps_all : (fr : Frame) → Keeps fr fr
keeps_all fr = record { same_reference = refl; long = refl; first = refl; node = refl; before = refl }

pub keeps_on : {a b c : Frame} → Keeps a b → Keeps b c → Keeps a c
keeps_on p q =
    record { same_reference = q.same_reference ∙ p.same_reference; long = q.long ∙ p.long; first = q.first ∙ p.first; node = q.node ∙ p.node; before = q.before ∙ p.before }

-- the cells of a step on a record: from i on they are copied, and then the arguments
pub opened_cells : (n i : ℕ) (before args cells y z : List ℕ) → i ≤ n → 9 * n ≤ length before → 9 * i ≤ length args → 9 * n ≤ length cells → length y ≡ length cells
    → y ≡ take (9 * i) cells ++ (take (9 * n - 9 * i) (drop (9 * i) before) ++ drop (9 * n) cells)
    → z ≡ take (9 * 0) y ++ (take (9 * i - 9 * 0) (drop (9 * 0) args) ++ drop (9 * i) y) → values_of n z ≡ values_of i args ++ drop i (values_of n before)
opened_cells n i before args cells y z h lb la lc ly ey ez =
    values_over i n args y z h la (omega (arith, ly, lc)) ez
    ∙ ap (λ (vs : List Value). values_of i args ++ drop i vs) (values_copied i n before cells y h lb lc ey)
    ∙ ap (λ (vs : List Value). values_of i args ++ vs) (drop_at (values_of i cells) (drop i (values_of n before)) i (length_values i cells))

-- ---- a call of a Function

module _ (tab rows : List ℕ) (k : ℕ) where
  abbrev n : ℕ
  n = own_count tab rows k

  abbrev defaults : List ℕ
  defaults = own_cells tab rows k

  -- the defaults are written
  pub fresh_before : (x rest : List ℕ) → x ≡ defaults ++ rest → values_of n x ≡ values_of n defaults
  fresh_before x rest e = ap (values_of n) e ∙ values_front n defaults rest (omega (arith, length_cells_at tab rows k 0 (row_at rows k 4)))

  -- and then the arguments
  pub fresh_cells : (i : ℕ) (args y z rest : List ℕ) → i ≤ n → 9 * i ≤ length args → 9 * n ≤ length y → y ≡ defaults ++ rest
      → z ≡ take (9 * 0) y ++ (take (9 * i - 9 * 0) (drop (9 * 0) args) ++ drop (9 * i) y) → values_of n z ≡ values_of i args ++ drop i (values_of n defaults)
  fresh_cells i args y z rest h la ly ey ez = values_over i n args y z h la ly ez ∙ ap (λ (vs : List Value). values_of i args ++ drop i vs) (fresh_before y rest ey)
