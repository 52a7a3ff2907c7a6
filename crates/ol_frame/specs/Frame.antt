-- What making and writing a frame (src/frame.rt) gives.
use Rattle.std.specs.Prelude.{ℕ, true, List, ◌++◌, ◌≡◌, length, drop}
use Rattle.ol_spec.specs.Cell.{values_of}
use Rattle.ol_spec.specs.Step.{is_fresh}
use Rattle.ol_state.specs.Defaults.{own_count, own_cells}
use Rattle.ol_frame.specs.declared.frame.Frame.{Frame}

-- all but the cells' bytes is the same
pub record Keeps (fr fr' : Frame) : Type 0 where
  pub same_reference : fr'.cells.ghost_name ≡ fr.cells.ghost_name
  pub long : length fr'.cells.now ≡ length fr.cells.now
  pub first : fr'.first ≡ fr.first
  pub node : fr'.node ≡ fr.node
  pub before : fr'.before.now ≡ fr.before.now

-- a frame of node k that was made for a step on its record `old`: of its n cells i are inputs', which are in `args`
pub record Opened (k n i : ℕ) (args old : List ℕ) (fr : Frame) : Type 0 where
  pub node : fr.node ≡ k
  pub first : fr.first ≡ is_fresh old
  pub cells : values_of n fr.cells.now ≡ values_of i args ++ drop i (values_of n (drop 1 old))
  pub before : fr.before.now ≡ drop 1 old

-- one that was made for a call of Function k
pub record Freshened (tab rows : List ℕ) (k i : ℕ) (args : List ℕ) (fr : Frame) : Type 0 where
  pub node : fr.node ≡ k
  pub first : fr.first ≡ true
  pub cells : values_of (own_count tab rows k) fr.cells.now ≡ values_of i args ++ drop i (values_of (own_count tab rows k) (own_cells tab rows k))
  pub before : values_of (own_count tab rows k) fr.before.now ≡ values_of (own_count tab rows k) (own_cells tab rows k)
