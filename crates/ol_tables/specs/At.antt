-- The tree at a place of a file's bytes: what reading finds there, as total functions of the bytes, so that a contract can name it.
use Rattle.std.specs.Prelude.{ℕ, List, [], false, ◌≡◌, length, get_or}
use Rattle.ol_spec.specs.Lists.{maybe}
use Rattle.ol_spec.specs.Syntax.{Expr, Exprs, nil, bool_lit, Node, File, no_node}
use Rattle.ol_spec.specs.Limits.{base, relay_loader}
use Rattle.ol_spec.specs.Read.{Read, got, fault, expr_r, many_exprs, read_file}
use Rattle.ol_spec.specs.declared.Limits.{Limits}

-- what was read, or else; where reading ended, 0 for a fault
abbrev pub item_of : {A : Type 0} → A → Read A → A
item_of d (got a n) = a
item_of d (fault n p) = d

abbrev pub end_of : {A : Type 0} → Read A → ℕ
end_of (got a n) = n
end_of (fault n p) = 0

abbrev pub no_file : File
no_file = record { format = 0; enums = []; constants = []; nodes = [] }

module _ (s : List ℕ) where
  -- the file's tree
  abbrev pub file_at : File
  file_at = item_of no_file (read_file s relay_loader)

  abbrev pub node_in : ℕ → Node
  node_in k = get_or file_at.nodes k no_node

  -- the limits that the format byte brings, and the number of enums
  abbrev pub limits_at : Limits
  limits_at = maybe base (λ l. l) (relay_loader.limits (get_or s 0 0))

  abbrev pub enums_at : ℕ
  enums_at = length file_at.enums

  -- the expression of at most `level` levels that starts at `at`, and where it ends
  unfoldable pub expr_at : ℕ → ℕ → Expr
  expr_at level at = item_of (bool_lit false) (expr_r s limits_at enums_at level at)

  unfoldable pub end_at : ℕ → ℕ → ℕ
  end_at level at = end_of (expr_r s limits_at enums_at level at)

  -- so many expressions, one after the other
  unfoldable pub exprs_at : ℕ → ℕ → ℕ → Exprs
  exprs_at level n at = item_of nil (many_exprs n (expr_r s limits_at enums_at level) at)

  unfoldable pub ends_at : ℕ → ℕ → ℕ → ℕ
  ends_at level n at = end_of (many_exprs n (expr_r s limits_at enums_at level) at)

  -- an expression is read there
  pub record Reads (level at : ℕ) : Type 0 where
    pub is : expr_r s limits_at enums_at level at ≡ got (expr_at level at) (end_at level at)

  -- so many are read there
  pub record ReadsAll (level n at : ℕ) : Type 0 where
    pub are : many_exprs n (expr_r s limits_at enums_at level) at ≡ got (exprs_at level n at) (ends_at level n at)
