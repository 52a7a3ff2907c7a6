-- The records of call sites, as the bytes and the rows tell their lengths.
use Rattle.std.specs.Prelude.{ℕ, ◌+◌, cond, List, map, ltb, eqb}
use Rattle.ol_spec.specs.Lists.{sum}
use Rattle.ol_spec.specs.Syntax.{Node}
use Rattle.ol_spec.specs.Step.{sites, own_size}
use Rattle.ol_tables.specs.Tables.{row_at}
use Rattle.ol_tables.specs.Walks.{own_at}

-- the bytes of the record of a call of c, if c is one of so many nodes
abbrev pub callee_b : List ℕ → ℕ → ℕ → ℕ
callee_b rows nodes c = cond (ltb c nodes) (row_at rows c 6) 0

-- the bytes of the record of the expression at p, if it is a call of one of so many nodes
abbrev pub site_b : List ℕ → List ℕ → ℕ → ℕ → ℕ
site_b s rows nodes p = sum (map (callee_b rows nodes) (own_at s p))

-- the bytes of an instance
abbrev pub instance_b : List ℕ → ℕ → Node → ℕ
instance_b rows nodes n = own_size n + sum (map (callee_b rows nodes) (sites n))

-- the bytes at a call site of a node of the kind with this code: an Operator's has a record
abbrev pub record_by : ℕ → ℕ → ℕ
record_by kind size = cond (eqb kind 1) size 0
