-- Faults 7, 9 and 10 of the constants, and their slots.
use Rattle.std.specs.Prelude.{ℕ, ◌+◌, ◌*◌, ◌≤◌, ◌<◌, Bool, true, List, [], ◌∷◌, map, ◌≡◌, length, get_or}
use Rattle.ol_spec.specs.Lists.{concat, sum}
use Rattle.ol_spec.specs.Syntax.{Constant, File, nil, cons}
use Rattle.ol_spec.specs.Places.{constant_size, placed}
use Rattle.ol_spec.specs.Encode.{constant_bytes}
use Rattle.ol_spec.specs.Limits.{base}
use Rattle.ol_spec.specs.Within.{constant_fits}
use Rattle.ol_spec.specs.Admission.{value_place, constant_uses, in_constant, uses_where, shape_item, callee_in}
use Rattle.ol_tables.specs.At.{file_at}
use Rattle.ol_tables.specs.Heads.{name_at}
use Rattle.ol_tables.specs.Tables.{Each, Told}
use Rattle.ol_tables.specs.Stands.{Listed, FileReads}
use Rattle.ol_check.specs.Entries.{declared, declare_all, constant_entries}
use Rattle.ol_check.specs.Spans.{behind_variable}
use Rattle.ol_check.specs.RowsDone.{type_set, no_constant}
use Rattle.ol_check.specs.Arrays.{or_all, constant_forms}
use Rattle.ol_check.specs.Judging.{Findings, heads, slot_heads, outputs_b, found_in, Knows, Looks, Scalars, Undeclared, Walked, at_place}

-- constant number i, whose walk stands at `at`, may be judged: once its type is stored, the types of the constants that are seen stand from `types` on
pub record ConstantReady (s names plans : List ℕ) (types : ℕ) (arrays : Bool) (i at : ℕ) : Type 0 where
  pub short : length s ≤ 32768
  pub inside : at < 32768
  pub low : i < 64
  pub near : types ≤ 32768
  pub looks : Looks (file_at s) 0 names (type_set plans (types + 2 * i) s (at + 2)) 0 types
  pub scalars : Scalars arrays (file_at s) 0

-- constant number i, where the walk stood
pub record ConstantWalked (s names rows : List ℕ) (nodes types i : ℕ) (slots slots' plans plans' names' : List ℕ) (f r : Findings) : Type 0 where
  pub walked : Walked s names rows nodes 0 1 slots slots' (at_place f (behind_variable s f.next)) r
  pub typed : plans' ≡ type_set plans (types + 2 * i) s (f.next + 2)
  pub entered : names' ≡ declared names (name_at s f.next) (i + 113)

-- the slots after the constants' values, the first constant being number i
unfoldable pub slot_constants : List ℕ → List ℕ → List ℕ → ℕ → List (ℕ × Constant) → List ℕ
slot_constants s names slots i [] = slots
slot_constants s names slots i (c ∷ cs) =
    slot_constants s (declared names c.1.name (i + 113)) (slot_heads s names 0 slots (heads (value_place c.0 c.1) (cons c.1.value nil))) (i + 1) cs

-- The bytes of records so far are free: each node counts its own anew.
pub record ConstantsJudged (s names : List ℕ) (f : File) (visible : List ℕ) (at : ℕ) (cs : List Constant) (slots slots' names' : List ℕ) (g r : Findings) : Type 0 where
  pub next : r.next ≡ at + sum (map constant_size cs)
  pub unseen : r.unseen ≡ found_in g.unseen (constant_uses visible (placed constant_size at cs))
  pub again : r.again ≡ g.again
  pub called : r.called ≡ found_in g.called (concat (map (in_constant (uses_where (λ c args. true) (λ c. true))) (placed constant_size at cs)))
  pub shaped : r.shaped ≡ found_in g.shaped (concat (map (in_constant (shape_item f)) (placed constant_size at cs)))
  pub arrays : r.arrays ≡ or_all g.arrays (concat (map constant_forms (placed constant_size at cs)))
  pub entered : names' ≡ declare_all names (constant_entries 0 cs)
  pub slotted : slots' ≡ slot_constants s names slots 0 (placed constant_size at cs)

-- the types of the constants are stored from p on, in two bytes each; all else is as before
pub record ConstantsTyped (p : ℕ) (cs : List Constant) (plans plans' : List ℕ) : Type 0 where
  pub told : (i : ℕ) → i < length cs → Told plans' (p + 2 * i) (get_or cs i no_constant).ty
  pub before : (x : ℕ) → x < p → get_or plans' x 0 ≡ get_or plans x 0
  pub behind : (x : ℕ) → p + 2 * length cs ≤ x → get_or plans' x 0 ≡ get_or plans x 0
  pub long : length plans' ≡ length plans

-- The file reads without fault. There is room for the types from p on, and the table by name has no entry of a variable or a constant
pub record ConstantRoom (s names : List ℕ) (p : ℕ) (arrays : Bool) (plans : List ℕ) : Type 0 where
  pub reads : FileReads s
  pub near : p ≤ 32768
  pub room : p + 2 * length (file_at s).constants ≤ length plans
  pub unentered : (x : ℕ) → 1 ≤ get_or names x 0 → 255 ≤ get_or names x 0
  pub scalars : Undeclared arrays (file_at s)

-- what a file's constants, which stand at `at`, are judged by: the names seen before them, the outputs of the nodes, and room in the table
pub record ConstantsReady (s names rows : List ℕ) (nodes : ℕ) (f : File) (visible : List ℕ) (enums at : ℕ) (cs : List Constant) : Type 0 where
  pub knows : Knows names visible
  pub outputs : (c : ℕ) → outputs_b rows nodes c ≡ length (callee_in f c).outputs
  pub covered : Each (λ c. c.name < length names) cs
  pub stand : Listed constant_bytes (constant_fits base enums) s at cs
