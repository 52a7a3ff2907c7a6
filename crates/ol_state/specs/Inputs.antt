-- What the judging of inputs is told, and where an enum stands.
use Rattle.std.specs.Prelude.{ℕ, ◌≤◌, ◌<◌, Bool, ◌&&◌, List, [], ◌≡◌, T, length, get_or, replicate}
use Rattle.ol_spec.specs.Syntax.{File}
use Rattle.ol_spec.specs.Encode.{encode, name_bytes, section_bytes}
use Rattle.ol_spec.specs.Cell.{value_of, good_cell}
use Rattle.ol_spec.specs.Types.{in_type}
use Rattle.ol_spec.specs.State.{good_each}
use Rattle.ol_spec.specs.Admission.{variants}
use Rattle.ol_spec.specs.Limits.{relay_loader}
use Rattle.ol_spec.specs.Within.{within, ty_fits}
use Rattle.ol_spec.proofs.RoundTrip.Parts.{Here}
use Rattle.ol_value.specs.Codes.{ty_of}

-- enum e stands there, if there is one of that number
pub record EnumAt (f : File) (s : List ℕ) (e at : ℕ) : Type 0 where
  pub here : e < length f.enums → Here s at (section_bytes name_bytes (get_or f.enums e []))
  pub near : at ≤ 131072

-- a type of the file, by its code and its enum's number
pub record Typed (f : File) (s : List ℕ) (code e : ℕ) : Type 0 where
  pub encoded : encode f ≡ s
  pub within : T (within relay_loader f)
  pub code_small : code ≤ 255
  pub enum_small : e ≤ 255
  pub fits : T (ty_fits (length f.enums) (ty_of code e))

-- a cell that is good, and of the type's kind, range and enum
abbrev pub good_input : File → ℕ → ℕ → List ℕ → Bool
good_input f code e c = good_cell (variants f) c && in_type f.enums (ty_of code e) (value_of c)

-- so many cells of one type are
abbrev pub good_some : File → ℕ → ℕ → ℕ → List ℕ → Bool
good_some f code e n s = good_each f.enums (replicate n (ty_of code e)) s
