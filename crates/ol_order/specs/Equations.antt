-- What the code's equations are, and what they wait for.
use Rattle.std.specs.Prelude.{ℕ, List, get_or}
use Rattle.ol_spec.specs.Syntax.{Equation}
use Rattle.ol_order.specs.Tables.{equation_at, equations_at, waited, waited_all}
use Rattle.ol_order.specs.declared.equations.Equations.{Equations}

abbrev pub those : Equations → List Equation
those e = equations_at e.file.now e.limits e.enums e.starts.now

-- the definers that equation k waits for
abbrev pub waited_by : Equations → ℕ → List ℕ
waited_by e k = waited (those e) (equation_at e.file.now e.limits e.enums (get_or e.starts.now k 0))

-- those that all wait for, one list behind the other
abbrev pub all_waited : Equations → List ℕ
all_waited e = waited_all (those e) (those e)
