-- Every call: what it is told on the way.
use Prim.Native.Nat.{ℕ, ◌*◌}
use mathlib.Core.List.{List}
use mathlib.Core.Option.{none}
use mathlib.Core.Path.{◌≡◌, refl, ap, sym, subst, ◌∙◌}
use native.Mathlib.Omega.{arith}
use lib.ListN.{length, length-map}
use denote.Ref.{Bor}
use Rattle.std.specs.Prelude.{Result, IsErrAnd}
use Rattle.ol_spec.specs.Syntax.{constant_name}
use Rattle.ol_spec.specs.Limits.{relay_loader}
use Rattle.ol_spec.specs.declared.Fault.{Fault}
use Rattle.ol_spec.specs.declared.Cycled.TheVariants as Cyc
use Rattle.ol_spec.specs.Answers.{Measured, Started}
use Rattle.ol_spec.specs.Cycle.{lengths, start, cycle}
use Rattle.ol_spec.specs.Admission as Adm
use Rattle.ol_tables.specs.At.{file_at}
use Rattle.ol_tables.specs.Tables.{Variants}
use Rattle.ol_tables.specs.Table.{tab_of, rows_of, consts_of}
use Rattle.ol_spec.proofs.Cells.{length_cells}
use Rattle.ol_tables.specs.Stands.{FileStands}
use Rattle.ol_check.proofs.VariantLaws.{variants_tell}
use Rattle.ol_frame.specs.Nodes.{Running}
use Rattle.ol_sim.specs.Judging.{Admits, Empty, names_after, values_in}
use Rattle.ol_sim.specs.Answering.{AnswerReady}
use Rattle.ol_sim.specs.Serving.{Serves}
use Rattle.ol_sim.specs.declared.program.Program.{Program}
use Rattle.ol_sim.specs.Calls.{MeasuresAs, StartsAs, CyclesAs}
use Rattle.ol_sim.proofs.Chain.{erred}
use Rattle.ol_sim.proofs.Steps.{slots_many}
use Rattle.ol_sim.proofs.Measures.{measures_refused}
use Rattle.ol_sim.proofs.Starts.{starts_refused, main_operator}
use Rattle.ol_sim.proofs.Cycles.{cycle_refused}

pub consts_many : {s t : List ℕ} {size m : ℕ} → Admits s t size m → length (consts_of t) ≡ Adm.head_size (file_at s)
consts_many {s} a = ap length a.held.is ∙ length_cells (values_in (file_at s)) ∙ ap (λ i. 9 * i) (a.held.many ∙ slots_many (file_at s).constants)

pub answer_ready : {s t : List ℕ} {size m : ℕ} → Admits s t size m → Running s (tab_of t) (rows_of t) (consts_of t) → AnswerReady s t size m
answer_ready {s} {t} {size} {m} a running =
    record {
      tables = a.tables;
      running = running;
      sized = a.measured.sized;
      small = a.measured.small;
      held = a.held;
      long = consts_many a;
      last = a.measured.last;
      operator = main_operator (file_at s) m a.measured.last a.measured.operator;
    }

-- the table by name tells the variants of a file without fault 6
pub names_tell : {s names names' : List ℕ} → FileStands s (file_at s) → Empty (file_at s) names → Adm.fault6 (file_at s) ≡ none → names' ≡ names_after (Adm.fault6 (file_at s)) (file_at s) names → Variants (file_at s) names'
names_tell {s} {names} st h no6 e =
    subst (Variants (file_at s)) (sym (e ∙ ap (λ o. names_after o (file_at s) names) no6))
    (variants_tell names (file_at s) h.zero h.within (omega (arith, length-map (file_at s).constants constant_name, st.few_constants)))

-- what `?` gives on, where the file is not admitted
pub refused_serves : {F R : Type 0} (Calls : Bor Program → R → F → Type 0) (f : F) (s : List ℕ) (r : Result R Fault) {x : Fault} → IsErrAnd r (λ e. e ≡ x) → Adm.judge relay_loader s ≡ Adm.refused x.number x.place → Serves Calls f s r f
refused_serves Calls f s r e h = subst (λ y. Serves Calls f s y f) (sym (erred r e)) (h, refl)

pub measures_erred : (s : List ℕ) (k : ℕ) (r : Measured) {x : Fault} → IsErrAnd r (λ e. e ≡ x) → Adm.judge relay_loader s ≡ Adm.refused x.number x.place → MeasuresAs (lengths relay_loader s k) r
measures_erred s k r e h = subst (MeasuresAs (lengths relay_loader s k)) (sym (erred r e)) (measures_refused s k h)

pub starts_erred : (s st : List ℕ) (r : Started) {x : Fault} (t : List ℕ) → IsErrAnd r (λ e. e ≡ x) → Adm.judge relay_loader s ≡ Adm.refused x.number x.place → t ≡ st → StartsAs (start relay_loader s st) r t
starts_erred s st r t e h same = subst (λ u. StartsAs (start relay_loader s st) r u) (sym same) (subst (λ y. StartsAs (start relay_loader s st) y st) (sym (erred r e)) (starts_refused s st h))

pub cycle_erred : (s old ins new vals : List ℕ) {x : Fault} (n v : List ℕ) → Adm.judge relay_loader s ≡ Adm.refused x.number x.place → n ≡ new → v ≡ vals → CyclesAs (cycle relay_loader s old ins new vals) (Cyc.Refused x) n v
cycle_erred s old ins new vals {x} n v h p q =
    subst (λ y. CyclesAs (cycle relay_loader s old ins new vals) (Cyc.Refused x) y v) (sym p)
    (subst (λ y. CyclesAs (cycle relay_loader s old ins new vals) (Cyc.Refused x) new y) (sym q) (cycle_refused s old ins new vals h))
