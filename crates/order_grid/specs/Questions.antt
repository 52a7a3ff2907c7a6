-- The questions of the list, and whether each is answered as it says. A row is an answer's number and place, and what each entry of the lent buffer holds then. An entry holds 170 before the call.
use Rattle.std.specs.Prelude.{ℕ, ◌+◌, ◌-◌, Bool, true, false, cond, List, [], ◌∷◌, ◌≡◌, eqb, length, replicate}
use Rattle.ol_spec.specs.Answers.{sorted_fault}
use Rattle.ol_spec.specs.Cycle.{OrderingCall, ordering}
use Rattle.ol_spec.specs.Limits.{relay_loader}
use Rattle.ol_spec.specs.Read.{read_file}
use Rattle.ol_spec.specs.declared.Fault.{Fault}
use Rattle.ol_ir.specs.Nexts.{reading_of}
use Rattle.rows.specs.Rows.{one, all_agree}

-- an answer, and what a buffer holds, as a row
abbrev pub row_of : Fault → List ℕ → List ℕ
row_of f entries = f.number ∷ f.place ∷ entries

abbrev pub order_row : OrderingCall → List ℕ
order_row c = row_of (sorted_fault c.answer) c.buffer

-- a node's ordering gives this row, in a buffer of marks
unfoldable pub order_agrees : List ℕ → ℕ → List ℕ → Bool
order_agrees file node wanted = all_agree (order_row (ordering relay_loader file node (replicate (length wanted - 2) 170))) wanted

-- the ordering refuses a file as its reading does, and writes nothing
abbrev pub refusal_agrees : List ℕ → Fault → Bool
refusal_agrees file f = cond (eqb f.number 0) true (order_agrees file 0 (row_of f (170 ∷ 170 ∷ 170 ∷ [])))

-- a file's reading gives this answer, and the ordering too where it is a fault
unfoldable pub read_agrees : List ℕ → Fault → Bool
read_agrees file f = cond (all_agree (row_of (sorted_fault (reading_of (read_file file relay_loader))) []) (row_of f [])) (refusal_agrees file f) false

-- a question of the list: which file, node and answer it has is free, as what a read gives is
pub data Question : Type 0 where
  reading : List ℕ → Fault → Question
  ordered : List ℕ → ℕ → List ℕ → Question

abbrev pub agrees : Question → Bool
agrees (reading file f) = read_agrees file f
agrees (ordered file node wanted) = order_agrees file node wanted

-- how many questions are answered as the list says
unfoldable pub good_in : List Question → ℕ
good_in [] = 0
good_in (q ∷ qs) = one (agrees q) + good_in qs

-- so many of so many questions are
pub record Tallied (good all : ℕ) : Type 0 where
  pub questions : List Question
  pub good_is : good ≡ good_in questions
  pub all_is : all ≡ length questions

-- a question on a file's orders
pub record Asked (file : List ℕ) (r : Bool) : Type 0 where
  pub node : ℕ
  pub wanted : List ℕ
  pub answered : r ≡ order_agrees file node wanted
