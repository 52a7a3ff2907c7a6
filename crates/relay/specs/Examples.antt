-- Sessions, executed.
use Rattle.std.specs.Prelude.{List, [], ◌∷◌, ◌++◌, ◌≡◌, refl, ℕ}
use Rattle.relay_text.specs.Text.{run, behind, words_up_to, unhexed, hexed, places}
use Rattle.relay_text.specs.Lines.{error_line, admit_line, state_line, answered_line}
use Rattle.ol_spec.specs.Syntax.{int}
use Rattle.ol_spec.specs.Encode.{encode}
use Rattle.ol_spec.specs.Build.{everything, counting}
use Rattle.relay.specs.Requests.{command_of, asks, start_word, file_word, cycle_word}
use Rattle.relay.specs.Reply.{closed, opened, reply, reason_text}
use Rattle.relay.specs.Sessions.{lines_from, tail_from, lines_of, all_lines, session}
use Rattle.relay.specs.declared.request.Reason.TheVariants as Why

-- start, a line that says nothing (#), foo, and start again, which has no end
abbrev bytes : List ℕ
bytes = start_word ++ (10 ∷ 35 ∷ 10 ∷ 102 ∷ 111 ∷ 111 ∷ 10 ∷ start_word)

whole_lines : lines_of bytes ≡ start_word ∷ (35 ∷ []) ∷ (102 ∷ 111 ∷ 111 ∷ []) ∷ []
unfolding lines_from
whole_lines = refl

all_lines_lem : all_lines bytes ≡ start_word ∷ (35 ∷ []) ∷ (102 ∷ 111 ∷ 111 ∷ []) ∷ start_word ∷ []
unfolding lines_from tail_from
all_lines_lem = refl

errors :
    session 1 (all_lines bytes) closed
    ≡ record { texts = error_line 1 (reason_text Why.NoFile) ∷ [] ∷ error_line 3 (reason_text Why.UnknownCommand) ∷ error_line 4 (reason_text Why.NoFile) ∷ []; stands = closed }
unfolding lines_from tail_from session reply asks command_of run behind words_up_to places
errors = refl

-- document 01's counter: its file, the start and two cycles; a cell of it in bytes
abbrev counter : List ℕ
counter = encode (counting (int 4))

abbrev cell : ℕ → List ℕ
cell n = 1 ∷ 0 ∷ 0 ∷ 0 ∷ 0 ∷ 0 ∷ 0 ∷ 0 ∷ n ∷ []

-- cycle -
abbrev cycled : List ℕ
cycled = cycle_word ++ (32 ∷ 45 ∷ [])

counted :
    session 1 ((file_word ++ (32 ∷ hexed counter)) ∷ start_word ∷ cycled ∷ cycled ∷ []) closed
    ≡ record { texts = admit_line 0 0 10 ∷ state_line (0 ∷ cell 0) ∷ answered_line (cell 0) (1 ∷ cell 0) ∷ answered_line (cell 1) (1 ∷ cell 1) ∷ []; stands = opened counter (1 ∷ cell 1) }
unfolding everything session reply asks command_of run behind words_up_to unhexed hexed places
counted = refl
