-- Executed statements on an equation's place in its node's sequence, by the numbers of request (iii)'s readings in docs/DECISIONS.md.
use Rattle.std.specs.Prelude.{ℕ, zero, suc, true, List, [], ◌∷◌, ◌++◌, map, ◌≡◌, refl, replicate, get_or, ltb, Ok, Err}
use Rattle.std.specs.Prelude as Std
use Rattle.ol_spec.specs.Syntax.{int, Function, Operator, Imported, Not, Add, unary, binary, var, index, literal, fold_over, map_over, Exprs, nil, cons, Equation, NodeKind, Node, File}
use Rattle.ol_spec.specs.Places.{equation_size, placed_equations}
use Rattle.ol_spec.specs.Encode.{encode}
use Rattle.ol_spec.specs.Limits.{relay_loader}
use Rattle.ol_spec.specs.Order.{order}
use Rattle.ol_spec.specs.Cycle.{OrderingCall, ordering}
use Rattle.ol_spec.specs.Answers.{fault_at}
use Rattle.ol_spec.specs.Build.{everything, abc, x, ◌≔◌, node, file, num, v1, admit, refusal}
use Rattle.ol_ir.specs.Walks.{place_of}
use Rattle.ol_order.specs.Tables.{keyed, put, put_all, waited, waited_all}
use Rattle.ol_order.specs.Orders.{row_written}

-- the ordering of node k, as it is called
abbrev asked : File → ℕ → List ℕ → OrderingCall
asked f k buf = ordering relay_loader (encode f) k buf

abbrev done : List ℕ → OrderingCall
done entries = record { answer = Ok tt; buffer = entries }

-- 1: a = b, b = c, c = 1. The ordering's own bytes, of which the rest stay, and the caller's entries
own_bytes : row_written abc 0 (replicate 80 0xAA) ≡ 0x02 ∷ 0x01 ∷ 0x00 ∷ replicate 77 0xAA
unfolding everything
own_bytes = refl

entries : asked (v1 abc) 0 (9 ∷ 9 ∷ 9 ∷ []) ≡ done (2 ∷ 1 ∷ 0 ∷ [])
unfolding everything
entries = refl

-- 2: an offset in the file fits no byte: a first equation of 300 bytes, and where the two stand
abbrev ints : ℕ → Exprs
ints zero = nil
ints (suc n) = cons (num n) (ints n)

abbrev long : Equation
long = 1 ≔ binary Add (var 1) (unary Not (literal (ints 32)))

offsets : (equation_size long ≡ 300) × (map place_of (placed_equations 4 (node Operator [] (x 1 (int 4) ∷ []) [] (long ∷ long ∷ []))) ≡ 12 ∷ 312 ∷ [])
unfolding everything
offsets = (refl, refl)

-- 3: what else is recorded by index: each name's definer, and those that the equations wait for
definers : map (λ x. get_or (put_all 0 (map (keyed 256) abc) (replicate 256 Std.None)) x Std.None) (0 ∷ 1 ∷ 2 ∷ 3 ∷ []) ≡ Std.None ∷ Std.Some 0 ∷ Std.Some 1 ∷ Std.Some 2 ∷ []
unfolding everything put_all put
definers = refl

waited_for : waited_all abc abc ≡ 1 ∷ 2 ∷ []
unfolding everything waited_all waited
waited_for = refl

-- 4: the caller's entries are no bytes: those of a refused call stay above 255
wide_entries : asked (v1 abc) 0 (300 ∷ 65536 ∷ []) ≡ record { answer = Err (fault_at 17 0); buffer = 300 ∷ 65536 ∷ [] }
unfolding everything
wide_entries = refl

-- 5: double definitions, in a file that admission refuses
abbrev twice : File
twice = v1 (1 ≔ var 1 ∷ 1 ≔ num 2 ∷ [])

defined_twice : (admit twice ≡ refusal 8 19) × (asked twice 0 (9 ∷ 9 ∷ []) ≡ done (1 ∷ 0 ∷ []))
unfolding everything
defined_twice = (refl, refl)

-- a Function and an Imported node, which nobody calls; a node without equations
abbrev of_kind : NodeKind → Node
of_kind k = node k [] (x 1 (int 4) ∷ []) [] abc

abbrev kinds : File
kinds = file (of_kind Function ∷ of_kind Imported ∷ node Operator [] (x 1 (int 4) ∷ []) [] [] ∷ [])

of_any_kind : (asked kinds 0 (9 ∷ 9 ∷ 9 ∷ []) ≡ done (2 ∷ 1 ∷ 0 ∷ [])) × ((asked kinds 1 (9 ∷ 9 ∷ 9 ∷ []) ≡ done (2 ∷ 1 ∷ 0 ∷ [])) × (asked kinds 2 [] ≡ done []))
unfolding everything
of_any_kind = (refl, (refl, refl))

-- 80 equations, each reading from the next: the first entry is 79, the last 0
abbrev chain : ℕ → ℕ → List Equation
chain zero n = n ≔ num 1 ∷ []
chain (suc more) n = n ≔ var (suc n) ∷ chain more (suc n)

abbrev down : ℕ → List ℕ
down zero = 0 ∷ []
down (suc n) = suc n ∷ down n

eighty_reversed : asked (v1 (chain 79 1)) 0 (replicate 80 9) ≡ done (down 79)
unfolding everything
eighty_reversed = refl

-- 6: on a ring the buffer stays, whatever its length and content
ring_stays : (buf : List ℕ) → asked (v1 (1 ≔ num 1 ∷ 2 ≔ var 3 ∷ 3 ≔ var 2 ∷ [])) 0 buf ≡ record { answer = Err (fault_at 11 24); buffer = buf }
unfolding everything
ring_stays buf = refl

-- 7: an index is below 255 under the limit of 80 equations, and under one of 240
below_255 : (ltb 80 255 ≡ true) × (ltb 240 255 ≡ true)
below_255 = (refl, refl)

-- 8: an index, a literal, a fold and a map read as their parts do
array_reads : order (1 ≔ index (var 2) (var 3) ∷ 2 ≔ literal (cons (var 4) nil) ∷ 3 ≔ fold_over 0 (var 4) (cons (var 2) nil) ∷ 4 ≔ map_over 0 (cons (num 1) nil) ∷ []) ≡ 3 ∷ 1 ∷ 2 ∷ 0 ∷ []
unfolding everything
array_reads = refl
