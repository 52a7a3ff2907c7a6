-- The numbers of a file's rows, read and stored.
use Prim.Native.Nat.{ℕ, zero, suc, ◌+◌, ◌-◌, ◌*◌, ◌<◌, ◌≤◌}
use mathlib.Core.List.{List, [], ◌∷◌, ◌++◌, map}
use mathlib.Core.Path.{◌≡◌, refl, sym, ap, ◌∙◌}
use mathlib.Core.Logic.{by_cases}
use native.Mathlib.Omega.{arith}
use native.Mathlib.Decide.{dec_le}
use borrow.Author.Tests.{true-ltb, false-ltb}
use denote.Bor.{Bor}
use lib.Dec.{ltb}
use lib.ListN.{length, get_or, set, length-set, replicate}
use lib.Seq.{sets, get_or-set_same, get_or-set_other}
use Rattle.std.specs.Prelude.{Option, Some, None, is_some, IfSome, MatchOption}
use Rattle.std.specs.Option.{option_copied}
use Rattle.ol_spec.specs.Lists.{concat}
use Rattle.ol_tables.specs.Tables.{row_at, first_at}
use Rattle.ol_tables.specs.Numbers.{row_numbers, numbers, RowIs}
use Rattle.ol_tables.specs.declared.tables.Row.{Row}
use Rattle.ol_tables.specs.declared.tables.FileRows.{FileRows}

-- the numbers of these rows, before other numbers
flat : List Row → List ℕ → List ℕ
flat rs ns = concat (map row_numbers rs) ++ ns

abbrev no_row : Row
no_row = record { kind = 0; equations = 0; inputs = 0; outputs = 0; variables = 0; count = 0; size = 0; place = 0 }

-- one row further
further : (r : Row) (rs : List Row) (ns : List ℕ) (k j : ℕ) → get_or (flat rs ns) (k * 8 + j) 0 ≡ get_or (flat (r ∷ rs) ns) (suc k * 8 + j) 0
unfolding flat
further r rs ns k j = let on : suc (suc (suc (suc (suc (suc (suc (suc (k * 8 + j)))))))) ≡ suc k * 8 + j = omega arith in ap (λ i. get_or (flat (r ∷ rs) ns) i 0) on

row_is : (rs : List Row) (ns : List ℕ) (k : ℕ) (d : Row) → k < length rs → RowIs (flat rs ns) k (get_or rs k d)
unfolding flat
row_is [] ns k d lt = absurd (omega arith)
row_is (r ∷ rs) ns zero d lt = record { kind = refl; equations = refl; inputs = refl; outputs = refl; variables = refl; count = refl; size = refl; place = refl }
row_is (r ∷ rs) ns (suc k) d lt =
    let on = row_is rs ns k d (omega arith) in
    record { kind = on.kind ∙ further r rs ns k 0; equations = on.equations ∙ further r rs ns k 1; inputs = on.inputs ∙ further r rs ns k 2; outputs = on.outputs ∙ further r rs ns k 3; variables = on.variables ∙ further r rs ns k 4; count = on.count ∙ further r rs ns k 5; size = on.size ∙ further r rs ns k 6; place = on.place ∙ further r rs ns k 7 }

put_row : (rs : List Row) (ns : List ℕ) (k : ℕ) (r : Row) → k < length rs → flat (set rs k r) ns ≡ sets (flat rs ns) (k * 8) (row_numbers r)
unfolding flat
put_row [] ns k r lt = absurd (omega arith)
put_row (q ∷ rs) ns zero r lt = refl
put_row (q ∷ rs) ns (suc k) r lt =
    let on : suc (suc (suc (suc (suc (suc (suc (suc (k * 8)))))))) ≡ suc k * 8 = omega arith in
    ap (λ l. row_numbers q ++ l) (put_row rs ns k r (omega arith)) ∙ ap (λ i. sets (flat (q ∷ rs) ns) i (row_numbers r)) on

-- a row with another size
abbrev sized : Row → ℕ → Row
sized r n = record { kind = r.kind; equations = r.equations; inputs = r.inputs; outputs = r.outputs; variables = r.variables; count = r.count; size = n; place = r.place }

put_size : (rs : List Row) (ns : List ℕ) (k n : ℕ) → k < length rs → flat (set rs k (sized (get_or rs k no_row) n)) ns ≡ set (flat rs ns) (k * 8 + 6) n
unfolding flat
put_size [] ns k n lt = absurd (omega arith)
put_size (q ∷ rs) ns zero n lt = refl
put_size (q ∷ rs) ns (suc k) n lt =
    let on : suc (suc (suc (suc (suc (suc (suc (suc (k * 8 + 6)))))))) ≡ suc k * 8 + 6 = omega arith in
    ap (λ l. row_numbers q ++ l) (put_size rs ns k n (omega arith)) ∙ ap (λ i. set (flat (q ∷ rs) ns) i n) on

put_behind : (rs : List Row) (ns : List ℕ) (i x : ℕ) → flat rs (set ns i x) ≡ set (flat rs ns) (length rs * 8 + i) x
unfolding flat
put_behind [] ns i x = let on : i ≡ 0 * 8 + i = omega arith in ap (λ j. set ns j x) on
put_behind (q ∷ rs) ns i x =
    let on : suc (suc (suc (suc (suc (suc (suc (suc (length rs * 8 + i)))))))) ≡ suc (length rs) * 8 + i = omega arith in
    ap (λ l. row_numbers q ++ l) (put_behind rs ns i x) ∙ ap (λ j. set (flat (q ∷ rs) ns) j x) on

get_behind : (rs : List Row) (ns : List ℕ) (i : ℕ) → get_or ns i 0 ≡ get_or (flat rs ns) (length rs * 8 + i) 0
unfolding flat
get_behind [] ns i = let on : i ≡ 0 * 8 + i = omega arith in ap (λ j. get_or ns j 0) on
get_behind (q ∷ rs) ns i =
    let on : suc (suc (suc (suc (suc (suc (suc (suc (length rs * 8 + i)))))))) ≡ suc (length rs) * 8 + i = omega arith in
    get_behind rs ns i ∙ ap (λ j. get_or (flat (q ∷ rs) ns) j 0) on

-- ---- of a file's rows

pub node_is : (rows : FileRows) (k : ℕ) (d : Row) → k < 32 → RowIs (numbers rows) k (get_or rows.nodes k d)
unfolding numbers flat
node_is rows k d lt = row_is rows.nodes rows.firsts k d (omega (arith, rows.lengths))

-- what is found among the rows at any k: node k's row, or none past the last
pub row_found : (rows : FileRows) (k : ℕ) (o : Option (Bor Row)) → is_some o ≡ ltb k (length rows.nodes) → IfSome o (λ x. x.now ≡ get_or rows.nodes k x.now) → MatchOption (option_copied o) (32 ≤ k) (λ r. (k < 32) × RowIs (numbers rows) k r)
row_found rows k None here is = omega (arith, false-ltb _ _ here, rows.lengths)
row_found rows k (Some x) here is =
    let lt : k < 32 = omega (arith, true-ltb _ _ here, rows.lengths) in
    (lt, rw is (node_is rows k x.now lt))

pub first_is : (rows : FileRows) (e : ℕ) → get_or rows.firsts e 0 ≡ first_at (numbers rows) e
unfolding numbers flat
first_is rows e =
    let at : length rows.nodes * 8 + e ≡ 256 + e = omega (arith, rows.lengths) in
    get_behind rows.nodes rows.firsts e ∙ ap (λ j. get_or (numbers rows) j 0) at

-- 32 rows of zeros, then 16 zeros
pub zeros : (rows : FileRows) (r : Row) → rows.nodes ≡ replicate 32 r → rows.firsts ≡ replicate 16 0 → row_numbers r ≡ replicate 8 0 → numbers rows ≡ replicate 272 0
unfolding numbers
zeros rows r en ef z = ap (λ l. concat (map row_numbers l) ++ rows.firsts) en ∙ (ap (λ l. concat (map row_numbers (replicate 32 r)) ++ l) ef ∙ ap (λ l. concat (replicate 32 l) ++ replicate 16 0) z)

-- the numbers after these arrays are stored
as_flat : (rows : FileRows) {nodes : List Row} {firsts : List ℕ} → rows.nodes ≡ nodes → rows.firsts ≡ firsts → numbers rows ≡ flat nodes firsts
unfolding numbers flat
as_flat rows {nodes} en ef = ap (λ l. flat l rows.firsts) en ∙ ap (flat nodes) ef

pub node_put : (rows rows' : FileRows) (k : ℕ) (r : Row) → k < 32 → rows'.nodes ≡ set rows.nodes k r → rows'.firsts ≡ rows.firsts → numbers rows' ≡ sets (numbers rows) (k * 8) (row_numbers r)
unfolding numbers flat
node_put rows rows' k r lt en ef = as_flat rows' en ef ∙ put_row rows.nodes rows.firsts k r (omega (arith, rows.lengths))

pub size_put : (rows rows' : FileRows) (k n : ℕ) → k < 32 → rows'.nodes ≡ set rows.nodes k (sized (get_or rows.nodes k no_row) n) → rows'.firsts ≡ rows.firsts → numbers rows' ≡ set (numbers rows) (k * 8 + 6) n
unfolding numbers flat
size_put rows rows' k n lt en ef = as_flat rows' en ef ∙ put_size rows.nodes rows.firsts k n (omega (arith, rows.lengths))

pub first_put : (rows rows' : FileRows) (e x : ℕ) → rows'.nodes ≡ rows.nodes → rows'.firsts ≡ set rows.firsts e x → numbers rows' ≡ set (numbers rows) (256 + e) x
unfolding numbers flat
first_put rows rows' e x en ef =
    let at : length rows.nodes * 8 + e ≡ 256 + e = omega (arith, rows.lengths) in
    as_flat rows' en ef ∙ put_behind rows.nodes rows.firsts e x ∙ ap (λ j. set (numbers rows) j x) at

-- there are 272 of them
flat_long : (rs : List Row) (ns : List ℕ) → length (flat rs ns) ≡ length rs * 8 + length ns
unfolding flat
flat_long [] ns = omega arith
flat_long (r ∷ rs) ns = omega (arith, flat_long rs ns)

pub numbers_long : (rows : FileRows) → length (numbers rows) ≡ 272
unfolding numbers flat
numbers_long rows = omega (arith, flat_long rows.nodes rows.firsts, rows.lengths)

-- the numbers of a row, by its index
pub row_entry : {ns : List ℕ} {k : ℕ} {r : Row} → RowIs ns k r → (j : ℕ) → j < 8 → get_or (row_numbers r) j 0 ≡ row_at ns k j
row_entry is zero lt = is.kind
row_entry is (suc zero) lt = is.equations
row_entry is (suc (suc zero)) lt = is.inputs
row_entry is (suc (suc (suc zero))) lt = is.outputs
row_entry is (suc (suc (suc (suc zero)))) lt = is.variables
row_entry is (suc (suc (suc (suc (suc zero))))) lt = is.count
row_entry is (suc (suc (suc (suc (suc (suc zero)))))) lt = is.size
row_entry is (suc (suc (suc (suc (suc (suc (suc zero))))))) lt = is.place
row_entry is (suc (suc (suc (suc (suc (suc (suc (suc j)))))))) lt = absurd (omega arith)

-- ---- from a list of numbers

-- numbers stored from p on, entry by entry: those before p stay
sets_before : (vs l : List ℕ) (p i : ℕ) → i < p → get_or (sets l p vs) i 0 ≡ get_or l i 0
sets_before [] l p i lt = refl
sets_before (v ∷ vs) l p i lt = sets_before vs (set l p v) (suc p) i (omega arith) ∙ get_or-set_other l p i v 0 (λ e. omega arith)

sets_here : (vs l : List ℕ) (p j : ℕ) → j < length vs → p + length vs ≤ length l → get_or (sets l p vs) (p + j) 0 ≡ get_or vs j 0
sets_here [] l p j lt room = absurd (omega arith)
sets_here (v ∷ vs) l p zero lt room =
    let on : p + 0 ≡ p = omega arith in
    ap (λ i. get_or (sets (set l p v) (suc p) vs) i 0) on ∙ sets_before vs (set l p v) (suc p) p (omega arith) ∙ get_or-set_same l p v 0 (omega arith)
sets_here (v ∷ vs) l p (suc j) lt room =
    let on : p + suc j ≡ suc p + j = omega arith in
    ap (λ i. get_or (sets (set l p v) (suc p) vs) i 0) on ∙ sets_here vs (set l p v) (suc p) j (omega arith) (omega (arith, length-set l p v))

-- the numbers below node k's row are the list's, and node k's row is stored: so are those below the next row
pub row_told : (ns ns' list : List ℕ) (k : ℕ) {r : Row} → length ns ≡ 272 → k < 32 → RowIs list k r → ns' ≡ sets ns (k * 8) (row_numbers r) → ((i : ℕ) → i < k * 8 → get_or ns i 0 ≡ get_or list i 0) → (i : ℕ) → i < (k + 1) * 8 → get_or ns' i 0 ≡ get_or list i 0
row_told ns ns' list k {r} long lt is e before i h =
    ap (λ l. get_or l i 0) e ∙ by_cases (dec_le (k * 8) i)
    (λ ge. let j = i - k * 8 in
    let on : i ≡ k * 8 + j = omega arith in
    let low : j < 8 = omega arith in
    ap (λ x. get_or (sets ns (k * 8) (row_numbers r)) x 0) on ∙ sets_here (row_numbers r) ns (k * 8) j low (omega (arith, long, lt)) ∙ row_entry is j low ∙ sym (ap (λ x. get_or list x 0) on))
    (λ no. let lo : i < k * 8 = omega (arith, no) in
    sets_before (row_numbers r) ns (k * 8) i lo ∙ before i lo)

-- those below enum e's first variant are, and it is stored
pub first_told : (ns ns' list : List ℕ) (e x : ℕ) → length ns ≡ 272 → e < 16 → x ≡ get_or list (256 + e) 0 → ns' ≡ set ns (256 + e) x → ((i : ℕ) → i < 256 + e → get_or ns i 0 ≡ get_or list i 0) → (i : ℕ) → i < 256 + (e + 1) → get_or ns' i 0 ≡ get_or list i 0
first_told ns ns' list e x long lt is put before i h =
    ap (λ l. get_or l i 0) put ∙ by_cases (dec_le (256 + e) i)
    (λ ge. let on : i ≡ 256 + e = omega arith in
    ap (λ j. get_or (set ns (256 + e) x) j 0) on ∙ get_or-set_same ns (256 + e) x 0 (omega (arith, long, lt)) ∙ is ∙ sym (ap (λ j. get_or list j 0) on))
    (λ no. let lo : i < 256 + e = omega (arith, no) in
    get_or-set_other ns (256 + e) i x 0 (λ q. omega (arith, q, lo)) ∙ before i lo)
