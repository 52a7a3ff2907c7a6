-- What a Var, a call, a Tuple, an index, a literal and an iterator make of what is found.
use Prim.Native.Nat.{ℕ, ◌+◌}
use mathlib.Core.Bool.{Bool, ◌||◌}
use mathlib.Core.List.{List}
use mathlib.Core.Path.{◌≡◌, ap, ◌∙◌}
use lib.ListN.{get_or}
use lib.Dec.{ltb, eqb}
use Rattle.ol_tables.specs.Heads.{name_at}
use Rattle.ol_tables.specs.Heads.{Byte}
use Rattle.std.specs.Prelude.{Option as RustOption}
use Rattle.ol_check.specs.Founds.{marked}
use Rattle.ol_check.specs.declared.Faults.{Faults}
use Rattle.ol_tables.specs.At.{file_at}
use Rattle.ol_check.specs.Judging.{var_found, call_found, entry_put, var_put, called_b, arity_b, formed_b}

pub var_judged : (s names slots : List ℕ) (k : ℕ) (g : Faults) (p : ℕ) {slots' : List ℕ} {o : RustOption ℕ} {x e : ℕ} → x ≡ name_at s (p + 1) → Byte names x e → slots' ≡ entry_put (file_at s) k slots p e → o ≡ marked g.unseen (eqb e 0) (p + 1)
    → (slots' ≡ var_put s names k slots p) × (record g { unseen = o } ≡ var_found s names g p)
var_judged s names slots k g p ex be es eo =
    let ee = be.is ∙ ap (λ n. get_or names n 0) ex in
    (es ∙ ap (entry_put (file_at s) k slots p) ee, ap (λ (u : RustOption ℕ). record g { unseen = u }) (eo ∙ ap (λ n. marked g.unseen (eqb n 0) (p + 1)) ee))

pub call_judged : (s rows : List ℕ) (g : Faults) (nodes k p : ℕ) {u v : RustOption ℕ} {n : ℕ} {q a d : Bool} → q ≡ called_b s rows k p → u ≡ marked g.called q p → n ≡ arity_b s rows nodes p → v ≡ marked g.shaped (ltb 1 n) p → d ≡ formed_b s p → a ≡ g.arrays || d
    → record g { called = u; shaped = v; arrays = a } ≡ call_found s rows nodes k g p
call_judged s rows g nodes k p {u} {v} {n} {q} {a} {d} eq eu en ev ed ea =
    ap (λ (b : Bool). record g { called = u; shaped = v; arrays = b }) (ea ∙ ap (λ b. g.arrays || b) ed)
    ∙ ap (λ (o : RustOption ℕ). record g { called = o; shaped = v; arrays = g.arrays || formed_b s p }) (eu ∙ ap (λ b. marked g.called b p) eq)
    ∙ ap (λ (o : RustOption ℕ). record g { called = marked g.called (called_b s rows k p) p; shaped = o; arrays = g.arrays || formed_b s p }) (ev ∙ ap (λ m. marked g.shaped (ltb 1 m) p) en)
