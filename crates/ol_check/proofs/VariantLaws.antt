-- The table by name, as the walk over a file leaves it, tells the variants: their entry is 255, and no other's.
use Prim.Native.Nat.{ℕ, ◌+◌, ◌≤◌}
use mathlib.Core.Bool.{Bool, true, false, cond}
use mathlib.Core.List.{List}
use mathlib.Core.Option.{Option, none, some}
use mathlib.Core.Path.{◌≡◌, refl, sym, ap, ◌∙◌}
use native.Mathlib.Omega.{arith}
use lib.ListN.{length, get_or}
use lib.Dec.{eqb}
use borrow.Author.Tests.{ne_eqb}
use Rattle.ol_spec.specs.Lists.{maybe, member, position}
use Rattle.ol_spec.specs.Syntax.{File}
use Rattle.ol_spec.specs.Admission.{variants, constant_names}
use Rattle.ol_tables.specs.Tables.{Variants}
use Rattle.ol_check.specs.Entries.{constant_entries}
use Rattle.ol_check.specs.FileJudged.{NamesWithin, variant_table, global_table}
use Rattle.ol_check.proofs.EntryLaws.{declare_high}
use Rattle.ol_check.proofs.EntryPlaces.{position_at}
use Rattle.ol_check.proofs.SlotEntries.{variant_told, constant_told}

module _ (names : List ℕ) (f : File) (empty : (x : ℕ) → get_or names x 0 ≡ 0) (within : NamesWithin (length names) f) (few : length (constant_names f) ≤ 64) where
  -- a constant's entry, or none, is no variant's
  constant_not : (x : ℕ) (p : Option ℕ) → position x (constant_names f) ≡ p → eqb (maybe 0 (λ i. 0 + i + 113) p) 255 ≡ false
  constant_not x none e = refl
  constant_not x (some i) e = ne_eqb (0 + i + 113) 255 (λ q. omega (arith, (position_at x i (constant_names f) e).0, few))

  pub variants_tell : Variants f (global_table names f)
  variants_tell = record { tells = λ x. go x (member x (variants f)) refl }
    where
      go : (x : ℕ) (b : Bool) → member x (variants f) ≡ b → eqb (get_or (global_table names f) x 0) 255 ≡ member x (variants f)
      go x true e =
          let v : get_or (variant_table names f) x 0 ≡ 255 = variant_told names f empty within x ∙ ap (λ c. cond c 255 0) e in
          ap (λ m. eqb m 255) (declare_high x (variant_table names f) (constant_entries 0 f.constants) (omega arith) ∙ v) ∙ sym e
      go x false e = ap (λ m. eqb m 255) (constant_told names f empty within x e) ∙ constant_not x (position x (constant_names f)) refl ∙ sym e
