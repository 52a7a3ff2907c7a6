-- What loading the file finds.
use Prim.Native.Nat.{ℕ, ◌≤◌}
use mathlib.Core.List.{List, map}
use mathlib.Core.Path.{◌≡◌, ap, sym, ◌∙◌}
use native.Mathlib.Omega.{arith}
use lib.ListN.{length, take, replicate, length-map}
use lib.Seq.{sets}
use Rattle.ol_spec.specs.Limits.{relay_loader}
use Rattle.ol_spec.specs.Syntax.{File}
use Rattle.ol_spec.specs.Places.{node_size, nodes_start, placed_nodes}
use Rattle.ol_spec.specs.Read.{got, read_file}
use Rattle.ol_spec.specs.Demand3.{Bytes}
use Rattle.ol_spec.specs.Admission as Adm
use Rattle.ol_spec.specs.declared.Fault.{Fault}
use Rattle.ol_tables.specs.At.{file_at, item_of, no_file}
use Rattle.ol_tables.specs.Stands.{FileReads, FileStands}
use Rattle.ol_tables.proofs.HeadsFile.{file_stands}
use Rattle.std.specs.Prelude.{Ok, Err}
use Rattle.ol_ir.specs.Walks.{place_of, loaded_of}
use Rattle.ol_ir.specs.declared.Loaded.{Loaded}
use Rattle.ol_sim.specs.declared.program.Project.{Project}
use Rattle.ol_sim.specs.Judging.{Loads}
use Rattle.ol_order.proofs.Nodes.{length_placed, table_front, loaded_file, loaded_not}

module _ (s : List ℕ) {l : Loaded} (e : Ok l ≡ loaded_of (read_file s relay_loader)) where
  abbrev loaded : (f : File) × (end : ℕ) × (read_file s relay_loader ≡ got f end) × (length f.enums ≡ l.enums) × (length f.nodes ≡ l.nodes)
  loaded = loaded_file (read_file s relay_loader) l.enums l.nodes e

  the_file : file_at s ≡ loaded.0
  the_file = ap (item_of no_file) loaded.2

  pub file_reads : FileReads s
  file_reads = record { end = loaded.1; is = loaded.2 ∙ ap (λ f. got f loaded.1) (sym the_file) }

  many_nodes : length (file_at s).nodes ≡ l.nodes
  many_nodes = ap (λ (f : File). length f.nodes) the_file ∙ loaded.4

  pub loads : {t : List ℕ} → FileStands s (file_at s) → ((f : File) (end : ℕ) → read_file s relay_loader ≡ got f end → t ≡ sets (replicate 32 0) 0 (map place_of (placed_nodes f))) → (length (file_at s).enums ≡ l.enums) × (take l.nodes t ≡ map place_of (placed_nodes (file_at s)))
  loads {t} st i =
      let w : length (map place_of (placed_nodes (file_at s))) ≡ l.nodes = length-map (placed_nodes (file_at s)) place_of ∙ length_placed node_size (nodes_start (file_at s)) (file_at s).nodes ∙ many_nodes in
      (ap (λ (f : File). length f.enums) the_file ∙ loaded.3, ap (take l.nodes) (i (file_at s) file_reads.end file_reads.is) ∙ table_front 32 (map place_of (placed_nodes (file_at s))) (omega (arith, w, many_nodes, st.few_nodes)) l.nodes w)

  pub few_places : FileStands s (file_at s) → l.nodes ≤ 32
  few_places st = omega (arith, many_nodes, st.few_nodes)

-- the project that `serve` makes of what loading found
pub project_loads : {p : Project} {l : Loaded} {t : List ℕ} → Bytes p.file.now → Ok l ≡ loaded_of (read_file p.file.now relay_loader)
    → ((f : File) (end : ℕ) → read_file p.file.now relay_loader ≡ got f end → t ≡ sets (replicate 32 0) 0 (map place_of (placed_nodes f)))
    → p.enums ≡ l.enums → p.places.now ≡ take l.nodes t → Loads p
project_loads {p} {l} {t} bytes read i enums places =
    let s = p.file.now in
    let reads = file_reads s read in
    let w = loads s read (file_stands bytes reads) i in
    record { bytes = bytes; reads = reads; counted = w.0 ∙ sym enums; placed = places ∙ w.1 }

-- ---- a file that was not

pub judge_refused : (s : List ℕ) {x : Fault} → Err x ≡ loaded_of (read_file s relay_loader) → Adm.judge relay_loader s ≡ Adm.refused x.number x.place
unfolding Adm.judge
judge_refused s {x} e = ap (Adm.judge_read relay_loader) (loaded_not (read_file s relay_loader) x e)
