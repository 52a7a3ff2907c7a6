use Rattle.std.proofs.Common.{◌+◌, ◌*◌, ◌≤◌, length, refl, sym, arith}
use Rattle.std.proofs.Math.Seq.{length-take-le}
use Rattle.ol_tables.proofs.HeadsFile.{bytes_of_lem, file_stands}
use Rattle.ol_sim.proofs.Reading.{file_reads, project_loads, few_places, judge_refused}
use Rattle.ol_sim.proofs.Serving.{refused_serves}
use Rattle.ol_sim.proofs.serve.serve.Goals as goal

pub returns-in_err-loaded : goal.returns-in_err-loaded
returns-in_err-loaded g c = refused_serves _ _ c.args.file.now c.from_residual.result c.from_residual.ensures.1 (judge_refused c.args.file.now c.in_err-loaded.ensures.read)

pub slice_bounds-starts-end : goal.slice_bounds-starts-end
slice_bounds-starts-end g c =
    let s = c.args.file.now in
    let read = c.in_ok-loaded.ensures.read in
    let stands = file_stands (bytes_of_lem s (λ i. omega (arith, c.type_inv.file i))) (file_reads s read) in
    omega (arith, few_places s read stands, c.load_file.auto.starts)

pub slice_bounds-project-end : goal.slice_bounds-project-end
slice_bounds-project-end g c =
    let s = c.args.file.now in
    let read = c.in_ok-loaded.ensures.read in
    let stands = file_stands (bytes_of_lem s (λ i. omega (arith, c.type_inv.file i))) (file_reads s read) in
    sym (length-take-le _ _ (omega (arith, few_places s read stands, c.load_file.auto.starts)))

pub constant_cells-cells-requires : goal.constant_cells-cells-requires
constant_cells-cells-requires g c = file_reads c.args.file.now c.in_ok-loaded.ensures.read

pub serve_sized-requires-clause-loads : goal.serve_sized-requires-clause-loads
serve_sized-requires-clause-loads g c =
    project_loads (bytes_of_lem c.args.file.now (λ i. omega (arith, c.type_inv.file i))) c.in_ok-loaded.ensures.read c.load_file.ensures.places refl refl

pub serve_sized-requires-then-file-le256-clause-loads : goal.serve_sized-requires-then-file-le256-clause-loads
serve_sized-requires-then-file-le256-clause-loads g c =
    project_loads (bytes_of_lem c.args.file.now (λ i. omega (arith, c.type_inv.file i))) c.in_ok-loaded.ensures.read c.load_file.ensures.places refl refl

pub serve_sized-requires-then-file-le1024-clause-loads : goal.serve_sized-requires-then-file-le1024-clause-loads
serve_sized-requires-then-file-le1024-clause-loads g c =
    project_loads (bytes_of_lem c.args.file.now (λ i. omega (arith, c.type_inv.file i))) c.in_ok-loaded.ensures.read c.load_file.ensures.places refl refl

pub serve_sized-requires-else-file-le1024-clause-loads : goal.serve_sized-requires-else-file-le1024-clause-loads
serve_sized-requires-else-file-le1024-clause-loads g c =
    project_loads (bytes_of_lem c.args.file.now (λ i. omega (arith, c.type_inv.file i))) c.in_ok-loaded.ensures.read c.load_file.ensures.places refl refl

pub serve_sized-requires-clause-room : goal.serve_sized-requires-clause-room
serve_sized-requires-clause-room g c =
    let s = c.args.file.now in
    let stands = file_stands (bytes_of_lem s (λ i. omega (arith, c.type_inv.file i))) (file_reads s c.in_ok-loaded.ensures.read) in
    let room : 4210 + 2 * length s ≤ 106610 = omega (arith, stands.short) in
    (room, λ h. absurd (omega (arith, h)), λ h. omega arith)

pub serve_sized-requires-else-file-le1024-clause-room : goal.serve_sized-requires-else-file-le1024-clause-room
serve_sized-requires-else-file-le1024-clause-room g c =
    let s = c.args.file.now in
    let stands = file_stands (bytes_of_lem s (λ i. omega (arith, c.type_inv.file i))) (file_reads s c.in_ok-loaded.ensures.read) in
    let room : 4210 + 2 * length s ≤ 69746 = omega (arith, stands.short) in
    let few : c.constant_cells-cells.result ≤ 64 = omega arith in
    (room, λ h. few, λ h. absurd (omega (arith, h)))
