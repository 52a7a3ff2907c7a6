use Rattle.std.proofs.Common.{◌<◌, length, arith}
use borrow.Author.Tests.{ltb-true}
use Rattle.ol_tables.specs.At.{file_at}
use Rattle.ol_check.proofs.ClashFile.{names_below}
use Rattle.ol_check.proofs.NamesBelow.{high_declared}
use Rattle.ol_order.specs.Tables.{entries_for}
use Rattle.ol_order.proofs.Definers.{entries_within, entries_long}
use Rattle.ol_sim.proofs.Begins.{rowed_done, declared_ready, places_are, types_room, typed_long, blank_sorts, countable, counted_ready}
use Rattle.ol_sim.proofs.serve.serve_with.Goals as goal

pub rows_of-sections-requires : goal.rows_of-sections-requires
rows_of-sections-requires g c =
    (c.requires.ready.reads, places_are c.requires.loads, omega arith, types_room c.requires.ready)

pub slice_bounds-sort_file-start : goal.slice_bounds-sort_file-start
slice_bounds-sort_file-start g c =
    let r = c.rows_of-sections in
    omega (arith, typed_long r.new.tab c.requires.ready r.ensures r.auto.tab)

pub slice_bounds-sort_file-end : goal.slice_bounds-sort_file-end
slice_bounds-sort_file-end g c =
    let r = c.rows_of-sections in
    omega (arith, typed_long r.new.tab c.requires.ready r.ensures r.auto.tab)

pub sort_file-s-requires : goal.sort_file-s-requires
sort_file-s-requires g c =
    let r = c.rows_of-sections in
    declared_ready (rowed_done c.requires.ready r.ensures)

pub count_arrays-requires-clause-countable : goal.count_arrays-requires-clause-countable
count_arrays-requires-clause-countable g c =
    let r = c.rows_of-sections in
    countable r.new.tab c.requires.ready r.ensures r.auto.tab c.sort_file-s.new.sorts c.sort_file-s.auto.sorts c.sort_file-s.ensures.arrays

pub serve_named-requires-clause-sections_ready : goal.serve_named-requires-clause-sections_ready
serve_named-requires-clause-sections_ready g c =
    let r = c.rows_of-sections in
    counted_ready r.new.tab c.requires.ready r.ensures r.auto.tab c.sort_file-s.new.sorts c.sort_file-s.auto.sorts c.count_arrays.new.tab c.count_arrays.ensures.0 c.count_arrays.ensures.1

pub serve_named-requires-clause-below : goal.serve_named-requires-clause-below
serve_named-requires-clause-below g c =
    let low : c.sort_file-s.result.highest < 256 = omega arith in
    names_below 256 c.sort_file-s.ensures low

pub serve_named-requires-clause-lows : goal.serve_named-requires-clause-lows
serve_named-requires-clause-lows g c =
    let s = c.args.project.now.file.now in
    let low : c.sort_file-s.result.highest < entries_for s = omega (arith, entries_within s) in
    λ e. names_below (entries_for s) c.sort_file-s.ensures low

pub serve_named-requires-clause-found : goal.serve_named-requires-clause-found
serve_named-requires-clause-found g c =
    let r = c.rows_of-sections in
    let low : c.sort_file-s.result.highest < 1024 = omega arith in
    record {
      clash = c.sort_file-s.ensures.finds (blank_sorts r.new.tab c.requires.ready r.ensures r.auto.tab (names_below 1024 c.sort_file-s.ensures low));
      arrays = c.sort_file-s.ensures.arrays;
    }

pub serve_named-requires-then-s-lt1024-clause-sections_ready : goal.serve_named-requires-then-s-lt1024-clause-sections_ready
serve_named-requires-then-s-lt1024-clause-sections_ready g c =
    let r = c.rows_of-sections in
    counted_ready r.new.tab c.requires.ready r.ensures r.auto.tab c.sort_file-s.new.sorts c.sort_file-s.auto.sorts c.count_arrays.new.tab c.count_arrays.ensures.0 c.count_arrays.ensures.1

pub serve_named-requires-then-s-lt1024-clause-below : goal.serve_named-requires-then-s-lt1024-clause-below
serve_named-requires-then-s-lt1024-clause-below g c =
    let low : c.sort_file-s.result.highest < 1024 = omega arith in
    names_below 1024 c.sort_file-s.ensures low

pub serve_named-requires-then-s-lt1024-clause-lows : goal.serve_named-requires-then-s-lt1024-clause-lows
serve_named-requires-then-s-lt1024-clause-lows g c =
    let s = c.args.project.now.file.now in
    let low : c.sort_file-s.result.highest < 1024 = omega arith in
    λ e. names_below (entries_for s) c.sort_file-s.ensures (omega (arith, low, entries_long s (ltb-true 256 (length s) e)))

pub serve_named-requires-then-s-lt1024-clause-found : goal.serve_named-requires-then-s-lt1024-clause-found
serve_named-requires-then-s-lt1024-clause-found g c =
    let r = c.rows_of-sections in
    let low : c.sort_file-s.result.highest < 1024 = omega arith in
    record {
      clash = c.sort_file-s.ensures.finds (blank_sorts r.new.tab c.requires.ready r.ensures r.auto.tab (names_below 1024 c.sort_file-s.ensures low));
      arrays = c.sort_file-s.ensures.arrays;
    }

pub serve_sorted-requires-clause-sections_ready : goal.serve_sorted-requires-clause-sections_ready
serve_sorted-requires-clause-sections_ready g c =
    let r = c.rows_of-sections in
    counted_ready r.new.tab c.requires.ready r.ensures r.auto.tab c.sort_file-s.new.sorts c.sort_file-s.auto.sorts c.count_arrays.new.tab c.count_arrays.ensures.0 c.count_arrays.ensures.1

pub serve_sorted-requires-clause-below : goal.serve_sorted-requires-clause-below
serve_sorted-requires-clause-below g c =
    let low : c.sort_file-s.result.highest < 8192 = omega arith in
    names_below 8192 c.sort_file-s.ensures low

pub serve_sorted-requires-else-s-lt8192-clause-sections_ready : goal.serve_sorted-requires-else-s-lt8192-clause-sections_ready
serve_sorted-requires-else-s-lt8192-clause-sections_ready g c =
    let r = c.rows_of-sections in
    counted_ready r.new.tab c.requires.ready r.ensures r.auto.tab c.sort_file-s.new.sorts c.sort_file-s.auto.sorts c.count_arrays.new.tab c.count_arrays.ensures.0 c.count_arrays.ensures.1

pub serve_sorted-requires-else-s-lt8192-clause-below : goal.serve_sorted-requires-else-s-lt8192-clause-below
serve_sorted-requires-else-s-lt8192-clause-below g c = high_declared (file_at c.args.project.now.file.now) c.requires.ready.stands
