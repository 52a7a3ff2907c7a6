use mathlib.Core.Path.{◌∙◌, ap, sym}
use Rattle.std.proofs.Common.{rules}
use lib.Seq.{sets}
use Rattle.ol_ir.specs.Nexts.{after_format}
use Rattle.ol_ir.specs.Walks.{loaded_of, file_places}
use Rattle.ol_ir.proofs.Files.{file_long, file_empty, file_known, file_unknown}
use Rattle.ol_ir.proofs.Load.{not_loaded, places_long, places_empty, places_known, places_unknown}
use Rattle.ol_ir.proofs.project.load_file.Goals as goal

pub returns-then-file-gt32768 : goal.returns-then-file-gt32768
unfolding loaded_of
returns-then-file-gt32768 c =
    let s = c.args.file.now in
    let a = sym (ap loaded_of (file_long s c.if-file-gt32768.true)) in
    record { read = c.refused.ensures ∙ a; places = λ f end g. not_loaded s f end a g; all = ap (sets c.args.starts.now 0) (places_long s c.if-file-gt32768.true) }

pub returns-then-is_empty : goal.returns-then-is_empty
unfolding loaded_of
returns-then-is_empty c =
    let s = c.args.file.now in
    let a = sym (ap loaded_of (file_empty s c.if-file-gt32768.false (search rules))) in
    record { read = c.refused-then-is_empty.ensures ∙ a; places = λ f end g. not_loaded s f end a g; all = ap (sets c.args.starts.now 0) (places_empty s c.if-file-gt32768.false (search rules)) }

pub returns-else-file-eq1 : goal.returns-else-file-eq1
unfolding loaded_of
returns-else-file-eq1 c =
    let s = c.args.file.now in
    let a = sym (ap loaded_of (file_unknown s c.if-file-gt32768.false (search rules) c.if-file-eq1.false)) in
    record { read = c.refused-else-file-eq1.ensures ∙ a; places = λ f end g. not_loaded s f end a g; all = ap (sets c.args.starts.now 0) (places_unknown s c.if-file-gt32768.false (search rules) c.if-file-eq1.false) }

pub returns-then-file-eq1 : goal.returns-then-file-eq1
returns-then-file-eq1 c =
    let s = c.args.file.now in
    let a = ap (after_format s) c.base.ensures ∙ sym (file_known s c.if-file-gt32768.false (search rules) c.if-file-eq1.true) in
    record {
      read = c.load_limited.ensures.read ∙ ap loaded_of a;
      places = λ f end g. c.load_limited.ensures.places f end (a ∙ g);
      all = c.load_limited.ensures.all ∙ ap (sets c.args.starts.now 0) (ap (file_places s) c.base.ensures ∙ places_known s c.if-file-gt32768.false (search rules) c.if-file-eq1.true);
    }
