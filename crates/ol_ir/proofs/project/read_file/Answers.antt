use mathlib.Core.Path.{◌∙◌}
use Rattle.ol_ir.proofs.Files.{read_done, read_refused}
use Rattle.ol_ir.proofs.Onward.{erred}
use Rattle.ol_ir.proofs.project.read_file.Goals as goal

pub returns-in_err-load_file : goal.returns-in_err-load_file
returns-in_err-load_file c = erred _ _ c.from_residual.ensures.1 ∙ read_refused _ c.load_file.ensures.read c.in_err-load_file.was

pub returns : goal.returns
returns c = read_done _ c.load_file.ensures.read c.in_ok-load_file.was
