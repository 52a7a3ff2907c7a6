use Rattle.std.proofs.Common.{refl}
use native.Mathlib.Omega.{arith}
use Rattle.std.specs.Prelude.{Ok}
use Rattle.std.proofs.lemmas.Slice.Eq.{text_from_reads}
use Rattle.relay.specs.Requests.{file_word, order_name, start_word, load_word, cycle_word, at_word, command_of}
use Rattle.relay.specs.declared.request.Command.TheVariants as Com
use Rattle.relay.proofs.Asks.{named}
use Rattle.relay.proofs.request.command_named.Goals as goal

pub returns-in-file : goal.returns-in-file
unfolding command_of
returns-in-file c = named c.args.word.now file_word (Ok Com.File) (text_from_reads c.args.word.now file_word (omega arith) (omega arith, (omega arith, (omega arith, (omega arith, tt))))) refl

pub returns-in-order : goal.returns-in-order
unfolding command_of
returns-in-order c = named c.args.word.now order_name (Ok Com.Order) (text_from_reads c.args.word.now order_name (omega arith) (omega arith, (omega arith, (omega arith, (omega arith, (omega arith, tt)))))) refl

pub returns-in-start : goal.returns-in-start
unfolding command_of
returns-in-start c = named c.args.word.now start_word (Ok Com.Start) (text_from_reads c.args.word.now start_word (omega arith) (omega arith, (omega arith, (omega arith, (omega arith, (omega arith, tt)))))) refl

pub returns-in-load : goal.returns-in-load
unfolding command_of
returns-in-load c = named c.args.word.now load_word (Ok Com.Load) (text_from_reads c.args.word.now load_word (omega arith) (omega arith, (omega arith, (omega arith, (omega arith, tt))))) refl

pub returns-in-cycle : goal.returns-in-cycle
unfolding command_of
returns-in-cycle c = named c.args.word.now cycle_word (Ok Com.Cycle) (text_from_reads c.args.word.now cycle_word (omega arith) (omega arith, (omega arith, (omega arith, (omega arith, (omega arith, tt)))))) refl

pub returns-in-at : goal.returns-in-at
unfolding command_of
returns-in-at c = named c.args.word.now at_word (Ok Com.At) (text_from_reads c.args.word.now at_word (omega arith) (omega arith, (omega arith, tt))) refl
