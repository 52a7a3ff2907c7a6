use Rattle.std.proofs.Common.{◌≡◌, ℕ, ◌+◌, ◌*◌, ◌≤◌, length, take, drop}
use Rattle.relay_text.specs.Lines.{order_word, with_indexes}
use Rattle.relay_text.proofs.answers.say_order.Given as goal

abbrev pub invariant-loop-index : goal.invariant-loop-index
invariant-loop-index l =
    record {
      same_reference : l.answer.out.ghost_name ≡ l.initial.answer.out.ghost_name;
      long : length l.answer.out.now ≡ length l.initial.answer.out.now;
      room : l.answer.length ≤ 8 + 21 * l.index-index;
      text : with_indexes (take l.answer.length l.answer.out.now) (drop l.index-index l.entries) ≡ with_indexes order_word l.entries;
      behind : (n : ℕ) → l.answer.length ≤ n → drop n l.answer.out.now ≡ drop n l.initial.answer.out.now;
      on : l.initial.answer.length ≤ l.answer.length;
    }
