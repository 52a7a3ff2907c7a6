-- The members' measures, and the invariants of their loops.
use Rattle.std.proofs.Common.{◌-◌, ◌+◌, ◌*◌, ◌≤◌, ◌≡◌, length, drop}
use Rattle.ol_spec.specs.Cell.{values_of}
use Rattle.ol_spec.specs.Eval.{then_out, map_from, fold_from}
use Rattle.ol_tables.specs.Table.{consts_of}
use Rattle.ol_frame.specs.Equations.{arrays_count}
use Rattle.ol_frame.specs.Stores.{groups}
use Rattle.ol_eval.specs.Calls.{applied_in}
use Rattle.ol_spec.specs.Order.{order}
use Rattle.ol_tables.specs.At.{node_in}
use Rattle.ol_frame.specs.Frame.{Keeps}
use Rattle.ol_eval.proofs.Turns.{LeftIn}
use Rattle.ol_eval.proofs.Arguments.{Goes, cons_all}
use Rattle.ol_eval.proofs.eval.+evaluation.Given as goal

abbrev pub decreases-apply : goal.decreases-apply
decreases-apply l = l.k * 1024 + 1001

abbrev pub decreases-call_function : goal.decreases-call_function
decreases-call_function l = l.k * 1024 + 996

abbrev pub decreases-enter : goal.decreases-enter
decreases-enter l = l.frame.now.node * 1024 + l.level * 32 + 1

abbrev pub decreases-equation : goal.decreases-equation
decreases-equation l = l.frame.now.node * 1024 + 994

abbrev pub decreases-equation_1024 : goal.decreases-equation_1024
decreases-equation_1024 l = l.frame.now.node * 1024 + 993

abbrev pub decreases-equation_32 : goal.decreases-equation_32
decreases-equation_32 l = l.frame.now.node * 1024 + 993

abbrev pub decreases-equation_in : goal.decreases-equation_in
decreases-equation_in l = l.frame.now.node * 1024 + 992

abbrev pub decreases-eval : goal.decreases-eval
decreases-eval l = l.frame.now.node * 1024 + l.level * 32 + 9

abbrev pub decreases-eval_all : goal.decreases-eval_all
decreases-eval_all l = l.frame.now.node * 1024 + l.level * 32 + 11

abbrev pub decreases-eval_array : goal.decreases-eval_array
decreases-eval_array l = l.frame.now.node * 1024 + l.level * 32 + 7

abbrev pub decreases-eval_call : goal.decreases-eval_call
decreases-eval_call l = l.frame.now.node * 1024 + l.level * 32 + 7

abbrev pub decreases-eval_equal : goal.decreases-eval_equal
decreases-eval_equal l = l.frame.now.node * 1024 + l.level * 32 + 10

abbrev pub decreases-eval_first : goal.decreases-eval_first
decreases-eval_first l = l.frame.now.node * 1024 + l.level * 32 + 12

abbrev pub decreases-eval_fold : goal.decreases-eval_fold
decreases-eval_fold l = l.frame.now.node * 1024 + l.level * 32 + 2

abbrev pub decreases-eval_form : goal.decreases-eval_form
decreases-eval_form l = l.frame.now.node * 1024 + l.level * 32 + 8

abbrev pub decreases-eval_if : goal.decreases-eval_if
decreases-eval_if l = l.frame.now.node * 1024 + l.level * 32 + 13

abbrev pub decreases-eval_index : goal.decreases-eval_index
decreases-eval_index l = l.frame.now.node * 1024 + l.level * 32 + 11

abbrev pub decreases-eval_map : goal.decreases-eval_map
decreases-eval_map l = l.frame.now.node * 1024 + l.level * 32 + 2

abbrev pub decreases-eval_part : goal.decreases-eval_part
decreases-eval_part l = l.frame.now.node * 1024 + l.level * 32 + 10

abbrev pub decreases-eval_second : goal.decreases-eval_second
decreases-eval_second l = l.frame.now.node * 1024 + l.level * 32 + 12

abbrev pub decreases-eval_single : goal.decreases-eval_single
decreases-eval_single l = l.frame.now.node * 1024 + l.level * 32 + 6

abbrev pub decreases-eval_two : goal.decreases-eval_two
decreases-eval_two l = l.frame.now.node * 1024 + l.level * 32 + 11

abbrev pub decreases-eval_work : goal.decreases-eval_work
decreases-eval_work l = l.frame.now.node * 1024 + l.level * 32 + 5

abbrev pub decreases-fold_from : goal.decreases-fold_from
decreases-fold_from l = l.k * 1024 + 1002

abbrev pub decreases-function_112 : goal.decreases-function_112
decreases-function_112 l = l.k * 1024 + 997

abbrev pub decreases-function_3584 : goal.decreases-function_3584
decreases-function_3584 l = l.k * 1024 + 997

abbrev pub decreases-map_from : goal.decreases-map_from
decreases-map_from l = l.k * 1024 + 1002

abbrev pub decreases-run : goal.decreases-run
decreases-run l = l.frame.now.node * 1024 + 995

abbrev pub decreases-step_in : goal.decreases-step_in
decreases-step_in l = l.k * 1024 + 998

abbrev pub decreases-step_instance : goal.decreases-step_instance
decreases-step_instance l = l.k * 1024 + 997

abbrev pub decreases-step_site : goal.decreases-step_site
decreases-step_site l = l.k * 1024 + 1000

abbrev pub decreases-step_untaken : goal.decreases-step_untaken
decreases-step_untaken l = l.frame.now.node * 1024 + l.level * 32 + 11

abbrev pub decreases-step_wide : goal.decreases-step_wide
decreases-step_wide l = l.k * 1024 + 999

abbrev pub decreases-work_1024 : goal.decreases-work_1024
decreases-work_1024 l = l.frame.now.node * 1024 + l.level * 32 + 4

abbrev pub decreases-work_256 : goal.decreases-work_256
decreases-work_256 l = l.frame.now.node * 1024 + l.level * 32 + 4

abbrev pub decreases-work_32 : goal.decreases-work_32
decreases-work_32 l = l.frame.now.node * 1024 + l.level * 32 + 4

abbrev pub decreases-work_512 : goal.decreases-work_512
decreases-work_512 l = l.frame.now.node * 1024 + l.level * 32 + 4

abbrev pub decreases-work_768 : goal.decreases-work_768
decreases-work_768 l = l.frame.now.node * 1024 + l.level * 32 + 4

abbrev pub decreases-work_in : goal.decreases-work_in
decreases-work_in l = l.frame.now.node * 1024 + l.level * 32 + 3

abbrev pub decreases-run-loop-j : goal.decreases-run-loop-j
decreases-run-loop-j l = l.n - l.j

-- the parts that are left go on from here as all of them from the start
abbrev pub invariant-eval_all-loop-i : goal.invariant-eval_all-loop-i
invariant-eval_all-loop-i l =
    (l.i ≤ arrays_count l.file l.at) × (length l.new ≡ length l.initial.new) × (length l.to ≡ length l.initial.to) × Goes l.file l.tab l.level l.at l.frame l.old (arrays_count l.file l.at - l.i) l.i l.pos l.used l.q l.to l.new

abbrev pub decreases-eval_all-loop-i : goal.decreases-eval_all-loop-i
decreases-eval_all-loop-i l = l.n - l.i

-- the first elements are made, and the others are still to be
abbrev pub invariant-map_from-loop-j : goal.invariant-map_from-loop-j
invariant-map_from-loop-j l =
    (l.j ≤ l.n) × (length l.to ≡ length l.initial.to) × (map_from (applied_in l.file (consts_of l.tab) l.k) (groups l.n l.c l.arrays) 0 l.n ≡ cons_all (values_of l.j l.to) (map_from (applied_in l.file (consts_of l.tab) l.k) (groups l.n l.c l.arrays) l.j (l.n - l.j)))

abbrev pub decreases-map_from-loop-j : goal.decreases-map_from-loop-j
decreases-map_from-loop-j l = l.n - l.j

-- the elements that are left go on from the running value
abbrev pub invariant-fold_from-loop-j : goal.invariant-fold_from-loop-j
invariant-fold_from-loop-j l =
    (l.j ≤ l.n) × (then_out (λ v. fold_from (applied_in l.file (consts_of l.tab) l.k) v (values_of l.n l.array)) l.initial.out ≡ then_out (λ v. fold_from (applied_in l.file (consts_of l.tab) l.k) v (drop l.j (values_of l.n l.array))) l.out)

abbrev pub decreases-fold_from-loop-j : goal.decreases-fold_from-loop-j
decreases-fold_from-loop-j l = l.n - l.j

-- the equations that are left go on from here as all of them from the start
abbrev pub invariant-run-loop-j : goal.invariant-run-loop-j
invariant-run-loop-j l =
    (l.j ≤ l.n) × Keeps l.initial.frame l.frame × (length l.new ≡ length l.initial.new) × LeftIn l.file (consts_of l.tab) l.initial.frame.node l.initial.frame.first l.initial.frame.cells.now l.initial.frame.before.now l.old (drop l.j (order (node_in l.file l.initial.frame.node).equations)) l.frame.cells.now l.new
