-- Demands 3 and 2 of the public functions: `demand3_holds`, `demand2_holds`. Each call's contract says that it is the definition's call, so a list of calls is the definition's history.
use Prim.Native.Nat.{ℕ}
use mathlib.Core.List.{List, [], ◌∷◌}
use mathlib.Core.Logic.{◌↔◌}
use mathlib.Core.Path.{◌≡◌, refl, sym, ap, subst, ◌∙◌}
use native.Mathlib.Omega.{arith}
use lib.ListN.{length}
use Rattle.ol_spec.specs.Syntax.{File}
use Rattle.ol_spec.specs.Limits.{relay_loader}
use Rattle.ol_spec.specs.Order.{Ring}
use Rattle.ol_spec.specs.Answers.{Verdict, Sorted, fault_at}
use Rattle.ol_spec.specs.Admission.{Judged, refused, admitted, judge, verdict, state_size}
use Rattle.ol_spec.specs.State.{fresh_state}
use Rattle.ol_spec.specs.Cycle.{OrderingCall, CycleCall, StartCall, start, cycle}
use Rattle.ol_spec.specs.Demand3.{Orders, OrderingClaim, Unfaulted, RingIn, RingClaim, SolutionClaim, RelistedClaim, RelistingClaim, Bytes, Made, next_state, history, AllSolve, AgreeUntil}
use Rattle.std.specs.Prelude.{Ok, Err}
use Rattle.ol_spec.specs.Encode.{encode}
use Rattle.ol_spec.specs.RustSim.{stuck, all_consts}
use Rattle.ol_spec.specs.AsRust.{AsRust, RunsAsRust, constant_place, ConstantsAsRust, OrdersAsRust}
use Rattle.ol_spec.specs.Lustre.{PreArrowClaim}
use Rattle.ol_spec.specs.Instances.{AllAtPast, InstancesClaim}
use Rattle.ol_spec.specs.Sequences.{Sequences, SequencesClaim, NeverReturns}
use Rattle.ol_spec.specs.Instants.{AllPass, InstancesNeverReturn, InstantsClaim, StartNeverReturns}
use Rattle.ol_spec.proofs.Admits.{admits}
use Rattle.ol_spec.proofs.Demand3.{demand3, start_writes}
use Rattle.ol_spec.proofs.AsRust.{runs_as_rust}
use Rattle.ol_spec.proofs.RustFile.{constants_as_rust}
use Rattle.ol_spec.proofs.RustOrder.{orders_as_rust}
use Rattle.ol_spec.proofs.PreArrow.{pre_arrow_claim}
use Rattle.ol_spec.proofs.Instances.{instances_claim}
use Rattle.ol_spec.proofs.Sequences.{sequences_claim}
use Rattle.ol_spec.proofs.Instants.{instants_claim, start_never_returns}
use Rattle.ol_spec.proofs.Faults.{numbers_claim}
use Rattle.ol_spec.proofs.Warm.{causes_claim}
use Rattle.ol_real.proofs.Reals.{ieee754_holds}
use Rattle.ol_real.proofs.Operators.{operators_hold}
use Rattle.ol_real.proofs.Formats.{formats_kept}
use Rattle.ol_sim.specs.Calls.{CyclesAs}
use Rattle.ol_demand.specs.Demand.{OrderingHolds, RingHolds, Cycles, Service, Tree, turns, SolutionHolds, RelistedHolds, RelistingHolds, Demand3Holds, RunsAsRustHolds, ConstantsAsRustHolds, OrdersAsRustHolds, PreArrowHolds, InstancesHolds, SequencesHolds, InstantsHolds, StartNeverReturnsHolds, Demand2Holds}

-- what a cycle answered and wrote is the definition's call
called : {w : CycleCall} {r : CycleCall} → CyclesAs w r.answer r.new r.values → r ≡ w
called h = λ i. record { answer = h.answered i; new = h.renewed i; values = h.valued i }

-- the calls are the definition's history on the same turns
pub cycles_history : (s old : List ℕ) (ms : List Made) → Cycles s old ms → ms ≡ history relay_loader s (turns ms) old
cycles_history s old [] h = refl
cycles_history s old (m ∷ ms) h =
    let o = h.0 in
    let c : m.result ≡ cycle relay_loader s old m.turn.inputs m.turn.new m.turn.values =
    called h.1 ∙ ap (λ (x : List ℕ). cycle relay_loader s x m.turn.inputs m.turn.new m.turn.values) o in
    let n = ap (λ (r : CycleCall). next_state r.answer old r.new) c in
    let rest = cycles_history s _ ms h.2 ∙ ap (history relay_loader s (turns ms)) n in
    λ i. record { turn = m.turn; old = o i; result = c i } ∷ rest i

-- an admitted file has its tree
tree_of : (s : List ℕ) (j : Judged) (n : ℕ) → judge relay_loader s ≡ j → verdict j ≡ Ok n → Tree s
tree_of s (refused k p) n e h = absurd (let z : ◌≡◌ {A = ℕ} 0 1 = cc in omega arith)
tree_of s (admitted f vs) n e h = record { file = f; constants = vs; is = e }

pub service_tree : (s : List ℕ) (ms : List Made) → Service s ms → Tree s
service_tree s ms h = tree_of s (judge relay_loader s) h.size refl (sym h.judged ∙ h.admits)

-- a service's cycles are the history from the start state
pub service_history : (s : List ℕ) (ms : List Made) → Bytes s → (h : Service s ms) (t : Tree s) → ms ≡ history relay_loader s (turns ms) (fresh_state t.file t.constants)
service_history s ms b h t =
    let w = start_writes relay_loader s t.file t.constants b t.is h.lent (sym h.judged ∙ h.admits ∙ ap Ok (sym h.long)) in
    let e : h.state ≡ fresh_state t.file t.constants = h.started.written ∙ ap (λ (c : StartCall). c.state) w in
    cycles_history s h.state ms h.cycles ∙ ap (history relay_loader s (turns ms)) e

ordering_holds : OrderingHolds
unfolding OrderingHolds OrderingClaim
ordering_holds s f at k n buf r buf' e g h =
    let c = demand3.ordering s f at k n buf e g in (
      subst (λ (x : Sorted). ((p : ℕ) × (x ≡ Err (fault_at 11 p))) ↔ Ring n.equations) (sym h.answered) c.0,
      λ a l. (h.answered ∙ (c.1 a l).0, subst (Orders n.equations) (sym h.written) (c.1 a l).1),
    )

solution_holds : SolutionHolds
unfolding SolutionHolds SolutionClaim
solution_holds s ms b h =
    let t = service_tree s ms h in
    (t, subst (AllSolve t.file t.constants) (sym (service_history s ms b h t)) (demand3.solution s t.file t.constants (turns ms) b t.is))

relisting_holds : RelistingHolds
unfolding RelistingHolds RelistingClaim
relisting_holds s s' ms ms' t f' at b h e r =
    let q = demand3.relisting s s' t.file f' t.constants at [] [] b t.is e r tt in (
      q.1,
      λ b' h' a.
          let p = demand3.relisting s s' t.file f' t.constants at (turns ms) (turns ms') b t.is e r a in
          let t' : Tree s' = record { file = f'; constants = t.constants; is = p.0 } in
          subst (λ x. AgreeUntil t.file x ms') (sym (service_history s ms b h t))
          (subst (λ x. AgreeUntil t.file (history relay_loader s (turns ms) (fresh_state t.file t.constants)) x) (sym (service_history s' ms' b' h' t')) p.2),
    )

ring_holds : RingHolds
unfolding RingHolds RingClaim
ring_holds s r h = subst (λ (x : Verdict). ((p : ℕ) × (x ≡ Err (fault_at 11 p))) ↔ ((f : File) × Unfaulted relay_loader s f × RingIn f)) (sym h.answered) (demand3.rings s)

relisted_holds : RelistedHolds
unfolding RelistedHolds RelistedClaim
relisted_holds s t f' b r =
    let a = admits relay_loader s t.file t.constants t.is in
    let w = demand3.relisted s t.file f' a.end b a.read r in
    (encode f', w.1, w.2, w.0)

pub demand3_holds : Demand3Holds
demand3_holds = record { ordering = ordering_holds; rings = ring_holds; solution = solution_holds; relisted = relisted_holds; relisting = relisting_holds }

-- ---- the second demand: what the definition's history has, the service has

module _ (s : List ℕ) (ms : List Made) (b : Bytes s) (h : Service s ms) (t : Tree s) where
  abbrev past : List Made
  past = history relay_loader s (turns ms) (fresh_state t.file t.constants)

  served : (P : List Made → Type 0) → P past → P ms
  served P p = subst P (sym (service_history s ms b h t)) p

  -- the start's buffer is as long as the state
  long : length h.lent ≡ state_size t.file
  long = h.long ∙ same_size (sym h.admits ∙ h.judged ∙ ap verdict t.is)
    where
      same_size : {m n : ℕ} → ◌≡◌ {A = Verdict} (Ok m) (Ok n) → m ≡ n
      same_size e = cc

runs_hold : RunsAsRustHolds
unfolding RunsAsRustHolds RunsAsRust
runs_hold s ms b h t =
    let w = runs_as_rust relay_loader s t.file t.constants h.lent (turns ms) b t.is (long s ms b h t) in
    let e : h.state ≡ (start relay_loader s h.lent).state = h.started.written in (
      w.0,
      w.1,
      e ∙ ap (λ (c : StartCall). c.state) w.2,
      subst (AsRust t.file w.0) (sym (cycles_history s h.state ms h.cycles ∙ ap (history relay_loader s (turns ms)) e)) w.3,
    )

constants_hold : ConstantsAsRustHolds
unfolding ConstantsAsRustHolds ConstantsAsRust
constants_hold s f r b u no11 h p =
    subst (λ (x : Verdict). (x ≡ Err (fault_at 12 p)) ↔ ((i : ℕ) × (all_consts f ≡ stuck i) × (p ≡ constant_place f i))) (sym h.answered)
    ((constants_as_rust relay_loader s f b u).1 no11 p)

orders_hold : OrdersAsRustHolds
unfolding OrdersAsRustHolds OrdersAsRust
orders_hold s f at k n buf r buf' e g h =
    let w = orders_as_rust relay_loader s f at k n buf e g in (
      λ is q l. (h.answered ∙ ap (λ (c : OrderingCall). c.answer) (w.0 is q l), h.written ∙ ap (λ (c : OrderingCall). c.buffer) (w.0 is q l)),
      λ i is q. h.answered ∙ w.1 i is q,
      w.2,
    )

pre_arrow_holds : PreArrowHolds
unfolding PreArrowHolds PreArrowClaim
pre_arrow_holds s ms b h t earlier m later e =
    pre_arrow_claim relay_loader s t.file t.constants (turns ms) b t.is earlier m later (sym (service_history s ms b h t) ∙ e)

instances_hold : InstancesHolds
unfolding InstancesHolds InstancesClaim
instances_hold s ms b h t =
    let w = instances_claim relay_loader s t.file t.constants (turns ms) b t.is in
    (w.0, w.1, served s ms b h t (AllAtPast t.file t.constants [] w.0) w.2)

sequences_hold : SequencesHolds
unfolding SequencesHolds SequencesClaim
sequences_hold s ms b h t =
    let w = sequences_claim relay_loader s t.file t.constants (turns ms) b t.is in
    (served s ms b h t (Sequences t.file t.constants) w.0, w.1)

instants_hold : InstantsHolds
unfolding InstantsHolds InstantsClaim
instants_hold s ms b h t =
    let w = instants_claim relay_loader s t.file t.constants (turns ms) b t.is in
    (w.0, w.1, served s ms b h t (AllPass t.file t.constants w.0) w.2)

never_returns_holds : StartNeverReturnsHolds
unfolding StartNeverReturnsHolds StartNeverReturns
never_returns_holds s ms b h t =
    let w = start_never_returns relay_loader s t.file t.constants (turns ms) b t.is in (
      served s ms b h t (NeverReturns t.file t.constants) w.0,
      (w.1.0, w.1.1, served s ms b h t (InstancesNeverReturn t.file t.constants w.1.0) w.1.2),
    )

pub demand2_holds : Demand2Holds
demand2_holds =
    record {
      reals = ieee754_holds;
      operators = operators_hold;
      formats = formats_kept;
      numbers = numbers_claim relay_loader;
      causes = causes_claim relay_loader;
      runs_as_rust = runs_hold;
      constants_as_rust = constants_hold;
      orders_as_rust = orders_hold;
      pre_arrow_claim = pre_arrow_holds;
      instances_claim = instances_hold;
      sequences_claim = sequences_hold;
      instants_claim = instants_hold;
      start_never_returns = never_returns_holds;
    }
