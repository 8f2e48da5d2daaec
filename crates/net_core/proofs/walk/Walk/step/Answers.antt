use Rattle.std.proofs.Common.{◌-◌, ◌++◌, ◌∷◌, [], ℕ, List, length, take, sym, subst, arith}
use Rattle.std.proofs.lemmas.List.{length-map}
use Rattle.net_core.specs.declared.walk.Walk.{Walk}
use Rattle.net_core.specs.Inner.Walk.{IsPath, RisesAt, Walks, reads_of}
use Rattle.net_core.specs.Inner.Cycle.{IsTurned}
use Rattle.net_core.proofs.Numbered.{stands_at}
use Rattle.net_core.proofs.Stages.{path_push, split_last}
use Rattle.net_core.proofs.Turning.{cycle_from_path}
use Rattle.net_core.proofs.walk.Walk.step.Goals as goal
use Rattle.net_core.proofs.walk.Walk.step.Goals.{in-Whole+in_ok-finish-in-Whole, in-Settled, in-New+in_ok-enter-in-New}

pub enter-requires-clause-path : goal.enter-requires-clause-path
enter-requires-clause-path c =
    let path = c.args.self.now.path.items in
    let reads = reads_of c.args.gates.now in
    let split = split_last path c.args.top c.requires.top in
    subst (λ (list : List ℕ). IsPath c.args.base reads (list ++ c.in-New.next ∷ [])) (sym split)
    (path_push c.args.base reads (take (length path - 1) path) c.args.top c.in-New.next (subst (IsPath c.args.base reads) split c.requires.walk.path_needs) c.in-New.ensures.1)

pub returns-in-Open-clause-err : goal.returns-in-Open-clause-err
returns-in-Open-clause-err c =
    let walk = c.args.self.now in
    cycle_from_path c.args.base (reads_of c.args.gates.now) walk.stages.items walk.path.items walk.placed.items c.args.top c.in-Open.next c.in_ok-cycle_of-in-Open.field-0.items c.requires.walk c.requires.top c.in-Open.ensures.0
    (subst (λ (path : List ℕ). IsTurned path c.in-Open.next c.in_ok-cycle_of-in-Open.field-0.items) c.deref.ensures.value c.in_ok-cycle_of-in-Open.ensures)

pub look-requires-clause-gate : goal.look-requires-clause-gate
look-requires-clause-gate c =
    let path = c.args.self.now.path.items in
    let here = c.requires.walk.path_are c.args.top (stands_at path (length path - 1) c.args.top c.requires.top) in
    omega (arith, here.0, length-map c.args.gates.now (λ gate. gate.inputs.items))

pub advance-requires-clause-top : goal.advance-requires-clause-top
advance-requires-clause-top c =
    let path = c.args.self.now.path.items in
    stands_at path (length path - 1) c.args.top c.requires.top

pub returns-clause-walk : goal.returns-clause-walk
returns-clause-walk c =
    let P : Walk → Type 0 = λ walk. Walks c.args.base c.args.gates.now walk in
    elim c.match-look.branch [
      | in-Whole+in_ok-finish-in-Whole w ↦ subst P (sym w.self-is) w.in_ok-finish-in-Whole.ensures.walk
      | in-Settled w ↦ subst P (sym w.self-is) w.advance.ensures.walk
      | in-New+in_ok-enter-in-New w ↦ subst P (sym w.self-is) w.in_ok-enter-in-New.ensures.walk
    ]

pub returns-clause-rises : goal.returns-clause-rises
returns-clause-rises c =
    let P : ℕ → Walk → Type 0 = λ g walk. RisesAt g c.args.self.now walk in
    let gates = c.args.gates.now in
    let path = c.args.self.now.path.items in
    let here = c.requires.walk.path_are c.args.top (stands_at path (length path - 1) c.args.top c.requires.top) in
    let count = length-map gates (λ gate. gate.inputs.items) in
    elim c.match-look.branch [
      | in-Whole+in_ok-finish-in-Whole w ↦ (c.args.top, omega (arith, here.0, count), subst (P c.args.top) (sym w.self-is) w.in_ok-finish-in-Whole.ensures.rises)
      | in-Settled w ↦ (c.args.top, omega (arith, here.0, count), subst (P c.args.top) (sym w.self-is) w.advance.ensures.rises)
      | in-New+in_ok-enter-in-New w ↦ (w.in-New.next, omega (arith, w.in-New.ensures.0, count), subst (P w.in-New.next) (sym w.self-is) w.in_ok-enter-in-New.ensures.rises)
    ]
