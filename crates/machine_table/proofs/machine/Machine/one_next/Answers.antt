use Rattle.std.proofs.Common.{ℕ, ◌<◌, ◌≤◌, ◌^◌, ◌∙◌, length, subst, sym, arith}
use Rattle.machine_table.proofs.SettledCubes.{settled_next}
use Rattle.machine_table.proofs.machine.Machine.one_next.Goals as goal

pub next-requires-clause-x : goal.next-requires-clause-x
next-requires-clause-x c = subst (λ (w : ℕ). c.least_symbol.result < 2 ^ w) c.requires.width c.least_symbol.ensures.within

pub overflow_cast-result : goal.overflow_cast-result
overflow_cast-result c =
    let few : length c.args.self.now.states ≤ 256 = c.keeps_its_states.ensures.table.states in
    omega (arith, few, c.next.ensures.state)

pub returns : goal.returns
returns c y held =
    let F = c.args.self.now in
    let table = c.keeps_its_states.ensures.table in
    let no_conflict = c.keeps_its_states.ensures.no_conflict in
    settled_next F table no_conflict c.args.s c.args.cube.now c.requires.settled y c.least_symbol.result held c.least_symbol.ensures.held ∙ sym c.next.ensures.next
