use Rattle.std.proofs.Common.{ℕ, ◌≡◌, ◌<◌, IfSome, Option, length, sym, ◌∙◌, subst}
use Rattle.cubes.specs.Symbol.{symbol_of}
use Rattle.kiss_file.specs.Laws.Machine.{next_said}
use Rattle.kiss_file.specs.Machine.{next}
use Rattle.machine_table.proofs.GatheredOutputs.{gathered_more}
use Rattle.machine_table.proofs.machine.Machine.gathered_with.Goals as goal
use Rattle.machine_table.proofs.machine.Machine.gathered_with.Goals.{in-Some, in-None}

pub returns : goal.returns
returns c =
    let F = c.args.self.now in
    let x = symbol_of F.inputs c.args.x in
    let row = c.args.row.now in
    let no_conflict = c.keeps_its_states.ensures.no_conflict in
    let P : Option ℕ → Type 0 = λ o. IfSome o (λ t. (t ≡ next F c.args.s x) × (t < length F.states)) in
    record {
      next_state = elim c.match-row.branch [
        | in-Some w ↦ subst P (sym w.next-is) (
          w.from.ensures ∙ sym (next_said F c.args.s x no_conflict row w.in-Some.t c.requires.row w.in-Some.is),
          subst (λ (n : ℕ). n < length F.states) (sym w.from.ensures) (subst (λ (o : Option ℕ). IfSome o (λ u. u < length F.states)) w.in-Some.is c.requires.lawful.to),
        )
        | in-None w ↦ subst P (sym w.next-is) c.requires.found.next_state
      ];
      outputs = gathered_more F c.args.s c.args.x no_conflict row c.requires.lawful c.requires.row c.args.found.given c.args.found.word c.requires.found.outputs;
    }
