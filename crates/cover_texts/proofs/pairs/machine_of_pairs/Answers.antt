use Rattle.std.proofs.Common.{inr, refl, sym, subst}
use Rattle.kiss_file.specs.declared.file.KissFile.{KissFile}
use Rattle.cover_texts.specs.Inner.Steps.{IsExpanded}
use Rattle.cover_texts.proofs.pairs.machine_of_pairs.Goals as goal

pub of_accepted-requires-clause-accepted : goal.of_accepted-requires-clause-accepted
of_accepted-requires-clause-accepted c = record { no_conflict = c.in-Ok.ensures.no_conflict; filled = inr refl }

pub returns-in_ok-of_accepted-in-Ok : goal.returns-in_ok-of_accepted-in-Ok
returns-in_ok-of_accepted-in-Ok c =
    subst (λ (E : KissFile). IsExpanded c.args.machine.now c.args.cover.now.blocks E) (sym c.in_ok-of_accepted-in-Ok.ensures)
    (record { closed = c.in-Ok.ensures.closed; expansion = c.in-Ok.ensures.expansion; answers = c.in-Ok.ensures.answers_alike })
