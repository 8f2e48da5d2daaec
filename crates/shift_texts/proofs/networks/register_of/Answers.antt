use Rattle.std.proofs.Common.{ℕ, ◌*◌, ap, ◌∙◌, subst}
use Rattle.realise.specs.Names.{AreNames}
use Rattle.shift_texts.proofs.Registering.{made_is, names_for}
use Rattle.shift_texts.proofs.networks.register_of.Goals as goal

pub register-requires-clause-names : goal.register-requires-clause-names
register-requires-clause-names c =
    names_for c.requires.work.0 c.args.work.now.file.now c.args.work.now c.requires.work.1 c.requires.lawful c.requires.no_conflict c.args.order c.requires.order c.in_ok-signals.signals
    (subst (λ (bits : ℕ). AreNames c.args.work.now.file.now bits c.in_ok-signals.signals) (ap (λ (n : ℕ). c.args.order * n) (c.from.ensures ∙ c.inputs.ensures.count)) c.in_ok-signals.ensures)

pub returns-in-Ok : goal.returns-in-Ok
returns-in-Ok c =
    made_is c.requires.work.0 c.args.work.now.file.now c.args.work.now c.requires.work.1 c.requires.lawful c.requires.no_conflict c.args.order c.requires.order c.in_ok-signals.signals
    (subst (λ (bits : ℕ). AreNames c.args.work.now.file.now bits c.in_ok-signals.signals) (ap (λ (n : ℕ). c.args.order * n) (c.from.ensures ∙ c.inputs.ensures.count)) c.in_ok-signals.ensures)
    c.in-Ok.net c.in-Ok.ensures.network c.in-Ok.ensures.sound c.in-Ok.ensures.steps c.in-Ok.ensures.answers
