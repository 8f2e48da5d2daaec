use Rattle.std.proofs.Common.{◌∙◌, sym, subst, List, ℕ, Contains}
use Rattle.net_core.proofs.Numbered.{first_outside}
use Rattle.net_core.proofs.numbering.Signals.used.Goals as goal

pub returns-in_ok-name-in-None-clause-err : goal.returns-in_ok-name-in-None-clause-err
returns-in_ok-name-in-None-clause-err c =
    first_outside c.args.self.now c.args.name.now c.in_ok-name-in-None.name (c.in_ok-name-in-None.ensures ∙ c.bytes-in-None.ensures)
    (λ h. c.in-None.ensures.none (subst (λ (name : List ℕ). Contains c.args.self.now name) (sym c.bytes.ensures) h))
