use Rattle.std.proofs.Common.{sym, ◌∙◌}
use Rattle.std.proofs.lemmas.Bool.{eq-eqb, eqb-true}
use Rattle.closed_lattice.proofs.Passing.{meet_has_all}
use Rattle.closed_lattice.proofs.growth.MeetsInZeroCondition.is_met.Goals as goal

pub returns : goal.returns
returns c =
    let both = meet_has_all c.args.p.now c.args.self.now.other.now c.in_ok-common.common c.in_ok-common.ensures.meet in (
      (λ equal. both.0 (sym c.blocks-2.ensures ∙ eqb-true c.blocks-2.result c.len.result equal ∙ c.len.ensures.len)),
      (λ meets. eq-eqb c.blocks-2.result c.len.result (c.blocks-2.ensures ∙ both.1 meets ∙ sym c.len.ensures.len)),
    )
