use Rattle.std.proofs.Common.{◌==◌}
use Rattle.std.proofs.lemmas.Bool.Decides.{Decides-eqb}
use Rattle.std.proofs.lemmas.List.Elements.{Decides-contains, contains_decides}
use Rattle.cover_split.proofs.state_cover.has_state.Goals as goal

pub returns : goal.returns
returns c =
    Decides-contains c.args.block.now c.args.s c.contains.result (contains_decides (λ x y. x == y) Decides-eqb c.args.block.now c.args.s c.contains.result c.contains.ensures.cases)
