use Rattle.blif_out.specs.Laws.Designs as designs
use Rattle.blif_out.proofs.plain_design_is_lawful.Goals as goal

pub returns : goal.returns
returns c = designs.plain_design_is_lawful
