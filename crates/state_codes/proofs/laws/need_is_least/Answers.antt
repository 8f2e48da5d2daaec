use Rattle.state_codes.specs.Laws.Need.{need_is_least}
use Rattle.state_codes.proofs.laws.need_is_least.Goals as goal

pub returns : goal.returns
returns c = need_is_least
