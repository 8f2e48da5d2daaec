use Rattle.kiss_file.specs.Laws.Machine.{next_is_a_state}
use Rattle.kiss_file.proofs.laws.next_is_a_state.Goals as goal

pub returns : goal.returns
returns c = next_is_a_state
