use Rattle.state_pairs.specs.Laws.Lawful.{table_of_lawful}
use Rattle.machine_table.proofs.laws.lawful_is_a_table.Goals as goal

pub returns : goal.returns
returns c = table_of_lawful
