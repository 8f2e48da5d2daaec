use Rattle.kiss2_laws.proofs.ReadLawful.{read_lawful}
use Rattle.kiss2_laws.proofs.records.read_is_lawful.Goals as goal

pub returns : goal.returns
returns c bytes F read = read_lawful bytes F read
