use Rattle.kiss2_laws.proofs.ReadLawful.{read_lawful}
use Rattle.machine_benchmarks.proofs.files.file_in.Goals as goal

pub returns : goal.returns
returns c = read_lawful c.args.text.now c.in-Ok.file c.in-Ok.ensures.read
