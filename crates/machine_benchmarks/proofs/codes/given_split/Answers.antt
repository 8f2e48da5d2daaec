use Rattle.machine_benchmarks.proofs.codes.given_split.Goals as goal

pub returns-clause-lawful : goal.returns-clause-lawful
returns-clause-lawful c = c.in_ok-given.ensures.lawful c.args.n c.in_ok-partitions.ensures
