use Rattle.machine_cases.proofs.codes.codes.Goals as goal

pub encode-requires-clause-parts : goal.encode-requires-clause-parts
encode-requires-clause-parts c = c.in-Ok.ensures.lawful c.args.n c.requires.parts
