use Rattle.net_sim.proofs.ReadSymbols.{fault_answered, word_answered}
use Rattle.net_sim.proofs.symbols.read_symbols.Goals as goal

pub returns-clause-never_refused : goal.returns-clause-never_refused
returns-clause-never_refused c =
    word_answered c.args.inputs c.args.bytes.now (λ numbers. numbers.items) c.read_lines.result c.read_lines.ensures.read c.read_lines.ensures.refused

pub returns-clause-never_read : goal.returns-clause-never_read
returns-clause-never_read c =
    fault_answered c.args.inputs c.args.bytes.now (λ numbers. numbers.items) c.read_lines.result c.read_lines.ensures.read c.read_lines.ensures.refused
