use Rattle.std.proofs.Common.{map, ap}
use Rattle.cubes.specs.Symbol.{digit}
use Rattle.machine_reports.proofs.laws.lines_show_outputs.Goals as goal

pub returns : goal.returns
returns c = λ F s x. ap (map digit) (c.words_write_outputs.ensures.outputs F s x)
