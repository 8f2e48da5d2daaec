use Rattle.std.proofs.Common.{◌+◌, ◌-◌, ◌*◌, length}
use Rattle.least_codes.proofs.code.+try_codes.Given as goal

abbrev pub decreases-try_codes : goal.decreases-try_codes
decreases-try_codes l = (length l.words.now - l.s) * 4 + (l.bits - l.i)
