use Rattle.std.specs.Prelude.{ℕ}
use Rattle.net_core.specs.declared.Start.{Start}
use Rattle.net_core.specs.declared.Start.TheVariants.{Zero, One, Free, Unknown}

-- the digit of a start in BLIF, as its code (source: the SIS manual)
abbrev pub start_digit : Start → ℕ
start_digit Zero = 48
start_digit One = 49
start_digit Free = 50
start_digit Unknown = 51
