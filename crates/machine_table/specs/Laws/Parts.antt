-- The places of parts.
use Rattle.std.proofs.Common.{◌≡◌, refl, arith, ap}
use Rattle.machine_table.specs.declared.open_part.Missing.{Missing}
use Rattle.machine_table.specs.declared.open_part.Missing.TheVariants.{Next, Output}
use Rattle.machine_table.specs.OpenEntries.{place_of}

-- a place is that of one part
pub one_part : (part other : Missing) → place_of part ≡ place_of other → part ≡ other
one_part Next Next same = refl
one_part Next (Output b) same = absurd (omega arith)
one_part (Output b) Next same = absurd (omega arith)
one_part (Output b) (Output c) same = let it : b ≡ c = omega arith in ap Output it
