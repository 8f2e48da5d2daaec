-- A character as the code keeps it. Private functions need it; no public contract cites it.
use Rattle.std.specs.Prelude.{ℕ, Bool, true, false, Option, Some, None}
use Rattle.cubes.specs.declared.cube.Character.{Character}
use Rattle.cubes.specs.declared.cube.Character.TheVariants.{Zero, One, Dash}

-- the bit of a character
abbrev pub bit_of : Character → Option Bool
bit_of Zero = Some false
bit_of One = Some true
bit_of Dash = None

-- the bits that a character adds at the end of the care and of the value
abbrev pub care_of : Character → ℕ
care_of Zero = 1
care_of One = 1
care_of Dash = 0

abbrev pub value_of : Character → ℕ
value_of Zero = 0
value_of One = 1
value_of Dash = 0
