-- What a row gives. Private functions need it; no public contract cites it.
use Rattle.std.specs.Prelude.{◌≡◌, ◌↔◌, ℕ, ◌<◌, true}
use Rattle.cubes.specs.Symbol.{bit}
use Rattle.kiss_file.specs.declared.file.KissRow.{KissRow}
use Rattle.part_rows.specs.declared.part_row.Given.{Given}
use Rattle.part_rows.specs.declared.shown.Bits.{Bits}

-- each of the bits is given
pub record GivesBits (bits : Bits) (given : Given) : Type 0 where
  pub care : (b : ℕ) → (bit given.care b ≡ true) ↔ (b < bits.count)
  pub value : given.value ≡ bits.word

-- what the row gives is given
pub record GivesAsRow (row : KissRow) (given : Given) : Type 0 where
  pub care : given.care ≡ row.care
  pub value : given.value ≡ row.value
