use Rattle.std.proofs.Common.{ℕ, ◌≡◌, ◌<◌, false, None, Some, get_or, slice_get}
use Rattle.cubes.specs.Cube.{HoldsNumber}
use Rattle.cubes.specs.Symbol.{bit}
use Rattle.kiss_file.specs.declared.file.KissRow.{KissRow}
use Rattle.kiss_file.specs.Machine.{given_bit}
use Rattle.machine_table.specs.Inner.Gathered.{IsGathered}
use Rattle.machine_table.proofs.machine.Machine.output_word.Given as goal

abbrev pub invariant-loop-number : goal.invariant-loop-number
invariant-loop-number l = record {
  gathered : IsGathered l.self l.s l.x l.given l.word;
  seen : (k d : ℕ) (row : KissRow) → k < l.number-index → slice_get l.self.rows (get_or l.number-items k d) ≡ Some row → HoldsNumber row.cube l.x
      → (b : ℕ) → bit l.given b ≡ false → given_bit b row ≡ None;
}
