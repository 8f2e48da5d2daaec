-- What the gate of an output reads, and the classes that it rests on.
use Rattle.std.specs.Prelude.{◌≡◌, ℕ, ◌*◌, ◌<◌, ◌↔◌, All, List, length, map, slice_index}
use Rattle.dependence.specs.BitLists.{AreListed}
use Rattle.dependence.specs.SufficientBits.{InWord}
use Rattle.kiss_file.specs.declared.file.KissFile.{KissFile}
use Rattle.shift_real.specs.declared.output_reads.OutputReading.{OutputReading}
use Rattle.shift_real.specs.Inner.OutputReads.{FlipMatters, MattersAmong}
use Rattle.shift_real.specs.Inner.Tables.{AreFirsts}

-- the classes are those of the states of the table, and the set lists the latches and the inputs that matter by
-- these classes and at these states
pub record IsOutputReading (F : KissFile) (k b : ℕ) (table : List ℕ) (reading : OutputReading) : Type 0 where
  pub firsts : List ℕ
  pub are : AreFirsts F b (length F.states) firsts
  pub mapped : reading.classes.items ≡ map (slice_index firsts) table
  pub within : All (λ class. class < length F.states) reading.classes.items
  pub latch_bits : (latch : ℕ) → InWord reading.mask latch ↔ (latch < k * F.inputs × FlipMatters reading.classes.items latch)
  pub inputs : ℕ
  pub input_bits : (a : ℕ) → InWord inputs a ↔ MattersAmong F b table (length F.states) a
  pub listed_latches : AreListed reading.set.latches reading.mask 64
  pub listed_inputs : AreListed reading.set.inputs inputs 64
