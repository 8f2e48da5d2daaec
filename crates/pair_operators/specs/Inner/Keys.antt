-- For private functions and proofs alone: numbers that tell states apart.
use Rattle.std.specs.Prelude.{ℕ, ◌≡◌, ◌+◌, ◌*◌, ◌%◌, ◌<◌, ◌^◌, List, length, slice_index}
use Rattle.kiss_file.specs.declared.file.KissFile.{KissFile}
use Rattle.pair_operators.specs.declared.next_columns.Keys.{Keys}
use Rattle.pair_operators.specs.NextBlocks.{Goes}

-- the number of a state after one more label
abbrev pub mixed : ℕ → ℕ → ℕ
mixed key label = (key * 11400714819323198485 % 2 ^ 64 + label) % 2 ^ 64

-- each number is mixed with the label in q of the next state
pub record AreMixed (keys q states more : List ℕ) : Type 0 where
  pub size : length more ≡ length keys
  pub each : (s : ℕ) → s < length keys → slice_index more s ≡ mixed (slice_index keys s) (slice_index q (slice_index states s))

-- states that go together have one number
pub record AreKeys (F : KissFile) (q : List ℕ) (keys : Keys) : Type 0 where
  pub size : length keys.numbers.items ≡ length F.states
  pub one : (s t : ℕ) → s < length F.states → t < length F.states → Goes F q s t → slice_index keys.numbers.items s ≡ slice_index keys.numbers.items t
