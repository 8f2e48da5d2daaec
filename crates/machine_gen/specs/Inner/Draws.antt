-- What words say about parts, and what is at the number of a row.
use Rattle.std.specs.Prelude.{ℕ, ◌+◌, ◌*◌, ◌/◌, ◌%◌, ◌^◌, List, map}
use Rattle.std.specs.List.{range_with_len}
use Rattle.kiss_file.specs.declared.file.KissRow.{KissRow}
use Rattle.machine_gen.specs.declared.draws.Draw.{Draw}
use Rattle.machine_gen.specs.declared.rows.Place.{Place}
use Rattle.machine_gen.specs.WordMachine.{IsDrawnRow, next_first, next_second}

-- what a word says where there are `a` first parts and `b` second parts
abbrev pub draw_of : ℕ → ℕ → ℕ → Draw
draw_of a b word = record { first = word % 65536 % a; second = word / 65536 % b }

-- what the first count words say, in order
abbrev pub draws_of : (ℕ → ℕ) → ℕ → ℕ → ℕ → List Draw
draws_of word a b count = map (λ n. draw_of a b (word n)) (range_with_len 0 count)

-- the parts of the state and the symbol at the number of a row
abbrev pub place_of : ℕ → ℕ → ℕ → Place
place_of b k number = record { first = number / 2 ^ k / b; second = number / 2 ^ k % b; symbol = number % 2 ^ k }

-- the row of a place, which goes to the given state
abbrev pub IsRowOfPlace : ℕ → ℕ → Place → ℕ → KissRow → Type 0
IsRowOfPlace b k place state row = IsDrawnRow b k place.first place.second place.symbol state row

-- where the words lead from a place
abbrev pub next_of : (ℕ → ℕ) → ℕ → ℕ → ℕ → Place → ℕ
next_of word a b k place = next_first word a k place.first place.symbol * b + next_second word b k place.second place.symbol
