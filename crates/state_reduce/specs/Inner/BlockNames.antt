-- The names of blocks on the first rows. Private functions need these definitions; no public contract cites
-- them.
use Rattle.std.specs.Prelude.{◌<◌, ◌==◌, ℕ, Contains, List, filter, length, map}
use Rattle.std.specs.List.{filter_map}
use Rattle.kiss_file.specs.declared.file.KissFile.{KissFile}
use Rattle.kiss_file.specs.declared.file.KissRow.{KissRow}
use Rattle.partition.specs.NestedBlocks.{least_of}
use Rattle.state_reduce.specs.Quotient.{block_name, block_names}

-- the rows that are kept
abbrev pub kept_of : List ℕ → List KissRow → List KissRow
kept_of p rows = filter (λ row. least_of p row.from == row.from) rows

-- the names of the blocks of their current states
abbrev pub currents_of : KissFile → List ℕ → List KissRow → List (List ℕ)
currents_of F p rows = map (λ row. block_name F p row.from) (kept_of p rows)

-- and of their next states
abbrev pub nexts_of : KissFile → List ℕ → List KissRow → List (List ℕ)
nexts_of F p rows = map (block_name F p) (filter_map (λ row. row.to) (kept_of p rows))

-- each block has a name
abbrev pub AreAllNamed : KissFile → List ℕ → Type 0
AreAllNamed F p = (s : ℕ) → s < length F.states → Contains (block_names F p) (block_name F p s)
