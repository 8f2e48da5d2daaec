-- The lines that go to err with an answer. Each ends with a line feed.
use Rattle.std.specs.Prelude.{ℕ, List, [], ◌∷◌, ◌++◌, codes}
use Rattle.std.specs.Fmt.{decimal}
use Rattle.std.specs.List.{flat_map}
use Rattle.hs_io.specs.Spelling.{spaced}

-- a text as a line, ended by a line feed
abbrev pub as_line : List ℕ → List ℕ
as_line text = text ++ 10 ∷ []

-- the line of refused words, with the number of the first refused word
abbrev pub usage_line : ℕ → List ℕ
usage_line word = as_line (codes "hsdec: usage word " ++ decimal word)

-- the line of a file that cannot be read
abbrev pub cannot_read_line : List ℕ → List ℕ
cannot_read_line name = as_line (codes "hsdec: cannot read " ++ name)

-- the line of a file that is too long
abbrev pub too_long_line : List ℕ → List ℕ
too_long_line name = as_line (codes "hsdec: too long " ++ name)

-- the line of a text of a machine that is refused: the number of its line, and what is wrong there
abbrev pub kiss_line : ℕ → List ℕ → List ℕ
kiss_line number fault = as_line (codes "hsdec: kiss line " ++ decimal number ++ codes ": " ++ fault)

-- the line of a text of a network that is refused: the number of its line, and what is wrong there
abbrev pub net_line : ℕ → List ℕ → List ℕ
net_line number fault = as_line (codes "hsdec: net line " ++ decimal number ++ codes ": " ++ fault)

-- the line of a signal with two drivers
abbrev pub two_drivers_line : List ℕ → List ℕ
two_drivers_line name = as_line (codes "hsdec: net two drivers " ++ name)

-- the line of a signal that nothing drives
abbrev pub undriven_line : List ℕ → List ℕ
undriven_line name = as_line (codes "hsdec: net undriven " ++ name)

-- the line of a cycle of gates, with the names of their outputs
abbrev pub cycle_line : List (List ℕ) → List ℕ
cycle_line names = as_line (codes "hsdec: net cycle" ++ flat_map spaced names)

-- the line of a start that is not a text of a bit for each latch
abbrev pub bad_start_line : List ℕ
bad_start_line = as_line (codes "hsdec: bad start")

-- the line of a latch whose first value is not known
abbrev pub start_unknown_line : List ℕ → List ℕ
start_unknown_line name = as_line (codes "hsdec: start unknown " ++ name)

-- the line of a text of symbols that is refused, with the number of the first line that is wrong
abbrev pub symbol_line : ℕ → List ℕ
symbol_line number = as_line (codes "hsdec: symbols line " ++ decimal number)

-- the line of two rows that conflict
abbrev pub conflict_line : ℕ → ℕ → List ℕ
conflict_line row other = as_line (codes "hsdec: conflict rows " ++ decimal row ++ codes " and " ++ decimal other)

-- the line of what a machine leaves open at a state and a symbol
abbrev pub unspecified_line : List ℕ → List ℕ → List ℕ → List ℕ
unspecified_line state symbol part =
    as_line (codes "hsdec: unspecified state " ++ state ++ codes " symbol " ++ symbol ++ codes " " ++ part)

-- the line of a listing that exceeds its limit
abbrev pub more_line : ℕ → List ℕ
more_line limit = as_line (codes "hsdec: more than " ++ decimal limit)

-- the line of a text of a part that is not a partition: the number of the part, and the place of its first bad
-- label
abbrev pub part_place_line : ℕ → ℕ → List ℕ
part_place_line part place = as_line (codes "hsdec: part " ++ decimal part ++ codes " place " ++ decimal place)

-- the line of a text of a part that does not have as many labels as there are states
abbrev pub part_length_line : ℕ → ℕ → ℕ → List ℕ
part_length_line part found states =
    as_line (codes "hsdec: part " ++ decimal part ++ codes " has " ++ decimal found ++ codes " labels, not " ++ decimal states)

-- the line of two states that are together in all parts
abbrev pub not_apart_line : List ℕ → List ℕ → List ℕ
not_apart_line state other = as_line (codes "hsdec: states " ++ state ++ codes " and " ++ other ++ codes " not apart")

-- the line of codes that have too many bits
abbrev pub code_bits_line : ℕ → List ℕ
code_bits_line bits = as_line (codes "hsdec: code has " ++ decimal bits ++ codes " bits")

-- the line of a machine that has no decomposition of a kind
abbrev pub no_split_line : List ℕ → List ℕ
no_split_line kind = as_line (codes "hsdec: no " ++ kind ++ codes " decomposition")

-- the line of a machine that is not definite, with the names of two states that, for every length, some word of
-- that length keeps apart
abbrev pub not_definite_line : List ℕ → List ℕ → List ℕ
not_definite_line state other = as_line (codes "hsdec: not definite, states " ++ state ++ codes " and " ++ other)

-- the line of a definite machine in whose reset state no word of as many symbols as its order ends
abbrev pub not_reached_line : List ℕ → List ℕ
not_reached_line reset = as_line (codes "hsdec: reset " ++ reset ++ codes " not reached")

-- the line of a machine for which no least code is sought
abbrev pub state_count_line : ℕ → List ℕ
state_count_line states = as_line (codes "hsdec: least needs 3 to 8 states, not " ++ decimal states)

-- the line of a machine that has too many symbols to compare them
abbrev pub inputs_line : ℕ → List ℕ
inputs_line inputs = as_line (codes "hsdec: inputs " ++ decimal inputs ++ codes " above 8")

-- the line of a machine with too many outputs that occur
abbrev pub outputs_line : List ℕ
outputs_line = as_line (codes "hsdec: more than 256 outputs")

-- ---- covers
-- the line of a text of a cover with a place whose piece is not the number of a state, or not greater than the one
-- before
abbrev pub cover_place_line : ℕ → ℕ → List ℕ
cover_place_line block place = as_line (codes "hsdec: cover block " ++ decimal block ++ codes " place " ++ decimal place)

-- the line of a block all of whose states are in another block
abbrev pub cover_within_line : ℕ → ℕ → List ℕ
cover_within_line block other = as_line (codes "hsdec: cover block " ++ decimal block ++ codes " within block " ++ decimal other)

-- the line of a state that is in no block
abbrev pub cover_lacks_line : List ℕ → List ℕ
cover_lacks_line state = as_line (codes "hsdec: cover lacks " ++ state)

-- the line of blocks that have too many places in all
abbrev pub cover_places_line : ℕ → List ℕ
cover_places_line found = as_line (codes "hsdec: cover has " ++ decimal found ++ codes " places")

-- the line of a cover that splits nothing
abbrev pub cover_trivial_line : List ℕ
cover_trivial_line = as_line (codes "hsdec: cover is trivial")

-- the line of a block whose next states are in no one block, with the digits of the symbol
abbrev pub cover_leaves_line : ℕ → List ℕ → List ℕ
cover_leaves_line block symbol = as_line (codes "hsdec: cover block " ++ decimal block ++ codes " leaves at symbol " ++ symbol)

-- ---- the machines of a split
-- the line of a part that a split does not have
abbrev pub no_part_line : ℕ → List ℕ
no_part_line part = as_line (codes "hsdec: no part " ++ decimal part)

-- the line of a part whose code has no bits
abbrev pub part_bits_line : ℕ → List ℕ
part_bits_line part = as_line (codes "hsdec: part " ++ decimal part ++ codes " has no bits")

-- the line of a part whose machine has too many inputs
abbrev pub part_inputs_line : ℕ → ℕ → List ℕ
part_inputs_line part inputs = as_line (codes "hsdec: part " ++ decimal part ++ codes " has " ++ decimal inputs ++ codes " inputs")

-- the line of outputs whose machine has too many inputs
abbrev pub outputs_inputs_line : ℕ → List ℕ
outputs_inputs_line inputs = as_line (codes "hsdec: outputs have " ++ decimal inputs ++ codes " inputs")

-- the line of a part whose machine has a name that is too long
abbrev pub part_name_line : ℕ → ℕ → List ℕ
part_name_line part bytes =
    as_line (codes "hsdec: part " ++ decimal part ++ codes " has a name of " ++ decimal bytes ++ codes " bytes")

-- the line of outputs whose machine has a name that is too long
abbrev pub outputs_name_line : ℕ → List ℕ
outputs_name_line bytes = as_line (codes "hsdec: outputs have a name of " ++ decimal bytes ++ codes " bytes")

-- ---- networks
-- the line of a clock that is a signal of the network
abbrev pub clock_line : List ℕ → List ℕ
clock_line name = as_line (codes "hsdec: clock " ++ name ++ codes " is a signal")

-- the line of a text that could not be put whole
abbrev pub cannot_write_line : List ℕ
cannot_write_line = as_line (codes "hsdec: cannot write")

-- the line for a lack of memory
abbrev pub no_memory_line : List ℕ
no_memory_line = as_line (codes "hsdec: no memory")
