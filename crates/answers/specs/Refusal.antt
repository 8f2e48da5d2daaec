-- The answer of each refusal, and the line that goes to err with it.
use Rattle.std.specs.Prelude.{ℕ, ◌++◌, List, codes}
use Rattle.std.specs.Fmt.{decimal}
use Rattle.answers.specs.declared.numbers.Answer.{Answer}
use Rattle.answers.specs.declared.numbers.Answer.TheVariants as answers
use Rattle.answers.specs.declared.refusals.CoverFlaw.{CoverFlaw}
use Rattle.answers.specs.declared.refusals.CoverFlaw.TheVariants as flaws
use Rattle.answers.specs.declared.refusals.PartFlaw.{PartFlaw}
use Rattle.answers.specs.declared.refusals.PartFlaw.TheVariants as part_flaws
use Rattle.answers.specs.declared.refusals.Refusal.{Refusal}
use Rattle.answers.specs.declared.refusals.Refusal.TheVariants.{Usage, Unreadable, TooLong, NoMachine, Conflict, Unspecified, More, PartLabel, PartLength, NotApart, NoSplit, CodeTooLong, NoNetwork, BadStart, UnknownStart, BadSymbol, StateCount, BadCover, NotDefinite, NotReached, TooManyInputs, TooManyOutputs, NoPart, ClockIsSignal, Unwritable, NoMemory}
use Rattle.answers.specs.KissTexts.{kind_text}
use Rattle.answers.specs.NetTexts.{fault_line}
use Rattle.blif_out.specs.Head.{kind_word}
use Rattle.hs_texts.specs.ErrLines.{bad_start_line, cannot_read_line, cannot_write_line, clock_line, code_bits_line, conflict_line, cover_lacks_line, cover_leaves_line, cover_place_line, cover_places_line, cover_trivial_line, cover_within_line, inputs_line, kiss_line, more_line, no_memory_line, no_part_line, no_split_line, not_apart_line, not_definite_line, not_reached_line, outputs_inputs_line, outputs_line, outputs_name_line, part_bits_line, part_inputs_line, part_length_line, part_name_line, part_place_line, start_unknown_line, state_count_line, symbol_line, too_long_line, unspecified_line, usage_line}
use Rattle.machine_table.specs.declared.open_part.Missing.{Missing}
use Rattle.machine_table.specs.declared.open_part.Missing.TheVariants.{Next, Output}
use Rattle.state_codes.specs.declared.which.Which.{Which}
use Rattle.state_codes.specs.declared.which.Which.TheVariants.{Outputs, Part}

-- the answer of a refusal
abbrev pub answer_of : Refusal → Answer
answer_of (Usage word) = answers.Usage
answer_of (Unreadable name) = answers.ReadFault
answer_of (TooLong name) = answers.TooLong
answer_of (NoMachine fault) = answers.KissRefused
answer_of (Conflict row other) = answers.Conflict
answer_of (Unspecified state symbol part) = answers.Unspecified
answer_of (More limit) = answers.More
answer_of (PartLabel part place) = answers.PartRefused
answer_of (PartLength part found states) = answers.PartRefused
answer_of (NotApart state other) = answers.PartRefused
answer_of (NoSplit kind) = answers.NoSplit
answer_of (CodeTooLong bits) = answers.CodeTooLong
answer_of (NoNetwork fault) = answers.NetRefused
answer_of BadStart = answers.SymbolRefused
answer_of (UnknownStart latch) = answers.SymbolRefused
answer_of (BadSymbol number) = answers.SymbolRefused
answer_of (StateCount states) = answers.StateCount
answer_of (BadCover flaw) = answers.CoverRefused
answer_of (NotDefinite state other) = answers.NotDefinite
answer_of (NotReached reset) = answers.NotReached
answer_of (TooManyInputs inputs) = answers.TooManyInputs
answer_of TooManyOutputs = answers.TooManyOutputs
answer_of (NoPart flaw) = answers.NoPart
answer_of (ClockIsSignal clock) = answers.ClockIsSignal
answer_of Unwritable = answers.WriteFault
answer_of NoMemory = answers.NoMemory

-- the text of what is missing
abbrev pub missing_text : Missing → List ℕ
missing_text Next = codes "next"
missing_text (Output b) = codes "output " ++ decimal b

-- the line of a flaw of a cover
abbrev pub flaw_line : CoverFlaw → List ℕ
flaw_line (flaws.Place block place) = cover_place_line block place
flaw_line (flaws.Within block other) = cover_within_line block other
flaw_line (flaws.Lacks state) = cover_lacks_line state
flaw_line (flaws.Places found) = cover_places_line found
flaw_line flaws.Trivial = cover_trivial_line
flaw_line (flaws.Leaves block symbol) = cover_leaves_line block symbol

-- the line of a machine with too many inputs
abbrev pub inputs_line_of : Which → ℕ → List ℕ
inputs_line_of (Part part) inputs = part_inputs_line part inputs
inputs_line_of Outputs inputs = outputs_inputs_line inputs

-- the line of a machine with a name that is too long
abbrev pub name_line_of : Which → ℕ → List ℕ
name_line_of (Part part) bytes = part_name_line part bytes
name_line_of Outputs bytes = outputs_name_line bytes

-- the line of a part, or of outputs, without a machine
abbrev pub part_line : PartFlaw → List ℕ
part_line (part_flaws.Missing part) = no_part_line part
part_line (part_flaws.NoBits part) = part_bits_line part
part_line (part_flaws.ManyInputs which inputs) = inputs_line_of which inputs
part_line (part_flaws.LongName which bytes) = name_line_of which bytes

-- the line of a refusal
abbrev pub line_of : Refusal → List ℕ
line_of (Usage word) = usage_line word
line_of (Unreadable name) = cannot_read_line name
line_of (TooLong name) = too_long_line name
line_of (NoMachine fault) = kiss_line fault.line (kind_text fault.kind)
line_of (Conflict row other) = conflict_line row other
line_of (Unspecified state symbol part) = unspecified_line state symbol (missing_text part)
line_of (More limit) = more_line limit
line_of (PartLabel part place) = part_place_line part place
line_of (PartLength part found states) = part_length_line part found states
line_of (NotApart state other) = not_apart_line state other
line_of (NoSplit kind) = no_split_line (kind_word kind)
line_of (CodeTooLong bits) = code_bits_line bits
line_of (NoNetwork fault) = fault_line fault
line_of BadStart = bad_start_line
line_of (UnknownStart latch) = start_unknown_line latch
line_of (BadSymbol number) = symbol_line number
line_of (StateCount states) = state_count_line states
line_of (BadCover flaw) = flaw_line flaw
line_of (NotDefinite state other) = not_definite_line state other
line_of (NotReached reset) = not_reached_line reset
line_of (TooManyInputs inputs) = inputs_line inputs
line_of TooManyOutputs = outputs_line
line_of (NoPart flaw) = part_line flaw
line_of (ClockIsSignal clock) = clock_line clock
line_of Unwritable = cannot_write_line
line_of NoMemory = no_memory_line
