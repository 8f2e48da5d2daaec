-- The answers of the program and their numbers.
use Rattle.std.specs.Prelude.{ℕ}
use Rattle.answers.specs.declared.numbers.Answer.{Answer}
use Rattle.answers.specs.declared.numbers.Answer.TheVariants.{Done, NoSplit, Usage, KissRefused, Conflict, Unspecified, More, PartRefused, CodeTooLong, NetRefused, SymbolRefused, ReadFault, TooLong, WriteFault, NoMemory, StateCount, CoverRefused, NotDefinite, NotReached, TooManyInputs, TooManyOutputs, NoPart, ClockIsSignal}

-- the exit status of an answer
abbrev pub answer_code : Answer → ℕ
answer_code Done = 0
answer_code NoSplit = 1
answer_code Usage = 2
answer_code KissRefused = 3
answer_code Conflict = 4
answer_code Unspecified = 5
answer_code More = 7
answer_code PartRefused = 8
answer_code CodeTooLong = 9
answer_code NetRefused = 10
answer_code SymbolRefused = 11
answer_code ReadFault = 12
answer_code TooLong = 13
answer_code WriteFault = 14
answer_code NoMemory = 15
answer_code StateCount = 17
answer_code CoverRefused = 18
answer_code NotDefinite = 19
answer_code NotReached = 20
answer_code TooManyInputs = 21
answer_code TooManyOutputs = 22
answer_code NoPart = 23
answer_code ClockIsSignal = 24
