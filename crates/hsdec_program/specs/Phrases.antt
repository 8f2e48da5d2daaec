-- What the pages say about commands, operands and options; each is a line without its line feed.
use Rattle.std.specs.Prelude.{ℕ, List, Option, Some, None, codes}
use Rattle.job_words.specs.declared.command.Command.{Command}
use Rattle.job_words.specs.declared.command.Command.TheVariants as commands
use Rattle.job_words.specs.declared.table.CommandOption.{CommandOption}
use Rattle.job_words.specs.declared.table.CommandOption.TheVariants.{Limit, Reduce, Start, Fill, Names, Clock, Model}
use Rattle.job_words.specs.declared.table.OperandKind.{OperandKind}
use Rattle.job_words.specs.declared.table.OperandKind.TheVariants.{File, Net, Part, Parts, Symbols, Cover, Split, J, Seed, A, B, K}

-- what a command does
abbrev pub phrase_of : Command → List ℕ
phrase_of commands.Check = codes "prints the counts of the machine, or the first fault of its text"
phrase_of commands.Reduce = codes "prints the machine of the classes of states that no word tells apart"
phrase_of commands.Closed = codes "lists the closed partitions"
phrase_of commands.Output = codes "lists the closed partitions that the outputs respect"
phrase_of commands.Pairs = codes "lists the Mm pairs"
phrase_of commands.Low = codes "prints m(PART), the least partition that PART makes a pair with"
phrase_of commands.High = codes "prints M(PART), the greatest partition that makes a pair with PART"
phrase_of commands.Code = codes "writes the network in the natural code"
phrase_of commands.Assign = codes "writes the network in the code of the given partitions"
phrase_of commands.Parallel = codes "splits the machine into parts that run side by side"
phrase_of commands.Serial = codes "splits the machine into a part and a second one that reads it"
phrase_of commands.Cascade = codes "splits the machine into a chain of parts, each reading those before it"
phrase_of commands.Feedback = codes "splits the machine into two parts that read each other as little as they can"
phrase_of commands.Walk = codes "prints the machine's answers to a file of symbols"
phrase_of commands.Sim = codes "prints a network's answers to a file of symbols"
phrase_of commands.Gen = codes "makes a machine that has a parallel decomposition, and prints it as KISS2"
phrase_of commands.Trial = codes "makes that machine, and prints a summary and its parallel decomposition"
phrase_of commands.Least = codes "writes the network in a code whose latches read the fewest bits"
phrase_of commands.Cover = codes "writes the network of a closed cover of the states"
phrase_of commands.Definite = codes "shows how the states of a definite machine come together"
phrase_of commands.Shift = codes "writes a definite machine as a shift register"
phrase_of commands.Ispairs = codes "lists the Mm pairs of inputs and states"
phrase_of commands.Sopairs = codes "lists the Mm pairs of states and outputs"
phrase_of commands.Compare = codes "counts the network of each kind, or says why there is none"
phrase_of commands.Part = codes "prints one of the smaller machines of a split as KISS2"

-- the words of an example of each command
abbrev pub example_of : Command → List ℕ
example_of commands.Check = codes "check modulo4.kiss"
example_of commands.Reduce = codes "reduce alike.kiss"
example_of commands.Closed = codes "closed modulo4.kiss --limit 100"
example_of commands.Output = codes "output modulo4.kiss --limit 100"
example_of commands.Pairs = codes "pairs modulo4.kiss --limit 100"
example_of commands.Low = codes "low modulo4.kiss 0,0,1,1"
example_of commands.High = codes "high modulo4.kiss 0,0,1,1"
example_of commands.Code = codes "code modulo4.kiss"
example_of commands.Assign = codes "assign modulo4.kiss 0,1,0,1/0,0,1,1"
example_of commands.Parallel = codes "parallel product.kiss"
example_of commands.Serial = codes "serial modulo4.kiss"
example_of commands.Cascade = codes "cascade counter8.kiss"
example_of commands.Feedback = codes "feedback crossed.kiss"
example_of commands.Walk = codes "walk modulo4.kiss -"
example_of commands.Sim = codes "sim modulo4.blif - --start 00"
example_of commands.Gen = codes "gen 42 4 4 1"
example_of commands.Trial = codes "trial 42 4 4 1"
example_of commands.Least = codes "least modulo4.kiss"
example_of commands.Cover = codes "cover modulo4.kiss 0,1/0,3/1,2/2,3"
example_of commands.Definite = codes "definite three_ones.kiss"
example_of commands.Shift = codes "shift shift3.kiss"
example_of commands.Ispairs = codes "ispairs modulo4.kiss --limit 100"
example_of commands.Sopairs = codes "sopairs modulo4.kiss --limit 100"
example_of commands.Compare = codes "compare modulo4.kiss"
example_of commands.Part = codes "part modulo4.kiss serial 1"

-- the words that make the file of an example before it; the files of the other examples are in the folder examples
abbrev pub making_of : Command → Option (List ℕ)
making_of commands.Sim = Some (codes "serial modulo4.kiss > modulo4.blif")
making_of command = None

-- the name of an operand
abbrev pub operand_word : OperandKind → List ℕ
operand_word File = codes "FILE"
operand_word Net = codes "NET"
operand_word Part = codes "PART"
operand_word Parts = codes "PARTS"
operand_word Symbols = codes "SYMBOLS"
operand_word Cover = codes "COVER"
operand_word Split = codes "SPLIT"
operand_word J = codes "J"
operand_word Seed = codes "SEED"
operand_word A = codes "A"
operand_word B = codes "B"
operand_word K = codes "K"

-- what an operand is
abbrev pub operand_note : OperandKind → List ℕ
operand_note File = codes "  FILE         a machine in KISS2; - is standard input"
operand_note Net = codes "  NET          a network in BLIF; - is standard input"
operand_note Part = codes "  PART         the block of each state in order, counted from 0, as 0,1,0,2"
operand_note Parts = codes "  PARTS        partitions joined by slashes, as 0,1,0,1/0,0,1,1"
operand_note Symbols = codes "  SYMBOLS      a line for each symbol, a 0 or 1 for each input; - is standard input"
operand_note Cover = codes "  COVER        blocks of states, counted from 0, joined by slashes, as 0,1/0,2/1,2"
operand_note Split = codes "  SPLIT        code, parallel, serial, cascade, feedback, least, or as 0,1,0,1/0,0,1,1"
operand_note J = codes "  J            the number of a part, of one to three digits, from 0; or outputs"
operand_note Seed = codes "  SEED         the number that the machine is made from, of one to nine digits"
operand_note A = codes "  A            how many states its first factor has, from 2 to 128"
operand_note B = codes "  B            how many its second factor has, from 2 to 128; A times B is at most 256"
operand_note K = codes "  K            how many inputs it has, from 1 to 8"

-- an option with the word that it takes, in brackets
abbrev pub option_words : CommandOption → List ℕ
option_words Limit = codes "[--limit N]"
option_words Reduce = codes "[--reduce]"
option_words Start = codes "[--start BITS]"
option_words Fill = codes "[--fill hold]"
option_words Names = codes "[--names]"
option_words Clock = codes "[--clock NAME]"
option_words Model = codes "[--model NAME]"

-- what an option is for
abbrev pub option_note : CommandOption → List ℕ
option_note Limit = codes "  --limit N    lists up to N, from 1 to 10,000; without it up to 1,000"
option_note Reduce = codes "  --reduce     works on the classes of states that no word tells apart"
option_note Start = codes "  --start BITS the first values of the latches in order, a 0 or 1 for each"
option_note Fill = codes "  --fill hold  fills what is open: the machine stays in its state and puts out 0"
option_note Names = codes "  --names      prints each block by the names of its states, in braces"
option_note Clock = codes "  --clock NAME the clock of the latches, which is no signal of the network"
option_note Model = codes "  --model NAME the name of the network's model; without it hsdec"
