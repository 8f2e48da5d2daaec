-- The split that a job makes of the machine of a file, with all that the network of this split is made of.
use Rattle.std.specs.Prelude.{◌≡◌, ℕ, All, Bool, List, length}
use Rattle.dependence.specs.declared.sets.Reads.{Reads}
use Rattle.dependence.specs.Reads.{AreReads}
use Rattle.kiss_file.specs.declared.file.KissFile.{KissFile}
use Rattle.net_core.specs.declared.SignalNames.{SignalNames}
use Rattle.realise.specs.Names.{AreNames}
use Rattle.split_texts.specs.Splits.{IsSplitOf}
use Rattle.split_texts.specs.SplitText.{AreCodes}
use Rattle.state_codes.specs.declared.Codes.{Codes}
use Rattle.state_codes.specs.declared.split.Kind.{Kind}
use Rattle.state_codes.specs.declared.split.Part.{Part}
use Rattle.state_codes.specs.Split.{IsPart}
use Rattle.state_reduce.specs.Work.{IsWorkOf}

-- W is the machine that the job works on. The parts are a split of it of this kind, the codes are those of the parts,
-- the sets are what the gates of the split's network read, and the names are those of its signals.
pub record IsSplitMachine (kind : Kind) (text : List ℕ) (reduce : Bool) (F W : KissFile) (parts : List Part) (codes : Codes) (sets : Reads) (names : SignalNames) : Type 0 where
  pub work : IsWorkOf reduce F W
  pub split : IsSplitOf kind text W parts
  pub lawful : All (IsPart (length W.states)) parts
  pub coded : AreCodes (length W.states) parts codes
  pub reads : AreReads W parts codes sets
  pub own : AreNames F codes.bits names

-- two splits of one job
pub record IsSameSplit (W V : KissFile) (parts others : List Part) (codes more : Codes) (sets reads : Reads) (names signals : SignalNames) : Type 0 where
  pub machine : W ≡ V
  pub parts_are : parts ≡ others
  pub codes_are : codes ≡ more
  pub reads_are : sets ≡ reads
  pub names_are : names ≡ signals

-- a job has one split: one work machine, and of it the same parts, codes, read sets and names
abbrev pub SplitIsOne : Type 0
SplitIsOne =
    (kind : Kind) (text : List ℕ) (reduce : Bool) (F W V : KissFile) (parts others : List Part) (codes more : Codes) (sets reads : Reads) (names signals : SignalNames)
    → IsSplitMachine kind text reduce F W parts codes sets names → IsSplitMachine kind text reduce F V others more reads signals
    → IsSameSplit W V parts others codes more sets reads names signals
