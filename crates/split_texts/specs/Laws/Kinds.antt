-- Laws of the kinds: there is only one list of parts for each, the parts distinguish all states where the machine
-- may have none, and information flows through them as they say. What a kind promises of codes and gates holds.
use Rattle.std.proofs.Common.{◌≡◌, ℕ, All, List, [], ◌∷◌, length, sym, ap, ◌∙◌, subst, arith}
use Rattle.answers.specs.declared.numbers.Answer.TheVariants as answers
use Rattle.answers.specs.Cause.{CallsForNone}
use Rattle.answers.specs.Laws.Causes.{HasOneAnswer, one_of}
use Rattle.decomposition.specs.Flow.{Flows}
use Rattle.feedback_split.specs.Laws.Chosen as feedbacks
use Rattle.kiss_file.specs.declared.file.KissFile.{KissFile}
use Rattle.least_codes.specs.Laws.Chosen.{least_split_is_one}
use Rattle.machine_table.specs.NextStates.{NeverLeaves}
use Rattle.net_core.specs.declared.Network.{Network}
use Rattle.parallel_split.specs.Laws.Chosen as parallels
use Rattle.operands.specs.PartFaults.{BadParts}
use Rattle.operands.specs.Laws.Parts.{bad_parts_is_of, one_list_of_parts}
use Rattle.partition.specs.Partition.{zero_of}
use Rattle.serial_split.specs.Laws.Chosen as serials
use Rattle.state_codes.specs.declared.Codes.{Codes}
use Rattle.state_codes.specs.declared.split.Kind.{Kind}
use Rattle.state_codes.specs.declared.split.Kind.TheVariants.{Code, Assign, Parallel, Serial, Cascade, Feedback, Least}
use Rattle.state_codes.specs.declared.split.Part.{Part}
use Rattle.state_codes.specs.Code.{IsCode}
use Rattle.state_codes.specs.Fault.{AreApart}
use Rattle.state_codes.specs.Kinds.{PartsMeetInZero}
use Rattle.state_codes.specs.Split.{IsPart, given_parts}
use Rattle.split_texts.specs.GivenParts.{AreGivenParts}
use Rattle.split_texts.specs.Inner.RuleReads.{ReadByRule}
use Rattle.split_texts.specs.Kinds.{KindRow, row_of}
use Rattle.split_texts.specs.LeastNetwork.{HasOtherCount}
use Rattle.split_texts.specs.Splits.{AreParts}
use Rattle.split_texts.specs.Laws.Flows.{cascade_flows, feedback_flows, given_flows, least_flows, parallel_flows, serial_flows}
use Rattle.split_texts.specs.Laws.Least.{least_kept, other_count_is_of}

-- what every row of the table has to satisfy
pub record IsSound (row : KindRow) : Type 0 where
  -- there is only one list of parts that the kind takes
  pub once : (text : List ℕ) (W : KissFile) (one other : List Part) → row.asks text W one → row.asks text W other → row.choice W one → row.choice W other → one ≡ other
  -- if a machine may have none, the parts asked for distinguish all states
  pub apart : (text : List ℕ) (W : KissFile) (parts : List Part) → row.none W → row.asks text W parts → AreApart (length W.states) parts
  -- through parts that distinguish all states, information flows as they say
  pub flows : (text : List ℕ) (W : KissFile) (parts : List Part) → NeverLeaves W → All (IsPart (length W.states)) parts → AreApart (length W.states) parts → row.asks text W parts → Flows W parts
  -- what is refused before a split is sought has one answer
  pub one_answer : (text : List ℕ) (W : KissFile) → HasOneAnswer (row.refuses text W)
  -- the codes of parts, and a network whose gates read by the rule, are as the row promises
  pub kept : (text : List ℕ) (W : KissFile) (parts : List Part) (codes : Codes) (N : Network) → CallsForNone (row.refuses text W) → row.asks text W parts → row.choice W parts → IsCode (length W.states) parts codes → ReadByRule W parts codes N → row.promises W codes N

-- ---- lemmas for several rows
-- parts that meet in zero distinguish all states
pub apart_of_zero : (n : ℕ) (parts : List Part) → PartsMeetInZero parts → AreApart n parts
apart_of_zero n parts zero s t before in_t together = let same : s ≡ t = zero s t together in omega (arith, same, before)

-- there is only one list of given parts
given_once : (n : ℕ) (text : List ℕ) (one other : List Part) → AreGivenParts n text one → AreGivenParts n text other → one ≡ other
given_once n text one other first second =
    first.are ∙ ap (λ (ps : List (List ℕ)). given_parts (length ps) 0 ps) (one_list_of_parts n text first.partitions second.partitions first.texts second.texts) ∙ sym second.are

-- ---- the rows
code_sound : IsSound (row_of Code)
code_sound = record {
  once = λ text W one other first second _ _. first ∙ sym second;
  apart = λ text W parts none asked. absurd none;
  flows = λ text W parts stays lawful apart asked.
      subst (Flows W) (sym asked)
      (given_flows W (zero_of (length W.states) ∷ []) stays (subst (All (IsPart (length W.states))) asked lawful) (subst (AreApart (length W.states)) asked apart));
  one_answer = λ text W one other h k. absurd h;
  kept = λ text W parts codes N fit asked choice code read. tt;
}

assign_sound : IsSound (row_of Assign)
assign_sound = record {
  once = λ text W one other first second _ _. given_once (length W.states) text one other first second;
  apart = λ text W parts none asked. absurd none;
  flows = λ text W parts stays lawful apart asked.
      subst (Flows W) (sym asked.are)
      (given_flows W asked.partitions stays (subst (All (IsPart (length W.states))) asked.are lawful) (subst (AreApart (length W.states)) asked.are apart));
  one_answer = λ text W. one_of answers.PartRefused (BadParts (length W.states) text) (bad_parts_is_of (length W.states) text);
  kept = λ text W parts codes N fit asked choice code read. tt;
}

parallel_sound : IsSound (row_of Parallel)
parallel_sound = record {
  once = λ text W one other first second chosen also. parallels.choice_is_one W one other first second chosen also;
  apart = λ text W parts none asked. apart_of_zero (length W.states) parts asked.in_zero;
  flows = λ text W parts stays lawful apart asked. parallel_flows W parts asked;
  one_answer = λ text W one other h k. absurd h;
  kept = λ text W parts codes N fit asked choice code read. tt;
}

serial_sound : IsSound (row_of Serial)
serial_sound = record {
  once = λ text W one other first second chosen also. serials.serial_choice_is_one W one other first second chosen also;
  apart = λ text W parts none asked. apart_of_zero (length W.states) parts asked.in_zero;
  flows = λ text W parts stays lawful apart asked. serial_flows W parts stays lawful asked;
  one_answer = λ text W one other h k. absurd h;
  kept = λ text W parts codes N fit asked choice code read. tt;
}

cascade_sound : IsSound (row_of Cascade)
cascade_sound = record {
  once = λ text W one other first second chosen also. serials.cascade_choice_is_one W one other first second chosen also;
  apart = λ text W parts none asked. apart_of_zero (length W.states) parts asked.in_zero;
  flows = λ text W parts stays lawful apart asked. cascade_flows W parts asked;
  one_answer = λ text W one other h k. absurd h;
  kept = λ text W parts codes N fit asked choice code read. tt;
}

feedback_sound : IsSound (row_of Feedback)
feedback_sound = record {
  once = λ text W one other first second chosen also. feedbacks.choice_is_one W one other first second chosen also;
  apart = λ text W parts none asked. apart_of_zero (length W.states) parts asked.in_zero;
  flows = λ text W parts stays lawful apart asked. feedback_flows W parts asked;
  one_answer = λ text W one other h k. absurd h;
  kept = λ text W parts codes N fit asked choice code read. tt;
}

least_sound : IsSound (row_of Least)
least_sound = record {
  once = λ text W one other first second chosen also. least_split_is_one W one other first second chosen also;
  apart = λ text W parts none asked. absurd none;
  flows = λ text W parts stays lawful apart asked. least_flows W parts stays lawful asked;
  one_answer = λ text W. one_of answers.StateCount (HasOtherCount W) (other_count_is_of W);
  kept = λ text W parts codes N fit asked choice code read. least_kept W parts codes N fit asked choice code read;
}

-- each row is sound
pub each_is_sound : (kind : Kind) → IsSound (row_of kind)
each_is_sound Code = code_sound
each_is_sound Assign = assign_sound
each_is_sound Parallel = parallel_sound
each_is_sound Serial = serial_sound
each_is_sound Cascade = cascade_sound
each_is_sound Feedback = feedback_sound
each_is_sound Least = least_sound

-- ---- of every kind
-- there is only one list of parts that a kind takes for a machine
pub parts_once : (kind : Kind) (text : List ℕ) (W : KissFile) (one other : List Part) → AreParts kind text W one → AreParts kind text W other → one ≡ other
parts_once kind text W one other first second = (each_is_sound kind).once text W one other first.asked second.asked first.choice second.choice

-- if the parts distinguish all states, information flows through them as they say
pub parts_flow : (kind : Kind) (text : List ℕ) (W : KissFile) (parts : List Part) → NeverLeaves W → All (IsPart (length W.states)) parts → AreParts kind text W parts → AreApart (length W.states) parts → Flows W parts
parts_flow kind text W parts stays lawful made apart = (each_is_sound kind).flows text W parts stays lawful apart made.asked

-- what a kind promises of codes and gates holds
pub promises_kept : (kind : Kind) (text : List ℕ) (W : KissFile) (parts : List Part) (codes : Codes) (N : Network) → CallsForNone ((row_of kind).refuses text W) → AreParts kind text W parts → IsCode (length W.states) parts codes → ReadByRule W parts codes N
    → (row_of kind).promises W codes N
promises_kept kind text W parts codes N fit made code read = (each_is_sound kind).kept text W parts codes N fit made.asked made.choice code read
