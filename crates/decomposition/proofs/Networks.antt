-- What is known of the network of a machine, a split and its codes.
use Rattle.std.proofs.Common.{◌≡◌, ◌<◌, ◌≤◌, All, List, length, sym, ap, ◌∙◌, subst, arith}
use Rattle.blif_out.specs.declared.header.LatchNote.{LatchNote}
use Rattle.dependence.specs.declared.sets.ReadSet.{ReadSet}
use Rattle.dependence.specs.declared.sets.Reads.{Reads}
use Rattle.dependence.specs.ReadRule.{LatchRuleIsIrredundant, OutputRuleIsIrredundant}
use Rattle.dependence.specs.Reads.{AreReads}
use Rattle.kiss_file.specs.declared.file.KissFile.{KissFile}
use Rattle.machine_table.specs.NextStates.{NeverLeaves}
use Rattle.machine_table.specs.Table.{IsTable}
use Rattle.net_core.specs.declared.Network.{Network}
use Rattle.net_core.specs.declared.SignalNames.{SignalNames}
use Rattle.net_core.specs.FlatNetwork.{IsFlat}
use Rattle.net_core.specs.Laws.Flat.{flat_sound}
use Rattle.partition.specs.Partition.{IsStateCount}
use Rattle.realise.specs.Codes.{code_of}
use Rattle.realise.specs.Laws.{ArePairwiseDistinct}
use Rattle.realise.specs.CodeNetwork.{AreCounted, AreEnough, IsRealised}
use Rattle.realise.proofs.FlatNetworks.{realised_flat}
use Rattle.realise.specs.Laws.Gates.{latch_count}
use Rattle.realise.proofs.Stepping.{realised_carries}
use Rattle.state_codes.specs.declared.Codes.{Codes}
use Rattle.state_codes.specs.declared.split.Part.{Part}
use Rattle.state_codes.specs.Agreement.{AreDistinct}
use Rattle.state_codes.specs.Code.{IsCode}
use Rattle.state_codes.specs.Laws.Codes.{length-owner}
use Rattle.state_codes.specs.Split.{IsPart}
use Rattle.decomposition.specs.Flow.{Flows}
use Rattle.decomposition.specs.Network.{IsNetworkOf}
use Rattle.decomposition.specs.Irredundance.{AreIrredundant}
use Rattle.decomposition.specs.Notes.{AreNotes}
use Rattle.decomposition.proofs.Enough.{enough, irredundant}
use Rattle.decomposition.proofs.Flowing.{flow_permits}
use Rattle.decomposition.proofs.Pairs.{AreMade, own_pairs, within_parts}
use Rattle.decomposition.specs.Laws.Writable.{known_starts, rows_in_order}

-- what is asked of a machine, the parts of its split, the codes and the names of the signals
pub record IsSplitAsked (W : KissFile) (parts : List Part) (codes : Codes) (names : SignalNames) : Type 0 where
  pub stays : NeverLeaves W
  pub table : IsTable W
  pub lawful : All (IsPart (length W.states)) parts
  pub flows : Flows W parts
  pub code : IsCode (length W.states) parts codes
  pub distinct : AreDistinct (length W.states) codes.words
  pub short : codes.bits ≤ 64
  pub counted : AreCounted W codes.bits names
  pub apart : ArePairwiseDistinct names
  pub latch_rule : LatchRuleIsIrredundant
  pub output_rule : OutputRuleIsIrredundant

pub asked_of : (W : KissFile) (parts : List Part) (codes : Codes) (names : SignalNames) → NeverLeaves W → IsTable W → All (IsPart (length W.states)) parts → Flows W parts → IsCode (length W.states) parts codes → AreDistinct (length W.states) codes.words → codes.bits ≤ 64
    → AreCounted W codes.bits names → ArePairwiseDistinct names → LatchRuleIsIrredundant → OutputRuleIsIrredundant → IsSplitAsked W parts codes names
asked_of W parts codes names stays table lawful flows code distinct short counted apart latch_rule output_rule =
    record {
      stays = stays;
      table = table;
      lawful = lawful;
      flows = flows;
      code = code;
      distinct = distinct;
      short = short;
      counted = counted;
      apart = apart;
      latch_rule = latch_rule;
      output_rule = output_rule;
    }

module _ (W : KissFile) (parts : List Part) (codes : Codes) (names : SignalNames) (asked : IsSplitAsked W parts codes names) where
  pub words_counted : length codes.words ≡ length W.states
  words_counted = asked.code.written.states

  pub states_counted : IsStateCount (length codes.words)
  states_counted = (omega (arith, words_counted, asked.table.reset), omega (arith, words_counted, asked.table.states))

  module _ (sets : Reads) (by_rule : AreReads W parts codes sets) where
    pub are_enough : AreEnough W codes.bits codes.words sets
    are_enough =
        enough W parts codes asked.code sets asked.latch_rule asked.output_rule (flow_permits W parts codes asked.lawful asked.code asked.stays asked.flows) asked.distinct by_rule

    irredundant_sets : AreIrredundant W codes.words sets
    irredundant_sets =
        irredundant W parts codes asked.code sets asked.latch_rule asked.output_rule (flow_permits W parts codes asked.lawful asked.code asked.stays asked.flows) asked.distinct by_rule

    -- a note can be made for each set
    pub owners_counted : (lent : List ReadSet) → lent ≡ sets.latches → length codes.owner ≡ length lent
    owners_counted lent is = length-owner (length W.states) parts codes asked.code ∙ sym by_rule.latch_count ∙ ap (λ (list : List ReadSet). length list) (sym is)

    pub sets_short : (lent : List ReadSet) → lent ≡ sets.latches → length lent ≤ 64
    sets_short lent is = omega (arith, ap (λ (list : List ReadSet). length list) is, by_rule.latch_count, asked.short)

    pub sets_within : (lent : List ReadSet) → lent ≡ sets.latches → All (λ set. All (λ c. c < 64) set.latches) lent
    sets_within lent is =
        subst (All (λ set. All (λ c. c < 64) set.latches)) (sym is)
        (λ i d lt k e inside. let below = (are_enough.latches_within i d lt).latches_within k e inside in omega (arith, below, asked.short))

    module _ (N : Network) (realised : IsRealised W codes.bits codes.words sets names N) (notes : List LatchNote) (lent : List ReadSet) (is : lent ≡ sets.latches) (of_lent : AreNotes codes lent notes) where
      noted : AreNotes codes sets.latches notes
      noted = subst (λ (list : List ReadSet). AreNotes codes list notes) is of_lent

      made : AreMade W parts codes sets names N notes
      made = record {
        stays = asked.stays;
        lawful = asked.lawful;
        code = asked.code;
        by_rule = by_rule;
        enough = are_enough;
        counted = asked.counted;
        distinct = asked.apart;
        realised = realised;
        notes = noted;
      }

      flat : IsFlat N
      flat = realised_flat W codes.bits codes.words sets names N asked.counted asked.apart are_enough realised

      pub network_is : IsNetworkOf W parts codes names N notes
      network_is = record {
        sets = sets;
        by_rule = by_rule;
        enough = are_enough;
        irredundant = irredundant_sets;
        realised = realised;
        noted = noted;
        latches = latch_count W codes.bits codes.words sets names N asked.counted are_enough realised;
        rows = rows_in_order W codes.bits codes.words sets names N asked.counted are_enough realised;
        starts = known_starts N.latches (code_of codes.bits codes.words W.reset) realised.starts;
        sound = flat_sound N flat;
        carries = realised_carries W codes.bits codes.words sets names N asked.stays words_counted asked.counted asked.apart are_enough realised;
        pairs = own_pairs W parts codes sets names N notes made flat;
        within = within_parts W parts codes sets names N notes made;
      }
