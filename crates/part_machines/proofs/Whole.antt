-- The machine of a part from its pieces.
use Rattle.std.proofs.Common.{◌≡◌, ℕ, ◌<◌, ◌≤◌, All, List, Some, get_or, length, slice_get, take, sym, ◌∙◌, ap, subst, arith}
use Rattle.std.proofs.lemmas.List.{take_all}
use Rattle.std.proofs.lemmas.List.FromFn.{length-map-range_with_len}
use Rattle.std.proofs.lemmas.Option.{same_Some}
use Rattle.dependence.specs.declared.sets.ReadSet.{ReadSet}
use Rattle.dependence.specs.declared.sets.Reads.{Reads}
use Rattle.dependence.specs.Laws.Said.{mapped}
use Rattle.kiss_file.specs.declared.file.KissFile.{KissFile}
use Rattle.kiss_file.specs.Machine.{Conflicting}
use Rattle.kiss_file.specs.Names.{name_of}
use Rattle.list_facts.specs.Laws.Everywhere.{all_at}
use Rattle.net_core.specs.declared.SignalNames.{SignalNames}
use Rattle.partition.specs.Partition.{IsPartition, IsStateCount, blocks_of, one_of}
use Rattle.partition.specs.Laws.Extremes.{blocks_of-one_of, one_of_is_partition}
use Rattle.partition.specs.Laws.Labels.{block_stands}
use Rattle.realise.specs.Laws.{EqualReads}
use Rattle.state_codes.specs.declared.split.Part.{Part}
use Rattle.state_codes.specs.declared.Codes.{Codes}
use Rattle.state_codes.specs.Split.{IsPart}
use Rattle.state_codes.specs.declared.which.Which.{Which}
use Rattle.state_codes.specs.declared.which.Which.TheVariants.{Part as Numbered, Outputs}
use Rattle.part_machines.specs.MachineLaws.{IsSplitOf}
use Rattle.part_machines.specs.PartMachine.{HasBlocks, HasSignals, IsPartOf, least_with, state_names}
use Rattle.part_machines.specs.PartRows.{ArePartRows, output_count}
use Rattle.part_machines.specs.PartSet.{IsPartSet}
use Rattle.part_machines.specs.Which.{partition_of}
use Rattle.part_machines.proofs.Conflicts.{no_conflict}
use Rattle.part_machines.proofs.PartInputs.{inputs_within}
use Rattle.part_machines.proofs.Specified.{specified}
use Rattle.part_machines.proofs.Steps.{IsMeant, follows_steps, is_of_moore}

-- the partition of a part is one of the states
pub is_partition : (W : KissFile) (parts : List Part) (which : Which) (p : List ℕ) → IsStateCount (length W.states) → All (IsPart (length W.states)) parts
    → partition_of W parts which ≡ Some p → IsPartition (length W.states) p
is_partition W parts (Numbered j) p count lawful is =
    let of_part = mapped (λ (part : Part). part.partition) (slice_get parts j) p is in
    let here : IsPart (length W.states) of_part.0 = all_at (IsPart (length W.states)) parts j of_part.0 lawful of_part.1 in
    subst (IsPartition (length W.states)) of_part.2 here.partition
is_partition W parts Outputs p count lawful is =
    subst (IsPartition (length W.states)) (same_Some (one_of (length W.states)) p is) (one_of_is_partition (length W.states) count)

-- there is a state for each block
pub state_count : (W : KissFile) (parts : List Part) (which : Which) (p : List ℕ) → 0 < length W.states → partition_of W parts which ≡ Some p
    → length (state_names W p which) ≡ blocks_of p
state_count W parts (Numbered j) p some is = length-map-range_with_len (λ block. name_of W.states (least_with p block)) 0 (blocks_of p)
state_count W parts Outputs p some is =
    sym (ap blocks_of (sym (same_Some (one_of (length W.states)) p is)) ∙ blocks_of-one_of (length W.states) some)

module _ (W : KissFile) (parts : List Part) (code : Codes) (sets : Reads) (names : SignalNames) (which : Which) (known : IsSplitOf W parts code sets) (equal : EqualReads)
    (count : IsStateCount (length W.states)) (some_input : 1 ≤ W.inputs) (p : List ℕ) (blocks_are : partition_of W parts which ≡ Some p) (set : ReadSet) (reads : IsPartSet code sets which set)
    (P : KissFile) (some : 0 < output_count W code which) (signals : HasSignals W code set names which P) (blocks : HasBlocks W p which P) (rows : ArePartRows W code p set which P.rows) where
  partition : IsPartition (length W.states) p
  partition = is_partition W parts which p count known.lawful blocks_are

  pub block_count : length P.states ≡ blocks_of p
  block_count = ap length blocks.states ∙ state_count W parts which p count.0 blocks_are

  stands : (t : ℕ) → t < length P.states → (s : ℕ) × (s < length p) × (get_or p s 0 ≡ t)
  stands t low =
      let whole : t < blocks_of (take (length p) p) = subst (λ (list : List ℕ). t < blocks_of list) (sym (take_all (length p) p (omega arith))) (omega (arith, low, block_count)) in
      block_stands p partition.numbered (length p) (omega arith) t whole

  within : All (λ a. a < W.inputs) set.inputs
  within = inputs_within W code sets which set known.enough reads some_input

  apart : Conflicting P → ⊥
  apart conflict = no_conflict W parts code sets known equal which p blocks_are set reads within partition.length P rows conflict

  some_output : 0 < P.outputs
  some_output = omega (arith, some, signals.outputs)

  meant : IsMeant W parts code sets known equal p set within partition.length P apart which
  meant = record { blocks_are = blocks_are; reads = reads; are = rows; outputs = signals.outputs; some = some_output }

  pub is_part : IsPartOf W parts code sets names which P
  is_part =
      record {
        partition = p;
        blocks_are = blocks_are;
        set = set;
        reads = reads;
        signals = signals;
        blocks = blocks;
        steps = follows_steps W parts code sets known equal p set within partition.length P apart which meant;
        moore = is_of_moore W parts code sets known equal p set within partition.length P apart which meant signals.inputs stands;
        specified = specified W code p set which P rows within reads.inputs_ascend signals.inputs signals.outputs some_output stands;
        no_conflict = apart;
        rows = rows;
      }
