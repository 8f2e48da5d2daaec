-- The machine that is made of the pieces of a part is the machine of the part, and lawful unless it has many rows.
use Rattle.std.proofs.Common.{◌≡◌, ◌+◌, ◌<◌, ◌≤◌, ℕ, Bool, All, List, Some, Result, Ok, Err, IfOk, length, get_or, refl, sym, ap, ◌∙◌, subst, arith}
use Rattle.std.specs.declared.alloc.AllocError.{AllocError}
use Rattle.std.proofs.lemmas.List.{length-map}
use Rattle.std.proofs.lemmas.List.Elements.{All-from_recursion}
use Rattle.answers.specs.Cause.{CallsForNone}
use Rattle.blif_out.specs.Laws.Words.{name_word}
use Rattle.decomposition.specs.Laws.Carrying.{IsImage, image_of, work_lawful}
use Rattle.decomposition.specs.Laws.Writable.{AreSignalNames, file_names}
use Rattle.dependence.specs.declared.sets.ReadSet.{ReadSet}
use Rattle.hs_io.specs.Spelling.{IsFieldByte}
use Rattle.kiss_file.specs.declared.file.KissFile.{KissFile}
use Rattle.kiss_file.specs.LawfulFile.{IsLawful}
use Rattle.kiss_file.specs.Laws.Machine.{next_is_a_state}
use Rattle.kiss_file.specs.Machine.{Conflicting}
use Rattle.kiss_file.specs.Names.{AreDistinct, IsPlainName}
use Rattle.list_facts.specs.Laws.Everywhere.{all_at, all_one}
use Rattle.part_machines.specs.MachineLaws.{HasLawfulNames, HasSizes, IsSplitOf, PartsAreLawful, RowsMakeThePart}
use Rattle.part_machines.specs.PartMachine.{output_names, state_names}
use Rattle.part_machines.specs.PartRows.{ArePartRows, output_count}
use Rattle.part_machines.specs.Which.{own_bits, outputs_name, partition_of}
use Rattle.part_machines.specs.Laws.Blocks.{part_of}
use Rattle.part_machines.proofs.PartInputs.{inputs_within, latches_within, some_read}
use Rattle.partition.specs.Partition.{IsPartition}
use Rattle.realise.specs.CodeNetwork.{AreCounted}
use Rattle.realise.specs.Laws.{ArePairwiseDistinct}
use Rattle.realise.specs.Laws.Apart.{names_apart}
use Rattle.state_codes.specs.Split.{IsPart}
use Rattle.state_codes.specs.declared.which.Which.{Which}
use Rattle.state_codes.specs.declared.which.Which.TheVariants.{Part as Numbered, Outputs}
use Rattle.state_reduce.specs.declared.work.WorkMachine.{WorkMachine}
use Rattle.state_reduce.specs.Work.{IsWork}
use Rattle.part_texts.specs.declared.part_names.PartNames.{PartNames}
use Rattle.part_texts.specs.declared.split_machine.SplitMachine.{SplitMachine}
use Rattle.part_texts.specs.Inner.PartHere.{ArePartNames, IsMachineOf, IsMadeOf, IsSmallSet, IsThere, all_names}
use Rattle.part_texts.specs.Inner.SplitHere.{IsSplitHere}
use Rattle.part_texts.specs.PartCauses.{IsFirstLong}
use Rattle.part_texts.proofs.BlockNames as block_names
use Rattle.part_texts.proofs.Naming as naming

-- the name of the one state of the machine of the outputs
outputs_plain : IsPlainName outputs_name
outputs_plain = record {
  some = omega arith;
  short = omega arith;
  visible = All-from_recursion IsFieldByte outputs_name (name_word outputs_name (omega arith) refl).field.visible;
  no_star = λ same. absurd (cc);
  no_dash = λ same. absurd (cc);
}

module _ (F : KissFile) (work : WorkMachine) (made : SplitMachine) (here : IsSplitHere F work.machine made) (lawful : IsLawful F) (no_conflict : Conflicting F → ⊥) (reduce : Bool) (is_work : IsWork reduce F work) where
  abbrev W : KissFile
  W = work.machine

  pub machine : IsLawful W
  machine = work_lawful reduce F W is_work.class lawful no_conflict is_work.machine

  image : IsImage F W is_work.class
  image = image_of reduce F W is_work.class lawful no_conflict is_work.machine

  split : IsSplitOf W made.split.parts made.codes made.reads
  split = record { lawful = here.lawful; is_code = here.coded.code; enough = here.enough; stays = λ s x within size. next_is_a_state W s x machine within }

  sizes : HasSizes W
  sizes = ((omega (arith, machine.reset), machine.state_count), machine.some_input)

  apart : AreCounted F made.codes.bits made.names × ArePairwiseDistinct made.names
  apart = names_apart F made.codes.bits made.names lawful here.coded.short here.own

  pub bits_counted : made.codes.bits ≡ length made.names.latch_outputs
  bits_counted = sym apart.0.latch_outputs

  signals : AreSignalNames made.names
  signals = file_names F made.codes.bits made.names lawful here.own

  module _ (which : Which) (set : ReadSet) (small : IsSmallSet made.split.parts made.codes made.reads which set) where
    pub inputs_low : All (λ a. a < W.inputs) set.inputs
    inputs_low = inputs_within W made.codes made.reads which set here.enough small.reads machine.some_input

    pub latches_low : All (λ c. c < made.codes.bits) set.latches
    latches_low = latches_within W made.codes made.reads which set here.enough small.reads

    pub inputs_named : All (λ a. a < length made.names.inputs) set.inputs
    inputs_named k d within = omega (arith, inputs_low k d within, image.inputs, apart.0.inputs)

    pub latches_named : All (λ c. c < length made.names.latch_outputs) set.latches
    latches_named k d within = omega (arith, latches_low k d within, bits_counted)

    -- ---- the outputs
    counted : (w : Which) → length (output_names made.names made.codes w) ≡ output_count W made.codes w
    counted (Numbered j) = length-map (own_bits made.codes (Numbered j)) _
    counted Outputs = apart.0.outputs ∙ sym image.outputs

    pub outputs_counted : length (output_names made.names made.codes which) ≡ output_count W made.codes which
    outputs_counted = counted which

    some : (w : Which) → IsThere made.split.parts made.codes w → 0 < output_count W made.codes w
    some (Numbered j) there = there.1
    some Outputs there = machine.some_output

    pub some_output : 0 < output_count W made.codes which
    some_output = some which small.there

    few : (w : Which) → output_count W made.codes w ≤ 64
    few (Numbered j) = omega (arith, naming.few_own made.codes j, here.coded.short)
    few Outputs = machine.outputs

    pub few_outputs : output_count W made.codes which ≤ 64
    few_outputs = few which

    pub outputs_few : (names : PartNames) → ArePartNames made set which names → length names.outputs ≤ 64
    outputs_few names are = omega (arith, ap length are.outputs, outputs_counted, few_outputs)

    -- ---- the states
    states_named : (p : List ℕ) (w : Which) → partition_of W made.split.parts w ≡ Some p → AreDistinct (state_names W p w) × All IsPlainName (state_names W p w)
    states_named p (Numbered j) is =
        let found = part_of W made.split.parts j p is in
        let lawful : IsPart (length W.states) found.0 = all_at (IsPart (length W.states)) made.split.parts j found.0 here.lawful found.1 in
        let partition : IsPartition (length W.states) p = subst (IsPartition (length W.states)) found.2 lawful.partition in
        let size : length p ≡ length W.states = partition.length in (
          block_names.names_distinct p partition.numbered W.states machine.distinct size,
          block_names.names_plain p partition.numbered W.states machine.distinct size machine.state_names,
        )
    states_named p Outputs is = (
      (λ i j d before within. absurd (omega (arith, before, within))),
      all_one IsPlainName outputs_name outputs_plain,
    )

    -- ---- the pieces
    pub latches_small : All (λ c. c < 64) set.latches
    latches_small k d within = omega (arith, latches_low k d within, here.coded.short)

    pub reads_some : 0 < length set.inputs + length set.latches
    reads_some = some_read W made.codes made.reads which set here.enough small.reads

    pub made_of : (names : PartNames) → ArePartNames made set which names → (p : List ℕ) (P : KissFile) → partition_of W made.split.parts which ≡ Some p
        → P.inputs ≡ length set.inputs + length set.latches → P.outputs ≡ length names.outputs → P.input_names ≡ Some names.inputs → P.output_names ≡ Some names.outputs
        → P.states ≡ state_names W p which → P.reset ≡ get_or p W.reset 0 → ArePartRows W made.codes p set which P.rows → IsMadeOf W made set which P
    made_of names are p P blocks inputs outputs input_names output_names states reset rows = (
      p,
      record {
        blocks_are = blocks;
        reads = small.reads;
        some_output = some_output;
        signals = record {
          inputs = inputs;
          input_names = input_names ∙ ap Some are.inputs;
          outputs = outputs ∙ ap length are.outputs ∙ outputs_counted;
          output_names = output_names ∙ ap Some are.outputs;
        };
        blocks = record { states = states; reset = reset };
        rows = rows;
      },
    )

    -- ---- the machine
    pub machine_is : RowsMakeThePart → PartsAreLawful → CallsForNone (IsFirstLong which (all_names made set which)) → (P : KissFile) → IsMadeOf W made set which P → IsMachineOf W made which P
    machine_is make lawfully short P (p, pieces) =
        let states = states_named p which pieces.blocks_are in
        let names : HasLawfulNames made.codes set made.names which P = record {
          states_distinct = subst AreDistinct (sym pieces.blocks.states) states.0;
          states_plain = subst (All IsPlainName) (sym pieces.blocks.states) states.1;
          inputs = naming.inputs_lawful made.names apart.1 made.codes made.reads set inputs_named latches_named bits_counted signals which short;
          outputs = naming.outputs_lawful made.names apart.1 made.codes made.reads set inputs_named latches_named bits_counted signals which short;
          output_count = outputs_counted ∙ sym pieces.signals.outputs;
          distinct = naming.all_distinct made.names apart.1 made.codes made.reads set inputs_named latches_named bits_counted which small.reads;
        } in
        record {
          part = make W made.split.parts made.codes made.reads made.names which p set P split sizes pieces;
          lawful = λ rows.
              lawfully W made.split.parts made.codes made.reads made.names which p set P split sizes machine.reset pieces names
              (record { few_read = small.few; few_outputs = few_outputs; few_rows = rows });
        }

    pub if_made : RowsMakeThePart → PartsAreLawful → CallsForNone (IsFirstLong which (all_names made set which)) → (result : Result KissFile AllocError) → IfOk result (IsMadeOf W made set which)
        → IfOk result (IsMachineOf W made which)
    if_made make lawfully short (Ok P) is = machine_is make lawfully short P is
    if_made make lawfully short (Err wanting) is = tt
