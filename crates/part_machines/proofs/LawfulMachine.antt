-- The machine of a part is lawful where its names are, and it has few rows.
use Rattle.std.proofs.Common.{◌≡◌, ℕ, ◌+◌, ◌<◌, ◌≤◌, All, List, [], ◌++◌, Option, get_or, length, length-append, map, sym, ◌∙◌, ap, subst, arith}
use Rattle.std.proofs.lemmas.List.{length-map}
use Rattle.std.specs.Option.{unwrap_or}
use Rattle.realise.specs.CodeNetwork.{name_at}
use Rattle.std.proofs.lemmas.List.Elements.{Contains-get_or}
use Rattle.dependence.specs.declared.sets.ReadSet.{ReadSet}
use Rattle.kiss_file.specs.declared.file.KissFile.{KissFile}
use Rattle.kiss_file.specs.declared.file.KissRow.{KissRow}
use Rattle.kiss_file.specs.LawfulFile.{AreGiven, IsLawful, IsLawfulRow, given_names}
use Rattle.kiss_file.specs.Names.{AreDistinct}
use Rattle.partition.specs.Partition.{IsPartition, blocks_of}
use Rattle.partition.specs.Laws.Labels.{blocks_of-le, label-lt-blocks_of}
use Rattle.state_codes.specs.declared.Codes.{Codes}
use Rattle.net_core.specs.declared.SignalNames.{SignalNames}
use Rattle.state_codes.specs.declared.which.Which.{Which}
use Rattle.part_machines.specs.MachineLaws.{HasLawfulNames}
use Rattle.part_machines.specs.PartMachine.{HasBlocks, HasSignals, input_names, output_names}
use Rattle.part_machines.specs.PartRows.{ArePartRows, output_count}
use Rattle.part_machines.proofs.MadeRows.{IsMade, row_is_made}
use Rattle.part_machines.proofs.Numbering.{HasRowFrom, are_numbered, block_has_row}

module _ (W : KissFile) (code : Codes) (p : List ℕ) (set : ReadSet) (names : SignalNames) (which : Which) (P : KissFile) (rows : ArePartRows W code p set which P.rows) (inputs : All (λ a. a < W.inputs) set.inputs)
    (partition : IsPartition (length W.states) p) (signals : HasSignals W code set names which P) (blocks : HasBlocks W p which P) (count : length P.states ≡ blocks_of p)
    (some_read : 0 < length set.inputs + length set.latches) (few_read : length set.inputs + length set.latches ≤ 32)
    (some_output : 0 < output_count W code which) (few_outputs : output_count W code which ≤ 64) (reset : W.reset < length W.states) where
  lawful_rows : All (IsLawfulRow P.inputs P.outputs (length P.states)) P.rows
  lawful_rows k d within =
      let row : KissRow = get_or P.rows k d in
      let is : IsMade W code p set which row = row_is_made W code p set which P.rows rows row (Contains-get_or P.rows k d within) in
      subst (λ (n : ℕ). IsLawfulRow P.inputs P.outputs n row) (sym count)
      (subst (λ (n : ℕ). IsLawfulRow P.inputs n (blocks_of p) row) (sym signals.outputs)
      (subst (λ (n : ℕ). IsLawfulRow n (output_count W code which) (blocks_of p) row) (sym signals.inputs) is.made.lawful))

  reset_low : P.reset < blocks_of p
  reset_low = subst (λ (n : ℕ). n < blocks_of p) (sym blocks.reset) (label-lt-blocks_of p W.reset (omega (arith, reset, partition.length)))

  some_row : 1 ≤ length P.rows
  some_row =
      let row : HasRowFrom P.rows P.reset = block_has_row W code p set which inputs some_output P rows partition.numbered count P.reset reset_low in
      omega (arith, row.among.1)

  pub lawful_machine : HasLawfulNames code set names which P → length P.rows ≤ 65536 → IsLawful P
  lawful_machine named few =
      record {
        some_input = omega (arith, signals.inputs, some_read);
        inputs = omega (arith, signals.inputs, few_read);
        some_output = omega (arith, signals.outputs, some_output);
        outputs = omega (arith, signals.outputs, few_outputs);
        some_row = some_row;
        row_count = few;
        state_count = omega (arith, count, blocks_of-le p partition.numbered, partition.length, partition.count.1);
        distinct = named.states_distinct;
        state_names = named.states_plain;
        input_names = subst (AreGiven P.inputs) (sym signals.input_names) (sizes ∙ sym signals.inputs, named.inputs);
        output_names = subst (AreGiven P.outputs) (sym signals.output_names) (named.output_count, named.outputs);
        given_distinct = subst AreDistinct (sym given) named.distinct;
        rows = lawful_rows;
        reset = omega (arith, reset_low, count);
        numbered = are_numbered W code p set which inputs some_output P rows partition.numbered count lawful_rows;
      }
    where
      sizes : length (input_names names set) ≡ length set.inputs + length set.latches
      sizes =
          let first : length (map (name_at names.inputs) set.inputs) ≡ length set.inputs = length-map set.inputs (name_at names.inputs) in
          let second : length (map (name_at names.latch_outputs) set.latches) ≡ length set.latches = length-map set.latches (name_at names.latch_outputs) in
          omega (arith, length-append (map (name_at names.inputs) set.inputs) (map (name_at names.latch_outputs) set.latches), first, second)

      given : given_names P ≡ input_names names set ++ output_names names code which
      given =
          ap (λ (o : Option (List (List ℕ))). unwrap_or o [] ++ unwrap_or P.output_names []) signals.input_names
          ∙ ap (λ (o : Option (List (List ℕ))). input_names names set ++ unwrap_or o []) signals.output_names
