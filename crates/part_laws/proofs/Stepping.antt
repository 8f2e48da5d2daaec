-- The machines of a split step together as the machine that was split.
use Rattle.std.proofs.Common.{◌≡◌, ℕ, ◌<◌, Bool, Contains, Option, List, [], ◌∷◌, All, length, map, slice_get, slice_index, unwrap_or, refl, sym, ap, subst, ◌∙◌, arith}
use Rattle.std.proofs.lemmas.List.{get_or-replicate}
use Rattle.std.proofs.lemmas.List.Elements.{All-contains, All-head, All-tail}
use Rattle.std.proofs.lemmas.List.FromFn.{length-map-range_with_len}
use Rattle.std.proofs.lemmas.Option.{same_Some}
use Rattle.std.proofs.lemmas.Simd.{map-map}
use Rattle.std.specs.List.{AllZip}
use Rattle.list_facts.specs.Laws.Everywhere.{all_at, map_same}
use Rattle.list_facts.specs.Laws.Members.{agree_from_map}
use Rattle.cubes.specs.Symbol.{bit}
use Rattle.dependence.specs.declared.sets.Reads.{Reads}
use Rattle.dependence.specs.Laws.Said.{mapped}
use Rattle.kiss_file.specs.declared.file.KissFile.{KissFile}
use Rattle.kiss_file.specs.Laws.Machine.{next_is_a_state}
use Rattle.kiss_file.specs.Machine.{answers, next, out}
use Rattle.kiss_file.specs.Names.{name_of}
use Rattle.net_core.specs.declared.SignalNames.{SignalNames}
use Rattle.state_codes.specs.declared.which.Which.TheVariants.{Part as Numbered, Outputs}
use Rattle.part_machines.specs.PartMachine.{IsPartOf, least_with, output_names}
use Rattle.part_machines.specs.Which.{own_bits}
use Rattle.partition.specs.Laws.Labels.{label-lt-blocks_of}
use Rattle.partition.specs.Partition.{blocks_of, one_of}
use Rattle.realise.specs.CodeNetwork.{name_at}
use Rattle.realise.specs.Rows.{read_values}
use Rattle.shift_real.specs.Words.{next_along}
use Rattle.state_codes.specs.declared.Codes.{Codes}
use Rattle.state_codes.specs.declared.split.Part.{Part}
use Rattle.state_codes.specs.Split.{IsPart}
use Rattle.part_laws.specs.Parts.{AreMachinesOf, IsAtBlockOf}
use Rattle.part_laws.specs.Together.{AnswerTogether, GoesBy, IsReading, MachineAt, ReadsOutputs, StepTogether, at_reset, goes_by, symbol_read}
use Rattle.part_laws.proofs.Lists.{all_right, zip_mapped, zipped}
use Rattle.part_laws.proofs.Reading.{IsSplitUp, HasValues, input_values, own_bit, own_values, read_long, spelled, spelled_long, the_reading, the_reading_has, the_symbol}

module _ (F W : KissFile) (parts : List Part) (code : Codes) (sets : Reads) (names : SignalNames) (split : IsSplitUp F W parts code sets names) where
  -- the values of a reading
  abbrev Has : ℕ → List Bool → (List ℕ → Bool) → Type 0
  Has s x reading = HasValues F W parts code sets names split s x reading

  abbrev IsAt : ℕ → ℕ → MachineAt → Type 0
  IsAt s j place = IsAtBlockOf W parts code sets names s j place

  -- the block of a state is a state of the machine
  block_low : (j s : ℕ) (P : KissFile) (is : IsPartOf W parts code sets names (Numbered j) P) → s < length W.states → slice_index is.partition s < length P.states
  block_low j s P is within =
      let of_part = mapped (λ (part : Part). part.partition) (slice_get parts j) is.partition is.blocks_are in
      let lawful : IsPart (length W.states) of_part.0 = all_at (IsPart (length W.states)) parts j of_part.0 split.parts_are of_part.1 in
      let size : length is.partition ≡ length W.states = ap length (sym of_part.2) ∙ lawful.partition.length in
      let count : length P.states ≡ blocks_of is.partition =
      ap length is.blocks.states ∙ length-map-range_with_len (λ block. name_of W.states (least_with is.partition block)) 0 (blocks_of is.partition) in
      omega (arith, count, label-lt-blocks_of is.partition s (omega (arith, within, size)))

  module _ (s : ℕ) (x : List Bool) (within : s < length W.states) (long : length x ≡ W.inputs) where
    -- the machine of a part at the block of the state
    module _ (j : ℕ) (place : MachineAt) (at : IsAt s j place) where
      state_is : place.state ≡ slice_index (at.is).partition s
      state_is = at.block (at.is).partition (at.is).blocks_are

      names_are : (reading : List ℕ → Bool) → map reading (unwrap_or place.machine.output_names []) ≡ map reading (output_names names code (Numbered j))
      names_are reading = ap (λ (given : Option (List (List ℕ))). map reading (unwrap_or given [])) ((at.is).signals).output_names

      gives_code : out place.machine place.state (read_values code.words (at.is).set s x) ≡ map (bit (slice_index code.words s)) (own_bits code (Numbered j))
      gives_code = ap (λ (t : ℕ). out place.machine t (read_values code.words (at.is).set s x)) state_is ∙ ((at.is).steps).gives s x within long

      -- a reading with the values has the outputs of the machine
      reads_outputs : (reading : List ℕ → Bool) → Has s x reading → ReadsOutputs reading place
      reads_outputs reading has =
          names_are reading
          ∙ (own_values F W parts code sets names split s x reading has j
          ∙ (sym gives_code
          ∙ ap (out place.machine place.state) (sym (spelled F W parts code sets names split s x reading has (Numbered j) (at.is).set (at.is).reads place.machine (at.is).signals))))

      -- a reading that has the outputs of the machine has the bits of the part
      has_bits : (reading : List ℕ → Bool) → ReadsOutputs reading place → (c : ℕ) → Contains (own_bits code (Numbered j)) c
          → reading (name_at names.latch_outputs c) ≡ bit (slice_index code.words s) c
      has_bits reading reads c among =
          let alike : out place.machine place.state (symbol_read reading place.machine) ≡ out place.machine place.state (read_values code.words (at.is).set s x) =
          (at.is).moore place.state (symbol_read reading place.machine) (read_values code.words (at.is).set s x)
          (subst (λ (t : ℕ). t < length place.machine.states) (sym state_is) (block_low j s place.machine at.is within))
          (spelled_long F W parts code sets names split reading (Numbered j) (at.is).set place.machine (at.is).signals)
          (read_long F W parts code sets names split s x (Numbered j) (at.is).set place.machine (at.is).signals) in
          agree_from_map (λ c. reading (name_at names.latch_outputs c)) (bit (slice_index code.words s)) (own_bits code (Numbered j))
          (sym (map-map reading (name_at names.latch_outputs) (own_bits code (Numbered j))) ∙ (sym (names_are reading) ∙ (reads ∙ (alike ∙ gives_code)))) c among

      -- and it goes to the block of the next state
      goes_to : (reading : List ℕ → Bool) → Has s x reading → IsAt (next W s x) j (goes_by reading place)
      goes_to reading has = record {
        is = at.is;
        block = λ p stands.
            let same : (at.is).partition ≡ p = same_Some (at.is).partition p (sym (at.is).blocks_are ∙ stands) in
            ap (next place.machine place.state) (spelled F W parts code sets names split s x reading has (Numbered j) (at.is).set (at.is).reads place.machine (at.is).signals)
            ∙ (ap (λ (t : ℕ). next place.machine t (read_values code.words (at.is).set s x)) state_is
            ∙ (((at.is).steps).next_block s x within long ∙ ap (λ (q : List ℕ). slice_index q (next W s x)) same));
      }

      -- by each reading with the values it goes to one state
      goes_alike : (reading other : List ℕ → Bool) → Has s x reading → Has s x other → goes_by reading place ≡ goes_by other place
      goes_alike reading other has has_too =
          ap (λ (y : List Bool). let gone : MachineAt = record place { state = next place.machine place.state y } in gone)
          (spelled F W parts code sets names split s x reading has (Numbered j) (at.is).set (at.is).reads place.machine (at.is).signals
          ∙ sym (spelled F W parts code sets names split s x other has_too (Numbered j) (at.is).set (at.is).reads place.machine (at.is).signals))

    -- the machine of the outputs gives the outputs
    module _ (Z : KissFile) (is : IsPartOf W parts code sets names Outputs Z) where
      at_zero : (t : ℕ) → t < length W.states → slice_index is.partition t ≡ 0
      at_zero t low =
          ap (λ (p : List ℕ). slice_index p t) (sym (same_Some (one_of (length W.states)) is.partition is.blocks_are))
          ∙ get_or-replicate {A = ℕ} (length W.states) t 0 0 low

      answers_out : (reading : List ℕ → Bool) → Has s x reading → out Z Z.reset (symbol_read reading Z) ≡ out W s x
      answers_out reading has =
          let state : Z.reset ≡ slice_index is.partition s =
          is.blocks.reset ∙ (at_zero W.reset split.machine.reset ∙ sym (at_zero s within)) in
          ap (out Z Z.reset) (spelled F W parts code sets names split s x reading has Outputs is.set is.reads Z is.signals)
          ∙ (ap (λ (t : ℕ). out Z t (read_values code.words is.set s x)) state ∙ is.steps.gives s x within long)

    -- ---- all machines
    module _ (numbers : List ℕ) (machines : List KissFile) (Z : KissFile) (are : AreMachinesOf W parts code sets names numbers machines Z) (places : List MachineAt) (at : AllZip (IsAt s) numbers places) where
      symbol_long : length x ≡ F.inputs
      symbol_long = long ∙ split.inputs

      abbrev reading : List ℕ → Bool
      reading = the_reading F W parts code sets names split s x symbol_long

      has : Has s x reading
      has = the_reading_has F W parts code sets names split s x symbol_long

      -- each reading has the values
      has_values : (other : List ℕ → Bool) → IsReading names.inputs places x other → Has s x other
      has_values other is = record {
        inputs = input_values F W parts code sets names split x other is.symbol;
        latches = λ c low.
            let j : ℕ = slice_index code.owner c in
            let own : Contains (own_bits code (Numbered (slice_index code.owner c))) c = own_bit code (slice_index code.owner c) c low refl in
            let found = zipped (IsAt s) numbers places (slice_index code.owner c) at (are.all (slice_index code.owner c) c own) in
            has_bits (slice_index code.owner c) found.0 found.2 other (All-contains (ReadsOutputs other) places found.0 is.outputs found.1) c own;
      }

      abbrev nexts : List MachineAt
      nexts = map (goes_by reading) places

      goes : (other : List ℕ → Bool) → Has s x other → GoesBy Z places other (out W s x) nexts
      goes other has_too = record {
        gives = answers_out Z are.outputs other has_too;
        goes = map_same (goes_by other) (goes_by reading) places
            (all_right (IsAt s) (λ place. goes_by other place ≡ goes_by reading place) numbers places (λ j place is_at. goes_alike j place is_at other reading has_too has) at);
      }

      steps : StepTogether names.inputs Z places x (out W s x) nexts
      steps = record {
        some = (
          reading,
          record {
            symbol = the_symbol F W parts code sets names split s x symbol_long;
            outputs = all_right (IsAt s) (ReadsOutputs reading) numbers places (λ j place is_at. reads_outputs j place is_at reading has) at;
          },
          goes reading has,
        );
        every = λ other is. goes other (has_values other is);
      }

      next_places : AllZip (IsAt (next W s x)) numbers nexts
      next_places = zip_mapped (IsAt s) (IsAt (next W s x)) (goes_by reading) numbers places (λ j place is_at. goes_to j place is_at reading has) at

  -- ---- along a word
  module _ (numbers : List ℕ) (machines : List KissFile) (Z : KissFile) (are : AreMachinesOf W parts code sets names numbers machines Z) where
    Along : ℕ → List MachineAt → List (List Bool) → Type 0
    Along s places word =
        (lasts : List MachineAt) × AnswerTogether names.inputs Z places word (answers W s word) lasts × AllZip (IsAt (next_along W s word)) numbers lasts

    along : (word : List (List Bool)) → All (λ x. length x ≡ W.inputs) word → (s : ℕ) → s < length W.states → (places : List MachineAt) → AllZip (IsAt s) numbers places → Along s places word
    unfolding Along
    along [] long s within places at = (places, (refl, refl), at)
    along (x ∷ word) long s within places at =
        let here : length x ≡ W.inputs = All-head (λ symbol. length symbol ≡ W.inputs) x word long in
        let rest = along word (All-tail (λ symbol. length symbol ≡ W.inputs) x word long) (next W s x) (next_is_a_state W s x split.machine within)
        (nexts s x within here numbers machines Z are places at) (next_places s x within here numbers machines Z are places at) in (
          rest.0,
          (
            out W s x,
            nexts s x within here numbers machines Z are places at,
            answers W (next W s x) word,
            refl,
            steps s x within here numbers machines Z are places at,
            rest.1,
          ),
          rest.2,
        )

    starts : AllZip (IsAt W.reset) numbers (map at_reset machines)
    starts =
        zip_mapped (λ j M. IsPartOf W parts code sets names (Numbered j) M) (IsAt W.reset) at_reset numbers machines
        (λ j M is. record {
          is = is;
          block = λ p stands.
              is.blocks.reset ∙ ap (λ (q : List ℕ). slice_index q W.reset) (same_Some is.partition p (sym is.blocks_are ∙ stands));
        }) are.each

-- from their reset states they answer as W does
pub answer_as_work : (F W : KissFile) (parts : List Part) (code : Codes) (sets : Reads) (names : SignalNames) (numbers : List ℕ) (machines : List KissFile) (Z : KissFile)
    → IsSplitUp F W parts code sets names → AreMachinesOf W parts code sets names numbers machines Z
    → (word : List (List Bool)) → All (λ x. length x ≡ F.inputs) word
    → (lasts : List MachineAt) × AnswerTogether names.inputs Z (map at_reset machines) word (answers W W.reset word) lasts
    × AllZip (IsAtBlockOf W parts code sets names (next_along W W.reset word)) numbers lasts
unfolding Along
answer_as_work F W parts code sets names numbers machines Z split are word long =
    along F W parts code sets names split numbers machines Z are word
    (subst (λ (width : ℕ). All (λ x. length x ≡ width) word) (sym split.inputs) long)
    W.reset split.machine.reset (map at_reset machines) (starts F W parts code sets names split numbers machines Z are)
