-- What a reading has for the names of signals, and the symbols that it spells on the inputs of the machines of a split.
use Rattle.std.proofs.Common.{◌≡◌, ℕ, ◌+◌, ◌<◌, ◌≤◌, inl, inr, Bool, false, eqb, Contains, Option, Some, List, [], ◌++◌, All, length, map, get_or, slice_index, unwrap_or, sym, ap, ◌∙◌, arith, length-append}
use Rattle.std.proofs.lemmas.Bool.{eq-eqb}
use Rattle.std.proofs.lemmas.List.{get_or-map, length-map, map-append}
use Rattle.std.proofs.lemmas.List.Elements.{Contains-get_or}
use Rattle.std.proofs.lemmas.List.FromFn.{get_or-map-range_with_len, get_or-range_with_len, length-map-range_with_len, length-range_with_len}
use Rattle.std.proofs.lemmas.Simd.{map-map}
use Rattle.std.specs.List.{range_with_len}
use Rattle.list_facts.specs.Laws.Everywhere.{map_same}
use Rattle.list_facts.specs.Laws.Members.{Contains-filter, Contains-from_filter}
use Rattle.cubes.specs.Symbol.{bit}
use Rattle.dependence.specs.declared.bit.Bit.{Bit}
use Rattle.dependence.specs.declared.bit.Bit.TheVariants.{Latch, Output}
use Rattle.dependence.specs.declared.sets.ReadSet.{ReadSet}
use Rattle.dependence.specs.declared.sets.Reads.{Reads}
use Rattle.gate_rows.specs.Columns.{input_of}
use Rattle.kiss_file.specs.declared.file.KissFile.{KissFile}
use Rattle.net_core.specs.declared.SignalNames.{SignalNames}
use Rattle.net_core.specs.Laws.Valuations.{map-read_at, parts_of_append, read_at}
use Rattle.net_core.specs.Laws.Members.{times-append}
use Rattle.state_codes.specs.declared.which.Which.{Which}
use Rattle.state_codes.specs.declared.which.Which.TheVariants.{Part as Numbered}
use Rattle.part_machines.specs.PartMachine.{HasSignals, input_names}
use Rattle.part_machines.specs.PartSet.{IsInputOf, IsPartSet, set_of_gate}
use Rattle.part_machines.specs.Which.{own_bits}
use Rattle.realise.specs.Codes.{code_of}
use Rattle.realise.specs.Laws.{ArePairwiseDistinct}
use Rattle.realise.specs.Laws.Apart.{names_apart}
use Rattle.realise.specs.CodeNetwork.{AreCounted, name_at}
use Rattle.realise.specs.Rows.{read_values}
use Rattle.state_codes.specs.declared.Codes.{Codes}
use Rattle.state_codes.specs.declared.split.Part.{Part}
use Rattle.dependence.specs.Reads.{AreReads}
use Rattle.kiss_file.specs.LawfulFile.{IsLawful}
use Rattle.realise.specs.Names.{AreNames}
use Rattle.state_codes.specs.Split.{IsPart}
use Rattle.part_laws.specs.Together.{symbol_read}

-- what is needed of the split of a machine W, which has the inputs of the file F
pub record IsSplitUp (F W : KissFile) (parts : List Part) (code : Codes) (sets : Reads) (names : SignalNames) : Type 0 where
  pub lawful : IsLawful F
  pub machine : IsLawful W
  pub inputs : W.inputs ≡ F.inputs
  pub parts_are : All (IsPart (length W.states)) parts
  pub short : code.bits ≤ 64
  pub reads : AreReads W parts code sets
  pub own : AreNames F code.bits names

-- ---- the bits of a part
pub own_bit : (code : Codes) (j c : ℕ) → c < code.bits → slice_index code.owner c ≡ j → Contains (own_bits code (Numbered j)) c
own_bit code j c low is =
    let size : length (range_with_len 0 code.bits) ≡ code.bits = length-range_with_len 0 code.bits in
    let there : Contains (range_with_len 0 code.bits) c =
    (c, omega (arith, low, size), get_or-range_with_len 0 code.bits c c low ∙ omega arith) in
    Contains-filter (λ (d : ℕ). eqb (slice_index code.owner d) j) (range_with_len 0 code.bits) c there (eq-eqb (slice_index code.owner c) j is)

pub own_bit_low : (code : Codes) (j c : ℕ) → Contains (own_bits code (Numbered j)) c → c < code.bits
own_bit_low code j c among =
    let both = Contains-from_filter (λ (d : ℕ). eqb (slice_index code.owner d) j) (range_with_len 0 code.bits) c among in
    let k : ℕ = both.0.0 in
    let low : both.0.0 < code.bits = omega (arith, both.0.1, length-range_with_len 0 code.bits) in
    let here : get_or (range_with_len 0 code.bits) both.0.0 c ≡ 0 + both.0.0 = get_or-range_with_len 0 code.bits both.0.0 c low in
    omega (arith, low, here, both.0.2)

-- the value of a name at a place
value_at : (value : List ℕ → Bool) (names : List (List ℕ)) (bits : List Bool) (k : ℕ) → map value names ≡ bits → k < length names → value (name_at names k) ≡ get_or bits k false
value_at value names bits k is lt = sym (get_or-map value names k [] false lt) ∙ ap (λ (list : List Bool). get_or list k false) is

module _ (F W : KissFile) (parts : List Part) (code : Codes) (sets : Reads) (names : SignalNames) (split : IsSplitUp F W parts code sets names) where
  counted : AreCounted F code.bits names
  counted = (names_apart F code.bits names split.lawful split.short split.own).0

  distinct : ArePairwiseDistinct names
  distinct = (names_apart F code.bits names split.lawful split.short split.own).1

  -- ---- what a part reads
  gate_inputs : (gate : Bit) (set : ReadSet) (a : ℕ) → set_of_gate sets gate ≡ Some set → Contains set.inputs a → a < W.inputs
  gate_inputs (Latch i) set a of_gate has = (((split.reads.latches i set of_gate).inputs a).0 has).0
  gate_inputs (Output b) set a of_gate has = (((split.reads.outputs b set of_gate).inputs a).0 has).0

  gate_latches : (gate : Bit) (set : ReadSet) (c : ℕ) → set_of_gate sets gate ≡ Some set → Contains set.latches c → c < code.bits
  gate_latches (Latch i) set c of_gate has = ((split.reads.latches i set of_gate).latches.candidates c has).bit
  gate_latches (Output b) set c of_gate has = (split.reads.outputs b set of_gate).latches.candidates c has

  input_low : (which : Which) (a : ℕ) → IsInputOf code sets which a → a < W.inputs
  input_low which a (inl read) = gate_inputs read.gate read.set a read.of_gate read.has
  input_low which a (inr none) = omega (arith, none.1, split.machine.some_input)

  inputs_low : (which : Which) (set : ReadSet) → IsPartSet code sets which set → All (λ a. a < W.inputs) set.inputs
  inputs_low which set is k d lt = input_low which (get_or set.inputs k d) ((is.inputs (get_or set.inputs k d)).0 (Contains-get_or set.inputs k d lt))

  latches_low : (which : Which) (set : ReadSet) → IsPartSet code sets which set → All (λ c. c < code.bits) set.latches
  latches_low which set is k d lt =
      let read = ((is.latches (get_or set.latches k d)).0 (Contains-get_or set.latches k d lt)).0 in
      gate_latches read.gate read.set (get_or set.latches k d) read.of_gate read.has

  -- ---- what a reading has at a state and a symbol
  pub record HasValues (s : ℕ) (x : List Bool) (reading : List ℕ → Bool) : Type 0 where
    pub inputs : (a : ℕ) → a < W.inputs → reading (name_at names.inputs a) ≡ input_of x a
    pub latches : (c : ℕ) → c < code.bits → reading (name_at names.latch_outputs c) ≡ bit (slice_index code.words s) c

  pub input_values : (x : List Bool) (reading : List ℕ → Bool) → map reading names.inputs ≡ x → (a : ℕ) → a < W.inputs → reading (name_at names.inputs a) ≡ input_of x a
  input_values x reading is a lt = value_at reading names.inputs x a is (omega (arith, lt, split.inputs, counted.inputs))

  -- some reading has these values
  module _ (s : ℕ) (x : List Bool) (long : length x ≡ F.inputs) where
    abbrev pub the_reading : List ℕ → Bool
    the_reading = read_at (names.inputs ++ names.latch_outputs) (x ++ code_of code.bits code.words s)

    the_code_long : length (code_of code.bits code.words s) ≡ code.bits
    the_code_long = length-map-range_with_len (bit (slice_index code.words s)) 0 code.bits

    the_values : (map the_reading names.inputs ≡ x) × (map the_reading names.latch_outputs ≡ code_of code.bits code.words s)
    the_values =
        parts_of_append (map the_reading names.inputs) (map the_reading names.latch_outputs) x (code_of code.bits code.words s)
        (sym (map-append the_reading names.inputs names.latch_outputs)
        ∙ map-read_at (names.inputs ++ names.latch_outputs) (x ++ code_of code.bits code.words s)
        (omega (arith, length-append x (code_of code.bits code.words s), length-append names.inputs names.latch_outputs, long, the_code_long, counted.inputs, counted.latch_outputs))
        (λ name. omega (
          arith,
          distinct name,
          times-append name names.inputs names.latch_outputs,
          times-append name (names.inputs ++ names.outputs ++ names.latch_inputs) names.latch_outputs,
          times-append name (names.inputs ++ names.outputs) names.latch_inputs,
          times-append name names.inputs names.outputs,
        )))
        (length-map names.inputs the_reading ∙ (counted.inputs ∙ sym long))

    pub the_symbol : map the_reading names.inputs ≡ x
    the_symbol = the_values.0

    pub the_reading_has : HasValues s x the_reading
    the_reading_has = record {
      inputs = input_values x the_reading the_symbol;
      latches = λ c low.
          value_at the_reading names.latch_outputs (code_of code.bits code.words s) c the_values.1 (omega (arith, low, counted.latch_outputs))
          ∙ get_or-map-range_with_len (bit (slice_index code.words s)) 0 code.bits c c false low (omega arith);
    }

  -- ---- what it spells on the inputs of a machine
  module _ (s : ℕ) (x : List Bool) (reading : List ℕ → Bool) (has : HasValues s x reading) (which : Which) (set : ReadSet) (reads : IsPartSet code sets which set) where
    listed : map reading (input_names names set) ≡ read_values code.words set s x
    listed =
        let word : ℕ → Bool = bit (slice_index code.words s) in
        let ins : map reading (map (name_at names.inputs) set.inputs) ≡ map (input_of x) set.inputs =
        map-map reading (name_at names.inputs) set.inputs
        ∙ map_same (λ a. reading (name_at names.inputs a)) (input_of x) set.inputs (λ k d lt. has.inputs (get_or set.inputs k d) (inputs_low which set reads k d lt)) in
        let outs : map reading (map (name_at names.latch_outputs) set.latches) ≡ map word set.latches =
        map-map reading (name_at names.latch_outputs) set.latches
        ∙ map_same (λ c. reading (name_at names.latch_outputs c)) word set.latches (λ k d lt. has.latches (get_or set.latches k d) (latches_low which set reads k d lt)) in
        map-append reading (map (name_at names.inputs) set.inputs) (map (name_at names.latch_outputs) set.latches)
        ∙ (ap (λ (front : List Bool). front ++ map reading (map (name_at names.latch_outputs) set.latches)) ins ∙ ap (λ (back : List Bool). map (input_of x) set.inputs ++ back) outs)

    pub spelled : (P : KissFile) → HasSignals W code set names which P → symbol_read reading P ≡ read_values code.words set s x
    spelled P signals = ap (λ (given : Option (List (List ℕ))). map reading (unwrap_or given [])) signals.input_names ∙ listed

  -- on the outputs of the machine of a part it has the bits of the code
  pub own_values : (s : ℕ) (x : List Bool) (reading : List ℕ → Bool) → HasValues s x reading → (j : ℕ)
      → map reading (map (name_at names.latch_outputs) (own_bits code (Numbered j))) ≡ map (bit (slice_index code.words s)) (own_bits code (Numbered j))
  own_values s x reading has j =
      map-map reading (name_at names.latch_outputs) (own_bits code (Numbered j))
      ∙ map_same (λ c. reading (name_at names.latch_outputs c)) (bit (slice_index code.words s)) (own_bits code (Numbered j))
      (λ k d lt. has.latches (get_or (own_bits code (Numbered j)) k d) (own_bit_low code j (get_or (own_bits code (Numbered j)) k d) (Contains-get_or (own_bits code (Numbered j)) k d lt)))

  -- the number of bits that a symbol of a machine has
  pub read_long : (s : ℕ) (x : List Bool) (which : Which) (set : ReadSet) (P : KissFile) → HasSignals W code set names which P → length (read_values code.words set s x) ≡ P.inputs
  read_long s x which set P signals =
      length-append (map (input_of x) set.inputs) (map (bit (slice_index code.words s)) set.latches)
      ∙ omega (arith, length-map set.inputs (input_of x), length-map set.latches (bit (slice_index code.words s)), signals.inputs)

  pub spelled_long : (reading : List ℕ → Bool) (which : Which) (set : ReadSet) (P : KissFile) → HasSignals W code set names which P → length (symbol_read reading P) ≡ P.inputs
  spelled_long reading which set P signals =
      length-map (unwrap_or P.input_names []) reading
      ∙ (ap (λ (given : Option (List (List ℕ))). length (unwrap_or given [])) signals.input_names
      ∙ (length-append (map (name_at names.inputs) set.inputs) (map (name_at names.latch_outputs) set.latches)
      ∙ omega (arith, length-map set.inputs (name_at names.inputs), length-map set.latches (name_at names.latch_outputs), signals.inputs)))
