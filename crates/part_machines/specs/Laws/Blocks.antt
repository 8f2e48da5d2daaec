-- The gates of a part at states of one block: where they read the same, the machine goes to one block and gives the same.
use Rattle.std.proofs.Common.{◌≡◌, inl, inr, ℕ, ◌+◌, ◌<◌, Bool, All, Contains, List, Some, get_or, length, map, slice_get, sym, ◌∙◌, ap, ap₂, subst, arith, eqb, ◌++◌}
use Rattle.std.proofs.lemmas.Bool.{eq-eqb, eqb-true}
use Rattle.std.proofs.lemmas.List.{get_or-replicate, length-map}
use Rattle.std.proofs.lemmas.List.FromFn.{get_or-range_with_len, length-range_with_len}
use Rattle.std.proofs.lemmas.List.Elements.{Contains-get_or}
use Rattle.std.specs.List.{range_with_len}
use Rattle.cubes.specs.Symbol.{bit}
use Rattle.cubes.specs.Laws.Bits.{same_digits}
use Rattle.dependence.specs.declared.bit.Bit.{Bit}
use Rattle.dependence.specs.declared.bit.Bit.TheVariants.{Latch, Output}
use Rattle.dependence.specs.declared.sets.ReadSet.{ReadSet}
use Rattle.dependence.specs.declared.sets.Reads.{Reads}
use Rattle.dependence.specs.Laws.Said.{mapped}
use Rattle.dependence.specs.SufficientBits.{next_value, output_value}
use Rattle.gate_rows.specs.Columns.{input_of}
use Rattle.kiss_file.specs.declared.file.KissFile.{KissFile}
use Rattle.kiss_file.specs.Machine.{next, output_bit}
use Rattle.list_facts.specs.Laws.Everywhere.{map_same}
use Rattle.list_facts.specs.Laws.Members.{Contains-filter, Contains-from_filter, Contains-none, agree_from_map, among_or_not}
use Rattle.list_facts.specs.Laws.Places.{item_at}
use Rattle.net_core.specs.Laws.Valuations.{parts_of_append}
use Rattle.partition.specs.Partition.{Together, one_of}
use Rattle.realise.specs.Laws.{EqualReads}
use Rattle.realise.specs.CodeNetwork.{IsEnough}
use Rattle.realise.specs.Rows.{read_values}
use Rattle.state_codes.specs.declared.split.Part.{Part}
use Rattle.state_codes.specs.declared.Codes.{Codes}
use Rattle.state_codes.specs.Agreement.{AgreeOnPart}
use Rattle.state_codes.specs.Laws.Codes.{part_bits_tell}
use Rattle.state_codes.specs.declared.which.Which.{Which}
use Rattle.state_codes.specs.declared.which.Which.TheVariants.{Part as Numbered, Outputs}
use Rattle.part_machines.specs.MachineLaws.{IsSplitOf}
use Rattle.part_machines.specs.PartSet.{IsGateOf, IsPartSet, set_of_gate}
use Rattle.part_machines.specs.Which.{own_bits, partition_of}

-- a bit of a part is one of the code, and its owner is the part
pub own_bit : (code : Codes) (j c : ℕ) → Contains (own_bits code (Numbered j)) c → (c < code.bits) × (get_or code.owner c 0 ≡ j)
own_bit code j c among =
    let inside = Contains-from_filter (λ i. eqb (get_or code.owner i 0) j) (range_with_len 0 code.bits) c among in
    let size : length (range_with_len 0 code.bits) ≡ code.bits = length-range_with_len 0 code.bits in
    let low : inside.0.0 < code.bits = omega (arith, size, inside.0.1) in
    let at : get_or (range_with_len 0 code.bits) inside.0.0 c ≡ 0 + inside.0.0 = get_or-range_with_len 0 code.bits inside.0.0 c low in
    (omega (arith, low, at, inside.0.2), eqb-true (get_or code.owner c 0) j inside.1)

-- a number is among those below its limit
pub in_range : (n i : ℕ) → i < n → Contains (range_with_len 0 n) i
in_range n i below =
    let at : 0 + i ≡ i = omega arith in
    (i, omega (arith, length-range_with_len 0 n, below), get_or-range_with_len 0 n i i below ∙ at)

-- and each such bit is one of the part
pub own_from : (code : Codes) (j c : ℕ) → c < code.bits → get_or code.owner c 0 ≡ j → Contains (own_bits code (Numbered j)) c
own_from code j c below owned =
    Contains-filter (λ i. eqb (get_or code.owner i 0) j) (range_with_len 0 code.bits) c (in_range code.bits c below) (eq-eqb (get_or code.owner c 0) j owned)

-- the part with a number, and its partition
pub part_of : (W : KissFile) (parts : List Part) (j : ℕ) (p : List ℕ) → partition_of W parts (Numbered j) ≡ Some p → (part : Part) × (slice_get parts j ≡ Some part) × (part.partition ≡ p)
part_of W parts j p is = mapped (λ (part : Part). part.partition) (slice_get parts j) p is

module _ (W : KissFile) (parts : List Part) (code : Codes) (sets : Reads) (known : IsSplitOf W parts code sets) where
  -- states of one block agree at the bits of the part
  pub own_agree : (which : Which) (p : List ℕ) → partition_of W parts which ≡ Some p → (s t : ℕ) → s < length W.states → t < length W.states → Together p s t
      → (c : ℕ) → Contains (own_bits code which) c → bit (get_or code.words s 0) c ≡ bit (get_or code.words t 0) c
  own_agree (Numbered j) p is s t in_s in_t held c among =
      let part = part_of W parts j p is in
      let own = own_bit code j c among in
      let there : Together part.0.partition s t = subst (λ (q : List ℕ). Together q s t) (sym part.2) held in
      let agree = (part_bits_tell (length W.states) parts code known.lawful known.is_code j part.0 part.1 s t in_s in_t).1 there c own.0 own.1 in
      ap (λ n. eqb n 1) agree
  own_agree Outputs p is s t in_s in_t held c among = absurd (Contains-none c among)

  module _ (which : Which) (p : List ℕ) (is : partition_of W parts which ≡ Some p) (set : ReadSet) (reads : IsPartSet code sets which set)
      (s t : ℕ) (x y : List Bool) (in_s : s < length W.states) (in_t : t < length W.states) (held : Together p s t)
      (read : read_values code.words set s x ≡ read_values code.words set t y) where
    two : (map (input_of x) set.inputs ≡ map (input_of y) set.inputs) × (map (bit (get_or code.words s 0)) set.latches ≡ map (bit (get_or code.words t 0)) set.latches)
    two =
        parts_of_append (map (input_of x) set.inputs) (map (bit (get_or code.words s 0)) set.latches) (map (input_of y) set.inputs) (map (bit (get_or code.words t 0)) set.latches)
        read (length-map set.inputs (input_of x) ∙ sym (length-map set.inputs (input_of y)))

    -- so each gate of the part reads the same
    pub gate_reads : (gate : Bit) (own : ReadSet) → IsGateOf code which gate → set_of_gate sets gate ≡ Some own → read_values code.words own s x ≡ read_values code.words own t y
    gate_reads gate own of_part of_gate =
        ap₂ ◌++◌ (map_same (input_of x) (input_of y) own.inputs inputs) (map_same (bit (get_or code.words s 0)) (bit (get_or code.words t 0)) own.latches latches)
      where
        inputs : All (λ a. input_of x a ≡ input_of y a) own.inputs
        inputs k d within =
            let a : ℕ = get_or own.inputs k d in
            agree_from_map (input_of x) (input_of y) set.inputs two.0 a
            ((reads.inputs a).1 (inl (record { gate = gate; own = of_part; set = own; of_gate = of_gate; has = Contains-get_or own.inputs k d within })))

        latches : All (λ c. bit (get_or code.words s 0) c ≡ bit (get_or code.words t 0) c) own.latches
        latches k d within =
            let c : ℕ = get_or own.latches k d in
            elim (among_or_not (own_bits code which) c) [
              | inl mine ↦ own_agree which p is s t in_s in_t held c mine
              | inr other ↦
                  agree_from_map (bit (get_or code.words s 0)) (bit (get_or code.words t 0)) set.latches two.1 c
                  ((reads.latches c).1 (record { gate = gate; own = of_part; set = own; of_gate = of_gate; has = Contains-get_or own.latches k d within }, other))
            ]

    -- what a gate of the part gives is the same
    gate_gives : (gate : Bit) (own : ReadSet) → IsGateOf code which gate → set_of_gate sets gate ≡ Some own → EqualReads → (value : ℕ → List Bool → Bool)
        → IsEnough W code.words value own → length x ≡ W.inputs → length y ≡ W.inputs → value s x ≡ value t y
    gate_gives gate own of_part of_gate equal value enough long_x long_y =
        equal W code.words own value enough s t x y in_s in_t long_x long_y (gate_reads gate own of_part of_gate)

-- the machine of a part goes to one block
module _ (W : KissFile) (parts : List Part) (code : Codes) (sets : Reads) (known : IsSplitOf W parts code sets) (equal : EqualReads) where
  next_of_part : (j : ℕ) (p : List ℕ) → partition_of W parts (Numbered j) ≡ Some p → (set : ReadSet) → IsPartSet code sets (Numbered j) set
      → (s t : ℕ) (x y : List Bool) → s < length W.states → t < length W.states → Together p s t → length x ≡ W.inputs → length y ≡ W.inputs
      → read_values code.words set s x ≡ read_values code.words set t y → get_or p (next W s x) 0 ≡ get_or p (next W t y) 0
  next_of_part j p is set reads s t x y in_s in_t held long_x long_y read =
      let part = part_of W parts j p is in
      let together : Together part.0.partition (next W s x) (next W t y) =
      (part_bits_tell (length W.states) parts code known.lawful known.is_code j part.0 part.1 (next W s x) (next W t y)
      (known.stays s x in_s long_x) (known.stays t y in_t long_y)).0 agree in
      subst (λ (q : List ℕ). get_or q (next W s x) 0 ≡ get_or q (next W t y) 0) part.2 together.2
    where
      mine : (i : ℕ) → i < code.bits → get_or code.owner i 0 ≡ j → Contains (own_bits code (Numbered j)) i
      mine i below owned =
          own_from code j i below owned

      agree : AgreeOnPart code j (next W s x) (next W t y)
      agree i below owned =
          let own = item_at sets.latches i (omega (arith, below, known.enough.latch_count)) in
          let same : next_value W code.words i s x ≡ next_value W code.words i t y =
          gate_gives W parts code sets known (Numbered j) p is set reads s t x y in_s in_t held read (Latch i) own.0 (mine i below owned) own.1 equal
          (next_value W code.words i) (known.enough.latches i own.0 own.1) long_x long_y in
          same_digits (get_or code.words (next W s x) 0) (get_or code.words (next W t y) 0) i i same

  -- and so does the machine of the outputs, which has one
  pub next_together : (which : Which) (p : List ℕ) → partition_of W parts which ≡ Some p → (set : ReadSet) → IsPartSet code sets which set
      → (s t : ℕ) (x y : List Bool) → s < length W.states → t < length W.states → Together p s t → length x ≡ W.inputs → length y ≡ W.inputs
      → read_values code.words set s x ≡ read_values code.words set t y → get_or p (next W s x) 0 ≡ get_or p (next W t y) 0
  next_together (Numbered j) p is set reads s t x y in_s in_t held long_x long_y read = next_of_part j p is set reads s t x y in_s in_t held long_x long_y read
  next_together Outputs p is set reads s t x y in_s in_t held long_x long_y read =
      let one : one_of (length W.states) ≡ p = cc in
      subst (λ (q : List ℕ). get_or q (next W s x) 0 ≡ get_or q (next W t y) 0) one
      (get_or-replicate (length W.states) (next W s x) 0 0 (known.stays s x in_s long_x)
      ∙ sym (get_or-replicate (length W.states) (next W t y) 0 0 (known.stays t y in_t long_y)))

  -- the outputs are the same
  pub output_same : (p : List ℕ) → partition_of W parts Outputs ≡ Some p → (set : ReadSet) → IsPartSet code sets Outputs set
      → (s t : ℕ) (x y : List Bool) → s < length W.states → t < length W.states → Together p s t → length x ≡ W.inputs → length y ≡ W.inputs
      → read_values code.words set s x ≡ read_values code.words set t y → (b : ℕ) → b < W.outputs → output_bit W s x b ≡ output_bit W t y b
  output_same p is set reads s t x y in_s in_t held long_x long_y read b below =
      let own = item_at sets.outputs b (omega (arith, below, known.enough.output_count)) in
      gate_gives W parts code sets known Outputs p is set reads s t x y in_s in_t held read (Output b) own.0 tt own.1 equal (output_value W b)
      (known.enough.outputs b own.0 own.1) long_x long_y
