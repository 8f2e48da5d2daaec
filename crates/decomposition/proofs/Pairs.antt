-- The gates of latches read within their own pairs and within their parts.
use Rattle.std.proofs.Common.{◌≡◌, ℕ, ◌<◌, ◌++◌, inl, inr, true, All, Contains, List, Some, get_or, length, map, slice_get, refl, sym, ap, ◌∙◌, subst, arith}
use Rattle.std.proofs.lemmas.Option.{same_Some, slice_get-get_or, slice_get_within}
use Rattle.list_facts.specs.Laws.Everywhere.{all_at}
use Rattle.list_facts.specs.Laws.Places.{item_at}
use Rattle.blif_out.specs.declared.header.LatchNote.{LatchNote}
use Rattle.cubes.specs.Laws.Bits.{same_digits}
use Rattle.dependence.specs.declared.sets.ReadSet.{ReadSet}
use Rattle.dependence.specs.declared.sets.Reads.{Reads}
use Rattle.dependence.specs.Candidates.{IsCandidate}
use Rattle.dependence.specs.SufficientBits.{AgreeOn, next_value}
use Rattle.dependence.specs.Reads.{AreReads}
use Rattle.kiss_file.specs.declared.file.KissFile.{KissFile}
use Rattle.kiss_file.specs.Machine.{next}
use Rattle.machine_table.specs.NextStates.{NeverLeaves}
use Rattle.net_core.specs.declared.Gate.{Gate}
use Rattle.net_core.specs.declared.Network.{Network}
use Rattle.net_core.specs.declared.SignalNames.{SignalNames}
use Rattle.net_core.specs.FlatNetwork.{IsFlat}
use Rattle.partition.specs.Partition.{IsPartition}
use Rattle.realise.specs.Laws.{ArePairwiseDistinct}
use Rattle.realise.specs.CodeNetwork.{AreCounted, AreEnough, IsGateFor, IsRealised, IsWithin, name_at}
use Rattle.realise.specs.Laws.Gates.{driven_names}
use Rattle.state_codes.specs.declared.Codes.{Codes}
use Rattle.state_codes.specs.declared.split.Part.{Part}
use Rattle.state_codes.specs.Agreement.{IsBitPartition}
use Rattle.state_codes.specs.Code.{IsCode}
use Rattle.state_codes.specs.Laws.Codes.{carrier_bits_tell, owner-lt, part_bits_tell}
use Rattle.state_codes.specs.Split.{IsPart}
use Rattle.decomposition.specs.Notes.{AreNotes, IsNoteOf}
use Rattle.decomposition.specs.OwnPairs.{HasOwnPair, OwnPairs}
use Rattle.decomposition.specs.OwnPairs.{ReadsLatch}
use Rattle.decomposition.specs.PartReads.{IsBitOf, IsCarrierBit, IsPartOf, IsWithinParts, MayRead}
use Rattle.decomposition.proofs.Reading.{listed_read, read_listed}

-- what the network and the notes of the codes of a machine are
pub record AreMade (W : KissFile) (parts : List Part) (codes : Codes) (sets : Reads) (names : SignalNames) (N : Network) (noted : List LatchNote) : Type 0 where
  pub stays : NeverLeaves W
  pub lawful : All (IsPart (length W.states)) parts
  pub code : IsCode (length W.states) parts codes
  pub by_rule : AreReads W parts codes sets
  pub enough : AreEnough W codes.bits codes.words sets
  pub counted : AreCounted W codes.bits names
  pub distinct : ArePairwiseDistinct names
  pub realised : IsRealised W codes.bits codes.words sets names N
  pub notes : AreNotes codes sets.latches noted

module _ (W : KissFile) (parts : List Part) (codes : Codes) (sets : Reads) (names : SignalNames) (N : Network) (notes : List LatchNote) (made : AreMade W parts codes sets names N notes) where
  abbrev states : ℕ
  states = length W.states

  pub notes_counted : length notes ≡ codes.bits
  notes_counted = made.notes.count ∙ made.enough.latch_count

  -- a latch with its set, its note and its gate
  record IsLatch (i : ℕ) (note : LatchNote) (gate : Gate) : Type 0 where
    set : ReadSet
    bit : i < codes.bits
    set_there : slice_get sets.latches i ≡ Some set
    noted : IsNoteOf codes i set note
    gated : IsGateFor W codes.words names set (next_value W codes.words i) (name_at names.latch_inputs i) gate
    within : IsWithin W.inputs codes.bits set

  latch_at : (i : ℕ) (note : LatchNote) (gate : Gate) → slice_get notes i ≡ Some note → slice_get N.gates i ≡ Some gate → IsLatch i note gate
  latch_at i note gate at_note at_gate =
      let found = item_at sets.latches i (omega (arith, slice_get_within notes i note at_note, made.notes.count)) in
      let real = made.realised.latch_gates i found.0 found.1 in
      let same : real.0 ≡ gate = same_Some real.0 gate (sym real.1 ∙ at_gate) in
      record {
        set = found.0;
        bit = omega (arith, slice_get_within notes i note at_note, notes_counted);
        set_there = found.1;
        noted = made.notes.each i found.0 note found.1 at_note;
        gated = subst (IsGateFor W codes.words names found.0 (next_value W codes.words i) (name_at names.latch_inputs i)) same real.2;
        within = all_at (IsWithin W.inputs codes.bits) sets.latches i found.0 made.enough.latches_within found.1;
      }

  -- its gate reads the latches of its set, and no others
  reads_set : (i : ℕ) (note : LatchNote) (gate : Gate) (is : IsLatch i note gate) (c : ℕ) → ReadsLatch N gate c → Contains (is.set).latches c
  reads_set i note gate is =
      read_listed W codes.bits codes.words names N is.set (next_value W codes.words i) (name_at names.latch_inputs i) gate made.counted made.distinct made.realised.latch_outputs is.within is.gated

  set_read : (i : ℕ) (note : LatchNote) (gate : Gate) (is : IsLatch i note gate) (c : ℕ) → Contains (is.set).latches c → ReadsLatch N gate c
  set_read i note gate is =
      listed_read W codes.bits codes.words names N is.set (next_value W codes.words i) (name_at names.latch_inputs i) gate made.counted made.distinct made.realised.latch_outputs is.within is.gated

  -- ---- the pairs
  own_pair : (i : ℕ) (note : LatchNote) (gate : Gate) → slice_get notes i ≡ Some note → slice_get N.gates i ≡ Some gate → HasOwnPair W N codes.words i note gate
  own_pair i note gate at_note at_gate =
      let is : IsLatch i note gate = latch_at i note gate at_note at_gate in
      let size : length codes.words ≡ states = made.code.written.states in
      let from = is.noted.from in
      let to : IsBitPartition states codes.words i note.to = subst (λ (n : ℕ). IsBitPartition n codes.words i note.to) size is.noted.to in
      let from_lawful : IsPartition states note.from = subst (λ (n : ℕ). IsPartition n note.from) size from.lawful in
      record {
        from = record {
          lawful = from_lawful;
          together = λ s t in_s in_t. (
            (λ held c read. (from.together s t (omega (arith, size)) (omega (arith, size))).0 held c (reads_set i note gate is c read)),
            (λ agree. (from.together s t (omega (arith, size)) (omega (arith, size))).1 (λ c listed. agree c (set_read i note gate is c listed))),
          );
        };
        to = to;
        pair = λ s t x held symbol.
            let in_s : s < states = omega (arith, held.0, from_lawful.length) in
            let in_t : t < states = omega (arith, held.1, from_lawful.length) in
            let agree : AgreeOn codes.words (Contains (is.set).latches) s t = (from.together s t (omega (arith, size)) (omega (arith, size))).0 held in
            (to.together (next W s x) (next W t x) (made.stays s x in_s symbol) (made.stays t x in_t symbol)).1
            (same_digits (get_or codes.words (next W s x) 0) (get_or codes.words (next W t x) 0) i i ((made.enough.latches i is.set is.set_there).permits s t x in_s in_t agree symbol));
      }

  pub own_pairs : IsFlat N → OwnPairs W N codes.words notes
  own_pairs flat =
      record {
        gates =
            driven_names W codes.bits codes.words sets names N made.counted made.enough made.realised
            ∙ ap (λ (ins : List (List ℕ)). ins ++ names.outputs) (sym made.realised.latch_inputs)
            ∙ ap (λ (outs : List (List ℕ)). map (λ latch. latch.input) N.latches ++ outs) (sym made.realised.outputs);
        reads = flat.reads;
        pairs = own_pair;
      }

  -- ---- the parts
  -- the bits of a part by the notes are those by the owners
  bit_noted : (j c : ℕ) → c < codes.bits → get_or codes.owner c 0 ≡ j → IsBitOf notes j c
  bit_noted j c below owned =
      let note = item_at notes c (omega (arith, notes_counted)) in
      let set = item_at sets.latches c (omega (arith, made.enough.latch_count)) in
      (note.0, note.1, (made.notes.each c set.0 note.0 set.1 note.1).part ∙ owned)

  bit_owned : (j c : ℕ) → IsBitOf notes j c → (c < codes.bits) × (get_or codes.owner c 0 ≡ j)
  bit_owned j c (note, stands, of_part) =
      let below : c < codes.bits = omega (arith, slice_get_within notes c note stands, notes_counted) in
      let set = item_at sets.latches c (omega (arith, made.enough.latch_count)) in
      (below, sym (made.notes.each c set.0 note set.1 stands).part ∙ of_part)

  part_told : (j : ℕ) (part : Part) → slice_get parts j ≡ Some part → IsPartOf states codes.words notes j part
  part_told j part stands =
      let tells = part_bits_tell states parts codes made.lawful made.code j part stands in
      record {
        lawful = all_at (IsPart states) parts j part made.lawful stands;
        bits = λ s t in_s in_t. (
          (λ held c is_bit. let owned = bit_owned j c is_bit in (tells s t in_s in_t).1 held c owned.0 owned.1),
          (λ agree. (tells s t in_s in_t).0 (λ c below owned. agree c (bit_noted j c below owned))),
        );
      }

  -- a carrier bit is equal for states of one block of the carrier
  carrier_bit : (l c : ℕ) (other : Part) → slice_get parts l ≡ Some other → c < codes.bits → get_or codes.owner c 0 ≡ l → slice_get codes.carried c ≡ Some true → IsCarrierBit codes.words other c
  carrier_bit l c other stands below owned carried s t held =
      let size : length other.carrier ≡ states = (all_at (IsPart states) parts l other made.lawful stands).carrier.length in
      (carrier_bits_tell states parts codes made.lawful made.code l other stands s t (omega (arith, held.0, size)) (omega (arith, held.1, size))).1 held c below owned carried

  -- a candidate is a bit that a gate of the part may read
  may_read : (i c : ℕ) (note : LatchNote) (part : Part) → note.part ≡ get_or codes.owner i 0 → slice_get parts note.part ≡ Some part → IsCandidate parts codes i c → MayRead codes.words notes parts note.part part c
  may_read i c note part noted stands candidate =
      elim candidate.open_to [
        | inl own ↦ inl (bit_noted note.part c candidate.bit (own ∙ sym noted))
        | inr open_to ↦
            let l : ℕ = get_or codes.owner c 0 in
            let reader = open_to.reads in
            let same : reader.0 ≡ part = same_Some reader.0 part (sym reader.1 ∙ ap (slice_get parts) (sym noted) ∙ stands) in
            let other = item_at parts l (owner-lt states parts codes made.code c candidate.bit) in
            inr (
              l,
              other.0,
              subst (λ (p : Part). Contains p.reads l) same reader.2,
              other.1,
              bit_noted l c candidate.bit refl,
              carrier_bit l c other.0 other.1 candidate.bit refl open_to.carried,
            )
      ]

  pub within_parts : IsWithinParts W N codes.words notes parts
  within_parts =
      record {
        parts_told = part_told;
        owned = λ k d lt.
            let owned = bit_owned (get_or notes k d).part k (get_or notes k d, slice_get-get_or notes k d lt, refl) in
            omega (arith, owned.1, owner-lt states parts codes made.code k owned.0);
        reads = λ i c note gate part at_note at_gate at_part read.
            let is : IsLatch i note gate = latch_at i note gate at_note at_gate in
            may_read i c note part is.noted.part at_part ((made.by_rule.latches i is.set is.set_there).latches.candidates c (reads_set i note gate is c read));
      }
