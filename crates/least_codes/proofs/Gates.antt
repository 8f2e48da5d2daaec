-- The gates of the least code read least sets of its bits.
use Rattle.std.proofs.Common.{◌≡◌, ◌∙◌, ℕ, ◌<◌, ◌≤◌, All, Bool, true, false, Contains, List, [], Some, length, get_or, inl, inr, ap, refl, subst, sym, arith}
use Rattle.std.proofs.lemmas.Bool.{cases_eq}
use Rattle.std.proofs.lemmas.List.{get_or-map, length-map}
use Rattle.std.proofs.lemmas.List.Elements.{All-append}
use Rattle.std.proofs.lemmas.Option.{get_or_from_slice_get, slice_get-get_or, slice_get_within}
use Rattle.std.specs.List.{slice_get}
use Rattle.std.specs.List.Sorted.{IsStrictlyIncreasing}
use Rattle.kiss_file.specs.declared.file.KissFile.{KissFile}
use Rattle.partition.specs.NestedBlocks.{IsInside}
use Rattle.partition.specs.Partition.{IsPartition, blocks_of}
use Rattle.state_codes.specs.declared.split.Part.{Part}
use Rattle.state_codes.specs.declared.Codes.{Codes}
use Rattle.state_codes.specs.Code.{IsCode, Place, label_places, need, places_of}
use Rattle.state_codes.specs.Kinds.{IsOwnCarrier}
use Rattle.state_codes.specs.Laws.Codes.{codes_are_one, owner-lt}
use Rattle.state_codes.specs.Laws.Places.{label_places-all, places_of-all}
use Rattle.state_codes.specs.Split.{own_part}
use Rattle.dependence.specs.Candidates.{IsBitOfCode, IsCandidate, IsOpenTo}
use Rattle.dependence.specs.SufficientBits.{next_value}
use Rattle.dependence.specs.ReadRule.{Beside, IsReadRule}
use Rattle.dependence.specs.Reads.{IsReadSet}
use Rattle.dependence.specs.Laws.Judged.{permits_more}
use Rattle.least_codes.specs.Kind.{IsLeastSplit}
use Rattle.least_codes.specs.Laws.{LeastCodeReadsLeast}
use Rattle.least_codes.specs.LeastCode.{AreCodeWords}
use Rattle.least_codes.specs.LeastReads.{AreLeastReads}
use Rattle.state_codes.specs.Laws.OwnCarriers.{no_inner}
use Rattle.least_codes.proofs.Reading.{other_among}
use Rattle.least_codes.proofs.Rule.{rule_gives_least}

-- the rule asks nothing of candidates but which they are
rule_alike : (F : KissFile) (words : List ℕ) (Candidate Other R : ℕ → Type 0) (value : ℕ → List Bool → Bool) → ((c : ℕ) → Candidate c → Other c) → ((c : ℕ) → Other c → Candidate c) → IsReadRule F words Candidate R value → IsReadRule F words Other R value
rule_alike F words Candidate Other R value to from rule = record {
  candidates = λ c is. to c (rule.candidates c is);
  needed = λ c is permits. rule.needed c is (permits_more F words (Beside Other R c) (Beside Candidate R c) value (beside Other Candidate from c) permits);
  spared = λ c is out. permits_more F words (Beside Candidate R c) (Beside Other R c) value (beside Candidate Other to c) (rule.spared c (from c is) out);
} where
  beside : (One More : ℕ → Type 0) → ((c : ℕ) → One c → More c) → (c d : ℕ) → Beside One R c d → Beside More R c d
  beside One More over c d is = elim is [ inl low ↦ inl (low.0, over d low.1) | inr high ↦ inr high ]

module _ (n : ℕ) (parts : List Part) (codes : Codes) (code : IsCode n parts codes) (split : IsLeastSplit parts) (lawful : (j : ℕ) (part : Part) → slice_get parts j ≡ Some part → IsPartition n part.partition) where
  abbrev places : List Place
  places = places_of 0 parts code.inners

  abbrev Carried : Place → Type 0
  Carried place = place.carried ≡ true

  own_at : (j : ℕ) (part : Part) → slice_get parts j ≡ Some part → IsOwnCarrier part
  own_at j part at = subst IsOwnCarrier (get_or_from_slice_get parts j part part at) (split.own j part (slice_get_within parts j part at))

  all_carried : All Carried places
  all_carried =
      places_of-all Carried 0 parts code.inners code.inside
      (λ number k part inner at stands inside.
      All-append Carried (label_places number true part.carrier (need (blocks_of part.carrier))) (label_places number false inner (need (blocks_of inner)))
      (label_places-all Carried number true part.carrier (need (blocks_of part.carrier)) (λ weight under. refl))
      (label_places-all Carried number false inner (need (blocks_of inner)) (λ weight under. absurd (omega (arith, under, no_inner n part inner (lawful k part stands) (own_at k part stands) inside)))))

  carried_at : (c : ℕ) → c < codes.bits → slice_get codes.carried c ≡ Some true
  carried_at c below =
      let somewhere : Place = record { part = 0; carried = true; labels = []; weight = 0 } in
      let in_places : c < length places = omega (arith, below, code.written.size) in
      let within : c < length codes.carried = omega (arith, in_places, ap (λ (list : List Bool). length list) code.written.marks, length-map places (λ (place : Place). place.carried)) in
      slice_get-get_or codes.carried c true within
      ∙ ap Some (ap (λ (list : List Bool). get_or list c true) code.written.marks ∙ get_or-map (λ (place : Place). place.carried) places c somewhere true in_places ∙ all_carried c somewhere in_places)

  -- each bit is a candidate of each latch
  pub bit_is_candidate : (i c : ℕ) → i < codes.bits → c < codes.bits → IsCandidate parts codes i c
  bit_is_candidate i c in_i in_c = record { bit = in_c; open_to = open_to } where
    j : ℕ
    j = get_or codes.owner i 0

    in_parts : get_or codes.owner i 0 < length parts
    in_parts = owner-lt n parts codes code i in_i

    part : Part
    part = get_or parts (get_or codes.owner i 0) (own_part [] [])

    at : slice_get parts (get_or codes.owner i 0) ≡ Some (get_or parts (get_or codes.owner i 0) (own_part [] []))
    at = slice_get-get_or parts (get_or codes.owner i 0) (own_part [] []) in_parts

    open_to : IsOpenTo parts codes (get_or codes.owner i 0) c
    open_to =
        elim (cases_eq (get_or codes.owner c 0) (get_or codes.owner i 0)) [
          | inl same ↦ inl same
          | inr apart ↦ inr (record {
            carried = carried_at c in_c;
            reads = (
              get_or parts (get_or codes.owner i 0) (own_part [] []),
              at,
              subst (λ (list : List ℕ). Contains list (get_or codes.owner c 0)) (sym (split.reads (get_or codes.owner i 0) (get_or parts (get_or codes.owner i 0) (own_part [] [])) at))
                  (other_among (length parts) (get_or codes.owner i 0) (get_or codes.owner c 0) (owner-lt n parts codes code c in_c) apart),
            );
          })
        ]

-- the rule, for as many bits as are needed
rule_of_bits : (F : KissFile) (words : List ℕ) (value : ℕ → List Bool → Bool) (reads : List ℕ) (bits : ℕ) → need (length F.states) ≡ bits → 3 ≤ length F.states → length F.states ≤ 8 → AreCodeWords (length F.states) (need (length F.states)) words
    → IsStrictlyIncreasing reads → IsReadRule F words (λ c. c < bits) (Contains reads) value → AreLeastReads F words (λ c. c < bits) value reads
rule_of_bits F words value reads bits needed some most codes ascending rule =
    subst (λ (k : ℕ). AreLeastReads F words (λ c. c < k) value reads) needed
    (rule_gives_least F words value reads some most codes ascending (subst (λ (k : ℕ). IsReadRule F words (λ c. c < k) (Contains reads) value) (sym needed) rule))

pub least_code_reads_least : LeastCodeReadsLeast
least_code_reads_least F parts codes reads some most split give code by_rule = record {
  latches = λ i set at.
      let own : IsReadSet F codes.words (IsCandidate parts codes i) (next_value F codes.words i) set = by_rule.latches i set at in
      let below : i < codes.bits = omega (arith, slice_get_within reads.latches i set at, by_rule.latch_count) in
      least_by (next_value F codes.words i) set.latches own.latches_ascend
      (rule_alike F codes.words (IsCandidate parts codes i) (IsBitOfCode codes) (Contains set.latches) (next_value F codes.words i) (λ c is. is.bit) (λ c is. bit_is_candidate (length F.states) parts codes code split lawful i c below is) own.latches);
  outputs = λ b set at. let own = by_rule.outputs b set at in least_by _ set.latches own.latches_ascend own.latches;
} where
  lawful : (j : ℕ) (part : Part) → slice_get parts j ≡ Some part → IsPartition (length F.states) part.partition
  lawful j part at = (give.bits j part at).lawful

  same : codes ≡ give.codes
  same = codes_are_one (length F.states) parts codes give.codes code give.given

  needed : need (length F.states) ≡ codes.bits
  needed = sym (ap (λ (one : Codes). one.bits) same ∙ give.size)

  are : AreCodeWords (length F.states) (need (length F.states)) codes.words
  are = subst (λ (one : Codes). AreCodeWords (length F.states) (need (length F.states)) one.words) (sym same) give.least.codes

  least_by : (value : ℕ → List Bool → Bool) (list : List ℕ) → IsStrictlyIncreasing list → IsReadRule F codes.words (IsBitOfCode codes) (Contains list) value → AreLeastReads F codes.words (IsBitOfCode codes) value list
  least_by value list ascending rule = rule_of_bits F codes.words value list codes.bits needed some most are ascending rule
