-- What agreement of codes says about states.
use Rattle.std.proofs.Common.{◌≡◌, ◌≢◌, ℕ, ◌<◌, ◌↔◌, ◌⊎◌, Bool, true, false, inl, inr, List, [], length, get_or, map, Some, refl, sym, ap, ◌∙◌, subst, arith}
use Rattle.std.proofs.lemmas.Bool.{cases_eq, cases_lt, cases_order}
use Rattle.std.proofs.lemmas.List.{get_or-map, length-map, take_all, ext_get_or}
use Rattle.std.proofs.lemmas.List.Elements.{All-append}
use Rattle.std.proofs.lemmas.Nat.Bits.{same_from_bits, same_from_bits_below, bit_at-lt}
use Rattle.std.proofs.lemmas.Option.{slice_get-get_or, get_or_from_slice_get, slice_get_within}
use Rattle.std.specs.Int.{bit_at}
use Rattle.std.specs.List.{All, slice_get}
use Rattle.partition.specs.Partition.{Together, blocks_of}
use Rattle.partition.specs.NestedBlocks.{IsInside}
use Rattle.partition.specs.Laws.Labels.{label-lt-blocks_of, block_stands}
use Rattle.state_codes.specs.declared.split.Part.{Part}
use Rattle.state_codes.specs.declared.Codes.{Codes}
use Rattle.state_codes.specs.Split.{IsPart, TogetherInAll}
use Rattle.state_codes.specs.Code.{Place, need, label_places, part_places, places_of, bit_of, state_code, IsLaidOut, IsCode, CodesAreOne}
use Rattle.state_codes.specs.Agreement.{CodesAgreeAt, AgreeOnPart, AgreeOnCarrier, AreDistinct, PartBitsTell, CarrierBitsTell, BitsHalve}
use Rattle.state_codes.specs.Fault.{AreApart}
use Rattle.state_codes.specs.Laws.Need.{need-enough}
use Rattle.state_codes.specs.Laws.InnerLabels.{inside_tells, inside_same}
use Rattle.state_codes.specs.Laws.Places.{All-left, All-right, AreInside-once, label_places-all, label_places-at, part_places-at, places_of-all}

-- two states have the same bit at this place
abbrev SameBit : ℕ → ℕ → Place → Type 0
SameBit s t place = bit_of s place ≡ bit_of t place

-- the same, at the places of one part
abbrev SameInPart : ℕ → ℕ → ℕ → Place → Type 0
SameInPart j s t place = place.part ≡ j → SameBit s t place

-- the same, at the places of one part that code its carrier
abbrev SameInCarrier : ℕ → ℕ → ℕ → Place → Type 0
SameInCarrier j s t place = place.part ≡ j → place.carried ≡ true → SameBit s t place

-- all bits of a label determine it
label_told : (labels : List ℕ) (s t : ℕ) → s < length labels → t < length labels → ((weight : ℕ) → weight < need (blocks_of labels) → bit_at (get_or labels s 0) weight ≡ bit_at (get_or labels t 0) weight) → get_or labels s 0 ≡ get_or labels t 0
label_told labels s t in_s in_t same =
    same_from_bits_below (need (blocks_of labels)) (get_or labels s 0) (get_or labels t 0)
    (omega (arith, need-enough (blocks_of labels), label-lt-blocks_of labels s in_s))
    (omega (arith, need-enough (blocks_of labels), label-lt-blocks_of labels t in_t))
    same

-- the bit of a state at place i of its code
spelled_at : (n : ℕ) (places : List Place) (bits : ℕ) (words owner : List ℕ) (carried : List Bool) → IsLaidOut n places bits words owner carried → (s : ℕ) → s < n → (i : ℕ) (d : Place) → i < length places → bit_at (get_or words s 0) i ≡ bit_of s (get_or places i d)
spelled_at n places bits words owner carried written s in_s i d within =
    written.spelled s in_s i ∙ get_or-map (bit_of s) places i d 0 within

-- agreement at place i is agreement of the two bits at that place
agree_at : (n : ℕ) (places : List Place) (bits : ℕ) (words owner : List ℕ) (carried : List Bool) → IsLaidOut n places bits words owner carried → (s t : ℕ) → s < n → t < n → (i : ℕ) (d : Place) → i < length places → CodesAgreeAt words i s t ↔ SameBit s t (get_or places i d)
agree_at n places bits words owner carried written s t in_s in_t i d within =
    let at_s = spelled_at n places bits words owner carried written s in_s i d within in
    let at_t = spelled_at n places bits words owner carried written t in_t i d within in
    ((λ agree. sym at_s ∙ agree ∙ at_t), (λ same. at_s ∙ same ∙ sym at_t))

-- the owner and the mark of bit i
owner_at : (places : List Place) (owner : List ℕ) → owner ≡ map (λ (place : Place). place.part) places → (i : ℕ) (d : Place) → i < length places → get_or owner i 0 ≡ (get_or places i d).part
owner_at places owner is i d within = ap (λ (list : List ℕ). get_or list i 0) is ∙ get_or-map (λ (place : Place). place.part) places i d 0 within

mark_at : (places : List Place) (carried : List Bool) → carried ≡ map (λ (place : Place). place.carried) places → (i : ℕ) (d : Place) → i < length places → slice_get carried i ≡ Some (get_or places i d).carried
mark_at places carried is i d within =
    let size : length carried ≡ length places = ap (λ (list : List Bool). length list) is ∙ length-map places (λ (place : Place). place.carried) in
    slice_get-get_or carried i true (omega arith) ∙ ap Some (ap (λ (list : List Bool). get_or list i true) is ∙ get_or-map (λ (place : Place). place.carried) places i d true within)

somewhere : Place
somewhere = record { part = 0; carried = true; labels = []; weight = 0 }

module _ (n : ℕ) (places : List Place) (codes : Codes) (written : IsLaidOut n places codes.bits codes.words codes.owner codes.carried) (j s t : ℕ) (in_s : s < n) (in_t : t < n) where
  part_agrees : AgreeOnPart codes j s t → All (SameInPart j s t) places
  part_agrees agree i d within owned =
      (agree_at n places codes.bits codes.words codes.owner codes.carried written s t in_s in_t i d within).0
      (agree i (omega (arith, written.size)) (owner_at places codes.owner written.owners i d within ∙ owned))

  agrees_on_part : All (SameInPart j s t) places → AgreeOnPart codes j s t
  agrees_on_part all i below owned =
      let within : i < length places = omega (arith, written.size) in
      (agree_at n places codes.bits codes.words codes.owner codes.carried written s t in_s in_t i somewhere within).1
      (all i somewhere within (sym (owner_at places codes.owner written.owners i somewhere within) ∙ owned))

  carrier_agrees : AgreeOnCarrier codes j s t → All (SameInCarrier j s t) places
  carrier_agrees agree i d within owned marked =
      (agree_at n places codes.bits codes.words codes.owner codes.carried written s t in_s in_t i d within).0
      (agree i (omega (arith, written.size)) (owner_at places codes.owner written.owners i d within ∙ owned) (mark_at places codes.carried written.marks i d within ∙ ap Some marked))

  agrees_on_carrier : All (SameInCarrier j s t) places → AgreeOnCarrier codes j s t
  agrees_on_carrier all i below owned marked =
      let within : i < length places = omega (arith, written.size) in
      let stands : slice_get codes.carried i ≡ Some (get_or places i somewhere).carried = mark_at places codes.carried written.marks i somewhere within in
      let mark : (get_or places i somewhere).carried ≡ true = cc in
      (agree_at n places codes.bits codes.words codes.owner codes.carried written s t in_s in_t i somewhere within).1
      (all i somewhere within (sym (owner_at places codes.owner written.owners i somewhere within) ∙ owned) mark)

-- a part of the list is a part of n states
part_of : (n : ℕ) (parts : List Part) → All (IsPart n) parts → (k : ℕ) (part : Part) → slice_get parts k ≡ Some part → IsPart n part
part_of n parts all k part stands =
    subst (IsPart n) (get_or_from_slice_get parts k part part stands) (all k part (slice_get_within parts k part stands))

-- states with the same bits of a part are together in its partition
part_told : (n j s t : ℕ) (part : Part) (inner : List ℕ) → s < n → t < n → IsPart n part → IsInside part.carrier part.partition inner → All (SameInPart j s t) (part_places j part.carrier inner) → Together part.partition s t
part_told n j s t part inner in_s in_t lawful inside all =
    let size : length part.partition ≡ length part.carrier = lawful.partition.length ∙ sym lawful.carrier.length in
    let carrier_s : s < length part.carrier = omega (arith, lawful.carrier.length) in
    let carrier_t : t < length part.carrier = omega (arith, lawful.carrier.length) in
    let inner_s : s < length inner = omega (arith, inside.lawful.length) in
    let inner_t : t < length inner = omega (arith, inside.lawful.length) in
    let outer : get_or part.carrier s 0 ≡ get_or part.carrier t 0 = label_told part.carrier s t carrier_s carrier_t (λ weight below. label_places-at (SameInPart j s t) j true part.carrier (need (blocks_of part.carrier)) (All-left (SameInPart j s t) (label_places j true part.carrier (need (blocks_of part.carrier))) (label_places j false inner (need (blocks_of inner))) all) weight below refl) in
    let within : get_or inner s 0 ≡ get_or inner t 0 = label_told inner s t inner_s inner_t (λ weight below. label_places-at (SameInPart j s t) j false inner (need (blocks_of inner)) (All-right (SameInPart j s t) (label_places j true part.carrier (need (blocks_of part.carrier))) (label_places j false inner (need (blocks_of inner))) all) weight below refl) in
    (omega (arith, lawful.partition.length), omega (arith, lawful.partition.length), inside_tells part.carrier part.partition inner lawful.above size inside s t (carrier_s, carrier_t, outer) within)

-- states with the same carrier bits of a part are together in its carrier
carrier_told : (n j s t : ℕ) (part : Part) (inner : List ℕ) → s < n → t < n → IsPart n part → All (SameInCarrier j s t) (part_places j part.carrier inner) → Together part.carrier s t
carrier_told n j s t part inner in_s in_t lawful all =
    let carrier_s : s < length part.carrier = omega (arith, lawful.carrier.length) in
    let carrier_t : t < length part.carrier = omega (arith, lawful.carrier.length) in
    (carrier_s, carrier_t, label_told part.carrier s t carrier_s carrier_t (λ weight below. label_places-at (SameInCarrier j s t) j true part.carrier (need (blocks_of part.carrier)) (All-left (SameInCarrier j s t) (label_places j true part.carrier (need (blocks_of part.carrier))) (label_places j false inner (need (blocks_of inner))) all) weight below refl refl))

-- equal labels have equal bits
same_bits : (s t : ℕ) (place : Place) → get_or place.labels s 0 ≡ get_or place.labels t 0 → SameBit s t place
same_bits s t place same = ap (λ (label : ℕ). bit_at label place.weight) same

-- states of one block have the same bits of the part
part_shared : (n i j s t : ℕ) (part : Part) (inner : List ℕ) → IsPart n part → IsInside part.carrier part.partition inner → (i ≡ j → Together part.partition s t) → All (SameInPart j s t) (part_places i part.carrier inner)
part_shared n i j s t part inner lawful inside held =
    let size : length part.partition ≡ length part.carrier = lawful.partition.length ∙ sym lawful.carrier.length in
    All-append (SameInPart j s t) (label_places i true part.carrier (need (blocks_of part.carrier))) (label_places i false inner (need (blocks_of inner)))
    (label_places-all (SameInPart j s t) i true part.carrier (need (blocks_of part.carrier)) (λ weight below here. same_bits s t (record { part = i; carried = true; labels = part.carrier; weight = weight }) (lawful.above s t (held here)).2))
    (label_places-all (SameInPart j s t) i false inner (need (blocks_of inner)) (λ weight below here. same_bits s t (record { part = i; carried = false; labels = inner; weight = weight }) (inside_same part.carrier part.partition inner lawful.above size inside s t (held here))))

-- states of one block of the carrier have the same carrier bits
carrier_shared : (i j s t : ℕ) (part : Part) (inner : List ℕ) → (i ≡ j → Together part.carrier s t) → All (SameInCarrier j s t) (part_places i part.carrier inner)
carrier_shared i j s t part inner held =
    All-append (SameInCarrier j s t) (label_places i true part.carrier (need (blocks_of part.carrier))) (label_places i false inner (need (blocks_of inner)))
    (label_places-all (SameInCarrier j s t) i true part.carrier (need (blocks_of part.carrier)) (λ weight below here marked. same_bits s t (record { part = i; carried = true; labels = part.carrier; weight = weight }) (held here).2))
    (label_places-all (SameInCarrier j s t) i false inner (need (blocks_of inner)) (λ weight below here marked. cc))

-- the parts at the same number are the same
one_part_at : (parts : List Part) (k j : ℕ) (one two : Part) → slice_get parts k ≡ Some one → slice_get parts j ≡ Some two → k ≡ j → two ≡ one
one_part_at parts k j one two at_k at_j same =
    let e : slice_get parts k ≡ slice_get parts j = ap (λ (i : ℕ). slice_get parts i) same in
    cc

pub part_bits_tell : PartBitsTell
part_bits_tell n parts codes lawful code j part stands s t in_s in_t =
    let places : List Place = places_of 0 parts code.inners in (
      (λ agree. let told = part_places-at (SameInPart j s t) 0 j j parts code.inners part code.inside (part_agrees n places codes code.written j s t in_s in_t agree) stands (omega arith) in
          part_told n j s t part told.0 in_s in_t (part_of n parts lawful j part stands) told.1 told.2),
      (λ held. agrees_on_part n places codes code.written j s t in_s in_t (places_of-all (SameInPart j s t) 0 parts code.inners code.inside (λ i k other inner at here inside.
          part_shared n i j s t other inner (part_of n parts lawful k other here) inside (λ same. subst (λ (one : Part). Together one.partition s t) (one_part_at parts k j other part here stands (omega arith)) held)))),
    )

pub carrier_bits_tell : CarrierBitsTell
carrier_bits_tell n parts codes lawful code j part stands s t in_s in_t =
    let places : List Place = places_of 0 parts code.inners in (
      (λ agree. let told = part_places-at (SameInCarrier j s t) 0 j j parts code.inners part code.inside (carrier_agrees n places codes code.written j s t in_s in_t agree) stands (omega arith) in
          carrier_told n j s t part told.0 in_s in_t (part_of n parts lawful j part stands) told.2),
      (λ held. agrees_on_carrier n places codes code.written j s t in_s in_t (places_of-all (SameInCarrier j s t) 0 parts code.inners code.inside (λ i k other inner at here inside.
          carrier_shared i j s t other inner (λ same. subst (λ (one : Part). Together one.carrier s t) (one_part_at parts k j other part here stands (omega arith)) held)))),
    )

-- where no two states are together in all parts, different states have different codes
pub codes_differ : (n : ℕ) (parts : List Part) (codes : Codes) → All (IsPart n) parts → IsCode n parts codes → AreApart n parts → AreDistinct n codes.words
codes_differ n parts codes lawful code apart s t in_s in_t same =
    let all : (u v : ℕ) → u < n → v < n → get_or codes.words u 0 ≡ get_or codes.words v 0 → TogetherInAll parts u v = λ u v in_u in_v one k d within.
    (part_bits_tell n parts codes lawful code k (get_or parts k d) (slice_get-get_or parts k d within) u v in_u in_v).0 (λ i below owned. ap (λ (word : ℕ). bit_at word i) one) in
    elim (cases_order s t) [
      | inl at ↦ at
      | inr two ↦ elim two [
        | inl before ↦ absurd (apart s t before in_t (all s t in_s in_t same))
        | inr after ↦ absurd (apart t s after in_s (all t s in_t in_s (sym same)))
      ]
    ]

-- of three bits two are the same
two_agree : (a b c : ℕ) → a < 2 → b < 2 → c < 2 → (a ≡ b) ⊎ ((b ≡ c) ⊎ (a ≡ c))
two_agree a b c small_a small_b small_c =
    elim (cases_eq a b) [
      | inl one ↦ inl one
      | inr other ↦ elim (cases_eq b c) [
        | inl two ↦ inr (inl two)
        | inr third ↦ inr (inr (omega arith))
      ]
    ]

pub bits_halve : BitsHalve
bits_halve n words i p bit =
    elim (cases_lt 2 (blocks_of p)) [
      | inl more ↦ absurd (three more)
      | inr few ↦ few
    ]
  where
    stands : (block : ℕ) → block < blocks_of p → (s : ℕ) × (s < length p) × (get_or p s 0 ≡ block)
    stands block below = block_stands p bit.lawful.numbered (length p) (omega arith) block (omega (arith, ap blocks_of (take_all (length p) p (omega arith))))

    apart : (s t a b : ℕ) → s < length p → t < length p → get_or p s 0 ≡ a → get_or p t 0 ≡ b → a ≢ b → CodesAgreeAt words i s t → ⊥
    apart s t a b in_s in_t at_s at_t other agree = other (sym at_s ∙ ((bit.together s t (omega (arith, bit.lawful.length)) (omega (arith, bit.lawful.length))).1 agree).2 ∙ at_t)

    three : 2 < blocks_of p → ⊥
    three more =
        let a = stands 0 (omega arith) in
        let b = stands 1 (omega arith) in
        let c = stands 2 more in
        elim (two_agree (bit_at (get_or words a.0 0) i) (bit_at (get_or words b.0 0) i) (bit_at (get_or words c.0 0) i) (bit_at-lt (get_or words a.0 0) i) (bit_at-lt (get_or words b.0 0) i) (bit_at-lt (get_or words c.0 0) i)) [
          | inl one ↦ apart a.0 b.0 0 1 a.1 b.1 a.2 b.2 (λ e. absurd (omega arith)) one
          | inr rest ↦ elim rest [
            | inl two ↦ apart b.0 c.0 1 2 b.1 c.1 b.2 c.2 (λ e. absurd (omega arith)) two
            | inr third ↦ apart a.0 c.0 0 2 a.1 c.1 a.2 c.2 (λ e. absurd (omega arith)) third
          ]
        ]

same_codes : (bits more : ℕ) (words others owner holders : List ℕ) (carried marks : List Bool) → bits ≡ more → words ≡ others → owner ≡ holders → carried ≡ marks
    → ◌≡◌ {A = Codes} (record { bits = bits; words = words; owner = owner; carried = carried }) (record { bits = more; words = others; owner = holders; carried = marks })
same_codes bits more words others owner holders carried marks a b c d = cc

pub codes_are_one : CodesAreOne
codes_are_one n parts one other left right =
    let same : left.inners ≡ right.inners = AreInside-once parts left.inners right.inners left.inside right.inside in
    let places : List (List ℕ) → List Place = λ inners. places_of 0 parts inners in
    let words : one.words ≡ other.words = ext_get_or 0 one.words other.words (left.written.states ∙ sym right.written.states) (λ s within.
    let in_s : s < n = omega (arith, left.written.states) in
    same_from_bits (get_or one.words s 0) (get_or other.words s 0) (λ i.
    left.written.spelled s in_s i ∙ ap (λ (inners : List (List ℕ)). get_or (state_code (places inners) s) i 0) same ∙ sym (right.written.spelled s in_s i))) in
    same_codes one.bits other.bits one.words other.words one.owner other.owner one.carried other.carried
    (left.written.size ∙ ap (λ (inners : List (List ℕ)). length (places inners)) same ∙ sym right.written.size)
    words
    (left.written.owners ∙ ap (λ (inners : List (List ℕ)). map (λ (place : Place). place.part) (places inners)) same ∙ sym right.written.owners)
    (left.written.marks ∙ ap (λ (inners : List (List ℕ)). map (λ (place : Place). place.carried) (places inners)) same ∙ sym right.written.marks)

-- each bit has an owner and a mark
pub length-owner : (n : ℕ) (parts : List Part) (codes : Codes) → IsCode n parts codes → length codes.owner ≡ codes.bits
length-owner n parts codes code =
    ap (λ (list : List ℕ). length list) code.written.owners ∙ length-map (places_of 0 parts code.inners) (λ (place : Place). place.part) ∙ sym code.written.size

pub length-carried : (n : ℕ) (parts : List Part) (codes : Codes) → IsCode n parts codes → length codes.carried ≡ codes.bits
length-carried n parts codes code =
    ap (λ (list : List Bool). length list) code.written.marks ∙ length-map (places_of 0 parts code.inners) (λ (place : Place). place.carried) ∙ sym code.written.size

-- the owner of a bit is a part
pub owner-lt : (n : ℕ) (parts : List Part) (codes : Codes) → IsCode n parts codes → (i : ℕ) → i < codes.bits → get_or codes.owner i 0 < length parts
owner-lt n parts codes code i below =
    let Owned : Place → Type 0 = λ place. place.part < length parts in
    let within : i < length (places_of 0 parts code.inners) = omega (arith, code.written.size) in
    let owned : All Owned (places_of 0 parts code.inners) = places_of-all Owned 0 parts code.inners code.inside (λ number k part inner at stands inside.
    All-append Owned (label_places number true part.carrier (need (blocks_of part.carrier))) (label_places number false inner (need (blocks_of inner)))
    (label_places-all Owned number true part.carrier (need (blocks_of part.carrier)) (λ weight under. omega (arith, slice_get_within parts k part stands)))
    (label_places-all Owned number false inner (need (blocks_of inner)) (λ weight under. omega (arith, slice_get_within parts k part stands)))) in
    omega (arith, owned i somewhere within, owner_at (places_of 0 parts code.inners) codes.owner code.written.owners i somewhere within)
