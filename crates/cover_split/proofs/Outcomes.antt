-- A text has one fault at most, none where it is that of a cover, and it is the text of one cover.
use Rattle.std.proofs.Common.{◌≡◌, ℕ, ◌<◌, ◌≤◌, ◌⊎◌, List, [], Some, Result, Ok, Err, MatchResult, length, get_or, map, slice_get, refl, sym, ap, ◌∙◌, subst, inl, inr, arith}
use Rattle.std.proofs.lemmas.Bool.{cases_lt}
use Rattle.std.proofs.lemmas.Fmt.{decimal_injective}
use Rattle.std.proofs.lemmas.List.{ext_get_or, get_or-map, length-map}
use Rattle.std.proofs.lemmas.List.Elements.{All-get_or}
use Rattle.std.proofs.lemmas.Option.{same_Some, slice_get_within, slice_get-get_or}
use Rattle.std.specs.Fmt.{decimal}
use Rattle.cover_split.specs.declared.state_cover.Cover.{Cover}
use Rattle.cover_split.specs.declared.state_cover.CoverFail.{CoverFail}
use Rattle.cover_split.specs.declared.state_cover.CoverFail.TheVariants.{BadText, Contained, Missing, TooMany, Trivial, NoMemory}
use Rattle.cover_split.specs.StateCover.{IsBlock, IsStateCover, IsWithin, NoneIsWithin}
use Rattle.cover_split.specs.Refusal.{BlocksFault, CoverFault, IsFirstBad, IsFirstMissing, IsFirstWithin, IsStatePiece, SpellsBlocks, IsTextOfFault}
use Rattle.cover_split.specs.Text.{pieces_by_block}
use Rattle.cover_split.proofs.Reading.{block_pieces}

-- ---- one text, one list of blocks
same_block : (n : ℕ) (one two : List ℕ) → n ≤ 256 → IsBlock n one → IsBlock n two → map decimal one ≡ map decimal two → one ≡ two
same_block n one two few first second same =
    let sizes : length one ≡ length two = sym (length-map one decimal) ∙ ap length same ∙ length-map two decimal in
    ext_get_or 0 one two sizes
    (λ k within.
    let a : get_or one k 0 < n = All-get_or (λ s. s < n) one k 0 within first.states in
    let b : get_or two k 0 < n = All-get_or (λ s. s < n) two k 0 (omega arith) second.states in
    decimal_injective (get_or one k 0) (get_or two k 0) (omega arith) (omega arith)
    (sym (get_or-map decimal one k 0 [] within) ∙ ap (λ (all : List (List ℕ)). get_or all k []) same ∙ get_or-map decimal two k 0 [] (omega arith)))

pub same_blocks : (n : ℕ) (text : List ℕ) (one two : List (List ℕ)) → n ≤ 256 → SpellsBlocks n text one → SpellsBlocks n text two → one ≡ two
same_blocks n text one two few first second =
    let same : map (map decimal) one ≡ map (map decimal) two = sym first.spelled ∙ second.spelled in
    let sizes : length one ≡ length two = sym (length-map one (map decimal)) ∙ ap length same ∙ length-map two (map decimal) in
    ext_get_or [] one two sizes
    (λ k within.
    same_block n (get_or one k []) (get_or two k []) few (All-get_or (IsBlock n) one k [] within first.lawful) (All-get_or (IsBlock n) two k [] (omega arith) second.lawful)
    (sym (get_or-map (map decimal) one k [] [] within) ∙ ap (λ (all : List (List (List ℕ))). get_or all k []) same ∙ get_or-map (map decimal) two k [] [] (omega arith)))

-- ---- the text of blocks has no bad piece
no_bad : (n : ℕ) (text : List ℕ) (blocks : List (List ℕ)) (block place : ℕ) → n ≤ 256 → SpellsBlocks n text blocks → IsFirstBad n text block place → ⊥
no_bad n text blocks block place few is fault =
    let inside : block < length (pieces_by_block text) = slice_get_within (pieces_by_block text) block fault.pieces fault.at_block in
    let counted : length (pieces_by_block text) ≡ length blocks = ap length is.spelled ∙ length-map blocks (map decimal) in
    let there : get_or (pieces_by_block text) block [] ≡ map decimal (get_or blocks block []) =
    ap (λ (all : List (List (List ℕ))). get_or all block []) is.spelled ∙ get_or-map (map decimal) blocks block [] [] (omega arith) in
    let same : fault.pieces ≡ map decimal (get_or blocks block []) =
    same_Some fault.pieces (map decimal (get_or blocks block [])) (sym fault.at_block ∙ slice_get-get_or (pieces_by_block text) block [] inside ∙ ap Some there) in
    fault.bad (block_pieces n fault.pieces (get_or blocks block []) few (All-get_or (IsBlock n) blocks block [] (omega arith) is.lawful) same place fault.within)

-- ---- the first of each kind is one
one_bad : (n : ℕ) (text : List ℕ) (a b c d : ℕ) → IsFirstBad n text a b → IsFirstBad n text c d → BadText a b ≡ BadText c d
one_bad n text a b c d first second =
    elim (cases_lt a c) [
      | inl before ↦ absurd (first.bad (second.blocks_before a first.pieces before first.at_block b first.within))
      | inr from_on ↦
          elim (cases_lt c a) [
            | inl behind ↦ absurd (second.bad (first.blocks_before c second.pieces behind second.at_block d second.within))
            | inr level ↦
                let block : a ≡ c = omega arith in
                let pieces : first.pieces ≡ second.pieces = same_Some first.pieces second.pieces (sym first.at_block ∙ ap (slice_get (pieces_by_block text)) block ∙ second.at_block) in
                elim (cases_lt b d) [
                  | inl left ↦ absurd (first.bad (subst (λ (p : List (List ℕ)). IsStatePiece n p b) (sym pieces) (second.before b left)))
                  | inr right ↦
                      elim (cases_lt d b) [
                        | inl past ↦ absurd (second.bad (subst (λ (p : List (List ℕ)). IsStatePiece n p d) pieces (first.before d past)))
                        | inr same ↦ let place : b ≡ d = omega arith in ap (λ (k : ℕ). BadText k b) block ∙ ap (BadText c) place
                      ]
                ]
          ]
    ]

one_within : (blocks : List (List ℕ)) (a b c d : ℕ) → IsFirstWithin blocks a b → IsFirstWithin blocks c d → Contained a b ≡ Contained c d
one_within blocks a b c d first second =
    elim (cases_lt a c) [
      | inl before ↦ absurd (second.before a b before first.is_within)
      | inr from_on ↦
          elim (cases_lt c a) [
            | inl behind ↦ absurd (first.before c d behind second.is_within)
            | inr level ↦
                let same : a ≡ c = omega arith in
                elim (cases_lt b d) [
                  | inl left ↦ absurd (second.least b left (subst (λ (k : ℕ). IsWithin blocks k b) same first.is_within))
                  | inr right ↦
                      elim (cases_lt d b) [
                        | inl past ↦ absurd (first.least d past (subst (λ (k : ℕ). IsWithin blocks k d) (sym same) second.is_within))
                        | inr even ↦ let also : b ≡ d = omega arith in ap (λ (k : ℕ). Contained k b) same ∙ ap (Contained c) also
                      ]
                ]
          ]
    ]

one_missing : (n : ℕ) (blocks : List (List ℕ)) (s t : ℕ) → IsFirstMissing n blocks s → IsFirstMissing n blocks t → Missing s ≡ Missing t
one_missing n blocks s t first second =
    elim (cases_lt s t) [
      | inl before ↦ absurd (first.missing (second.before s before))
      | inr from_on ↦
          elim (cases_lt t s) [
            | inl behind ↦ absurd (second.missing (first.before t behind))
            | inr level ↦ let same : s ≡ t = omega arith in ap Missing same
          ]
    ]

-- ---- blocks have one fault, and a cover has none
module _ (n : ℕ) (blocks : List (List ℕ)) where
  contained_one : (a b : ℕ) (two : CoverFail) → IsFirstWithin blocks a b → BlocksFault n blocks two → Contained a b ≡ two
  contained_one a b (BadText c d) first second = absurd second
  contained_one a b (Contained c d) first second = one_within blocks a b c d first second
  contained_one a b (Missing s) first second = absurd (second.0 a b first.is_within)
  contained_one a b (TooMany found) first second = absurd (second.0.apart a b first.is_within)
  contained_one a b Trivial first second = absurd (second.0.apart a b first.is_within)
  contained_one a b NoMemory first second = absurd second

  missing_one : (s : ℕ) (two : CoverFail) → NoneIsWithin blocks × IsFirstMissing n blocks s → BlocksFault n blocks two → Missing s ≡ two
  missing_one s (BadText c d) first second = absurd second
  missing_one s (Contained c d) first second = absurd (first.0 c d second.is_within)
  missing_one s (Missing t) first second = one_missing n blocks s t first.1 second.1
  missing_one s (TooMany found) first second = absurd (first.1.missing (second.0.whole s first.1.state))
  missing_one s Trivial first second = absurd (first.1.missing (second.0.whole s first.1.state))
  missing_one s NoMemory first second = absurd second

  many_one : (found : ℕ) (two : CoverFail) → BlocksFault n blocks (TooMany found) → BlocksFault n blocks two → TooMany found ≡ two
  many_one found (BadText c d) first second = absurd second
  many_one found (Contained c d) first second = absurd (first.0.apart c d second.is_within)
  many_one found (Missing t) first second = absurd (second.1.missing (first.0.whole t second.1.state))
  many_one found (TooMany other) first second = ap TooMany (first.2 ∙ sym second.2)
  many_one found Trivial first second = absurd (omega arith)
  many_one found NoMemory first second = absurd second

  trivial_one : (two : CoverFail) → BlocksFault n blocks Trivial → BlocksFault n blocks two → Trivial ≡ two
  trivial_one (BadText c d) first second = absurd second
  trivial_one (Contained c d) first second = absurd (first.0.apart c d second.is_within)
  trivial_one (Missing t) first second = absurd (second.1.missing (first.0.whole t second.1.state))
  trivial_one (TooMany other) first second = absurd (omega arith)
  trivial_one Trivial first second = refl
  trivial_one NoMemory first second = absurd second

  one_blocks_fault : (one two : CoverFail) → BlocksFault n blocks one → BlocksFault n blocks two → one ≡ two
  one_blocks_fault (BadText c d) two first second = absurd first
  one_blocks_fault (Contained c d) two first second = contained_one c d two first second
  one_blocks_fault (Missing t) two first second = missing_one t two first second
  one_blocks_fault (TooMany other) two first second = many_one other two first second
  one_blocks_fault Trivial two first second = trivial_one two first second
  one_blocks_fault NoMemory two first second = absurd first

  no_blocks_fault : (fail : CoverFail) → IsStateCover n blocks → BlocksFault n blocks fail → ⊥
  no_blocks_fault (BadText c d) cover fault = fault
  no_blocks_fault (Contained c d) cover fault = cover.apart c d fault.is_within
  no_blocks_fault (Missing t) cover fault = fault.1.missing (cover.each t fault.1.state)
  no_blocks_fault (TooMany other) cover fault = omega (arith, cover.few)
  no_blocks_fault Trivial cover fault = cover.rich fault.2
  no_blocks_fault NoMemory cover fault = fault

-- ---- so has a text
abbrev IsBadText : ℕ → List ℕ → CoverFail → Type 0
IsBadText n text fail = (block : ℕ) × (place : ℕ) × (BadText block place ≡ fail) × IsFirstBad n text block place

fault_kind : (n : ℕ) (text : List ℕ) (fail : CoverFail) → CoverFault n text fail → IsBadText n text fail ⊎ IsTextOfFault n text fail
fault_kind n text (BadText block place) fault = inl (block, place, refl, fault)
fault_kind n text (Contained a b) fault = inr fault
fault_kind n text (Missing s) fault = inr fault
fault_kind n text (TooMany found) fault = inr fault
fault_kind n text Trivial fault = inr fault
fault_kind n text NoMemory fault = absurd fault

one_fault : (n : ℕ) (text : List ℕ) (one two : CoverFail) → n ≤ 256 → CoverFault n text one → CoverFault n text two → one ≡ two
one_fault n text one two few first second =
    elim (fault_kind n text one first) [
      | inl bad ↦
          elim (fault_kind n text two second) [
            | inl other ↦ sym bad.2 ∙ one_bad n text bad.0 bad.1 other.0 other.1 bad.3 other.3 ∙ other.2
            | inr is ↦ absurd (no_bad n text is.0 bad.0 bad.1 few is.1 bad.3)
          ]
      | inr is ↦
          elim (fault_kind n text two second) [
            | inl other ↦ absurd (no_bad n text is.0 other.0 other.1 few is.1 other.3)
            | inr also ↦
                one_blocks_fault n also.0 one two (subst (λ (b : List (List ℕ)). BlocksFault n b one) (same_blocks n text is.0 also.0 few is.1 also.1) is.2) also.2
          ]
    ]

no_fault : (n : ℕ) (text : List ℕ) (blocks : List (List ℕ)) (fail : CoverFail) → n ≤ 256 → SpellsBlocks n text blocks → IsStateCover n blocks → CoverFault n text fail → ⊥
no_fault n text blocks fail few is cover fault =
    elim (fault_kind n text fail fault) [
      | inl bad ↦ no_bad n text blocks bad.0 bad.1 few is bad.3
      | inr other ↦ no_blocks_fault n blocks fail cover (subst (λ (b : List (List ℕ)). BlocksFault n b fail) (same_blocks n text other.0 blocks few other.1 is) other.2)
    ]

-- a fault of blocks is one of their text
pub text_fault : (n : ℕ) (text : List ℕ) (blocks : List (List ℕ)) (fail : CoverFail) → SpellsBlocks n text blocks → BlocksFault n blocks fail → CoverFault n text fail
text_fault n text blocks (BadText block place) is fault = absurd fault
text_fault n text blocks (Contained a b) is fault = (blocks, is, fault)
text_fault n text blocks (Missing s) is fault = (blocks, is, fault)
text_fault n text blocks (TooMany found) is fault = (blocks, is, fault)
text_fault n text blocks Trivial is fault = (blocks, is, fault)
text_fault n text blocks NoMemory is fault = absurd fault

-- ---- what is answered
abbrev IsAnswer : ℕ → List ℕ → Result Cover CoverFail → Type 0
IsAnswer n text r =
    MatchResult r (λ cover. SpellsBlocks n text cover.blocks × IsStateCover n cover.blocks) (λ fail. (fail ≡ NoMemory) ⊎ CoverFault n text fail)

pub accepts : (n : ℕ) (text : List ℕ) (blocks : List (List ℕ)) (r : Result Cover CoverFail) → n ≤ 256 → IsAnswer n text r → SpellsBlocks n text blocks → IsStateCover n blocks
    → MatchResult r (λ cover. cover.blocks ≡ blocks) (λ fail. fail ≡ NoMemory)
accepts n text blocks (Ok cover) few answer is lawful = same_blocks n text cover.blocks blocks few answer.0 is
accepts n text blocks (Err fail) few answer is lawful =
    elim answer [
      | inl memory ↦ memory
      | inr fault ↦ absurd (no_fault n text blocks fail few is lawful fault)
    ]

pub causes : (n : ℕ) (text : List ℕ) (fail : CoverFail) (r : Result Cover CoverFail) → n ≤ 256 → IsAnswer n text r → CoverFault n text fail → (r ≡ Err fail) ⊎ (r ≡ Err NoMemory)
causes n text fail (Ok cover) few answer fault = absurd (no_fault n text cover.blocks fail few answer.0 answer.1 fault)
causes n text fail (Err other) few answer fault =
    elim answer [
      | inl memory ↦ inr (ap Err memory)
      | inr also ↦ inl (ap Err (one_fault n text other fail few also fault))
    ]
