-- The table of the states after contents, as it is written.
use Rattle.std.proofs.Common.{◌≡◌, ℕ, ◌+◌, ◌*◌, ◌^◌, ◌<◌, ◌≤◌, inl, inr, Some, List, length, get_or, set, slice_get, slice_index, ap, sym, ◌∙◌, subst, arith}
use Rattle.std.proofs.lemmas.Bool.{cases_eq}
use Rattle.std.proofs.lemmas.List.{get_or-set_other, get_or-set_same, get_or_default}
use Rattle.std.proofs.lemmas.Option.{slice_get_within}
use Rattle.cubes.specs.Symbol.{lowest_bits}
use Rattle.kiss_file.specs.declared.file.KissFile.{KissFile}
use Rattle.shift_real.specs.declared.contents.Content.{Content}
use Rattle.shift_real.specs.Inner.Contents.{AreContents}
use Rattle.shift_real.specs.Inner.Tables.{IsStateTable, content_of, state_at}
use Rattle.shift_real.specs.Register.{state_after}
use Rattle.shift_real.proofs.ContentWords.{content_is_word, content_values, one_number, one_word}

module _ (F : KissFile) (k : ℕ) (contents : List Content) (are : AreContents F k contents) where
  -- contents of the same latches are of one state
  one_state : (i j : ℕ) (content other : Content) → slice_get contents i ≡ Some content → slice_get contents j ≡ Some other → content.latches ≡ other.latches → content.state ≡ other.state
  one_state i j content other at there same =
      let first = are.right i content at in
      let second = are.right j other there in
      let values = sym first.3.latches ∙ (ap (λ (n : ℕ). lowest_bits (k * F.inputs) n) same ∙ second.3.latches) in
      first.3.state ∙ (ap (state_after F) (one_word F k first.0 second.0 first.1 second.1 values) ∙ sym second.3.state)

  abbrev pub AreWritten : ℕ → List ℕ → Type 0
  AreWritten i table = (j : ℕ) (content : Content) → j < i → slice_get contents j ≡ Some content → slice_index table content.latches ≡ content.state

  pub written_more : (table : List ℕ) (i : ℕ) (content : Content) → length table ≡ 2 ^ (k * F.inputs) → slice_get contents i ≡ Some content → AreWritten i table → AreWritten (i + 1) (set table content.latches content.state)
  written_more table i content size at before j other below there =
      let small : content.latches < length table = omega (arith, size, (are.right i content at).3.small) in
      elim (cases_eq other.latches content.latches) [
        | inl same ↦
            ap (λ (n : ℕ). get_or (set table content.latches content.state) n 0) same
            ∙ (get_or-set_same table content.latches content.state 0 small ∙ one_state i j content other at there (sym same))
        | inr apart ↦
            get_or-set_other table content.latches other.latches content.state 0 apart
            ∙ elim (cases_eq j i) [
              | inl last ↦
                  let one : Some content ≡ Some other = sym at ∙ (ap (slice_get contents) (sym last) ∙ there) in
                  absurd (apart (let e : content ≡ other = cc in ap (λ (c : Content). c.latches) (sym e)))
              | inr earlier ↦ before j other (omega (arith, below, earlier)) there
            ]
      ]

  pub table_is : (table : List ℕ) (i : ℕ) → length table ≡ 2 ^ (k * F.inputs) → length contents ≤ i → AreWritten i table → IsStateTable F k table
  table_is table i size all written = record {
    size = size;
    each = λ number low. (found number low).0;
    within = λ number d lt.
        let low : number < 2 ^ (k * F.inputs) = omega (arith, lt, size) in
        let known = found number low in
        subst (λ (s : ℕ). s < length F.states) (sym (get_or_default table number d 0 lt ∙ known.0)) known.1;
  } where
    found : (number : ℕ) → number < 2 ^ (k * F.inputs) → (slice_index table number ≡ state_at F k number) × (state_at F k number < length F.states)
    found number low =
        let there = are.each (content_of F k number) (content_is_word F k number) in
        let content : Content = there.0 in
        let same : content.latches ≡ number =
        one_number (k * F.inputs) content.latches number there.2.small low (there.2.latches ∙ content_values F k number) in (
          ap (slice_index table) (sym same) ∙ (written _ content (omega (arith, all, slice_get_within contents _ content there.1)) there.1 ∙ there.2.state),
          subst (λ (s : ℕ). s < length F.states) there.2.state there.2.within,
        )
