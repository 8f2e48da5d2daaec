-- The first content in the reset state is the least that leads to it.
use Rattle.std.proofs.Common.{◌≡◌, ◌≢◌, ℕ, ◌*◌, ◌<◌, ◌≤◌, inl, inr, Some, List, length, get_or, slice_get, ap, sym, ◌∙◌, subst, arith}
use Rattle.std.proofs.lemmas.Bool.{cases_lt}
use Rattle.std.proofs.lemmas.Option.{slice_get-get_or}
use Rattle.kiss_file.specs.declared.file.KissFile.{KissFile}
use Rattle.shift_real.specs.declared.contents.Content.{Content}
use Rattle.shift_real.specs.DefiniteMachine.{IsOrder}
use Rattle.shift_real.specs.Inner.Contents.{AreContents}
use Rattle.shift_real.specs.Register.{IsNotReached, word_number}
use Rattle.shift_real.specs.Start.{WritesStart}

-- there is one order
pub order_once : (F : KissFile) (j k : ℕ) → IsOrder F j → IsOrder F k → j ≡ k
order_once F j k is other = omega (arith, is.least k other.definite, other.least j is.definite)

module _ (F : KissFile) (k : ℕ) (contents : List Content) (are : AreContents F k contents) where
  start_here : (first : ℕ) (content : Content) → slice_get contents first ≡ Some content → content.state ≡ F.reset
      → ((j : ℕ) (other : Content) → j < first → slice_get contents j ≡ Some other → other.state ≢ F.reset) → WritesStart F k content.latches
  start_here first content at reset none =
      let found = are.right first content at in
      record {
        word = found.0;
        is_start = record {
          content = found.1;
          reset = sym found.3.state ∙ reset;
          least = λ other is reached.
              elim (cases_lt (word_number other) (word_number found.0)) [
                | inl before ↦
                    let there = are.each other is in
                    absurd (none (word_number other) there.0 (omega (arith, before, found.2)) there.1 (there.2.state ∙ reached))
                | inr later ↦ later
              ];
        };
        latches = found.3.latches;
        no_more = found.3.small;
      }

  -- with the values of a call
  pub start_found : (first reset : ℕ) (lent : List Content) (content : Content) → IsOrder F k → reset ≡ F.reset → lent ≡ contents → first < length lent → content ≡ get_or contents first content
      → ((content : Content) → slice_get lent first ≡ Some content → content.state ≡ reset)
      → ((j : ℕ) (other : Content) → j < first → slice_get lent j ≡ Some other → other.state ≢ reset)
      → (j : ℕ) → IsOrder F j → WritesStart F j content.latches
  start_found first reset lent content is is_reset same within read some none j other =
      let below : first < length contents = omega (arith, within, ap length same) in
      let at : slice_get contents first ≡ Some content = slice_get-get_or contents first content below ∙ ap (λ (c : Content). Some c) (sym read) in
      subst (λ (n : ℕ). WritesStart F n content.latches) (order_once F k j is other)
      (start_here first content at (some content (ap (λ (list : List Content). slice_get list first) same ∙ at) ∙ is_reset)
      (λ i earlier before there bad. none i earlier before (ap (λ (list : List Content). slice_get list i) same ∙ there) (bad ∙ sym is_reset)))

  pub none_found : (reset : ℕ) (lent : List Content) → IsOrder F k → reset ≡ F.reset → lent ≡ contents → ((j : ℕ) (content : Content) → slice_get lent j ≡ Some content → content.state ≢ reset) → (j : ℕ) → IsOrder F j → IsNotReached F j
  none_found reset lent is is_reset same none j other =
      subst (IsNotReached F) (order_once F k j is other) (λ word of reached.
      let there = are.each word of in
      none (word_number word) there.0 (ap (λ (list : List Content). slice_get list (word_number word)) same ∙ there.1) (there.2.state ∙ (reached ∙ sym is_reset)))
