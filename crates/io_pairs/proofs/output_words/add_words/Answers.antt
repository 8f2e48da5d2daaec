use Rattle.std.proofs.Common.{◌≡◌, ◌≢◌, ◌∙◌, ℕ, List, ap, get_or, length, subst, arith}
use Rattle.std.proofs.lemmas.List.{length_push}
use Rattle.io_pairs.specs.Inner.Words.{IsPlaceOf}
use Rattle.io_pairs.proofs.Gathering.{more_words, word_known, word_new}
use Rattle.io_pairs.proofs.output_words.add_words.Goals as goal
use Rattle.io_pairs.proofs.output_words.add_words.Goals.{then-place_of-len+else-len-eq-MOST_OUTS+in_ok-push, else-place_of-len}

pub returns-then-len-eq-MOST_OUTS-clause-too_many : goal.returns-then-len-eq-MOST_OUTS-clause-too_many
returns-then-len-eq-MOST_OUTS-clause-too_many c is =
    let outs : List ℕ = c.loop-word.outs.items in
    let words = c.args.words.now in
    let i = c.loop-word.word-index in
    let place : IsPlaceOf outs (get_or words i 0) c.place_of.result = subst (λ (xs : List ℕ). IsPlaceOf xs (get_or words i 0) c.place_of.result) c.as_slice.ensures.value c.place_of.ensures in
    let size : length outs ≡ c.len.result = omega (arith, c.len.ensures, c.as_slice.ensures.len, ap length c.as_slice.ensures.value) in
    let at : c.place_of.result ≡ length outs = omega (arith, c.if-place_of-len.true) in
    let more = more_words c.args.outs.now.items outs words i c.place_of.result c.loop-word-test.true c.loop-word.invariant.so_far place at in
    omega (arith, more, size, c.len.ensures, c.if-len-eq-MOST_OUTS.true, c.len-then-place_of-len.ensures)

pub loop-word-preserved : goal.loop-word-preserved
loop-word-preserved c =
    let outs : List ℕ = c.loop-word.outs.items in
    let words = c.args.words.now in
    let i = c.loop-word.word-index in
    let place : IsPlaceOf outs (get_or words i 0) c.place_of.result = subst (λ (xs : List ℕ). IsPlaceOf xs (get_or words i 0) c.place_of.result) c.as_slice.ensures.value c.place_of.ensures in
    let size : length outs ≡ c.len.result = omega (arith, c.len.ensures, c.as_slice.ensures.len, ap length c.as_slice.ensures.value) in
    elim c.if-place_of-len.branch [
      | then-place_of-len+else-len-eq-MOST_OUTS+in_ok-push w ↦
          let at : c.place_of.result ≡ length outs = omega (arith, w.if-place_of-len.true) in
          record {
            so_far = rw (w.outs-is, w.in_ok-push.ensures.items) (word_new c.args.outs.now.items outs words i c.place_of.result c.loop-word-test.true c.loop-word.invariant.so_far place at);
            few = rw (w.outs-is, w.in_ok-push.ensures.items) (omega (arith, length_push outs (get_or words i 0), size, c.len.ensures, w.if-len-eq-MOST_OUTS.false, w.len-then-place_of-len.ensures, c.loop-word.invariant.few));
          }
      | else-place_of-len w ↦
          let other : c.place_of.result ≢ length outs = λ at. w.if-place_of-len.false (at ∙ size) in
          record {
            so_far = rw w.outs-is (word_known c.args.outs.now.items outs words i c.place_of.result c.loop-word-test.true c.loop-word.invariant.so_far place other);
            few = rw w.outs-is c.loop-word.invariant.few;
          }
    ]
