use Rattle.std.proofs.Common.{◌≡◌, ℕ, List, ◌++◌, ◌∷◌, [], get_or, take, sym, ap, ◌∙◌, append_assoc, arith}
use Rattle.std.specs.Fmt.{decimal}
use Rattle.partition.specs.Text.{labels_text}
use Rattle.partition.specs.Laws.Pieces.{labels_text-take-none, labels_text-take-more}
use Rattle.partition.proofs.text.written.Goals as goal
use Rattle.partition.proofs.text.written.Goals.{then-s-gt0+in_ok-push, else-s-gt0}

pub loop-s-preserved : goal.loop-s-preserved
loop-s-preserved c =
    let label : ℕ = get_or c.args.labels.now c.loop-s.s 0 in
    let digits : c.as_bytes.result.now ≡ decimal label = c.as_bytes.ensures.value ∙ c.format.ensures.text in
    let added : c.extend_from_slice.new.self.items ≡ c.if-s-gt0.text.items ++ decimal label = c.in_ok-extend_from_slice.ensures.items ∙ ap (λ (end : List ℕ). c.if-s-gt0.text.items ++ end) digits in
    elim c.if-s-gt0.branch [
      | then-s-gt0+in_ok-push w ↦
          let comma : c.if-s-gt0.text.items ≡ c.loop-s.text.items ++ 44 ∷ [] = rw w.text-is w.in_ok-push.ensures.items in
          added ∙ ap (λ (front : List ℕ). front ++ decimal label) comma ∙ append_assoc c.loop-s.text.items (44 ∷ []) (decimal label) ∙ ap (λ (front : List ℕ). front ++ 44 ∷ decimal label) c.loop-s.invariant ∙ sym (labels_text-take-more c.args.labels.now c.loop-s.s (omega arith) (omega arith))
      | else-s-gt0 w ↦
          let none : c.loop-s.s ≡ 0 = omega arith in
          added ∙ rw (w.text-is, c.loop-s.invariant) (rw (labels_text-take-none c.args.labels.now c.loop-s.s (omega arith) (omega arith)) (ap (λ (k : ℕ). labels_text (take k c.args.labels.now) ++ decimal label) none))
    ]
