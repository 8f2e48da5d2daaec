use Rattle.std.proofs.Common.{◌≡◌, ◌∙◌, ◌+◌, List, ℕ, length, ap, sym, subst, refl}
use Rattle.std.proofs.lemmas.Nat.Bits.{bit_at-zero}
use Rattle.std.specs.Int.{bit_at}
use Rattle.partition.specs.Partition.{IsPartition}
use Rattle.least_codes.specs.Inner.Parts.{AreBitLabels, bit_labels}
use Rattle.least_codes.proofs.BitParts.{labels_lawful, labels_length, labels_more}
use Rattle.least_codes.proofs.bit_parts.bit_partitions.Goals as goal

pub of_lawful-requires : goal.of_lawful-requires
of_lawful-requires c =
    let words : List ℕ = c.args.words.now in
    let is : c.as_slice.result.now ≡ bit_labels c.loop-i.i words = c.as_slice.ensures.value ∙ c.in_ok-labels.ensures in
    let lawful : IsPartition (length words) (bit_labels c.loop-i.i words) = labels_lawful (length words) words c.loop-i.i c.requires.states refl (ap (λ (word : ℕ). bit_at word c.loop-i.i) c.requires.zero ∙ bit_at-zero c.loop-i.i) in
    subst (λ (labels : List ℕ). IsPartition (length labels) labels) (sym is) (subst (λ (n : ℕ). IsPartition n (bit_labels c.loop-i.i words)) (sym (labels_length words c.loop-i.i)) lawful)

pub loop-i-preserved : goal.loop-i-preserved
loop-i-preserved c =
    subst (AreBitLabels (c.loop-i.i + 1) c.args.words.now) (sym c.in_ok-push.ensures.items)
    (labels_more c.args.words.now c.loop-i.i c.loop-i.partitions.items _ c.loop-i.invariant (c.in_ok-of_lawful.ensures ∙ c.as_slice.ensures.value ∙ c.in_ok-labels.ensures))
