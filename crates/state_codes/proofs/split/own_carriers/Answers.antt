use Rattle.std.proofs.Common.{◌≡◌, ℕ, List, [], ◌∷◌, ◌++◌, length, map, ap, sym, ◌∙◌, arith}
use Rattle.std.proofs.lemmas.List.{length-map, length_push, map_push}
use Rattle.state_codes.specs.declared.split.Part.{Part}
use Rattle.state_codes.specs.Split.{others, given_parts, own_part}
use Rattle.state_codes.specs.Laws.Splits.{given_parts-push}
use Rattle.state_codes.proofs.split.own_carriers.Goals as goal

pub loop-j-preserved : goal.loop-j-preserved
loop-j-preserved c =
    let second : ℕ × List ℕ → List ℕ = λ item. item.1 in
    let count : ℕ = c.len-count.result in
    let partition : List ℕ = c.in-Some.partition in
    let partitions : List (List ℕ) = map second c.loop-j.yielded in
    let size : length partitions ≡ length c.loop-j.yielded = length-map c.loop-j.yielded second in
    let steps = c.in-Some.ensures.steps in
    let reads : c.in_ok-reads.reads ≡ others count c.in-Some.j = c.in_ok-reads.ensures in
    let part : c.in_ok-part.part ≡ own_part partition c.in_ok-reads.reads = c.in_ok-part.ensures in
    record {
      count = omega (arith, length_push c.loop-j.yielded (c.in-Some.j, partition), steps.2);
      list = c.in_ok-push.ensures.ok
          ∙ ap (λ (front : List Part). front ++ c.in_ok-part.part ∷ []) c.loop-j.invariant.list
          ∙ ap (λ (last : Part). given_parts count 0 partitions ++ last ∷ []) part
          ∙ ap (λ (numbers : List ℕ). given_parts count 0 partitions ++ own_part partition numbers ∷ []) reads
          ∙ sym (ap (given_parts count 0) (map_push second c.loop-j.yielded (c.in-Some.j, partition)) ∙ given_parts-push count 0 c.in-Some.j partitions partition (omega (arith, size, steps.1)));
    }
