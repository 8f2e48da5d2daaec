use Rattle.std.proofs.Common.{◌≡◌, List, [], ◌∷◌, ◌++◌, sym, ap, ◌∙◌}
use Rattle.std.proofs.lemmas.List.{map_push}
use Rattle.state_codes.specs.declared.split.Part.{Part}
use Rattle.state_codes.specs.Split.{lone_part, own_part}
use Rattle.parallel_split.proofs.parallel.lone_parts.Goals as goal

pub loop-partition-preserved : goal.loop-partition-preserved
loop-partition-preserved c =
    let is : c.in_ok-part.part ≡ lone_part c.in-Some.partition = c.in_ok-part.ensures ∙ ap (own_part c.in-Some.partition) c.new-reads.ensures in
    c.in_ok-push.ensures.ok ∙ ap (λ (p : Part). c.loop-partition.parts ++ p ∷ []) is ∙ ap (λ (front : List Part). front ++ lone_part c.in-Some.partition ∷ []) c.loop-partition.invariant
    ∙ sym (map_push lone_part c.loop-partition.yielded c.in-Some.partition)
