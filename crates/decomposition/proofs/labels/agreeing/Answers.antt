use Rattle.std.proofs.Common.{◌≡◌}
use Rattle.std.proofs.lemmas.Result.{IfOk-weaker}
use Rattle.dependence.specs.SufficientBits.{InWord}
use Rattle.decomposition.specs.Notes.{IsPartitionOn}
use Rattle.decomposition.proofs.Labelling.{own_count, partition_same}
use Rattle.decomposition.proofs.labels.agreeing.Goals as goal

pub of_lawful-requires : goal.of_lawful-requires
of_lawful-requires c = own_count _ _ _ _ c.in_ok-labels.ensures c.as_slice.ensures.value

pub returns : goal.returns
returns c =
    IfOk-weaker c.of_lawful.result (λ p. p ≡ c.as_slice.result.now) (IsPartitionOn c.args.words.now (InWord c.args.set))
    (λ p same. partition_same c.args.words.now (InWord c.args.set) c.in_ok-labels.labels.items c.as_slice.result.now p c.in_ok-labels.ensures c.as_slice.ensures.value same) c.of_lawful.ensures
