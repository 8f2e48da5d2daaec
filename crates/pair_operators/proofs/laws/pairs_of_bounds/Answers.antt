use Rattle.pair_operators.specs.Laws.Pairs.{joins_pair, meets_pair}
use Rattle.pair_operators.proofs.laws.pairs_of_bounds.Goals as goal

pub returns : goal.returns
returns c = record {
  joins = joins_pair;
  meets = meets_pair;
  closed_join = λ F p q r sizes left right join. joins_pair F p p q q r r sizes sizes left right join join;
  closed_meet = λ F p q r left right meet. meets_pair F p p q q r r left right meet meet;
}
