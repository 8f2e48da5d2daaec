use Rattle.std.proofs.Common.{◌≡◌, ◌⊎◌, true, false, length, ◌∙◌, arith}
use Rattle.state_pairs.specs.AddedPairs.{AddsPairs, AreBothOpen, IsFound, IsOpenImage, NamesAlone, OfSomeRow}
use Rattle.state_pairs.specs.Laws.AddedPairs.{adds_as, adds_then, on_ok}
use Rattle.state_pairs.proofs.rows.RowsByState.add_open.Goals as goal

pub returns-clause-pairs : goal.returns-clause-pairs
returns-clause-pairs c =
    let F = c.args.self.now in
    let s = c.args.s in
    let t = c.args.t in
    let old = c.args.pairs.now.pairs in
    let some = c.add_alone.new.pairs.pairs in
    let more = c.add_alone-2.new.pairs.pairs in
    let all = c.add_found.new.pairs.pairs in
    let Found = IsFound c.open_pair.result in
    let Both = AreBothOpen F s t in
    let First = OfSomeRow F s (NamesAlone F t false) in
    let Second = OfSomeRow F t (NamesAlone F s true) in
    on_ok c.add_found.result (AddsPairs Found more all) (AddsPairs (IsOpenImage F s t) old all)
    (λ last.
    adds_then First (λ u v. Second u v ⊎ Both u v) old some all c.in_ok-add_alone.ensures.pairs
    (adds_then Second Both some more all c.in_ok-add_alone-2.ensures.pairs (adds_as Found Both more all c.open_pair.ensures last))) c.add_found.ensures.pairs

pub add_found-requires : goal.add_found-requires
add_found-requires c u v is =
    let states : c.add_alone-2.new.pairs.states ≡ length c.args.self.now.states = c.in_ok-add_alone-2.ensures.states ∙ c.in_ok-add_alone.ensures.states ∙ c.requires.states in
    let found = (c.open_pair.ensures u v).0 is in
    (omega (arith, found.3, c.requires.s, states), omega (arith, found.4, c.requires.t, states))
