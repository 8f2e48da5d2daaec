use Rattle.state_pairs.specs.AddedPairs.{AddsPairs, AreNamed, AreNamedAtPlaces, IsNamedBeside, OfSomeRow}
use Rattle.state_pairs.specs.Laws.AddedPairs.{adds_as, on_ok}
use Rattle.state_pairs.specs.Laws.NamedPairs.{named_by_places, named_by_rows, one_next}
use Rattle.state_pairs.proofs.rows.RowsByState.add_named.Goals as goal

pub returns-clause-pairs : goal.returns-clause-pairs
returns-clause-pairs c =
    let F = c.args.self.now in
    let s = c.args.s in
    let t = c.args.t in
    let first = c.in-Some.rows.first.now in
    let second = c.in-Some.rows.second.now in
    let old = c.args.pairs.now.pairs in
    let more = c.add_by_places.new.pairs.pairs in
    let At = AreNamedAtPlaces F.rows first second in
    let table = c.aligned_rows.ensures.table in
    on_ok c.add_by_places.result (AddsPairs At old more) (AddsPairs (AreNamed F s t) old more)
    (adds_as At (AreNamed F s t) old more
    (named_by_places F table (one_next F c.aligned_rows.ensures.no_conflict) s t first second c.in-Some.ensures.aligned (c.all_say.ensures c.if-all_say.true)))
    c.add_by_places.ensures.pairs

pub returns-2-clause-pairs : goal.returns-2-clause-pairs
returns-2-clause-pairs c =
    let F = c.args.self.now in
    let s = c.args.s in
    let t = c.args.t in
    let old = c.args.pairs.now.pairs in
    let more = c.add_by_rows.new.pairs.pairs in
    let Rows = OfSomeRow F s (IsNamedBeside F t) in
    on_ok c.add_by_rows.result (AddsPairs Rows old more) (AddsPairs (AreNamed F s t) old more)
    (adds_as Rows (AreNamed F s t) old more (named_by_rows F c.aligned_rows.ensures.table s t)) c.add_by_rows.ensures.pairs
