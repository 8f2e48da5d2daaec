use Rattle.std.proofs.Common.{ℕ, sym, subst}
use Rattle.partition.specs.Laws.Labels.{IsPartition-of}
use Rattle.state_pairs.specs.AddedPairs.{AreNamed, AreNamedAtPlaces}
use Rattle.state_pairs.specs.SeenPairs.{AreStates}
use Rattle.state_pairs.specs.Laws.MergedPairs.{merges_as, named_are_states}
use Rattle.state_pairs.specs.Laws.NamedPairs.{named_by_places, one_next}
use Rattle.state_pairs.proofs.rows.RowsByState.merge_named.Goals as goal

pub merge_by_places-requires-clause-states : goal.merge_by_places-requires-clause-states
merge_by_places-requires-clause-states c =
    let F = c.args.self.now in
    let s = c.args.s in
    let t = c.args.t in
    let known = c.aligned_rows.ensures in
    let first = c.in-Some.rows.first.now in
    let second = c.in-Some.rows.second.now in
    subst (λ (n : ℕ). AreStates n (AreNamedAtPlaces F.rows first second)) (sym c.requires.lawful.length)
    (λ u v named.
    named_are_states F known.table known.no_conflict s t c.requires.s c.requires.t u v
    ((named_by_places F known.table (one_next F known.no_conflict) s t first second c.in-Some.ensures.aligned (c.all_say.ensures c.if-all_say.true) u v).0 named))

pub merge_by_places-requires-clause-lawful : goal.merge_by_places-requires-clause-lawful
merge_by_places-requires-clause-lawful c = IsPartition-of (sym c.requires.lawful.length) c.requires.lawful

pub returns : goal.returns
returns c =
    let F = c.args.self.now in
    let s = c.args.s in
    let t = c.args.t in
    let known = c.aligned_rows.ensures in
    let first = c.in-Some.rows.first.now in
    let second = c.in-Some.rows.second.now in
    merges_as (AreNamedAtPlaces F.rows first second) (AreNamed F s t) c.args.part.now c.merge_by_places.new.part
    (named_by_places F known.table (one_next F known.no_conflict) s t first second c.in-Some.ensures.aligned (c.all_say.ensures c.if-all_say.true)) c.merge_by_places.ensures
