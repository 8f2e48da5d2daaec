use Rattle.std.proofs.Common.{◌∙◌, sym}
use Rattle.state_pairs.proofs.PlacedOutputs.{cares_of_none, first_in_bits}
use Rattle.state_pairs.proofs.rows.RowsByState.first_placed_apart.Goals as goal

pub returns : goal.returns
returns c =
    let F = c.args.self.now in
    let rows = c.in_ok-rows.rows in
    let all = c.in_ok-rows.ensures.all in
    let known = c.rows_of_both.ensures in
    first_in_bits F known.table known.no_conflict c.args.s c.args.t rows.first.now rows.second.now all
    (cares_of_none F c.args.s c.args.t rows.first.now rows.second.now all c.first_by_rows.result (sym c.is_some.ensures ∙ c.if-is_some.false) c.first_by_rows.ensures.met)
    c.args.least c.first_by_rows-2.result c.first_by_rows-2.ensures.some c.first_by_rows-2.ensures.within c.first_by_rows-2.ensures.met
