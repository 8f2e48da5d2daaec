use Rattle.std.proofs.Common.{◌≡◌, ◌<◌, min, false, List, ℕ, Err, length, take, drop, sym, ◌∙◌, ap, subst, rules}
use Rattle.cubes.specs.declared.cube.Cube.{Cube}
use Rattle.net_core.specs.Step.{row_holds}
use Rattle.net_sim.specs.Inner.Pieces.{HasCut}
use Rattle.net_sim.proofs.FormValues.{no_cube}
use Rattle.net_sim.proofs.WideRows.{cut_bad, cut_done, cut_more, drop_least, take_least}
use Rattle.net_sim.proofs.pieces.pieces_of.Goals as goal

pub returns-in-Err : goal.returns-in-Err
returns-in-Err c =
    let rest = c.loop-rest.rest.now in
    let piece = c.split_at.result.0.now in
    let size : c.min.result ≡ min (length rest) 32 = c.min.ensures in
    let piece_is : piece ≡ take 32 rest = c.split_at.ensures.front ∙ (ap (λ k. take k rest) size ∙ take_least rest) in
    cut_bad c.args.row.now rest c.loop-rest.pieces c.loop-rest.invariant
    (λ bits long.
    subst (λ (row : List ℕ). row_holds row bits ≡ false) piece_is
    (no_cube piece (length piece) bits c.in-Err.field-0 (long ∙ (sym size ∙ sym c.split_at.ensures.front_len))
    (λ found is. ((c.parse.ensures.bad_width found).0 (c.in-Err.is ∙ ap Err is)).0)
    (λ place is. ((c.parse.ensures.bad_char place).0 (c.in-Err.is ∙ ap Err is)).1)))

pub loop-rest-preserved : goal.loop-rest-preserved
loop-rest-preserved c =
    let rest = c.loop-rest.rest.now in
    let size : c.min.result ≡ min (length rest) 32 = c.min.ensures in
    let piece_is : c.split_at.result.0.now ≡ take 32 rest = c.split_at.ensures.front ∙ (ap (λ k. take k rest) size ∙ take_least rest) in
    let more_is : c.split_at.result.1.now ≡ drop 32 rest = c.split_at.ensures.back ∙ (ap (λ k. drop k rest) size ∙ drop_least rest) in
    let some : 0 < length rest = search rules in
    subst (λ (more : List ℕ). HasCut c.args.row.now more c.push.new.self) (sym more_is)
    (subst (λ (cubes : List Cube). HasCut c.args.row.now (drop 32 rest) cubes) (sym c.in_ok-push-in-Ok.ensures.ok)
    (cut_more c.args.row.now rest c.loop-rest.pieces c.loop-rest.invariant c.in-Ok.cube some (c.in-Ok.ensures.width ∙ (c.split_at.ensures.front_len ∙ size))
    (sym piece_is ∙ c.in-Ok.ensures.spelled)))

pub returns : goal.returns
returns c =
    let none : length c.loop-rest.rest.now ≡ 0 = search rules in
    cut_done c.args.row.now c.loop-rest.rest.now c.loop-rest.pieces c.loop-rest.invariant none
