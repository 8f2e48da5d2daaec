use Rattle.std.proofs.lemmas.Result.{IfOk-from_err}
use Rattle.std.proofs.Math.Nat.{lt_of_le_of_lt}
use Rattle.std.proofs.Common.{◌≡◌, [], ◌∷◌, ◌++◌}
use Rattle.cover_logic.specs.Inner.WaitingTerms.{IsWaiting}
use Rattle.cover_logic.proofs.PrimeRows.{primes_none, primes_more, primes_all, gone_from}
use Rattle.cover_logic.proofs.primes.add_guided_rows.Goals as goal

pub loop-seed-init : goal.loop-seed-init
loop-seed-init c =
    let all = c.in_ok-waiting.ensures in
    rw c.requires.none
    (primes_none _ _ _ (IsWaiting c.in_ok-waiting.waiting) (λ t h. (all t).1 h) (λ t h. (all t).0 h) c.requires.clear c.requires.fits)

pub loop-seed-preserved : goal.loop-seed-preserved
loop-seed-preserved c =
    let before = IsWaiting c.loop-seed.waiting in
    let taken = IsWaiting c.pop.new.self in
    let after = IsWaiting c.drop_included.new.self in
    let row = c.in_ok-row.ensures in
    let took = c.in-Some.ensures in
    let left = c.in_ok-drop_included.ensures in
    let pushed : c.push.new.self.items ≡ c.loop-seed.rows.items ++ c.in_ok-row.row ∷ [] = c.in_ok-push.ensures.items in
    rw pushed
    (primes_more _ _ _ before after _ c.in_ok-row.row c.loop-seed.invariant
    (gone_from c.in_ok-row.row c.in-Some.seed before taken after row.includes took.rest (λ t h e. (left.left t).1 (h, e)))
    (λ t h. took.among t ((left.left t).0 h).0) row.clear row.prime row.fits)

pub returns : goal.returns
returns c = primes_all _ _ _ (IsWaiting c.loop-seed.waiting) _ c.in_default.ensures c.loop-seed.invariant

pub new-requires-clause-width : goal.new-requires-clause-width
new-requires-clause-width c = c.requires.width

pub new-requires-clause-fits : goal.new-requires-clause-fits
new-requires-clause-fits c = c.requires.fits

pub guided_row-requires-clause-width : goal.guided_row-requires-clause-width
guided_row-requires-clause-width c = c.requires.width

pub drop_included-requires-clause-width : goal.drop_included-requires-clause-width
drop_included-requires-clause-width c = c.requires.width

pub guided_row-requires-clause-fits : goal.guided_row-requires-clause-fits
guided_row-requires-clause-fits c = c.loop-seed.invariant.left_fits c.in-Some.seed c.in-Some.ensures.was

pub guided_row-requires-clause-clear : goal.guided_row-requires-clause-clear
guided_row-requires-clause-clear c = c.loop-seed.invariant.left_clear c.in-Some.seed c.in-Some.ensures.was

pub drop_included-requires-clause-fits : goal.drop_included-requires-clause-fits
drop_included-requires-clause-fits c = c.in_ok-row.ensures.fits

pub loop-seed-smaller : goal.loop-seed-smaller
loop-seed-smaller c = lt_of_le_of_lt c.in_ok-drop_included.ensures.less c.in-Some.ensures.fewer

pub returns-in_err-waiting : goal.returns-in_err-waiting
returns-in_err-waiting c = IfOk-from_err c.from_residual.result _ c.from_residual.ensures.0

pub returns-in_err-row : goal.returns-in_err-row
returns-in_err-row c = IfOk-from_err c.from_residual-in_err-row.result _ c.from_residual-in_err-row.ensures.0

pub returns-in_err-drop_included : goal.returns-in_err-drop_included
returns-in_err-drop_included c = IfOk-from_err c.from_residual-in_err-drop_included.result _ c.from_residual-in_err-drop_included.ensures.0

pub returns-in_err-push : goal.returns-in_err-push
returns-in_err-push c = IfOk-from_err c.from_residual-in_err-push.result _ c.from_residual-in_err-push.ensures.0
