use Rattle.std.proofs.lemmas.Result.{IfOk-from_err}
use Rattle.std.proofs.Common.{◌≡◌, ◌<◌, ◌+◌, List, [], ◌∷◌, ◌++◌, subst, rules, arith, vec_len}
use Rattle.std.specs.List.{Contains}
use Rattle.std.proofs.lemmas.List.Elements.{Contains-push}
use Rattle.list_facts.specs.Laws.Members.{Contains-none}
use Rattle.cover_terms.specs.declared.term.Term.{Term}
use Rattle.cover_logic.specs.Inner.Index.{terms_of}
use Rattle.cover_logic.proofs.PrimeRows.{ArePrimes, primes_none, primes_more, primes_all, gone_from_list, left_in_list}
use Rattle.cover_logic.proofs.primes.add_plain_rows.Goals as goal

pub loop-seed-init : goal.loop-seed-init
loop-seed-init c =
    let all : c.in_ok-left.left.items ≡ c.args.on.now = search rules in
    rw (all, c.requires.none) (primes_none _ _ _ (Contains c.args.on.now) (λ t h. h) (λ t h. h) c.requires.clear c.requires.fits)

pub loop-seed-smaller : goal.loop-seed-smaller
loop-seed-smaller c =
    let popped : vec_len c.pop.new.self + 1 ≡ vec_len c.loop-seed.left = search rules in
    let fewer = c.drop_included.ensures.len in
    let less : vec_len c.drop_included.new.terms < vec_len c.loop-seed.left = omega arith in
    less

pub plain_row-requires-clause-fits : goal.plain_row-requires-clause-fits
plain_row-requires-clause-fits c =
    let popped : c.loop-seed.left.items ≡ c.pop.new.self.items ++ c.in-Some.seed ∷ [] = search rules in
    c.loop-seed.invariant.left_fits c.in-Some.seed (rw popped (Contains-push c.pop.new.self.items c.in-Some.seed))

pub plain_row-requires-clause-clear : goal.plain_row-requires-clause-clear
plain_row-requires-clause-clear c =
    let popped : c.loop-seed.left.items ≡ c.pop.new.self.items ++ c.in-Some.seed ∷ [] = search rules in
    c.loop-seed.invariant.left_clear c.in-Some.seed (rw popped (Contains-push c.pop.new.self.items c.in-Some.seed))

pub loop-seed-preserved : goal.loop-seed-preserved
loop-seed-preserved c =
    let left = c.pop.new.self.items in
    let popped : c.loop-seed.left.items ≡ left ++ c.in-Some.seed ∷ [] = search rules in
    let pushed : c.push.new.self.items ≡ c.loop-seed.rows.items ++ c.in_ok-row.row ∷ [] = c.in_ok-push.ensures.items in
    let before : ArePrimes c.args.on.now (terms_of c.args.off.now) c.args.width (Contains (left ++ c.in-Some.seed ∷ [])) c.loop-seed.rows.items =
    subst (λ (ts : List Term). ArePrimes c.args.on.now (terms_of c.args.off.now) c.args.width (Contains ts) c.loop-seed.rows.items) popped c.loop-seed.invariant in
    let row = c.in_ok-row.ensures in
    rw (c.drop_included.ensures.kept, pushed)
    (primes_more _ _ _ (Contains (left ++ c.in-Some.seed ∷ [])) _ _ c.in_ok-row.row before (gone_from_list left c.in-Some.seed c.in_ok-row.row row.includes)
    (left_in_list left c.in-Some.seed c.in_ok-row.row) row.clear row.prime row.fits)

pub returns : goal.returns
returns c =
    let none : c.loop-seed.left.items ≡ [] = search rules in
    primes_all _ _ _ (Contains c.loop-seed.left.items) _ (λ t h. Contains-none t (subst (λ (ts : List Term). Contains ts t) none h)) c.loop-seed.invariant

pub plain_row-requires-clause-width : goal.plain_row-requires-clause-width
plain_row-requires-clause-width c = c.requires.width

pub returns-in_err-left : goal.returns-in_err-left
returns-in_err-left c = IfOk-from_err c.from_residual.result _ c.from_residual.ensures.0

pub returns-in_err-row : goal.returns-in_err-row
returns-in_err-row c = IfOk-from_err c.from_residual-in_err-row.result _ c.from_residual-in_err-row.ensures.0

pub returns-in_err-push : goal.returns-in_err-push
returns-in_err-push c = IfOk-from_err c.from_residual-in_err-push.result _ c.from_residual-in_err-push.ensures.0
