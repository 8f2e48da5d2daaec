use Rattle.std.proofs.lemmas.Result.{IfOk-from_err}
use Rattle.std.proofs.Common.{◌≡◌, ◌-◌, ◌<◌, ◌∙◌, ℕ, List, [], ◌∷◌, ◌++◌, length, take, ⊎_elim, inl, inr, refl, sym, subst, arith}
use Rattle.std.specs.List.{Contains}
use Rattle.std.proofs.lemmas.List.{take_all}
use Rattle.std.proofs.lemmas.List.Elements.{Contains-append_left, Contains-push_cases}
use Rattle.list_facts.specs.Laws.Members.{Contains-none}
use Rattle.cover_terms.specs.declared.term.Term.{Term}
use Rattle.cover_terms.specs.Term.{FitsWidth}
use Rattle.cover_terms.specs.Pair.{Includes}
use Rattle.cover_logic.specs.Inner.Rows.{IsClear}
use Rattle.cover_terms.specs.Laws.Lists.{take_with_last}
use Rattle.cover_logic.proofs.PrimeRows.{ArePrimes, primes_none, primes_more, primes_skip, primes_all}
use Rattle.cover_logic.proofs.dense_gates.rows_of.Goals as goal

pub loop-left-init : goal.loop-left-init
loop-left-init c =
    let on = c.args.on.now in
    let all : take (length on) on ≡ on = take_all (length on) on (omega arith) in
    let rows = c.in_ok-rows.ensures in
    let none : ArePrimes on c.args.zeros.now.terms.items c.args.width (Contains on) [] =
    primes_none on c.args.zeros.now.terms.items c.args.width (Contains on) (λ t h. h) (λ t h. h) c.requires.clear c.requires.fits in (
      subst (λ (ts : List Term). ArePrimes on c.args.zeros.now.terms.items c.args.width (Contains ts) c.in_ok-rows.rows.terms.items) (sym all)
          (subst (λ (ts : List Term). ArePrimes on c.args.zeros.now.terms.items c.args.width (Contains on) ts) (sym rows.items) none),
      record { columns = rows.columns; items = refl; right = rows.right },
      omega arith,
    )

pub holds-requires-clause-fits : goal.holds-requires-clause-fits
holds-requires-clause-fits c =
    let below : c.loop-left.left - 1 < length c.args.on.now = (let t = c.loop-left-test.true in let w = c.loop-left.invariant.2 in omega (arith, t, w)) in
    let fits = subst (λ (t : Term). FitsWidth c.args.width t) (sym c.index-on-left.is) (c.requires.fits (c.loop-left.left - 1) c.index-on-left.result below) in
    subst (λ (w : ℕ). FitsWidth w c.index-on-left.result) (sym c.loop-left.invariant.1.columns) fits

pub row_of-row-requires-clause-fits : goal.row_of-row-requires-clause-fits
row_of-row-requires-clause-fits c =
    let below : c.loop-left.left - 1 < length c.args.on.now = (let t = c.loop-left-test.true in let w = c.loop-left.invariant.2 in omega (arith, t, w)) in
    subst (λ (t : Term). FitsWidth c.args.width t) (sym c.index-on-left.is) (c.requires.fits (c.loop-left.left - 1) c.index-on-left.result below)

pub row_of-row-requires-clause-clear : goal.row_of-row-requires-clause-clear
row_of-row-requires-clause-clear c =
    let below : c.loop-left.left - 1 < length c.args.on.now = (let t = c.loop-left-test.true in let w = c.loop-left.invariant.2 in omega (arith, t, w)) in
    subst (λ (t : Term). IsClear c.args.zeros.now.terms.items t) (sym c.index-on-left.is) (c.requires.clear (c.loop-left.left - 1) c.index-on-left.result below)

pub loop-left-preserved-in-Continue-branch-2 : goal.loop-left-preserved-in-Continue-branch-2
loop-left-preserved-in-Continue-branch-2 c =
    let on = c.args.on.now in
    let off = c.args.zeros.now.terms.items in
    let left = take (c.loop-left.left - 1) on in
    let seed = c.index-on-left.result in
    let rows = c.loop-left.rows.terms.items in
    let row = c.row_of-row.result in
    let made = c.row_of-row.ensures in
    let added = c.in_ok-add.ensures in
    let some = c.loop-left-test.true in
    let within = c.loop-left.invariant.2 in
    let last : take c.loop-left.left on ≡ left ++ seed ∷ [] = take_with_last on c.loop-left.left (c.loop-left.left - 1) seed (omega (arith, some)) within c.index-on-left.is in
    let before : ArePrimes on off c.args.width (Contains (left ++ seed ∷ [])) rows =
    subst (λ (ts : List Term). ArePrimes on off c.args.width (Contains ts) rows) last c.loop-left.invariant.0 in
    let more : ArePrimes on off c.args.width (Contains left) (rows ++ row ∷ []) =
    primes_more on off c.args.width (Contains (left ++ seed ∷ [])) (Contains left) rows row before
    (λ t h. ⊎_elim (λ k. inr k) (λ e. inl (subst (λ (u : Term). Includes row u) e made.includes)) (Contains-push_cases left seed t h))
    (λ t h. Contains-append_left left (seed ∷ []) t h) made.clear made.prime made.fits in (
      subst (λ (ts : List Term). ArePrimes on off c.args.width (Contains left) ts) (sym added.items) more,
      record { columns = added.columns ∙ c.loop-left.invariant.1.columns; items = refl; right = added.right },
      omega (arith, within),
    )

pub loop-left-preserved : goal.loop-left-preserved
loop-left-preserved c =
    let on = c.args.on.now in
    let off = c.args.zeros.now.terms.items in
    let left = take (c.loop-left.left - 1) on in
    let seed = c.index-on-left.result in
    let rows = c.loop-left.rows.terms.items in
    let some = c.loop-left-test.true in
    let within = c.loop-left.invariant.2 in
    let last : take c.loop-left.left on ≡ left ++ seed ∷ [] = take_with_last on c.loop-left.left (c.loop-left.left - 1) seed (omega (arith, some)) within c.index-on-left.is in
    let before : ArePrimes on off c.args.width (Contains (left ++ seed ∷ [])) rows =
    subst (λ (ts : List Term). ArePrimes on off c.args.width (Contains ts) rows) last c.loop-left.invariant.0 in
    (primes_skip on off c.args.width left rows seed before (c.holds.ensures c.if-not-holds.false), c.loop-left.invariant.1, omega (arith, within))

pub returns : goal.returns
returns c =
    let on = c.args.on.now in
    let past = c.loop-left-test.false in
    let none : c.loop-left.left ≡ 0 = omega (arith, past) in
    primes_all _ _ _ (Contains (take c.loop-left.left on)) _
    (λ t h. Contains-none t (subst (λ (n : ℕ). Contains (take n on) t) none h)) c.loop-left.invariant.0

pub new-requires : goal.new-requires
new-requires c = c.requires.few

pub holds-requires-clause-table : goal.holds-requires-clause-table
holds-requires-clause-table c = c.loop-left.invariant.1.right

pub row_of-row-requires-clause-table : goal.row_of-row-requires-clause-table
row_of-row-requires-clause-table c = c.requires.table

pub row_of-row-requires-clause-width : goal.row_of-row-requires-clause-width
row_of-row-requires-clause-width c = c.requires.columns

pub row_of-row-requires-clause-few : goal.row_of-row-requires-clause-few
row_of-row-requires-clause-few c = c.requires.few

pub add-requires-clause-table : goal.add-requires-clause-table
add-requires-clause-table c = c.loop-left.invariant.1.right

pub add-requires-clause-fits : goal.add-requires-clause-fits
add-requires-clause-fits c = subst (λ (w : ℕ). FitsWidth w c.row_of-row.result) (sym c.loop-left.invariant.1.columns) c.row_of-row.ensures.fits

pub returns-in_err-rows : goal.returns-in_err-rows
returns-in_err-rows c = IfOk-from_err c.from_residual.result _ c.from_residual.ensures.0

pub returns-in_err-add : goal.returns-in_err-add
returns-in_err-add c = IfOk-from_err c.from_residual-in_err-add.result _ c.from_residual-in_err-add.ensures.0
