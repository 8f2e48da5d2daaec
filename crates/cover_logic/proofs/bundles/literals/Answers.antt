use Rattle.std.proofs.Common.{ℕ, ◌+◌, ◌∙◌, if◌then◌else◌, subst, sym, arith}
use Rattle.std.proofs.lemmas.Bool.{false≢true}
use Rattle.cover_logic.proofs.Planes.{HasFirstLiterals, literals_none, literals_more, literals_passed, literals_all}
use Rattle.cover_logic.proofs.bundles.literals.Goals as goal
use Rattle.cover_logic.proofs.bundles.literals.Goals.{then-has_literal, else-has_literal}

pub loop-place-init : goal.loop-place-init
loop-place-init c = literals_none c.args.column _ c.args.entries.now

pub loop-place-preserved : goal.loop-place-preserved
loop-place-preserved c =
    let entries = c.args.entries.now in
    let bit : ℕ = if c.args.one then 1 else 0 in
    let place = c.loop-place.place in
    let P : ℕ → Type 0 = λ n. HasFirstLiterals c.args.column bit entries (place + 1) n in
    elim c.if-has_literal.branch [
      | then-has_literal w ↦
          subst P (sym w.places-is)
          (literals_more c.args.column bit entries c.loop-place.places place c.index-entries-place.result c.loop-place.invariant
          (let few = c.requires.few in let below = c.loop-place-test.true in omega arith)
          c.loop-place-test.true c.index-entries-place.is (c.has_literal.ensures.0 w.if-has_literal.true))
      | else-has_literal w ↦
          subst P (sym w.places-is)
          (literals_passed c.args.column bit entries c.loop-place.places place c.index-entries-place.result c.loop-place.invariant c.loop-place-test.true c.index-entries-place.is
          (λ l. false≢true (sym w.if-has_literal.false ∙ c.has_literal.ensures.1 l)))
    ]

pub returns : goal.returns
returns c = literals_all c.args.column _ c.args.entries.now c.loop-place.place c.loop-place.places c.loop-place-test.false c.loop-place.invariant
