use Rattle.std.proofs.Common.{◌≡◌, ◌+◌, ◌∙◌, ℕ, Some, None, ap, set, sym, subst, arith, bit_and, get_or}
use Rattle.std.specs.List.{slice_get}
use Rattle.dependence.specs.Inner.LikeStates.{AreFirsts, IsFirstLike, place_in}
use Rattle.dependence.proofs.Firsts.{first_alone, first_there, firsts_placed, firsts_taken, read_at}
use Rattle.dependence.proofs.sufficient_bits.first_like.Goals as goal

pub bounds-words-first : goal.bounds-words-first
bounds-words-first c =
    let at : slice_get c.args.firsts.now (place_in c.args.words.now c.args.set c.args.s) ≡ Some (Some c.in-Some.first) =
    read_at c.args.firsts.now c.place_of-place.result (bit_and (get_or c.args.words.now c.args.s 0) c.args.set) (Some c.in-Some.first) c.told-firsts c.place_of-place.ensures c.in-Some.is in
    let it = c.requires.firsts.each (place_in c.args.words.now c.args.set c.args.s) c.in-Some.first at in
    omega (arith, it.0, c.from-first.ensures, c.requires.state)

pub returns-in-None-clause-first : goal.returns-in-None-clause-first
returns-in-None-clause-first c =
    first_alone c.args.words.now c.args.set c.args.firsts.now c.args.s c.requires.firsts
    (read_at c.args.firsts.now c.place_of-place.result (bit_and (get_or c.args.words.now c.args.s 0) c.args.set) None c.told-firsts c.place_of-place.ensures c.in-None.is)

pub returns-in-None-clause-firsts : goal.returns-in-None-clause-firsts
returns-in-None-clause-firsts c =
    subst (λ (place : ℕ). AreFirsts c.args.words.now c.args.set (set c.args.firsts.now place (Some c.args.s)) (c.args.s + 1)) (sym c.place_of-place.ensures)
    (firsts_placed c.args.words.now c.args.set c.args.firsts.now c.args.s c.requires.firsts
    (read_at c.args.firsts.now c.place_of-place.result (bit_and (get_or c.args.words.now c.args.s 0) c.args.set) None c.told-firsts c.place_of-place.ensures c.in-None.is))

pub returns-then-words-first-clause-first : goal.returns-then-words-first-clause-first
returns-then-words-first-clause-first c =
    subst (λ (first : ℕ). IsFirstLike c.args.words.now c.args.set c.args.s first) (sym c.from-first.ensures)
    (first_there c.args.words.now c.args.set c.args.firsts.now c.args.s c.requires.firsts c.in-Some.first
    (read_at c.args.firsts.now c.place_of-place.result (bit_and (get_or c.args.words.now c.args.s 0) c.args.set) (Some c.in-Some.first) c.told-firsts c.place_of-place.ensures c.in-Some.is)
    (ap (λ (t : ℕ). bit_and (get_or c.args.words.now t 0) c.args.set) (sym c.from-first.ensures) ∙ c.if-words-first.true))

pub returns-then-words-first-clause-firsts : goal.returns-then-words-first-clause-firsts
returns-then-words-first-clause-firsts c =
    firsts_taken c.args.words.now c.args.set c.args.firsts.now c.args.s c.requires.firsts c.in-Some.first
    (read_at c.args.firsts.now c.place_of-place.result (bit_and (get_or c.args.words.now c.args.s 0) c.args.set) (Some c.in-Some.first) c.told-firsts c.place_of-place.ensures c.in-Some.is)

pub returns-else-words-first-clause-firsts : goal.returns-else-words-first-clause-firsts
returns-else-words-first-clause-firsts c =
    firsts_taken c.args.words.now c.args.set c.args.firsts.now c.args.s c.requires.firsts c.in-Some.first
    (read_at c.args.firsts.now c.place_of-place.result (bit_and (get_or c.args.words.now c.args.s 0) c.args.set) (Some c.in-Some.first) c.told-firsts c.place_of-place.ensures c.in-Some.is)
