use Rattle.std.proofs.Common.{◌↔◌, ◌+◌, ℕ, get_or, take, sym, subst, arith, bit_or}
use Rattle.std.proofs.lemmas.List.Elements.{Contains-get_or}
use Rattle.std.specs.Int.RustNames.{bit_xor}
use Rattle.dependence.specs.Inner.Differences.{DifferInPair}
use Rattle.dependence.specs.SufficientBits.{InWord}
use Rattle.dependence.proofs.Differing.{pair_more}
use Rattle.dependence.proofs.differences.bits_apart.Goals as goal

pub bounds-words-from : goal.bounds-words-from
bounds-words-from c =
    let pair : ℕ × ℕ = get_or c.args.pairs.now c.loop-u.u-index (0, 0) in
    let inside = c.requires pair.0 pair.1 (Contains-get_or c.args.pairs.now c.loop-u.u-index (0, 0) c.loop-u-test.true) in
    omega (arith, inside.0, c.from.ensures)

pub bounds-words-from-in-loop-u : goal.bounds-words-from-in-loop-u
bounds-words-from-in-loop-u c =
    let pair : ℕ × ℕ = get_or c.args.pairs.now c.loop-u.u-index (0, 0) in
    let inside = c.requires pair.0 pair.1 (Contains-get_or c.args.pairs.now c.loop-u.u-index (0, 0) c.loop-u-test.true) in
    omega (arith, inside.1, c.from-in-loop-u.ensures)

pub loop-u-preserved : goal.loop-u-preserved
loop-u-preserved c = λ i.
    subst (λ (u : ℕ). InWord (bit_or c.loop-u.apart (bit_xor (get_or c.args.words.now u 0) (get_or c.args.words.now c.from-in-loop-u.result 0))) i ↔ DifferInPair c.args.words.now (take (c.loop-u.u-index + 1) c.args.pairs.now) i) (sym c.from.ensures)
    (subst (λ (v : ℕ). InWord (bit_or c.loop-u.apart (bit_xor (get_or c.args.words.now (get_or c.args.pairs.now c.loop-u.u-index (0, 0)).0 0) (get_or c.args.words.now v 0))) i ↔ DifferInPair c.args.words.now (take (c.loop-u.u-index + 1) c.args.pairs.now) i) (sym c.from-in-loop-u.ensures)
    (pair_more c.args.words.now c.args.pairs.now c.loop-u.u-index c.loop-u.apart i c.loop-u-test.true (c.loop-u.invariant i)))
