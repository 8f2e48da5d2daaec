use Rattle.std.proofs.Common.{◌≡◌, ◌+◌, ◌<◌, min, All, Bool, List, ℕ, length, length-drop, length-set, set, take, take_all, drop, sym, ◌∙◌, ap, subst, arith}
use Rattle.std.proofs.lemmas.List.Elements.{All-drop, All-take}
use Rattle.cubes.specs.Symbol.{number_of}
use Rattle.net_sim.specs.Inner.GateValues.{bits_at}
use Rattle.net_sim.specs.Inner.Pieces.{AreNumbersOf, HaveNumbered}
use Rattle.net_sim.proofs.FormValues.{count_bits}
use Rattle.net_sim.proofs.WideRows.{bits_dropped, bits_taken, drop_least, numbered_done, numbered_more, take_least, taken_set}
use Rattle.net_sim.proofs.pieces.number_pieces.Goals as goal

pub number_at-requires-clause-within : goal.number_at-requires-clause-within
number_at-requires-clause-within c =
    subst (All (λ s. s < length c.args.signals.now)) (sym c.split_at.ensures.front)
    (All-take (λ s. s < length c.args.signals.now) c.min.result c.loop-place.rest.now c.loop-place.invariant.within)

pub loop-place-preserved : goal.loop-place-preserved
loop-place-preserved c =
    let rest = c.loop-place.rest.now in
    let signals = c.args.signals.now in
    let numbers = c.loop-place.numbers in
    let place = c.loop-place.place in
    let number = c.number_at.result in
    let size : c.min.result ≡ min (length rest) 32 = c.min.ensures in
    let piece_is : c.split_at.result.0.now ≡ take 32 rest = c.split_at.ensures.front ∙ (ap (λ k. take k rest) size ∙ take_least rest) in
    let more_is : c.split_at.result.1.now ≡ drop 32 rest = c.split_at.ensures.back ∙ (ap (λ k. drop k rest) size ∙ drop_least rest) in
    let is : number ≡ number_of (take 32 (bits_at signals rest)) =
    c.number_at.ensures ∙ (ap (λ (list : List ℕ). number_of (bits_at signals list)) piece_is ∙ ap number_of (bits_taken signals rest)) in
    let bits_are : bits_at signals c.split_at.result.1.now ≡ drop 32 (bits_at signals rest) = ap (bits_at signals) more_is ∙ bits_dropped signals rest in
    record {
      few = omega (arith, c.loop-place.invariant.few, length-set numbers place number);
      left = omega (arith, c.loop-place.invariant.left, ap (λ (list : List ℕ). length list) more_is, length-drop 32 rest);
      within = subst (All (λ s. s < length signals)) (sym more_is) (All-drop (λ s. s < length signals) 32 rest c.loop-place.invariant.within);
      numbered = subst (λ (bits : List Bool). HaveNumbered (bits_at signals c.args.inputs.now) bits (take (place + 1) (set numbers place number))) (sym bits_are)
          (subst (HaveNumbered (bits_at signals c.args.inputs.now) (drop 32 (bits_at signals rest))) (sym (taken_set numbers place number (omega (arith, c.loop-place-test.true))))
          (numbered_more (bits_at signals c.args.inputs.now) (bits_at signals rest) (take place numbers) number c.loop-place.invariant.numbered is));
    }

pub returns : goal.returns
returns c =
    let signals = c.args.signals.now in
    let rest = c.loop-place.rest.now in
    let place = c.loop-place.place in
    let none : length (bits_at signals rest) ≡ 0 = omega (arith, count_bits signals rest, c.loop-place.invariant.left, c.loop-place.invariant.few, c.loop-place-test.false) in
    subst (AreNumbersOf (bits_at signals c.args.inputs.now)) (take_all place c.loop-place.numbers (omega (arith, c.loop-place-test.false)))
    (numbered_done (bits_at signals c.args.inputs.now) (bits_at signals rest) (take place c.loop-place.numbers) c.loop-place.invariant.numbered none)
