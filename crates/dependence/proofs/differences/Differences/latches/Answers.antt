use Rattle.std.proofs.Common.{◌↔◌, ℕ, List, Contains, Some, set, sym, subst, arith}
use Rattle.machine_table.specs.Pieces.{IsImage}
use Rattle.dependence.specs.Inner.Differences.{AreFound, DifferInPair, IsDifference}
use Rattle.dependence.specs.SufficientBits.{InWord}
use Rattle.dependence.proofs.Differing.{difference_from, found_more, image_inside}
use Rattle.dependence.proofs.differences.Differences.latches.Goals as goal

pub bits_apart-latches-requires : goal.bits_apart-latches-requires
bits_apart-latches-requires c = λ u v is.
    let image : IsImage c.args.m.now c.args.s c.args.t u v = (c.in_ok-images.ensures u v).0 (subst (λ (list : List (ℕ × ℕ)). Contains list (u, v)) c.as_slice.ensures.value is) in
    let inside = image_inside c.args.m.now c.keeps_its_states.ensures.next c.args.s c.args.t u v c.requires.s c.requires.t image in
    (omega (arith, inside.0, c.requires.words), omega (arith, inside.1, c.requires.words))

found_here : (c : goal.After-drop-images) → IsDifference c.args.m.now c.args.words.now c.args.s c.args.t c.bits_apart-latches.result
found_here c =
    difference_from c.args.m.now c.args.words.now c.args.s c.args.t c.bits_apart-latches.result c.in_ok-images.images.items c.in_ok-images.ensures
    (subst (λ (list : List (ℕ × ℕ)). (i : ℕ) → InWord c.bits_apart-latches.result i ↔ DifferInPair c.args.words.now list i) c.as_slice.ensures.value c.bits_apart-latches.ensures)

pub returns-clause-latches : goal.returns-clause-latches
returns-clause-latches c = found_here c

pub returns-clause-found : goal.returns-clause-found
returns-clause-found c =
    subst (λ (place : ℕ). AreFound c.args.m.now c.args.words.now (set c.args.self.now.found.items place (Some c.bits_apart-latches.result))) (sym c.place_of-place.ensures)
    (found_more c.args.m.now c.args.words.now c.args.self.now.found.items c.args.s c.args.t c.keeps_its_states.ensures.table.states c.requires.s c.requires.t c.requires.found c.bits_apart-latches.result (found_here c))
