use Rattle.std.proofs.Common.{◌≡◌, ℕ, List, [], length, get_or, take, ap, ◌∙◌, arith, length-append}
use Rattle.std.proofs.lemmas.List.{get_or_read}
use Rattle.partition.specs.Partition.{blocks_of}
use Rattle.state_codes.specs.Code.{need, places_of, part_places}
use Rattle.state_codes.specs.Laws.Places.{places_of-take-more, length-part_places}
use Rattle.state_codes.proofs.encoder.length_of.Goals as goal

pub loop-j-preserved : goal.loop-j-preserved
loop-j-preserved c =
    let inner : List ℕ = get_or c.args.inners.now c.loop-j.j [] in
    let carrier : List ℕ = c.index-parts-j.result.carrier in
    let read : c.index-inners-j.result ≡ inner = get_or_read c.args.inners.now c.loop-j.j c.index-inners-j.result (omega arith) c.index-inners-j.is [] in
    let outer_bits : c.needed_bits.result ≡ need (blocks_of carrier) = c.needed_bits.ensures.need ∙ ap need c.blocks-in-loop-j.ensures in
    let inner_bits : c.needed_bits-in-loop-j.result ≡ need (blocks_of inner) = c.needed_bits-in-loop-j.ensures.need ∙ ap need c.blocks-in-loop-j-2.ensures ∙ ap (λ (labels : List ℕ). need (blocks_of labels)) read in
    record {
      few = omega arith;
      size = omega (arith, ap length (places_of-take-more c.args.parts.now c.args.inners.now c.loop-j.j c.index-parts-j.result (omega arith) c.requires.inners c.index-parts-j.is), length-append (places_of 0 (take c.loop-j.j c.args.parts.now) (take c.loop-j.j c.args.inners.now)) (part_places c.loop-j.j carrier inner), length-part_places c.loop-j.j carrier inner);
    }
