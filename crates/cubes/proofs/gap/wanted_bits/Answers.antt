use Rattle.std.proofs.Common.{◌≡◌, ℕ, ◌+◌, get_or, bit_and, bit_or, inl, inr, ap, sym, ◌∙◌, subst, arith}
use Rattle.std.proofs.lemmas.Bool.{cases_lt}
use Rattle.std.proofs.lemmas.List.Elements.{at_read}
use Rattle.std.specs.Int.RustNames.{bit_xor}
use Rattle.cubes.specs.declared.cube.Cube.{Cube}
use Rattle.cubes.specs.Inner.Region.{looked_at}
use Rattle.cubes.proofs.Wanting.{Wants, open_more, wants_more, wants_now}
use Rattle.cubes.proofs.gap.wanted_bits.Invariants.{SoFar}
use Rattle.cubes.proofs.gap.wanted_bits.Goals as goal

-- one cube more
more : (cubes : ℕ → Cube → Cube) (region c : Cube) (count ones zeros looks : ℕ) → c.width ≡ region.width → looks ≡ looked_at region c
    → ((d : Cube) → Wants region (bit_or ones (bit_and (looked_at region c) c.value)) (bit_or zeros (bit_and (looked_at region c) (bit_xor (looked_at region c) c.value))) (cubes count d))
    → SoFar cubes region count ones zeros → SoFar cubes region (count + 1) (bit_or ones (bit_and looks c.value)) (bit_or zeros (bit_and looks (bit_xor looks c.value)))
more cubes region c count ones zeros looks widths are last before =
    subst (λ (n : ℕ). SoFar cubes region (count + 1) (bit_or ones (bit_and n c.value)) (bit_or zeros (bit_and n (bit_xor n c.value)))) (sym are)
    (record {
      ones_open = open_more region c widths c.value ones before.ones_open;
      zeros_open = open_more region c widths (bit_xor (looked_at region c) c.value) zeros before.zeros_open;
      each = λ i d lt.
          elim (cases_lt i count) [
            | inl earlier ↦
                wants_more region ones zeros (bit_and (looked_at region c) c.value) (bit_and (looked_at region c) (bit_xor (looked_at region c) c.value)) (cubes i d)
                (before.each i d earlier)
            | inr now ↦
                let same : count ≡ i = omega arith in
                subst
                (λ (j : ℕ). Wants region (bit_or ones (bit_and (looked_at region c) c.value)) (bit_or zeros (bit_and (looked_at region c) (bit_xor (looked_at region c) c.value))) (cubes j d))
                same (last d)
          ];
    })

pub loop-cube-preserved : goal.loop-cube-preserved
loop-cube-preserved c =
    let widths : c.cube-item.result.width ≡ c.args.region.now.width =
    ap (λ (x : Cube). x.width) c.cube-item.is ∙ c.requires c.loop-cube.cube-index c.cube-item.result c.loop-cube-test.true in
    more (get_or c.args.cubes.now) c.args.region.now c.cube-item.result c.loop-cube.cube-index c.loop-cube.ones c.loop-cube.zeros c.looks-looks.result widths
    c.looks-looks.ensures
    (at_read c.args.cubes.now
    (Wants c.args.region.now (bit_or c.loop-cube.ones (bit_and (looked_at c.args.region.now c.cube-item.result) c.cube-item.result.value))
    (bit_or c.loop-cube.zeros
    (bit_and (looked_at c.args.region.now c.cube-item.result) (bit_xor (looked_at c.args.region.now c.cube-item.result) c.cube-item.result.value))))
    c.loop-cube.cube-index c.cube-item.result c.loop-cube-test.true c.cube-item.is (wants_now c.args.region.now c.cube-item.result c.loop-cube.ones c.loop-cube.zeros))
    c.loop-cube.invariant
