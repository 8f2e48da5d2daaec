use Rattle.std.proofs.Common.{refl, sym, ◌∙◌, arith}
use Rattle.std.proofs.lemmas.Bool.{false≢true, true≢false}
use Rattle.closed_lattice.proofs.Sifting.{least_so_far, not_least, still_least}
use Rattle.closed_lattice.proofs.listing.is_least.Goals as goal

pub returns-then-blocks : goal.returns-then-blocks
returns-then-blocks c = (
  (λ _. least_so_far c.args.found.now c.args.p.now c.q-item.result c.loop-q.q-index c.requires.lawful c.requires.found c.requires.ascending c.loop-q-test.true c.q-item.is
      (omega (arith, c.if-blocks.true, c.blocks-in-loop-q.ensures, c.blocks-in-loop-q-2.ensures)) c.loop-q.invariant),
  (λ _. refl),
)

pub returns-then-le : goal.returns-then-le
returns-then-le c = (
  (λ is. absurd (false≢true is)),
  (λ least. absurd (not_least c.args.found.now c.args.p.now c.q-item.result c.loop-q.q-index c.requires.lawful c.requires.found c.loop-q-test.true c.q-item.is
      (omega (arith, c.if-blocks.false, c.blocks-in-loop-q.ensures, c.blocks-in-loop-q-2.ensures)) (c.le.ensures.0 c.if-le.true) least)),
)

pub loop-q-preserved : goal.loop-q-preserved
loop-q-preserved c =
    still_least c.args.found.now c.args.p.now c.q-item.result c.loop-q.q-index c.loop-q-test.true c.q-item.is
    (λ below. true≢false (sym (c.le.ensures.1 below) ∙ c.if-le.false)) c.loop-q.invariant
