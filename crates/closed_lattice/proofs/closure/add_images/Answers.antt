use Rattle.std.proofs.Common.{ℕ, ◌++◌, Contains, List}
use Rattle.std.proofs.lemmas.List.Elements.{Contains-append_right}
use Rattle.machine_table.specs.Pieces.{IsImage}
use Rattle.closed_lattice.specs.Inner.WaitingPairs.{AreTogether}
use Rattle.closed_lattice.proofs.Growing.{image_inside}
use Rattle.closed_lattice.proofs.Joining.{joins_weaker}
use Rattle.closed_lattice.proofs.Waiting.{adds_images}
use Rattle.closed_lattice.proofs.closure.add_images.Goals as goal

pub join_known-requires-clause-states : goal.join_known-requires-clause-states
join_known-requires-clause-states c u v among =
    let listed : (u v : ℕ) → (Contains {X = ℕ × ℕ} c.as_slice-pairs.result.now (u, v) → IsImage c.args.m.now c.args.s c.args.t u v) × (IsImage c.args.m.now c.args.s c.args.t u v → Contains {X = ℕ × ℕ} c.as_slice-pairs.result.now (u, v)) =
    rw c.as_slice-pairs.ensures.value c.in_ok-images.ensures in
    image_inside c.args.m.now c.requires.stays c.args.s c.args.t u v c.requires.s c.requires.t ((listed u v).0 among)

pub returns-clause-added : goal.returns-clause-added
returns-clause-added c =
    rw c.in_ok-extend_from_slice.ensures.items
    (adds_images c.args.m.now c.args.s c.args.t c.args.waiting.now.items c.as_slice-pairs.result.now
    (rw c.as_slice-pairs.ensures.value c.in_ok-images.ensures))

pub returns-clause-joined : goal.returns-clause-joined
returns-clause-joined c =
    let old : List (ℕ × ℕ) = c.args.waiting.now.items in
    let pairs : List (ℕ × ℕ) = c.as_slice-pairs.result.now in
    rw c.in_ok-extend_from_slice.ensures.items
    (joins_weaker c.args.m.now (λ q. AreTogether q (old ++ pairs)) (λ q. AreTogether q pairs) c.args.p.now c.join_known.new.p
    (λ q held u v among. held u v (Contains-append_right old pairs (u, v) among)) c.in_ok-join_known.ensures)
