use Rattle.std.proofs.Common.{ℕ, Contains, List, ◌↔◌, sym, subst}
use Rattle.state_pairs.specs.Pairs.{IsImage}
use Rattle.state_pairs.specs.AddedPairs.{AddsPairs}
use Rattle.state_pairs.specs.Laws.AddedPairs.{listed_alone}
use Rattle.machine_table.proofs.machine.Machine.images.Goals as goal

pub returns-clause-listed : goal.returns-clause-listed
returns-clause-listed c u v =
    let Image = IsImage c.args.self.now c.args.s c.args.t in
    let pairs = c.add_images.new.pairs.pairs in
    subst (λ (list : List (ℕ × ℕ)). Contains list (u, v) ↔ Image u v) (sym c.into_pairs.ensures.pairs)
    (listed_alone Image pairs (subst (λ (list : List (ℕ × ℕ)). AddsPairs Image list pairs) c.in_ok-images.ensures.pairs c.in_ok-add_images.ensures.pairs) u v)
