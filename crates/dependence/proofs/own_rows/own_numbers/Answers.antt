use Rattle.std.proofs.Common.{◌≡◌, ◌==◌, List, ℕ, subst}
use Rattle.std.proofs.lemmas.List.Filters.{dedup_is}
use Rattle.std.specs.List.Sorted.{IsPermutation}
use Rattle.dependence.proofs.OwnRows.{numbers_sorted}
use Rattle.dependence.proofs.own_rows.own_numbers.Goals as goal

pub returns : goal.returns
returns c =
    let listed : List ℕ = c.numbers_of.result.now in
    let copied : c.in_ok-numbers.numbers.items ≡ listed = c.in_ok-numbers.ensures.items_if_clones_equal (λ y e same. same) in
    let sorted : List ℕ = c.sort_unstable.new.self.items in
    numbers_sorted c.args.m.now c.args.s listed sorted c.dedup.new.self.items c.numbers_of.ensures.own c.numbers_of.ensures.each
    (subst (λ (list : List ℕ). IsPermutation list sorted) copied c.sort_unstable.ensures.permutation) c.sort_unstable.ensures.sorted
    (dedup_is (λ a b. a == b) sorted c.dedup.new.self.items c.dedup.ensures.filtered)
