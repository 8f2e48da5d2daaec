use Rattle.std.proofs.Common.{◌≡◌, ◌<◌, ◌-◌, ◌^◌, length, vec_len, refl, sym, subst, rules}
use Rattle.std.specs.Int.{leading_zeros, w128}
use Rattle.std.proofs.Math.Nat.{lt_of_le_of_lt}
use Rattle.std.proofs.lemmas.Nat.{and_le_l}
use Rattle.cover_terms.specs.Laws.Bits.{below_width, highest_one}
use Rattle.cover_logic.proofs.Groups.{taken}
use Rattle.cover_logic.proofs.waiting_terms.Group.take_last.Goals as goal

pub index-requires : goal.index-requires
index-requires c =
    let live = c.args.self.now.live in
    let fits : live < 2 ^ 128 = search rules in
    let size : vec_len c.args.self.now.bundle.entries ≡ length c.args.self.now.bundle.entries.items = search rules in
    subst (λ n. 127 - leading_zeros w128 live < n) (sym size)
    (below_width (length c.args.self.now.bundle.entries.items) live (127 - leading_zeros w128 live) c.args.self.now.among (highest_one live c.requires fits).1)

pub returns : goal.returns
returns c =
    let live = c.args.self.now.live in
    let fits : live < 2 ^ 128 = search rules in
    let one = (highest_one live c.requires fits).1 in
    taken c.args.self.now _ (127 - leading_zeros w128 live) c.index.result.now refl refl c.args.self.now.bundle.told.by_column.few
    (below_width (length c.args.self.now.bundle.entries.items) live (127 - leading_zeros w128 live) c.args.self.now.among one) c.index.ensures one

pub invariant_of-self : goal.invariant_of-self
invariant_of-self c = record { among = lt_of_le_of_lt (and_le_l c.args.self.now.live _) c.args.self.now.among }

pub overflow_sub-place : goal.overflow_sub-place
overflow_sub-place c = let fits : c.args.self.now.live < 2 ^ 128 = search rules in (highest_one c.args.self.now.live c.requires fits).0
