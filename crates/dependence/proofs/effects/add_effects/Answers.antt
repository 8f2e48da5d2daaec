use Rattle.std.proofs.Common.{◌≡◌, ◌<◌, All, IfSome, List, length, sym, subst}
use Rattle.std.proofs.lemmas.List.Sorted.{All-permutation}
use Rattle.kiss_file.specs.declared.file.KissRow.{KissRow}
use Rattle.machine_table.specs.Pieces.{IsRightRow}
use Rattle.dependence.specs.Inner.Effects.{Adds, ShowAcross}
use Rattle.dependence.proofs.Gathered.{nexts_within, said_reordered, state_added, widths_of}
use Rattle.dependence.proofs.effects.add_effects.Goals as goal

pub add_within-requires-clause-next : goal.add_within-requires-clause-next
add_within-requires-clause-next c =
    subst (λ (rows : List KissRow). All (λ row. IfSome row.to (λ t. t < length c.args.words.now)) rows) (sym c.as_slice.ensures.value)
    (nexts_within c.args.m.now c.args.s c.sort_by_key.new.self.items (length c.args.words.now) c.requires.words
    (All-permutation (IsRightRow c.args.m.now c.args.s) c.in_ok-rows.rows.items c.sort_by_key.new.self.items c.sort_by_key.ensures.permutation c.in_ok-rows.ensures.right))

pub add_within-requires-clause-inputs : goal.add_within-requires-clause-inputs
add_within-requires-clause-inputs c =
    subst (λ (rows : List KissRow). All (λ row. row.cube.width ≡ length c.args.effects.now) rows) (sym c.as_slice.ensures.value)
    (widths_of c.args.m.now c.args.s c.sort_by_key.new.self.items (length c.args.effects.now) c.requires.size
    (All-permutation (IsRightRow c.args.m.now c.args.s) c.in_ok-rows.rows.items c.sort_by_key.new.self.items c.sort_by_key.ensures.permutation c.in_ok-rows.ensures.right))

pub returns : goal.returns
returns c =
    let added : Adds c.args.effects.now c.add_within.new.effects (ShowAcross (length c.args.effects.now) c.args.words.now c.sort_by_key.new.self.items c.sort_by_key.new.self.items) =
    subst (λ (rows : List KissRow). Adds c.args.effects.now c.add_within.new.effects (ShowAcross (length c.args.effects.now) c.args.words.now rows rows)) c.as_slice.ensures.value c.add_within.ensures in
    state_added c.args.m.now c.args.words.now c.args.effects.now c.add_within.new.effects c.args.s c.sort_by_key.new.self.items c.requires.size
    (λ x part below counted. said_reordered c.in_ok-rows.rows.items c.sort_by_key.new.self.items c.sort_by_key.ensures.permutation x part (c.in_ok-rows.ensures.each x part below counted))
    (All-permutation (IsRightRow c.args.m.now c.args.s) c.in_ok-rows.rows.items c.sort_by_key.new.self.items c.sort_by_key.ensures.permutation c.in_ok-rows.ensures.right)
    added
