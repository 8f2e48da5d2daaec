use Rattle.std.proofs.Common.{◌⊎◌, OnOk, length, subst, sym}
use Rattle.kiss_file.specs.declared.file.KissFile.{KissFile}
use Rattle.partition.specs.Partition.{IsPartition}
use Rattle.partition.specs.Laws.Labels.{IsPartition-of}
use Rattle.state_pairs.specs.Pairs.{IsImage}
use Rattle.state_pairs.specs.AddedPairs.{AreNamed, IsOpenImage}
use Rattle.state_pairs.specs.MergedStates.{MergesPairs}
use Rattle.state_pairs.specs.SeenPairs.{AreStates}
use Rattle.state_pairs.specs.Laws.AddedPairs.{on_ok}
use Rattle.state_pairs.specs.Laws.MergedPairs.{merges_as, merges_then, open_are_states}
use Rattle.state_pairs.specs.Laws.NamedPairs.{image_is, image_is_named}
use Rattle.machine_table.proofs.machine.Machine.merge_images.Goals as goal

pub returns-then-complete : goal.returns-then-complete
returns-then-complete c =
    let F = c.args.self.now in
    let s = c.args.s in
    let t = c.args.t in
    let known = c.is_complete-complete.ensures in
    merges_as (AreNamed F s t) (IsImage F s t) c.args.part.now c.merge_named.new.part
    (λ u v. image_is_named F known.table known.no_conflict s t u v (known.specified c.if-complete.true) c.requires.s c.requires.t)
    (subst (λ (G : KissFile). MergesPairs (AreNamed G s t) c.args.part.now c.merge_named.new.part) c.self.view_is c.in_ok-merge_named.ensures)

pub merge_open-requires-clause-inside : goal.merge_open-requires-clause-inside
merge_open-requires-clause-inside c =
    let known = c.is_complete-complete.ensures in
    subst (λ (G : KissFile). AreStates (length G.states) (IsOpenImage G c.args.s c.args.t)) (sym c.self.view_is)
    (open_are_states c.args.self.now known.table known.no_conflict c.args.s c.args.t c.requires.s c.requires.t)

pub merge_open-requires-clause-lawful : goal.merge_open-requires-clause-lawful
merge_open-requires-clause-lawful c =
    subst (λ (G : KissFile). IsPartition (length G.states) c.merge_named.new.part) (sym c.self.view_is)
    (IsPartition-of c.requires.lawful.length c.in_ok-merge_named.ensures.lawful)

pub returns : goal.returns
returns c =
    let F = c.args.self.now in
    let s = c.args.s in
    let t = c.args.t in
    let known = c.is_complete-complete.ensures in
    let old = c.args.part.now in
    let some = c.merge_named.new.part in
    let all = c.merge_open.new.part in
    on_ok c.merge_open.result (MergesPairs (IsOpenImage F s t) some all) (MergesPairs (IsImage F s t) old all)
    (λ last.
    merges_as (λ u v. AreNamed F s t u v ⊎ IsOpenImage F s t u v) (IsImage F s t) old all (image_is F known.table known.no_conflict s t)
    (merges_then (AreNamed F s t) (IsOpenImage F s t) old some all (subst (λ (G : KissFile). MergesPairs (AreNamed G s t) old some) c.self.view_is c.in_ok-merge_named.ensures) last))
    (subst (λ (G : KissFile). OnOk c.merge_open.result (MergesPairs (IsOpenImage G s t) some all)) c.self.view_is c.merge_open.ensures)
