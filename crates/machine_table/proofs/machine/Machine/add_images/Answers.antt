use Rattle.std.proofs.Common.{◌⊎◌, OnOk, subst}
use Rattle.kiss_file.specs.declared.file.KissFile.{KissFile}
use Rattle.state_pairs.specs.Pairs.{IsImage}
use Rattle.state_pairs.specs.AddedPairs.{AddsPairs, AreNamed, IsOpenImage}
use Rattle.state_pairs.specs.Laws.AddedPairs.{adds_as, adds_then, on_ok}
use Rattle.state_pairs.specs.Laws.NamedPairs.{image_is, image_is_named}
use Rattle.machine_table.proofs.machine.Machine.add_images.Goals as goal

pub returns-then-complete-clause-pairs : goal.returns-then-complete-clause-pairs
returns-then-complete-clause-pairs c =
    let F = c.args.self.now in
    let s = c.args.s in
    let t = c.args.t in
    let known = c.is_complete-complete.ensures in
    adds_as (AreNamed F s t) (IsImage F s t) c.args.pairs.now.pairs c.add_named.new.pairs.pairs
    (λ u v. image_is_named F known.table known.no_conflict s t u v (known.specified c.if-complete.true) c.requires.s c.requires.t)
    (subst (λ (G : KissFile). AddsPairs (AreNamed G s t) c.args.pairs.now.pairs c.add_named.new.pairs.pairs) c.self.view_is c.in_ok-add_named.ensures.pairs)

pub returns-clause-pairs : goal.returns-clause-pairs
returns-clause-pairs c =
    let F = c.args.self.now in
    let s = c.args.s in
    let t = c.args.t in
    let known = c.is_complete-complete.ensures in
    let old = c.args.pairs.now.pairs in
    let some = c.add_named.new.pairs.pairs in
    let all = c.add_open.new.pairs.pairs in
    on_ok c.add_open.result (AddsPairs (IsOpenImage F s t) some all) (AddsPairs (IsImage F s t) old all)
    (λ last.
    adds_as (λ u v. AreNamed F s t u v ⊎ IsOpenImage F s t u v) (IsImage F s t) old all (image_is F known.table known.no_conflict s t)
    (adds_then (AreNamed F s t) (IsOpenImage F s t) old some all (subst (λ (G : KissFile). AddsPairs (AreNamed G s t) old some) c.self.view_is c.in_ok-add_named.ensures.pairs) last))
    (subst (λ (G : KissFile). OnOk c.add_open.result (AddsPairs (IsOpenImage G s t) some all)) c.self.view_is c.add_open.ensures.pairs)
