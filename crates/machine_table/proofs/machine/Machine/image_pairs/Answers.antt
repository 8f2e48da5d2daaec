use Rattle.std.proofs.Common.{ℕ, ◌↔◌, Contains, IfOk, false, subst}
use Rattle.std.proofs.lemmas.Result.{IfOk-weaker}
use Rattle.kiss_file.specs.declared.file.KissFile.{KissFile}
use Rattle.state_pairs.specs.Pairs.{IsImage}
use Rattle.state_pairs.specs.AddedPairs.{AreNamedAtPlaces, to_of}
use Rattle.state_pairs.specs.AlignedRows.{AreAligned}
use Rattle.state_pairs.specs.RowLabels.{AllSay}
use Rattle.state_pairs.specs.Laws.NamedPairs.{image_is_named, named_by_places, one_next}
use Rattle.machine_table.proofs.machine.Machine.image_pairs.Goals as goal

pub returns : goal.returns
returns c =
    let F = c.args.self.now in
    let s = c.args.s in
    let t = c.args.t in
    let first = c.in-Some.rows.first.now in
    let second = c.in-Some.rows.second.now in
    let known = c.is_complete-complete.ensures in
    let aligned = subst (λ (G : KissFile). AreAligned G s t first second to_of false) c.self.view_is c.in-Some.ensures.aligned in
    let says = subst (λ (G : KissFile). AllSay to_of G.rows second) c.self.view_is (c.all_say.ensures c.if-all_say.true) in
    IfOk-weaker c.pairs_by_places.result (λ pairs. (u v : ℕ) → Contains pairs.items (u, v) ↔ AreNamedAtPlaces F.rows first second u v)
    (λ pairs. (u v : ℕ) → Contains pairs.items (u, v) ↔ IsImage F s t u v)
    (λ pairs listed u v.
    let named = named_by_places F known.table (one_next F known.no_conflict) s t first second aligned says u v in
    let image = image_is_named F known.table known.no_conflict s t u v (known.specified c.if-complete.true) c.requires.s c.requires.t in
    (λ among. image.0 (named.0 ((listed u v).0 among)), λ is. (listed u v).1 (named.1 (image.1 is))))
    (subst (λ (G : KissFile). IfOk c.pairs_by_places.result (λ pairs. (u v : ℕ) → Contains pairs.items (u, v) ↔ AreNamedAtPlaces G.rows first second u v))
    c.self.view_is c.pairs_by_places.ensures)

pub returns-2 : goal.returns-2
returns-2 c = c.images.ensures.listed
