use Rattle.std.proofs.Common.{Some, length, refl, sym, ap, ◌∙◌}
use Rattle.std.proofs.lemmas.Option.{slice_get_read}
use Rattle.cover_split.proofs.joint.joints_at.Goals as goal

pub returns : goal.returns
returns c =
    slice_get_read c.args.lists.now (length c.args.lists.now) c.args.j c.index-lists-j.result refl c.requires c.index-lists-j.is ∙ ap Some (sym c.as_slice.ensures)
