use Rattle.std.proofs.Common.{Some, sym, ap, ◌∙◌}
use Rattle.hs_io.proofs.Lookups.{lookup-none, lookup-some}
use Rattle.hs_io.proofs.memory_shelf.held_bytes.Goals as goal

pub returns-in-Some : goal.returns-in-Some
returns-in-Some c =
    ap Some c.as_slice.ensures ∙ sym (lookup-some _ _ _ c.in-Some.ensures c.index-texts-place.result)

pub returns-in-None : goal.returns-in-None
returns-in-None c = sym (lookup-none _ _ c.in-None.ensures)
