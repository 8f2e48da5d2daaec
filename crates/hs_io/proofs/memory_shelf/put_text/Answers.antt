use Rattle.std.proofs.Common.{Some, None, ap, ◌∙◌}
use Rattle.hs_io.specs.Inner.Places.{IsPlaceOf}
use Rattle.hs_io.proofs.Lookups.{written, added}
use Rattle.hs_io.proofs.memory_shelf.put_text.Goals as goal

pub returns-in-Some-clause-ok : goal.returns-in-Some-clause-ok
returns-in-Some-clause-ok c =
    let here : IsPlaceOf c.args.texts.now.items c.args.name.now (Some c.in-Some.place) = rw c.deref.ensures.value at c.in-Some.ensures in
    written _ _ _ _ _ _ _ here (ap (λ text. text.0) c.index_mut.ensures.value) (c.from-copy.ensures ∙ c.in_ok-from_slice.ensures.items)

pub returns-in_ok-push-in-None-clause-ok : goal.returns-in_ok-push-in-None-clause-ok
returns-in_ok-push-in-None-clause-ok c =
    let none : IsPlaceOf c.args.texts.now.items c.args.name.now None = rw c.deref.ensures.value at c.in-None.ensures in
    added _ _ _ _ _ _ none c.in_ok-push-in-None.ensures.items c.in_ok-name-in-None.ensures (c.from-copy.ensures ∙ c.in_ok-from_slice.ensures.items)
