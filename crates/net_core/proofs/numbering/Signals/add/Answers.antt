use Rattle.std.proofs.Common.{◌≡◌, ◌∙◌, subst, List, ℕ, slice_get, Some}
use Rattle.net_core.specs.Causes.{AreOnce}
use Rattle.net_core.proofs.Numbered.{first_again, stands_at}
use Rattle.net_core.proofs.numbering.Signals.add.Goals as goal

pub returns-in_ok-name-in-Some-clause-err : goal.returns-in_ok-name-in-Some-clause-err
returns-in_ok-name-in-Some-clause-err c =
    first_again c.args.self.now c.args.name.now c.in_ok-name-in-Some.name (c.in_ok-name-in-Some.ensures ∙ c.bytes-in-Some.ensures)
    (subst AreOnce c.self.view_is c.self.invariant.0)
    (stands_at c.args.self.now c.in-Some.field-0 c.args.name.now
    (subst (λ (name : List ℕ). slice_get c.args.self.now c.in-Some.field-0 ≡ Some name) c.bytes.ensures c.in-Some.ensures.some))
