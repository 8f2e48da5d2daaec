use Rattle.std.proofs.Common.{List, ℕ, ◌∙◌, ap, not}
use Rattle.std.specs.List.{list_any}
use Rattle.realise.specs.Inner.FreeNames.{is_given}
use Rattle.realise.proofs.Free.{test_is}
use Rattle.realise.proofs.own_names.are_free.Goals as goal

pub returns : goal.returns
returns c =
    ap not (c.has_given.ensures ∙ ap (λ (names : List (List ℕ)). list_any (is_given c.args.file.now) names) c.as_slice.ensures)
    ∙ test_is c.args.file.now c.args.latches c.args.count c.in_ok-used.used c.in_ok-used.ensures
