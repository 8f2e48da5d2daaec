use Rattle.std.proofs.Common.{◌≡◌, sym, ◌∙◌, subst, List, ℕ, slice_get, Some, Contains}
use Rattle.std.proofs.lemmas.Bool.{false≢true}
use Rattle.hs_io.specs.Laws.Known.{found_at, found_from_contained}
use Rattle.kiss_file.proofs.state_names.StateNames.number.Goals as goal

pub returns-in-Some-clause-some : goal.returns-in-Some-clause-some
returns-in-Some-clause-some c =
    subst (λ (names : List (List ℕ)). slice_get names c.in-Some.number ≡ Some c.args.name.now) c.self.view_is
    (found_at (λ v. v.items) c.args.name.now c.self.inside.names.keys c.in-Some.number (sym c.get_index_of.ensures.index ∙ c.in-Some.is))

pub returns-in-None-clause-none : goal.returns-in-None-clause-none
returns-in-None-clause-none c h =
    let there = found_from_contained (λ v. v.items) c.args.name.now c.self.inside.names.keys
    (subst (λ (names : List (List ℕ)). Contains names c.args.name.now) (sym c.self.view_is) h) in
    false≢true (c.in-None.ensures.found ∙ there)
