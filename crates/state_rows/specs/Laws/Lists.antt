-- The list that was read at a state.
use Rattle.std.proofs.Common.{◌≡◌, ℕ, ◌<◌, List, [], length, get_or, ap, ◌∙◌}
use Rattle.std.proofs.lemmas.List.{get_or_default}
use Rattle.state_rows.specs.declared.bundles.RowBundle.{RowBundle}
use Rattle.state_rows.specs.Bundles.{bundles_of}
use Rattle.state_rows.specs.Places.{places_of}

pub list_at : (places : List (List ℕ)) (state at : ℕ) (list read : List ℕ) → state < length places → at ≡ state → list ≡ get_or places at list → read ≡ list
    → read ≡ places_of places state
list_at places state at list read inside same is given =
    given ∙ is ∙ ap (λ (s : ℕ). get_or places s list) same ∙ get_or_default places state list [] inside

pub bundles_at : (bundles : List (List RowBundle)) (state at : ℕ) (list read : List RowBundle) → state < length bundles → at ≡ state → list ≡ get_or bundles at list → read ≡ list
    → read ≡ bundles_of bundles state
bundles_at bundles state at list read inside same is given =
    given ∙ is ∙ ap (λ (s : ℕ). get_or bundles s list) same ∙ get_or_default bundles state list [] inside
