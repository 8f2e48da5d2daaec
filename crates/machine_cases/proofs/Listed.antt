-- What the values of a whole listing have, its items have.
use Rattle.std.proofs.Common.{All, map}
use Rattle.list_facts.specs.Laws.Everywhere.{all_from_map}
use Rattle.hs_lattice.specs.declared.Listing.{Listing}
use Rattle.hs_lattice.specs.declared.Listing.TheVariants.{Whole, More}
use Rattle.hs_lattice.specs.Listing.{IfWhole, Lists}

pub whole_has :
    {X Y : Type 0} (precedes : Y → Y → Type 0) (P : Y → Type 0) (f : X → Y) (listing : Listing X) →
    IfWhole listing (λ items. Lists precedes P (map f items)) → IfWhole listing (All (λ x. P (f x)))
whole_has precedes P f (Whole xs) lists = all_from_map P f xs lists.members
whole_has precedes P f (More xs) none = none
