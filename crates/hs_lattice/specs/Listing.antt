-- Listings: all values with a property, or evidence that there are more than a limit.
use Rattle.std.specs.Prelude.{◌≡◌, ℕ, ◌+◌, ⊤, List, length, All, AllPairs, Contains}
use Rattle.hs_lattice.specs.declared.Listing.{Listing}
use Rattle.hs_lattice.specs.declared.Listing.TheVariants.{Whole, More}

-- exactly the values with the property, each once, in ascending order
pub record Lists {M : Type 0} (precedes : M → M → Type 0) (P : M → Type 0) (xs : List M) : Type 0 where
  pub ascending : AllPairs precedes xs
  pub members : All P xs
  pub complete : (z : M) → P z → Contains xs z

-- limit + 1 of the values with the property, each once, in ascending order
pub record Evidence {M : Type 0} (precedes : M → M → Type 0) (P : M → Type 0) (limit : ℕ) (xs : List M) : Type 0 where
  pub ascending : AllPairs precedes xs
  pub members : All P xs
  pub more : length xs ≡ limit + 1

-- the items of a listing
abbrev pub items_of : {T : Type 0} → Listing T → List T
items_of (Whole xs) = xs
items_of (More xs) = xs

-- a property of the items, asked if the listing is whole
abbrev pub IfWhole : {T : Type 0} → Listing T → (List T → Type 0) → Type 0
IfWhole (Whole xs) P = P xs
IfWhole (More xs) P = ⊤

-- a property of the items, asked if there are more than the limit
abbrev pub IfMore : {T : Type 0} → Listing T → (List T → Type 0) → Type 0
IfMore (Whole xs) P = ⊤
IfMore (More xs) P = P xs
