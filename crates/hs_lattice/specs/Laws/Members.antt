-- Items that stand for themselves: a value is known where it stands in the list.
use Rattle.std.proofs.Common.{◌≡◌, ℕ, ◌+◌, ◌<◌, ◌↔◌, inl, inr, All, AllPairs, Contains, List, get_or, length, take, refl, sym, subst, arith}
use Rattle.std.proofs.lemmas.List.{get_or-take, length-take-le}
use Rattle.std.proofs.lemmas.List.Elements.{All-contains, All-take, Contains-get_or}
use Rattle.hs_lattice.specs.Collection.{Adds, Knows}
use Rattle.hs_lattice.specs.Listing.{Evidence}

pub known_contained : {X : Type 0} (items : List X) (z : X) → Knows (λ x. x) items z → Contains items z
known_contained items z (k, x, within, read, same) = subst (Contains items) same (k, within, read)

pub contained_known : {X : Type 0} (items : List X) (z : X) → Contains items z → Knows (λ x. x) items z
contained_known items z (k, within, read) = (k, z, within, read, refl)

-- what each item and one more value have, each item has where the value is added
pub All-added : {X : Type 0} (P : X → Type 0) (items : List X) (value : X) (new_items : List X) → Adds (λ x. x) items value new_items → All P items → P value → All P new_items
All-added P items value new_items adds all here k d within =
    elim (adds.only (get_or new_items k d) (contained_known new_items (get_or new_items k d) (Contains-get_or new_items k d within))) [
      | inl old ↦ All-contains P items (get_or new_items k d) all (known_contained items (get_or new_items k d) old)
      | inr same ↦ subst P same here
    ]

-- what stood in the list stays there, and the value is there
pub Contains-added : {X : Type 0} (items : List X) (value : X) (new_items : List X) (z : X) → Adds (λ x. x) items value new_items → Contains items z → Contains new_items z
Contains-added items value new_items z adds among = known_contained new_items z (adds.kept z (contained_known items z among))

pub Contains-value : {X : Type 0} (items : List X) (value : X) (new_items : List X) → Adds (λ x. x) items value new_items → Contains new_items value
Contains-value items value new_items adds = known_contained new_items value adds.added

-- lists of the same values
pub All-same : {X : Type 0} (P : X → Type 0) (items others : List X) → ((z : X) → Knows (λ x. x) others z ↔ Knows (λ x. x) items z) → All P items → All P others
All-same P items others same all k d within =
    All-contains P items (get_or others k d) all
    (known_contained items (get_or others k d) ((same (get_or others k d)).0 (contained_known others (get_or others k d) (Contains-get_or others k d within))))

pub Contains-same : {X : Type 0} (items others : List X) (z : X) → ((z : X) → Knows (λ x. x) others z ↔ Knows (λ x. x) items z) → Contains items z → Contains others z
Contains-same items others z same among = known_contained others z ((same z).1 (contained_known items z among))

-- of more values than the limit, the first limit + 1
pub first_evident : {M : Type 0} (precedes : M → M → Type 0) (P : M → Type 0) (limit : ℕ) (found : List M) → AllPairs precedes found → All P found → limit < length found → Evidence precedes P limit (take (limit + 1) found)
first_evident {M} precedes P limit found ascending all more =
    let size : length (take (limit + 1) found) ≡ limit + 1 = length-take-le (limit + 1) found (omega arith) in
    record {
      ascending = λ i j d order within.
          subst (λ (x : M). precedes x (get_or (take (limit + 1) found) j d)) (sym (get_or-take (limit + 1) found i d (omega arith)))
          (subst (λ (x : M). precedes (get_or found i d) x) (sym (get_or-take (limit + 1) found j d (omega arith))) (ascending i j d order (omega arith)));
      members = All-take P (limit + 1) found all;
      more = size;
    }
