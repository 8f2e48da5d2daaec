-- What follows from the definitions alone.
pub mod Insert
pub mod Members
pub mod Outcomes
use Rattle.std.specs.Prelude.{List, [], ◌∷◌, All, Contains, refl}
use Rattle.std.specs.List.{AllByRecursion}
use Rattle.std.proofs.Common.{subst, sym}
use Rattle.std.proofs.Math.Nat.{not-suc-le-zero}
use Rattle.hs_lattice.specs.Collection.{AreDifferent, IsCollection, IsEmpty, ItemsAndOrder, order_in}
use Rattle.hs_lattice.specs.JoinWorld.{IsJoinOf, IsGenerated}

-- if the least value has a property and joins keep it, the join of values that have it has it too
pub IsJoinOf-has :
    {M : Type 0} (least : M → Type 0) (joins : M → M → M → Type 0) (P : M → Type 0) →
    ((x : M) → least x → P x) → ((x y z : M) → P x → P y → joins x y z → P z) →
    (xs : List M) (z : M) → AllByRecursion P xs → IsJoinOf least joins xs z → P z
IsJoinOf-has least joins P bottom kept [] z each of = bottom z of
IsJoinOf-has least joins P bottom kept (x ∷ xs) z (has, each) (y, of, joined) =
    kept x y z has (IsJoinOf-has least joins P bottom kept xs y each of) joined

-- if each element of a list has a property, so has each value that the list contains
All-contained : {M : Type 0} (P : M → Type 0) (xs : List M) (z : M) → All P xs → Contains xs z → P z
All-contained P xs z all (k, lt, read) = subst P read (all k z lt)

-- and so has each value of a list of such values
AllByRecursion-contained : {M : Type 0} (P : M → Type 0) (xs chosen : List M) → All P xs → AllByRecursion (Contains xs) chosen → AllByRecursion P chosen
AllByRecursion-contained P xs [] all each = tt
AllByRecursion-contained P xs (z ∷ chosen) all (among, each) = (All-contained P xs z all among, AllByRecursion-contained P xs chosen all each)

-- if the least value and the generators have a property and joins keep it, every generated value has it
pub IsGenerated-has :
    {M : Type 0} (least : M → Type 0) (joins : M → M → M → Type 0) (P : M → Type 0) (generators : List M) (z : M) →
    ((x : M) → least x → P x) → ((x y z : M) → P x → P y → joins x y z → P z) → All P generators →
    IsGenerated least joins generators z → P z
IsGenerated-has least joins P generators z bottom kept all (chosen, each, of) =
    IsJoinOf-has least joins P bottom kept chosen z (AllByRecursion-contained P generators chosen all each) of

-- a collection without items is a collection in any world
pub IsCollection-none :
    {X M : Type 0} (meaning : X → M) (fits : M → Type 0) (precedes : M → M → Type 0) (c : ItemsAndOrder X) → IsEmpty c → IsCollection meaning fits precedes c
IsCollection-none {X} {M} meaning fits precedes c empty =
    let none : AreDifferent meaning fits precedes [] [] = record {
      fit = λ k d lt. absurd (not-suc-le-zero lt);
      different = λ i j d lt inside. absurd (not-suc-le-zero inside);
      ordered = record {
        count = refl;
        places = λ k d lt. absurd (not-suc-le-zero lt);
        each = λ i lt. absurd (not-suc-le-zero lt);
        ascending = λ i j d lt inside. absurd (not-suc-le-zero inside);
      };
    } in
    let of_order : AreDifferent meaning fits precedes [] (order_in c) = subst (AreDifferent meaning fits precedes []) (sym empty.order) none in
    subst (λ (items : List X). AreDifferent meaning fits precedes items (order_in c)) (sym empty.items) of_order
