-- Items at places of a list, and names that come again or stand outside.
use Rattle.std.proofs.Common.{◌≡◌, ℕ, zero, suc, ◌+◌, ◌<◌, List, [], ◌∷◌, ◌++◌, get_or, length, map, take, drop, All, Contains, slice_get, Some, Result, Ok, Err, IfErr, IsErrAnd, sym, ◌∙◌, refl, ap, subst, arith}
use Rattle.std.specs.List.{AllZip, flat_map}
use Rattle.std.proofs.lemmas.List.{append_assoc, drop_more, map_more, map-append, take_more, take-append-drop}
use Rattle.std.proofs.lemmas.Grind.{flat_map-append}
use Rattle.std.proofs.lemmas.List.Elements.{All-append}
use Rattle.std.proofs.lemmas.Option.{get_or_from_slice_get, slice_get_within}
use Rattle.net_core.specs.Causes.{AreOnce, IsFirstAgain, IsFirstOutside}
use Rattle.net_core.specs.Order.{AreAt, IsNumbered}
use Rattle.net_core.specs.Laws.Zipped.{zip_push}
use Rattle.net_core.specs.Inner.Failures.{TellsAgain, TellsOutside}
use Rattle.net_core.specs.declared.Gate.{Gate}
use Rattle.net_core.specs.declared.gate_order.NumberedGate.{NumberedGate}
use Rattle.net_core.specs.declared.causes.NetFail.{NetFail}
use Rattle.net_core.specs.declared.causes.NetFail.TheVariants.{TwoDrivers, Undriven, Cycle, NoMemory}

-- what a part of the work tells at its exit
pub at_exit : {T : Type 0} (Q : NetFail → Type 0) (r : Result T NetFail) (fail : NetFail) → IsErrAnd r (λ e. e ≡ fail) → Q fail → IfErr r Q
at_exit Q (Ok x) fail is q = tt
at_exit Q (Err e) fail is q = subst Q (sym is) q

-- what is first in a list is so in a longer one
pub again_more : (names more : List (List ℕ)) (fail : NetFail) → TellsAgain names fail → TellsAgain (names ++ more) fail
again_more names more (TwoDrivers name) told =
    record {
      earlier = told.earlier;
      later = told.later ++ more;
      is = ap (λ list. list ++ more) told.is ∙ append_assoc told.earlier (name ∷ told.later) more;
      once = told.once;
      again = told.again;
    }
again_more names more (Undriven name) told = told
again_more names more (Cycle names') told = told
again_more names more NoMemory told = tt

pub outside_more : (these names more : List (List ℕ)) (fail : NetFail) → TellsOutside these names fail → TellsOutside these (names ++ more) fail
outside_more these names more (TwoDrivers name) told = told
outside_more these names more (Undriven name) told =
    record {
      earlier = told.earlier;
      later = told.later ++ more;
      is = ap (λ list. list ++ more) told.is ∙ append_assoc told.earlier (name ∷ told.later) more;
      within = told.within;
      outside = told.outside;
    }
outside_more these names more (Cycle names') told = told
outside_more these names more NoMemory told = tt

-- and behind names that stand inside
pub outside_behind : (these inside names : List (List ℕ)) (fail : NetFail) → All (Contains these) inside → TellsOutside these names fail → TellsOutside these (inside ++ names) fail
outside_behind these inside names (TwoDrivers name) all told = told
outside_behind these inside names (Undriven name) all told =
    record {
      earlier = inside ++ told.earlier;
      later = told.later;
      is = ap (λ list. inside ++ list) told.is ∙ sym (append_assoc inside told.earlier (name ∷ told.later));
      within = All-append (Contains these) inside told.earlier all told.within;
      outside = told.outside;
    }
outside_behind these inside names (Cycle names') all told = told
outside_behind these inside names NoMemory all told = tt

module _ {X : Type 0} (list : List X) where
  pub stands_at : (place : ℕ) (item : X) → slice_get list place ≡ Some item → Contains list item
  stands_at place item is = (place, slice_get_within list place item is, get_or_from_slice_get list place item item is)

  -- the items stand in the list
  pub all_stand : (places : List ℕ) (items : List X) → AreAt list places items → All (Contains list) items
  all_stand [] [] at k d lt = absurd (omega arith)
  all_stand (p ∷ ps) [] at k d lt = absurd (omega arith)
  all_stand [] (x ∷ xs) at k d lt = absurd at
  all_stand (p ∷ ps) (x ∷ xs) (here, at) zero d lt = stands_at p x here
  all_stand (p ∷ ps) (x ∷ xs) (here, at) (suc k) d lt = all_stand ps xs at k d (omega arith)

  -- the places are within it
  pub all_within : (places : List ℕ) (items : List X) → AreAt list places items → All (λ p. p < length list) places
  all_within [] [] at k d lt = absurd (omega arith)
  all_within (p ∷ ps) [] at k d lt = absurd at
  all_within [] (x ∷ xs) at k d lt = absurd (omega arith)
  all_within (p ∷ ps) (x ∷ xs) (here, at) zero d lt = slice_get_within list p x here
  all_within (p ∷ ps) (x ∷ xs) (here, at) (suc k) d lt = all_within ps xs at k d (omega arith)

-- a name that comes again or stands outside, at a place of a list of things with names
module _ {X : Type 0} (name_of : X → List ℕ) (xs : List X) (i : ℕ) (x : X) (inside : i < length xs) (is : x ≡ get_or xs i x) where
  split_at : (front : List (List ℕ)) → front ++ map name_of xs ≡ ((front ++ map name_of (take i xs)) ++ name_of x ∷ []) ++ map name_of (drop (i + 1) xs)
  split_at front =
      let whole : xs ≡ take i xs ++ x ∷ drop (i + 1) xs =
      sym (take-append-drop i xs) ∙ ap (λ ys. take i xs ++ ys) (drop_more xs i x inside ∙ ap (λ y. y ∷ drop (i + 1) xs) (sym is)) in
      ap (λ ys. front ++ map name_of ys) whole ∙ ap (λ ns. front ++ ns) (map-append name_of (take i xs) (x ∷ drop (i + 1) xs))
      ∙ sym (append_assoc front (map name_of (take i xs)) (name_of x ∷ map name_of (drop (i + 1) xs)))
      ∙ sym (append_assoc (front ++ map name_of (take i xs)) (name_of x ∷ []) (map name_of (drop (i + 1) xs)))

  pub again_at : (front seen : List (List ℕ)) (fail : NetFail) → seen ≡ front ++ map name_of (take i xs) → TellsAgain (seen ++ name_of x ∷ []) fail → TellsAgain (front ++ map name_of xs) fail
  again_at front seen fail so_far told =
      subst (λ names. TellsAgain names fail) (sym (split_at front))
      (again_more ((front ++ map name_of (take i xs)) ++ name_of x ∷ []) (map name_of (drop (i + 1) xs)) fail
      (subst (λ names. TellsAgain (names ++ name_of x ∷ []) fail) so_far told))

  pub outside_at : (these : List (List ℕ)) (fail : NetFail) → All (Contains these) (map name_of (take i xs)) → TellsOutside these (name_of x ∷ []) fail → TellsOutside these (map name_of xs) fail
  outside_at these fail all told =
      subst (λ names. TellsOutside these names fail) (sym (split_at []))
      (outside_more these (map name_of (take i xs) ++ name_of x ∷ []) (map name_of (drop (i + 1) xs)) fail
      (outside_behind these (map name_of (take i xs)) (name_of x ∷ []) fail all told))

  pub at_more : (list : List (List ℕ)) (places : List ℕ) (place : ℕ) → AreAt list places (map name_of (take i xs)) → slice_get list place ≡ Some (name_of x) → AreAt list (places ++ place ∷ []) (map name_of (take (i + 1) xs))
  at_more list places place at here =
      subst (λ names. AreAt list (places ++ place ∷ []) names)
      (sym (map_more name_of xs i x inside ∙ ap (λ y. map name_of (take i xs) ++ name_of y ∷ []) (sym is)))
      (zip_push (λ p y. slice_get list p ≡ Some y) places (map name_of (take i xs)) place (name_of x) at here)

pub first_again : (names : List (List ℕ)) (name told : List ℕ) → told ≡ name → AreOnce names → Contains names name → IsFirstAgain (names ++ name ∷ []) told
first_again names name told is once again =
    subst (λ n. IsFirstAgain (names ++ name ∷ []) n) (sym is) (record { earlier = names; later = []; is = refl; once = once; again = again })

pub first_outside : (these : List (List ℕ)) (name told : List ℕ) → told ≡ name → (Contains these name → ⊥) → IsFirstOutside these (name ∷ []) told
first_outside these name told is outside =
    subst (λ n. IsFirstOutside these (name ∷ []) n) (sym is) (record { earlier = []; later = []; is = refl; within = λ k d lt. absurd (omega arith); outside = outside })

-- the inputs of numbered gates are driven
pub numbered_stand : (drivers : List (List ℕ)) (gates : List Gate) (numbered : List NumberedGate) → AllZip (IsNumbered drivers) gates numbered → All (Contains drivers) (flat_map (λ gate. gate.inputs) gates)
numbered_stand drivers [] [] zip k d lt = absurd (omega arith)
numbered_stand drivers [] (n ∷ ns) zip k d lt = absurd zip
numbered_stand drivers (g ∷ gs) [] zip k d lt = absurd zip
numbered_stand drivers (g ∷ gs) (n ∷ ns) (here, zip) k d lt =
    All-append (Contains drivers) g.inputs (flat_map (λ gate. gate.inputs) gs) (all_stand drivers n.inputs.items g.inputs here.inputs) (numbered_stand drivers gs ns zip) k d lt

module _ (gates : List Gate) (i : ℕ) (gate : Gate) (inside : i < length gates) (is : gate ≡ get_or gates i gate) (drivers : List (List ℕ)) (numbered : List NumberedGate) (zip : AllZip (IsNumbered drivers) (take i gates) numbered) where
  pub gate_outside : (fail : NetFail) → TellsOutside drivers gate.inputs fail → TellsOutside drivers (flat_map (λ g. g.inputs) gates) fail
  gate_outside fail told =
      let inputs : Gate → List (List ℕ) = λ g. g.inputs in
      let whole : gates ≡ take i gates ++ gate ∷ drop (i + 1) gates =
      sym (take-append-drop i gates) ∙ ap (λ ys. take i gates ++ ys) (drop_more gates i gate inside ∙ ap (λ y. y ∷ drop (i + 1) gates) (sym is)) in
      let parted : flat_map inputs gates ≡ flat_map inputs (take i gates) ++ (gate.inputs ++ flat_map inputs (drop (i + 1) gates)) =
      ap (flat_map inputs) whole ∙ flat_map-append inputs (take i gates) (gate ∷ drop (i + 1) gates) in
      subst (λ names. TellsOutside drivers names fail) (sym parted)
      (outside_behind drivers (flat_map inputs (take i gates)) (gate.inputs ++ flat_map inputs (drop (i + 1) gates)) fail (numbered_stand drivers (take i gates) numbered zip)
      (outside_more drivers gate.inputs (flat_map inputs (drop (i + 1) gates)) fail told))

  pub gate_more : (next : NumberedGate) → IsNumbered drivers gate next → AllZip (IsNumbered drivers) (take (i + 1) gates) (numbered ++ next ∷ [])
  gate_more next here =
      subst (λ list. AllZip (IsNumbered drivers) list (numbered ++ next ∷ []))
      (sym (take_more gates i gate inside ∙ ap (λ g. take i gates ++ g ∷ []) (sym is)))
      (zip_push (IsNumbered drivers) (take i gates) numbered gate next zip here)
