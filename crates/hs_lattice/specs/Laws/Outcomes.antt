-- From what is known of a listing, if there is one, to what follows of it.
use Rattle.std.proofs.Common.{ℕ, List, Result, Ok, Err, IfOk, get_or}
use Rattle.hs_lattice.specs.declared.Listing.{Listing}
use Rattle.hs_lattice.specs.declared.Listing.TheVariants.{Whole, More}
use Rattle.hs_lattice.specs.Listing.{Evidence, IfMore, IfWhole, Lists, items_of}

pub whole-from : {X E : Type 0} (r : Result (Listing X) E) (P Q : List X → Type 0) → ((xs : List X) → P xs → Q xs) → IfOk r (λ l. IfWhole l P) → IfOk r (λ l. IfWhole l Q)
whole-from (Ok (Whole xs)) P Q turn h = turn xs h
whole-from (Ok (More xs)) P Q turn h = tt
whole-from (Err e) P Q turn h = tt

pub more-from : {X E : Type 0} (r : Result (Listing X) E) (P Q : List X → Type 0) → ((xs : List X) → P xs → Q xs) → IfOk r (λ l. IfMore l P) → IfOk r (λ l. IfMore l Q)
more-from (Ok (Whole xs)) P Q turn h = tt
more-from (Ok (More xs)) P Q turn h = turn xs h
more-from (Err e) P Q turn h = tt

pub whole-from_three :
    {X E : Type 0} (r : Result (Listing X) E) (A B C Q : List X → Type 0) → ((xs : List X) → A xs → B xs → C xs → Q xs) →
    IfOk r (λ l. IfWhole l A) → IfOk r (λ l. IfWhole l B) → IfOk r (λ l. C (items_of l)) → IfOk r (λ l. IfWhole l Q)
whole-from_three (Ok (Whole xs)) A B C Q turn a b c = turn xs a b c
whole-from_three (Ok (More xs)) A B C Q turn a b c = tt
whole-from_three (Err e) A B C Q turn a b c = tt

pub whole-from_four :
    {X E : Type 0} (r : Result (Listing X) E) (A B C D Q : List X → Type 0) → ((xs : List X) → A xs → B xs → C xs → D xs → Q xs) →
    IfOk r (λ l. IfWhole l A) → IfOk r (λ l. IfWhole l B) → IfOk r (λ l. IfWhole l C) → IfOk r (λ l. D (items_of l)) → IfOk r (λ l. IfWhole l Q)
whole-from_four (Ok (Whole xs)) A B C D Q turn a b c d = turn xs a b c d
whole-from_four (Ok (More xs)) A B C D Q turn a b c d = tt
whole-from_four (Err e) A B C D Q turn a b c d = tt

-- a list of the values with one property is one of those with another where the two are one
pub lists_as : {M : Type 0} (precedes : M → M → Type 0) (P Q : M → Type 0) (xs : List M) → ((x : M) → P x → Q x) → ((x : M) → Q x → P x) → Lists precedes P xs → Lists precedes Q xs
lists_as precedes P Q xs to from lists = record {
  ascending = lists.ascending;
  members = λ k d within. to (get_or xs k d) (lists.members k d within);
  complete = λ z has. lists.complete z (from z has);
}

pub evidence_as : {M : Type 0} (precedes : M → M → Type 0) (P Q : M → Type 0) (limit : ℕ) (xs : List M) → ((x : M) → P x → Q x) → Evidence precedes P limit xs → Evidence precedes Q limit xs
evidence_as precedes P Q limit xs to evidence = record {
  ascending = evidence.ascending;
  members = λ k d within. to (get_or xs k d) (evidence.members k d within);
  more = evidence.more;
}
