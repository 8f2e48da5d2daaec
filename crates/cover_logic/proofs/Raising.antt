use Rattle.std.proofs.Common.{◌≡◌, ℕ, ◌+◌, ◌<◌, ◌≤◌, ◌↔◌, Bool, true, false, List, [], ◌∷◌, ◌++◌, Option, Some, None, MatchOption, ⊎_elim, sym, subst, arith}
use Rattle.std.specs.List.{Contains}
use Rattle.std.specs.Option.{is_some}
use Rattle.std.proofs.lemmas.Bool.{cases_eq}
use Rattle.cover_terms.specs.declared.term.Term.{Term}
use Rattle.cover_terms.specs.Term.{FitsWidth, Holds, HoldsWithDash, LooksAt}
use Rattle.cover_terms.specs.Pair.{Includes, IsLooser, ShareValue}
use Rattle.cover_logic.specs.Inner.Rows.{IsClear, IsGrown, IsMetOrClear, IsPrime, MeetsSome, NeedsLiteral}
use Rattle.cover_terms.specs.Laws.Bits.{below_width}
use Rattle.cover_terms.specs.Laws.Lists.{held_push_cases}
use Rattle.cover_terms.specs.Laws.Terms.{looser_holds, looser_with_dash}

-- a term that is clear of a list, and shares no value with one term more
pub clear_push : (row : Term) (terms : List Term) (t : Term) → IsClear terms row → (ShareValue row t → ⊥) → IsClear (terms ++ t ∷ []) row
clear_push row terms t clear apart x p held = ⊎_elim (λ k. clear x p k) (λ q. apart (x, p, q)) (held_push_cases terms t x held)

-- the literals below a column are needed
abbrev pub IsPrimeBelow : List Term → ℕ → Term → Type 0
IsPrimeBelow off n t = (column : ℕ) → column < n → LooksAt t column → NeedsLiteral off t column

-- a looser term needs those literals too, and the one at the column where it does
pub prime_more : (off : List Term) (n : ℕ) (t wide : Term) → IsPrimeBelow off n t → IsLooser wide t → (LooksAt wide n → NeedsLiteral off wide n) → IsPrimeBelow off (n + 1) wide
prime_more off n t wide h looser here column below l =
    ⊎_elim (λ e. let w = here (subst (λ (k : ℕ). LooksAt wide k) (sym e) l) in (w.0, w.1, subst (λ (k : ℕ). HoldsWithDash wide k w.0) e w.2))
    (λ ne. let w = h column (omega arith) (looser.literals column l).0 in (w.0, w.1, looser_with_dash wide t looser column w.0 w.2))
    (cases_eq n column)

-- there is no literal at or above the width
pub prime_from_below : (off : List Term) (width : ℕ) (t : Term) → FitsWidth width t → IsPrimeBelow off width t → IsPrime off t
prime_from_below off width t fits h column l = h column (below_width width t.care column fits l) l

-- a term grows from its seed
pub grown_seed : (seed : Term) (off : List Term) → IsClear off seed → IsGrown seed off seed
grown_seed seed off clear = record { includes = λ x p. p; clear = clear; care = omega arith }

pub grown_wider : (seed : Term) (off : List Term) (row wider : Term) → IsGrown seed off row → Includes wider row → wider.care ≤ row.care → IsClear off wider → IsGrown seed off wider
grown_wider seed off row wider g wide care clear = record {
  includes = λ x p. wide x (g.includes x p);
  clear = clear;
  care = let c = g.care in omega arith;
}

-- a term that holds what the row holds and no value of off, and needs its literals below a column
pub record IsRaised (row : Term) (off : List Term) (width n : ℕ) (raised : Term) : Type 0 where
  pub includes : Includes raised row
  pub clear : IsClear off raised
  pub fits : FitsWidth width raised
  pub prime : IsPrimeBelow off n raised

pub raised_row : (row : Term) (off : List Term) (width : ℕ) → IsClear off row → FitsWidth width row → IsRaised row off width 0 row
raised_row row off width clear fits = record { includes = λ x p. p; clear = clear; fits = fits; prime = λ column below l. absurd (omega arith) }

-- one column further
pub raised_once : (row : Term) (off : List Term) (width n : ℕ) (t wide : Term) → IsRaised row off width n t → IsLooser wide t → IsClear off wide → (LooksAt wide n → NeedsLiteral off wide n) → wide.care ≤ t.care → IsRaised row off width (n + 1) wide
raised_once row off width n t wide r looser clear here care = record {
  includes = λ x p. looser_holds wide t looser x (r.includes x p);
  clear = clear;
  fits = let f = r.fits in omega arith;
  prime = prime_more off n t wide r.prime looser here;
}

-- a value of off in a term with a dash is the reason for the literal
pub needed_from_met : (off : List Term) (t wide : Term) (column : ℕ) → ((x : ℕ) → Holds wide x ↔ HoldsWithDash t column x) → MeetsSome off wide → NeedsLiteral off t column
needed_from_met off t wide column dash met = (met.0, met.1, (dash met.0).0 met.2)

-- a term that shares a value with the row, or none
pub met_or_none : (terms : List Term) (row : Term) (met : Option Term) → MatchOption met (IsClear terms row) (λ t. Contains terms t × ShareValue row t) → IsMetOrClear terms row (is_some met)
met_or_none terms row (Some t) h = (h.1.0, (t, h.0, h.1.2), h.1.1)
met_or_none terms row None h = h

pub met_where : (terms : List Term) (row : Term) (met : Bool) → IsMetOrClear terms row met → met ≡ true → MeetsSome terms row
met_where terms row met h is = subst (λ (b : Bool). IsMetOrClear terms row b) is h

pub clear_where : (terms : List Term) (row : Term) (met : Bool) → IsMetOrClear terms row met → met ≡ false → IsClear terms row
clear_where terms row met h is = subst (λ (b : Bool). IsMetOrClear terms row b) is h
