-- The one clock of statements without a fault.
use Rattle.std.proofs.Common.{◌≡◌, ℕ, ◌||◌, Bool, true, false, cond, eqb, not, List, [], ◌∷◌, length, map, Contains, Option, Some, None, inl, inr, sym, ◌∙◌, refl, ap, subst, arith}
use Rattle.std.specs.Prelude.{find}
use Rattle.std.specs.List.{flat_map, list_any}
use Rattle.std.specs.Str.{bytes_eq}
use Rattle.std.proofs.lemmas.Bool.{cases_Bool, false≢true}
use Rattle.std.proofs.lemmas.Bool.Decides.{nat_tests}
use Rattle.std.proofs.lemmas.List.Elements.{Contains-append_cases, Contains-append_left, Contains-append_right}
use Rattle.list_facts.specs.Laws.Members.{Contains-here, Contains-none, fails_from_none, passes_from_any}
use Rattle.net_core.specs.declared.Network.{Network}
use Rattle.net_core.specs.Faults.{AreFaultless, names_another}
use Rattle.net_core.specs.Faults as faults
use Rattle.net_core.specs.Statements.{NumberedStatement, Statement, clocks_in}
use Rattle.net_core.specs.Laws.Members.{is_same_name, same_name}
use Rattle.blif_in.specs.declared.fault.BlifFault.{BlifFault}
use Rattle.blif_in.specs.declared.fault.BlifKind.TheVariants.{Clocks}
use Rattle.blif_in.specs.Text.{clock_fault, driven_within, names_clock}

abbrev pub said : List NumberedStatement → List Statement
said statements = map (λ statement. statement.says) statements

-- where no other name is brought, a name is the one that is known
the_known : (known names : List (List ℕ)) (name clock : List ℕ) → names_another known names ≡ false → Contains names name → Contains known clock → name ≡ clock
the_known known names name clock none among is_known =
    let here = fails_from_none (λ n. list_any (λ other. not (bytes_eq n other)) known) names none name among in
    same_name name clock (positive (bytes_eq name clock) (fails_from_none (λ other. not (bytes_eq name other)) known here clock is_known)) where
      positive : (b : Bool) → not b ≡ false → b ≡ true
      positive true h = refl
      positive false h = absurd (false≢true (sym h))

not_brought : (a b : Bool) → (a || b) ≡ false → a ≡ false
not_brought true b h = absurd (false≢true (sym h))
not_brought false b h = refl

-- the clocks behind a known one are it
pub the_clock : (earlier : List Statement) (statements : List NumberedStatement) (clock other : List ℕ) → AreFaultless earlier statements → Contains (flat_map clocks_in earlier) clock → Contains (flat_map clocks_in (said statements)) other → other ≡ clock
the_clock earlier [] clock other faultless is_known among = absurd (Contains-none other among)
the_clock earlier (s ∷ ss) clock other (here, faultless) is_known among =
    elim (Contains-append_cases (clocks_in s.says) (flat_map clocks_in (said ss)) other among) [
      | inl first ↦ the_known (flat_map clocks_in earlier) (clocks_in s.says) other clock (not_brought _ _ (here faults.Clocks)) first is_known
      | inr later ↦ the_clock (s.says ∷ earlier) ss clock other faultless (Contains-append_right (clocks_in s.says) (flat_map clocks_in earlier) clock is_known) later
    ]

nothing_named : (s : NumberedStatement) → names_clock s ≡ false → clocks_in s.says ≡ []
nothing_named s lacks = by (clocks_in s.says) lacks where
  by : (names : List (List ℕ)) → not (eqb (length names) 0) ≡ false → names ≡ []
  by [] h = refl
  by (name ∷ names) h = absurd (grind (arith, nat_tests))

some_named : (s : NumberedStatement) → names_clock s ≡ true → (clock : List ℕ) × Contains (clocks_in s.says) clock
some_named s has = by (clocks_in s.says) has where
  by : (names : List (List ℕ)) → not (eqb (length names) 0) ≡ true → (clock : List ℕ) × Contains names clock
  by [] h = absurd (grind (arith, nat_tests))
  by (name ∷ names) h = (name, Contains-here name names)

-- each clock is one that the first statement with a clock names
pub first_named : (earlier : List Statement) (statements : List NumberedStatement) (first : NumberedStatement) (other : List ℕ) → AreFaultless earlier statements → find names_clock statements ≡ Some first → Contains (flat_map clocks_in (said statements)) other → Contains (clocks_in first.says) other
first_named earlier [] first other faultless found among = absurd (Contains-none other among)
first_named earlier (s ∷ ss) first other (here, faultless) found among =
    elim (cases_Bool (names_clock s)) [
      | inl has ↦
          let same : Some s ≡ Some first = sym (ap (λ b. cond b (Some s) (find names_clock ss)) has) ∙ found in
          let is : s ≡ first = cc in
          let named = some_named s has in
          subst (λ f. Contains (clocks_in f.says) other) is
          (elim (Contains-append_cases (clocks_in s.says) (flat_map clocks_in (said ss)) other among) [
            | inl first_one ↦ first_one
            | inr later ↦ subst (Contains (clocks_in s.says)) (sym (the_clock (s.says ∷ earlier) ss named.0 other faultless (Contains-append_left (clocks_in s.says) (flat_map clocks_in earlier) named.0 named.1) later)) named.1
          ])
      | inr lacks ↦
          elim (Contains-append_cases (clocks_in s.says) (flat_map clocks_in (said ss)) other among) [
            | inl first_one ↦ absurd (Contains-none other (subst (λ names. Contains names other) (nothing_named s lacks) first_one))
            | inr later ↦ first_named (s.says ∷ earlier) ss first other faultless (sym (ap (λ b. cond b (Some s) (find names_clock ss)) lacks) ∙ found) later
          ]
    ]

none_named : (statements : List NumberedStatement) (other : List ℕ) → find names_clock statements ≡ None → Contains (flat_map clocks_in (said statements)) other → ⊥
none_named [] other none among = Contains-none other among
none_named (s ∷ ss) other none among =
    elim (cases_Bool (names_clock s)) [
      | inl has ↦ let same : Some s ≡ None = sym (ap (λ b. cond b (Some s) (find names_clock ss)) has) ∙ none in absurd (cc)
      | inr lacks ↦
          elim (Contains-append_cases (clocks_in s.says) (flat_map clocks_in (said ss)) other among) [
            | inl here ↦ Contains-none other (subst (λ names. Contains names other) (nothing_named s lacks) here)
            | inr later ↦ none_named ss other (sym (ap (λ b. cond b (Some s) (find names_clock ss)) lacks) ∙ none) later
          ]
    ]

found_named : (statements : List NumberedStatement) (first : NumberedStatement) (clock : List ℕ) → find names_clock statements ≡ Some first → Contains (clocks_in first.says) clock → Contains (flat_map clocks_in (said statements)) clock
found_named [] first clock found named = absurd (cc)
found_named (s ∷ ss) first clock found named =
    elim (cases_Bool (names_clock s)) [
      | inl has ↦
          let same : Some s ≡ Some first = sym (ap (λ b. cond b (Some s) (find names_clock ss)) has) ∙ found in
          let is : first ≡ s = cc in
          Contains-append_left (clocks_in s.says) (flat_map clocks_in (said ss)) clock (subst (λ f. Contains (clocks_in f.says) clock) is named)
      | inr lacks ↦ Contains-append_right (clocks_in s.says) (flat_map clocks_in (said ss)) clock (found_named ss first clock (sym (ap (λ b. cond b (Some s) (find names_clock ss)) lacks) ∙ found) named)
    ]

nothing_told : (fault : BlifFault) (b : Bool) → cond {A = Option BlifFault} b (Some fault) None ≡ None → b ≡ false
nothing_told fault true h = absurd (cc)
nothing_told fault false h = refl

-- a clock of statements without the fault is not driven
pub undriven : (N : Network) (statements : List NumberedStatement) (clock : List ℕ) → AreFaultless [] statements → clock_fault N (find names_clock statements) ≡ None → Contains (flat_map clocks_in (said statements)) clock → Contains (driven_within N) clock → ⊥
undriven N statements clock faultless none among driven = by (find names_clock statements) refl none where
  by : (found : Option NumberedStatement) → find names_clock statements ≡ found → clock_fault N found ≡ None → ⊥
  by None is h = none_named statements clock is among
  by (Some first) is h =
      let fault : BlifFault = record { line = first.number; kind = Clocks } in
      let quiet = nothing_told fault (list_any (λ c. list_any (bytes_eq c) (driven_within N)) (clocks_in first.says)) h in
      let here = fails_from_none (λ c. list_any (bytes_eq c) (driven_within N)) (clocks_in first.says) quiet clock (first_named [] statements first clock faultless is among) in
      false≢true (sym (fails_from_none (bytes_eq clock) (driven_within N) here clock driven) ∙ is_same_name clock clock refl)

pub undriven_none : (N : Network) (statements : List NumberedStatement) → ((clock : List ℕ) → Contains (flat_map clocks_in (said statements)) clock → Contains (driven_within N) clock → ⊥) → clock_fault N (find names_clock statements) ≡ None
undriven_none N statements quiet = by (find names_clock statements) refl where
  by : (found : Option NumberedStatement) → find names_clock statements ≡ found → clock_fault N found ≡ None
  by None is = refl
  by (Some first) is =
      elim (cases_Bool (list_any (λ c. list_any (bytes_eq c) (driven_within N)) (clocks_in first.says))) [
        | inl some ↦
            let found = passes_from_any (λ c. list_any (bytes_eq c) (driven_within N)) (clocks_in first.says) some in
            let driver = passes_from_any (bytes_eq found.0) (driven_within N) found.2 in
            absurd (quiet found.0 (found_named statements first found.0 is found.1) (subst (Contains (driven_within N)) (sym (same_name found.0 driver.0 driver.2)) driver.1))
        | inr none ↦ let fault : BlifFault = record { line = first.number; kind = Clocks } in ap (λ b. cond {A = Option BlifFault} b (Some fault) None) none
      ]
