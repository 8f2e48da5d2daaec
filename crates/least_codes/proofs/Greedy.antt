-- Bits that are left out from the highest down leave a least set, where there are no more than three.
use Rattle.std.proofs.Common.{◌≡◌, ◌⊎◌, ℕ, ◌<◌, ◌≤◌, Contains, List, [], ◌∷◌, length, inl, inr, ap, subst, sym, arith}
use Rattle.std.proofs.lemmas.Bool.{cases_order}
use Rattle.dependence.specs.ReadRule.{Beside}
use Rattle.least_codes.specs.Inner.Choice.{Ascend}
use Rattle.least_codes.specs.LeastReads.{ListBefore}
use Rattle.least_codes.proofs.Ascending.{contains_cases, contains_head, contains_later}

-- what holds of one or two numbers holds of all that are listed
pub of_one : (P : ℕ → Type 0) (a : ℕ) → P a → (c : ℕ) → Contains (a ∷ []) c → P c
of_one P a first c is =
    elim (contains_cases a [] c is) [
      | inl at ↦ subst P at first
      | inr none ↦ absurd (omega (arith, none.1))
    ]

pub of_two : (P : ℕ → Type 0) (a b : ℕ) → P a → P b → (c : ℕ) → Contains (a ∷ b ∷ []) c → P c
of_two P a b first second c is =
    elim (contains_cases a (b ∷ []) c is) [
      | inl at ↦ subst P at first
      | inr later ↦ of_one P b second c later
    ]

second_in : (a b : ℕ) (rest : List ℕ) → Contains (a ∷ b ∷ rest) b
second_in a b rest = contains_later a (b ∷ rest) b (contains_head b rest)

third_in : (a b c : ℕ) (rest : List ℕ) → Contains (a ∷ b ∷ c ∷ rest) c
third_in a b c rest = contains_later a (b ∷ c ∷ rest) c (second_in b c rest)

-- all numbers of the list are below some number
abbrev pub AreBelow : ℕ → List ℕ → Type 0
AreBelow bits list = (c : ℕ) → Contains list c → c < bits

-- the numbers below c and the read ones above it never have all of the others, for a read number c
abbrev pub NeverHas : ℕ → List ℕ → List ℕ → Type 0
NeverHas bits read others = (c : ℕ) → Contains read c → ((d : ℕ) → Contains others d → Beside (λ k. k < bits) (Contains read) c d) → ⊥

-- the one case in which fewer might do
pub record IsOdd (read others : List ℕ) : Type 0 where
  pub two : read ≡ 0 ∷ 1 ∷ []
  pub one : others ≡ 2 ∷ []

two_alike : (a b c d : ℕ) → a ≡ c → b ≡ d → ◌≡◌ {A = List ℕ} (a ∷ b ∷ []) (c ∷ d ∷ [])
two_alike a b c d first second = cc

three_alike : (a b c d e f : ℕ) → a ≡ d → b ≡ e → c ≡ f → ◌≡◌ {A = List ℕ} (a ∷ b ∷ c ∷ []) (d ∷ e ∷ f ∷ [])
three_alike a b c d e f first second third = cc

-- at most three bits
module _ (bits : ℕ) (three : bits ≤ 3) where
  abbrev Near : List ℕ → ℕ → ℕ → Type 0
  Near read = Beside (λ k. k < bits) (Contains read)

  pub fewest : (read others : List ℕ) → Ascend 0 read → Ascend 0 others → AreBelow bits read → AreBelow bits others → NeverHas bits read others → (length read ≤ length others) ⊎ IsOdd read others
  fewest [] others up up_others below below_others never = inl (omega arith)
  fewest (a ∷ rest) [] up up_others below below_others never = absurd (never a (contains_head a rest) (λ d is. absurd (omega (arith, is.1))))
  fewest (a ∷ []) (d ∷ more) up up_others below below_others never = inl (omega arith)
  fewest (a ∷ b ∷ []) (d ∷ e ∷ more) up up_others below below_others never = inl (omega arith)
  fewest (a ∷ b ∷ []) (d ∷ []) up up_others below below_others never =
      elim (cases_order d b) [
        | inl at ↦ absurd (never a (contains_head a (b ∷ [])) (of_one (Near (a ∷ b ∷ []) a) d (inr (omega (arith, at, up.1.0), subst (Contains (a ∷ b ∷ [])) (sym at) (second_in a b [])))))
        | inr apart ↦ elim apart [
          | inl low ↦ absurd (never b (second_in a b []) (of_one (Near (a ∷ b ∷ []) b) d (inl (low, below_others d (contains_head d [])))))
          | inr high ↦
              let small : d < bits = below_others d (contains_head d []) in
              inr (record {
                two = two_alike a b 0 1 (omega (arith, high, small, three, up.1.0)) (omega (arith, high, small, three, up.1.0));
                one = ap (λ (c : ℕ). c ∷ []) (omega (arith, high, small, three, up.1.0));
              })
        ]
      ]
  fewest (a ∷ b ∷ c ∷ []) (d ∷ e ∷ f ∷ more) up up_others below below_others never = inl (omega arith)
  fewest (a ∷ b ∷ c ∷ []) (d ∷ e ∷ []) up up_others below below_others never =
      let all : List ℕ = a ∷ b ∷ c ∷ [] in
      let small : c < bits = below c (third_in a b c []) in
      let small_d : d < bits = below_others d (contains_head d (e ∷ [])) in
      let small_e : e < bits = below_others e (second_in d e []) in
      elim (cases_order e c) [
        | inl at ↦ elim (cases_order d b) [
          | inl level ↦ absurd (never a (contains_head a (b ∷ c ∷ [])) (of_two (Near all a) d e
              (inr (omega (arith, level, up.1.0), subst (Contains all) (sym level) (second_in a b (c ∷ []))))
              (inr (omega (arith, at, up.1.0, up.1.1.0), subst (Contains all) (sym at) (third_in a b c [])))))
          | inr apart ↦ elim apart [
            | inl low ↦ absurd (never b (second_in a b (c ∷ [])) (of_two (Near all b) d e
                (inl (low, small_d))
                (inr (omega (arith, at, up.1.1.0), subst (Contains all) (sym at) (third_in a b c [])))))
            | inr high ↦ absurd (omega (arith, high, at, up_others.1.0, up.1.0, up.1.1.0, small, three))
          ]
        ]
        | inr apart ↦ elim apart [
          | inl low ↦ absurd (never c (third_in a b c []) (of_two (Near all c) d e (inl (omega (arith, low, up_others.1.0), small_d)) (inl (low, small_e))))
          | inr high ↦ absurd (omega (arith, high, up.1.0, up.1.1.0, small_e, three))
        ]
      ]
  fewest (a ∷ b ∷ c ∷ []) (d ∷ []) up up_others below below_others never =
      let all : List ℕ = a ∷ b ∷ c ∷ [] in
      let small_d : d < bits = below_others d (contains_head d []) in
      elim (cases_order d c) [
        | inl at ↦ absurd (never b (second_in a b (c ∷ [])) (of_one (Near all b) d (inr (omega (arith, at, up.1.1.0), subst (Contains all) (sym at) (third_in a b c [])))))
        | inr apart ↦ elim apart [
          | inl low ↦ absurd (never c (third_in a b c []) (of_one (Near all c) d (inl (low, small_d))))
          | inr high ↦ absurd (omega (arith, high, up.1.0, up.1.1.0, small_d, three))
        ]
      ]
  fewest (a ∷ b ∷ c ∷ g ∷ rest) (d ∷ more) up up_others below below_others never =
      absurd (omega (arith, up.1.0, up.1.1.0, up.1.1.1.0, three, below g (contains_later a (b ∷ c ∷ g ∷ rest) g (third_in b c g rest))))

  pub first : (read others : List ℕ) → Ascend 0 read → Ascend 0 others → AreBelow bits read → AreBelow bits others → NeverHas bits read others → length others ≡ length read → (others ≡ read) ⊎ ListBefore read others
  first [] [] up up_others below below_others never size = inl (cc)
  first [] (d ∷ more) up up_others below below_others never size = absurd (omega (arith, size))
  first (a ∷ rest) [] up up_others below below_others never size = absurd (omega (arith, size))
  first (a ∷ []) (d ∷ []) up up_others below below_others never size =
      elim (cases_order d a) [
        | inl at ↦ inl (ap (λ (c : ℕ). c ∷ []) at)
        | inr apart ↦ elim apart [
          | inl low ↦ absurd (never a (contains_head a []) (of_one (Near (a ∷ []) a) d (inl (low, below_others d (contains_head d [])))))
          | inr high ↦ inr (inl high)
        ]
      ]
  first (a ∷ []) (d ∷ e ∷ more) up up_others below below_others never size = absurd (omega (arith, size))
  first (a ∷ b ∷ rest) (d ∷ []) up up_others below below_others never size = absurd (omega (arith, size))
  first (a ∷ b ∷ []) (d ∷ e ∷ []) up up_others below below_others never size =
      let both : List ℕ = a ∷ b ∷ [] in
      let small_d : d < bits = below_others d (contains_head d (e ∷ [])) in
      let small_e : e < bits = below_others e (second_in d e []) in
      elim (cases_order e b) [
        | inl at ↦ elim (cases_order d a) [
          | inl level ↦ inl (two_alike d e a b level at)
          | inr apart ↦ elim apart [
            | inl low ↦ absurd (never a (contains_head a (b ∷ [])) (of_two (Near both a) d e
                (inl (low, small_d))
                (inr (omega (arith, at, up.1.0), subst (Contains both) (sym at) (second_in a b [])))))
            | inr high ↦ inr (inl high)
          ]
        ]
        | inr apart ↦ elim apart [
          | inl low ↦ absurd (never b (second_in a b []) (of_two (Near both b) d e (inl (omega (arith, low, up_others.1.0), small_d)) (inl (low, small_e))))
          | inr high ↦ elim (cases_order a d) [
            | inl level ↦ inr (inr (level, inl high))
            | inr uneven ↦ elim uneven [
              | inl less ↦ inr (inl less)
              | inr more ↦ absurd (omega (arith, high, more, up.1.0, small_e, three))
            ]
          ]
        ]
      ]
  first (a ∷ b ∷ []) (d ∷ e ∷ f ∷ more) up up_others below below_others never size = absurd (omega (arith, size))
  first (a ∷ b ∷ c ∷ rest) (d ∷ e ∷ []) up up_others below below_others never size = absurd (omega (arith, size))
  first (a ∷ b ∷ c ∷ []) (d ∷ e ∷ f ∷ []) up up_others below below_others never size =
      let small : c < bits = below c (third_in a b c []) in
      let small_f : f < bits = below_others f (third_in d e f []) in
      inl (three_alike d e f a b c
      (omega (arith, up.1.0, up.1.1.0, up_others.1.0, up_others.1.1.0, small, small_f, three))
      (omega (arith, up.1.0, up.1.1.0, up_others.1.0, up_others.1.1.0, small, small_f, three))
      (omega (arith, up.1.0, up.1.1.0, up_others.1.0, up_others.1.1.0, small, small_f, three)))
  first (a ∷ b ∷ c ∷ []) (d ∷ e ∷ f ∷ g ∷ more) up up_others below below_others never size = absurd (omega (arith, size))
  first (a ∷ b ∷ c ∷ g ∷ rest) (d ∷ e ∷ f ∷ more) up up_others below below_others never size =
      absurd (omega (arith, up.1.0, up.1.1.0, up.1.1.1.0, three, below g (contains_later a (b ∷ c ∷ g ∷ rest) g (third_in b c g rest))))
