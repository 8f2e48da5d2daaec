-- Passes of generators over the known values.
use Rattle.std.proofs.Common.{◌≡◌, ℕ, ◌+◌, ◌<◌, ◌≤◌, ◌⊎◌, inl, inr, List, [], ◌∷◌, ◌++◌, length, map, min, take, get_or, All, Any, Contains, subst, sym, ◌∙◌, refl, ap, arith}
use Rattle.std.specs.List.{AllByRecursion}
use Rattle.std.proofs.lemmas.Bool.{cases_lt}
use Rattle.std.proofs.lemmas.List.{get_or_default, get_or_append_left, get_or_read, get_or-take, length-map, length-take, length_push, take_all, take_more}
use Rattle.std.proofs.lemmas.List.Elements.{All-map}
use Rattle.std.proofs.lemmas.List.Quantifiers.{Any-push}
use Rattle.hs_lattice.specs.Collection.{Adds, IsAscending, Knows}
use Rattle.hs_lattice.specs.JoinWorld.{IsGenerated, IsJoinOf, HaveJoins}
use Rattle.hs_lattice.specs.Laws.{IsJoinOf-has}
use Rattle.hs_lattice.specs.Listing.{Lists, Evidence}
use Rattle.hs_lattice.specs.Inner.Passes.{AddsJoin, Extends, KnowsJoin, KnowsJoins}
use Rattle.hs_lattice.proofs.Collections.{Any-push_cases, adds_nothing}
use Rattle.hs_lattice.proofs.Values.{All-from_known, AllPairs-map, Contains-map, Knows-map, each_weaker, known_fit}

-- joins of the values that fit, with a least value
pub record Joining {M : Type 0} (fits least : M → Type 0) (joins : M → M → M → Type 0) : Type 0 where
  pub least_fits : (x : M) → least x → fits x
  pub fit : (x y z : M) → fits x → fits y → joins x y z → fits z
  pub once : (x y z other : M) → fits x → fits y → joins x y z → joins x y other → z ≡ other
  pub commute : (x y z : M) → fits x → fits y → joins x y z → joins y x z
  pub associate : (x y z front back all : M) → fits x → fits y → fits z → joins x y front → joins front z all → joins y z back → joins x back all
  pub repeat : (x : M) → fits x → joins x x x
  pub unit : (x y : M) → least x → fits y → joins x y y

-- each value with P has a join with each value with S, and it has S too
abbrev pub IsClosed : {M : Type 0} → (M → M → M → Type 0) → (M → Type 0) → (M → Type 0) → Type 0
IsClosed {M} joins P S = (m v : M) → P m → S v → (z : M) × joins m v z × S z

-- the value is a join of some list of values with P
abbrev pub IsGeneratedBy : {M : Type 0} → (M → Type 0) → (M → M → M → Type 0) → (M → Type 0) → M → Type 0
IsGeneratedBy {M} least joins P z = (chosen : List M) × AllByRecursion P chosen × IsJoinOf least joins chosen z

-- P, or the value
abbrev pub OrValue : {M : Type 0} → (M → Type 0) → M → M → Type 0
OrValue P g m = P m ⊎ (g ≡ m)

join_fits :
    {M : Type 0} (fits least : M → Type 0) (joins : M → M → M → Type 0) (P : M → Type 0) → Joining fits least joins → ((m : M) → P m → fits m) →
    (chosen : List M) (z : M) → AllByRecursion P chosen → IsJoinOf least joins chosen z → fits z
join_fits fits least joins P laws fit chosen z each of =
    IsJoinOf-has least joins fits laws.least_fits laws.fit chosen z (each_weaker P fits chosen fit each) of

-- what is closed under joins with values with P is closed under joins with a join of such values: v + (m + y) is (v + y) + m
closed_under_join :
    {M : Type 0} (fits least : M → Type 0) (joins : M → M → M → Type 0) (P S : M → Type 0) → Joining fits least joins →
    ((m : M) → P m → fits m) → ((v : M) → S v → fits v) → IsClosed joins P S →
    (chosen : List M) (z v : M) → AllByRecursion P chosen → IsJoinOf least joins chosen z → S v → (w : M) × joins z v w × S w
closed_under_join fits least joins P S laws fit known_fit closed [] z v each is known = (v, laws.unit z v is (known_fit v known), known)
closed_under_join fits least joins P S laws fit known_fit closed (m ∷ chosen) z v (among, each) (y, of, joined) known =
    let rest = closed_under_join fits least joins P S laws fit known_fit closed chosen y v each of known in
    let last = closed m rest.0 among rest.2 in
    let m_fits : fits m = fit m among in
    let y_fits : fits y = join_fits fits least joins P laws fit chosen y each of in
    let v_fits : fits v = known_fit v known in
    let turned : joins v z last.0 =
    laws.associate v y m rest.0 z last.0 v_fits y_fits m_fits (laws.commute y v rest.0 y_fits v_fits rest.1)
    (laws.commute m rest.0 last.0 m_fits (known_fit rest.0 rest.2) last.1) (laws.commute m y z m_fits y_fits joined) in
    (last.0, laws.commute v z last.0 v_fits (laws.fit m y z m_fits y_fits joined) turned, last.2)

-- so a generator that is a join of earlier ones has no pass
closed_skip :
    {M : Type 0} (fits least : M → Type 0) (joins : M → M → M → Type 0) (P S : M → Type 0) (g : M) → Joining fits least joins →
    ((m : M) → P m → fits m) → ((v : M) → S v → fits v) → IsClosed joins P S → IsGeneratedBy least joins P g → IsClosed joins (OrValue P g) S
closed_skip {M} fits least joins P S g laws fit known_fit closed (chosen, each, of) m v h known =
    elim h [
      | inl old ↦ closed m v old known
      | inr same ↦ subst (λ (m : M). (z : M) × joins m v z × S z) same (closed_under_join fits least joins P S laws fit known_fit closed chosen g v each of known)
    ]

-- after a pass the new values have joins with the earlier generators too: m + (x + g) is (m + x) + g, and g + (g + x) is g + x
closed_pass :
    {M : Type 0} (fits least : M → Type 0) (joins : M → M → M → Type 0) (P S S' : M → Type 0) (g : M) → Joining fits least joins →
    ((m : M) → P m → fits m) → ((v : M) → S v → fits v) → fits g → IsClosed joins P S →
    ((z : M) → S z → S' z) → ((z : M) → S' z → S z ⊎ ((x : M) × S x × joins g x z)) → ((v : M) → S v → (z : M) × joins g v z × S' z) →
    IsClosed joins (OrValue P g) S'
closed_pass {M} fits least joins P S S' g laws fit known_fit g_fits closed kept only each m v h known =
    elim (only v known) [
      | inl before ↦ elim h [
        | inl old ↦ let joined = closed m v old before in (joined.0, joined.1, kept joined.0 joined.2)
        | inr same ↦ subst (λ (m : M). (z : M) × joins m v z × S' z) same (each v before)
      ]
      | inr made ↦
          let x_fits : fits made.0 = known_fit made.0 made.1 in
          elim h [
            | inl old ↦
                let front = closed m made.0 old made.1 in
                let all = each front.0 front.2 in (
                  all.0,
                  laws.associate m made.0 g front.0 v all.0 (fit m old) x_fits g_fits front.1
                      (laws.commute g front.0 all.0 g_fits (known_fit front.0 front.2) all.1) (laws.commute g made.0 v g_fits x_fits made.2),
                  all.2,
                )
            | inr same ↦ subst (λ (m : M). (z : M) × joins m v z × S' z) same (v, laws.associate g g made.0 g v v g_fits g_fits x_fits (laws.repeat g g_fits) made.2 made.2, known)
          ]
    ]

-- the generated values after a pass
generated_pass :
    {M : Type 0} (least : M → Type 0) (joins : M → M → M → Type 0) (P S S' : M → Type 0) (g : M) → ((z : M) → S z → IsGeneratedBy least joins P z) →
    ((z : M) → S' z → S z ⊎ ((x : M) × S x × joins g x z)) → (z : M) → S' z → IsGeneratedBy least joins (OrValue P g) z
generated_pass least joins P S S' g generated only z known =
    elim (only z known) [
      | inl before ↦ let old = generated z before in (old.0, each_weaker P (OrValue P g) old.0 (λ m. inl) old.1, old.2)
      | inr made ↦ let old = generated made.0 made.1 in (g ∷ old.0, (inr refl, each_weaker P (OrValue P g) old.0 (λ m. inl) old.1), (made.0, old.2, made.2))
    ]

-- where the least values are known, so is each join of a list of values with P, since two values have one join
all_known :
    {M : Type 0} (fits least : M → Type 0) (joins : M → M → M → Type 0) (P S : M → Type 0) → Joining fits least joins →
    ((m : M) → P m → fits m) → ((v : M) → S v → fits v) → ((z : M) → least z → S z) → IsClosed joins P S →
    (chosen : List M) (z : M) → AllByRecursion P chosen → IsJoinOf least joins chosen z → S z
all_known fits least joins P S laws fit known_fit bottom closed [] z each of = bottom z of
all_known fits least joins P S laws fit known_fit bottom closed (m ∷ chosen) z (among, each) (y, of, joined) =
    let rest : S y = all_known fits least joins P S laws fit known_fit bottom closed chosen y each of in
    let found = closed m y among rest in
    subst S (laws.once m y found.0 z (fit m among) (known_fit y rest) found.1 joined) found.2

-- and each such list has a join
joins_found :
    {M : Type 0} (least : M → Type 0) (joins : M → M → M → Type 0) (P S : M → Type 0) → (z : M) × least z × S z → IsClosed joins P S →
    (chosen : List M) → AllByRecursion P chosen → (z : M) × IsJoinOf least joins chosen z × S z
joins_found least joins P S bottom closed [] each = bottom
joins_found least joins P S bottom closed (m ∷ chosen) (among, each) =
    let rest = joins_found least joins P S bottom closed chosen each in
    let found = closed m rest.0 among rest.2 in
    (found.0, (rest.0, rest.1, found.1), found.2)

-- the values of the first generators
abbrev pub AmongFirst : {X M : Type 0} → (X → M) → List X → ℕ → M → Type 0
AmongFirst meaning generators n = Knows meaning (take n generators)

-- with one more of them
first_cases :
    {X M : Type 0} (meaning : X → M) (generators : List X) (n : ℕ) (g : X) → n < length generators → g ≡ get_or generators n g →
    (m : M) → AmongFirst meaning generators (n + 1) m → OrValue (AmongFirst meaning generators n) (meaning g) m
first_cases {X} meaning generators n g lt read m h =
    let more : take (n + 1) generators ≡ take n generators ++ g ∷ [] = take_more generators n g lt ∙ ap (λ (x : X). take n generators ++ x ∷ []) (sym read) in
    Any-push_cases (λ x. meaning x ≡ m) (take n generators) g (subst (Any (λ x. meaning x ≡ m)) more h)

first_more :
    {X M : Type 0} (meaning : X → M) (generators : List X) (n : ℕ) (g : X) → n < length generators → g ≡ get_or generators n g →
    (m : M) → OrValue (AmongFirst meaning generators n) (meaning g) m → AmongFirst meaning generators (n + 1) m
first_more {X} meaning generators n g lt read m h =
    let more : take (n + 1) generators ≡ take n generators ++ g ∷ [] = take_more generators n g lt ∙ ap (λ (x : X). take n generators ++ x ∷ []) (sym read) in
    let Is : X → Type 0 = λ x. meaning x ≡ m in
    subst (Any Is) (sym more)
    (elim h [
      | inl old ↦ (old.0, old.1, omega (arith, length_push (take n generators) g, old.2), get_or_append_left (take n generators) (g ∷ []) old.1 old.0 old.2 ∙ old.3, old.4)
      | inr same ↦ Any-push Is (take n generators) g same
    ])

-- what the passes of the first generators reach
pub record IsReached {X M : Type 0} (meaning : X → M) (least : M → Type 0) (joins : M → M → M → Type 0) (generators : List X) (n : ℕ) (items : List X) : Type 0 where
  pub generated : (z : M) → Knows meaning items z → IsGeneratedBy least joins (AmongFirst meaning generators n) z
  pub least_known : (z : M) → least z → Knows meaning items z
  pub closed : IsClosed joins (AmongFirst meaning generators n) (Knows meaning items)

-- before the first pass the least value alone is known
pub reached_none :
    {X M : Type 0} (meaning : X → M) (least : M → Type 0) (joins : M → M → M → Type 0) (generators items new_items : List X) (value : M) → least value →
    ((z : M) → least z → value ≡ z) → items ≡ [] → Adds meaning items value new_items → IsReached meaning least joins generators 0 new_items
reached_none {X} {M} meaning least joins generators items new_items value is once none adds = record {
  generated = λ z h. elim (adds.only z h) [ inl old ↦ absurd (omega (arith, old.2, ap length none)) | inr same ↦ ([], tt, subst least same is) ];
  least_known = λ z least_too. subst (Knows meaning new_items) (once z least_too) adds.added;
  closed = λ m v among. absurd (omega (arith, among.2));
}

-- the first generators are some of all, and all where there are no more
first_known : {X M : Type 0} (meaning : X → M) (generators : List X) (n : ℕ) (m : M) → AmongFirst meaning generators n m → Knows meaning generators m
first_known meaning generators n m (k, x, lt, read, is) =
    let below : k < min n (length generators) = subst (λ i. k < i) (length-take n generators) lt in
    (k, x, omega arith, sym (get_or-take n generators k x (omega arith)) ∙ read, is)

known_first : {X M : Type 0} (meaning : X → M) (generators : List X) (m : M) → Knows meaning generators m → AmongFirst meaning generators (length generators) m
known_first {X} meaning generators m h = let P : X → Type 0 = λ x. meaning x ≡ m in subst (Any P) (sym (take_all (length generators) generators (omega arith))) h

first_fit : {X M : Type 0} (meaning : X → M) (fits : M → Type 0) (generators : List X) (n : ℕ) → All (λ x. fits (meaning x)) generators → (m : M) → AmongFirst meaning generators n m → fits m
first_fit meaning fits generators n fit m h = known_fit meaning fits generators fit m (first_known meaning generators n m h)

pub reached_skip :
    {X M : Type 0} (meaning : X → M) (fits least : M → Type 0) (joins : M → M → M → Type 0) (generators : List X) (n : ℕ) (g : X) (items : List X) → Joining fits least joins →
    All (λ x. fits (meaning x)) generators → All (λ x. fits (meaning x)) items → n < length generators → g ≡ get_or generators n g →
    IsReached meaning least joins generators n items → Knows meaning items (meaning g) → IsReached meaning least joins generators (n + 1) items
reached_skip meaning fits least joins generators n g items laws fit items_fit lt read reached known =
    let P = AmongFirst meaning generators n in
    let closed : IsClosed joins (OrValue P (meaning g)) (Knows meaning items) =
    closed_skip fits least joins P (Knows meaning items) (meaning g) laws (first_fit meaning fits generators n fit) (known_fit meaning fits items items_fit) reached.closed (reached.generated (meaning g) known) in
    record {
      generated = λ z h. let old = reached.generated z h in (old.0, each_weaker P (AmongFirst meaning generators (n + 1)) old.0 (λ m among. first_more meaning generators n g lt read m (inl among)) old.1, old.2);
      least_known = reached.least_known;
      closed = λ m v h. closed m v (first_cases meaning generators n g lt read m h);
    }

-- what is known after a pass is generated, also where it was stopped
pub generated_more :
    {X M : Type 0} (meaning : X → M) (least : M → Type 0) (joins : M → M → M → Type 0) (generators : List X) (n : ℕ) (g : X) (items new_items : List X) →
    n < length generators → g ≡ get_or generators n g → IsReached meaning least joins generators n items → Extends meaning joins items (meaning g) new_items →
    (z : M) → Knows meaning new_items z → IsGeneratedBy least joins (AmongFirst meaning generators (n + 1)) z
generated_more meaning least joins generators n g items new_items lt read reached extends z h =
    let P = AmongFirst meaning generators n in
    let new = generated_pass least joins P (Knows meaning items) (Knows meaning new_items) (meaning g) reached.generated extends.only z h in
    (new.0, each_weaker (OrValue P (meaning g)) (AmongFirst meaning generators (n + 1)) new.0 (first_more meaning generators n g lt read) new.1, new.2)

pub reached_more :
    {X M : Type 0} (meaning : X → M) (fits least : M → Type 0) (joins : M → M → M → Type 0) (generators : List X) (n : ℕ) (g : X) (items new_items : List X) → Joining fits least joins →
    All (λ x. fits (meaning x)) generators → All (λ x. fits (meaning x)) items → n < length generators → g ≡ get_or generators n g →
    IsReached meaning least joins generators n items → Extends meaning joins items (meaning g) new_items → KnowsJoins meaning joins items (meaning g) new_items →
    IsReached meaning least joins generators (n + 1) new_items
reached_more meaning fits least joins generators n g items new_items laws fit items_fit lt read reached extends each =
    let P = AmongFirst meaning generators n in
    let g_fits = subst (λ x. fits (meaning x)) (sym read) (fit n g lt) in
    let closed : IsClosed joins (OrValue P (meaning g)) (Knows meaning new_items) =
    closed_pass fits least joins P (Knows meaning items) (Knows meaning new_items) (meaning g) laws (first_fit meaning fits generators n fit) (known_fit meaning fits items items_fit) g_fits reached.closed extends.kept extends.only each in
    record {
      generated = generated_more meaning least joins generators n g items new_items lt read reached extends;
      least_known = λ z h. extends.kept z (reached.least_known z h);
      closed = λ m v h. closed m v (first_cases meaning generators n g lt read m h);
    }

-- what the first generators generate, all do
generated_all :
    {X M : Type 0} (meaning : X → M) (least : M → Type 0) (joins : M → M → M → Type 0) (generators : List X) (n : ℕ) (z : M) →
    IsGeneratedBy least joins (AmongFirst meaning generators n) z → IsGenerated least joins (map meaning generators) z
generated_all meaning least joins generators n z (chosen, each, of) =
    (chosen, each_weaker (AmongFirst meaning generators n) (Contains (map meaning generators)) chosen (λ m h. Contains-map meaning generators m (first_known meaning generators n m h)) each, of)

chosen_first :
    {X M : Type 0} (meaning : X → M) (generators : List X) (chosen : List M) → AllByRecursion (Contains (map meaning generators)) chosen → AllByRecursion (AmongFirst meaning generators (length generators)) chosen
chosen_first meaning generators chosen =
    each_weaker (Contains (map meaning generators)) (AmongFirst meaning generators (length generators)) chosen (λ m h. known_first meaning generators m (Knows-map meaning generators m h))

-- the passes of all generators have found all joins
pub lists_all :
    {X M : Type 0} (meaning : X → M) (fits least : M → Type 0) (precedes : M → M → Type 0) (joins : M → M → M → Type 0) (generators items list : List X) → Joining fits least joins →
    All (λ x. fits (meaning x)) generators → All (λ x. fits (meaning x)) items → IsReached meaning least joins generators (length generators) items →
    IsAscending meaning precedes list → ((z : M) → Knows meaning list z → Knows meaning items z) → ((z : M) → Knows meaning items z → Knows meaning list z) →
    Lists precedes (IsGenerated least joins (map meaning generators)) (map meaning list)
lists_all {X} {M} meaning fits least precedes joins generators items list laws fit items_fit reached ascending from all =
    let n = length generators in
    let P : M → Type 0 = IsGenerated least joins (map meaning generators) in
    record {
      ascending = AllPairs-map meaning precedes list ascending;
      members = All-map P meaning list (All-from_known meaning P list (λ z h. generated_all meaning least joins generators n z (reached.generated z (from z h))));
      complete = λ z h.
          Contains-map meaning list z (all z (all_known fits least joins (AmongFirst meaning generators n) (Knows meaning items) laws (first_fit meaning fits generators n fit) (known_fit meaning fits items items_fit)
          reached.least_known reached.closed h.0 z (chosen_first meaning generators h.0 h.1) h.2));
    }

-- and each list of generators has a join
pub have_joins :
    {X M : Type 0} (meaning : X → M) (least : M → Type 0) (joins : M → M → M → Type 0) (generators items : List X) (bottom : M) → least bottom →
    IsReached meaning least joins generators (length generators) items → HaveJoins least joins (map meaning generators)
have_joins meaning least joins generators items bottom is reached chosen each =
    let found =
    joins_found least joins (AmongFirst meaning generators (length generators)) (Knows meaning items) (bottom, is, reached.least_known bottom is) reached.closed chosen (chosen_first meaning generators chosen each) in
    (found.0, found.1)

-- more generated values than the limit are evidence
pub is_evidence :
    {X M : Type 0} (meaning : X → M) (precedes : M → M → Type 0) (least : M → Type 0) (joins : M → M → M → Type 0) (generators : List X) (n : ℕ) (list : List X) (limit : ℕ) →
    IsAscending meaning precedes list → ((z : M) → Knows meaning list z → IsGeneratedBy least joins (AmongFirst meaning generators n) z) → length list ≡ limit + 1 →
    Evidence precedes (IsGenerated least joins (map meaning generators)) limit (map meaning list)
is_evidence {X} {M} meaning precedes least joins generators n list limit ascending generated more =
    let P : M → Type 0 = IsGenerated least joins (map meaning generators) in
    record {
      ascending = AllPairs-map meaning precedes list ascending;
      members = All-map P meaning list (All-from_known meaning P list (λ z h. generated_all meaning least joins generators n z (generated z h)));
      more = length-map list meaning ∙ more;
    }

-- the joins of the generator and the first values that were known are known
abbrev pub KnowsFirstJoins : {X M : Type 0} → (X → M) → (M → M → M → Type 0) → List X → M → List X → ℕ → Type 0
KnowsFirstJoins {X} {M} meaning joins known g new_known n =
    (k : ℕ) (d : X) → k < n → KnowsJoin meaning joins new_known g (meaning (get_or known k d))

-- a pass at a place: what it keeps true
pub record IsPassing {X M : Type 0} (meaning : X → M) (joins : M → M → M → Type 0) (known : List X) (g : M) (new_known : List X) (n : ℕ) : Type 0 where
  pub extends : Extends meaning joins known g new_known
  pub places : (k : ℕ) (d : X) → k < length known → get_or new_known k d ≡ get_or known k d
  pub no_fewer : length known ≤ length new_known
  pub done : KnowsFirstJoins meaning joins known g new_known n

pub passing_none : {X M : Type 0} (meaning : X → M) (joins : M → M → M → Type 0) (known : List X) (g : M) → IsPassing meaning joins known g known 0
passing_none meaning joins known g = record {
  extends = record { kept = λ z h. h; only = λ z h. inl h };
  places = λ k d lt. refl;
  no_fewer = omega arith;
  done = λ k d lt. absurd (omega arith);
}

pub passing_more :
    {X M : Type 0} (meaning : X → M) (joins : M → M → M → Type 0) (known : List X) (g : M) (items : List X) (n : ℕ) (e : X) (new_items : List X) →
    IsPassing meaning joins known g items n → n < length known → AddsJoin meaning joins items g (meaning (get_or items n e)) new_items → IsPassing meaning joins known g new_items (n + 1)
passing_more {X} {M} meaning joins known g items n e new_items passing lt (z, joined, adds) =
    let value : M = meaning (get_or known n e) in
    let here : meaning (get_or items n e) ≡ value = ap meaning (passing.places n e lt) in
    let made : joins g value z = subst (λ v. joins g v z) here joined in
    let was_known : Knows meaning known value = (n, get_or known n e, lt, get_or_default known n (get_or known n e) e lt, refl) in
    record {
      extends = record {
        kept = λ x h. adds.kept x (passing.extends.kept x h);
        only = λ x h. elim (adds.only x h) [ inl old ↦ passing.extends.only x old | inr new ↦ inr (value, was_known, subst (joins g value) new made) ];
      };
      places = λ k d below. adds.places k d (omega (arith, passing.no_fewer)) ∙ passing.places k d below;
      no_fewer = omega (arith, passing.no_fewer, adds.no_fewer);
      done = λ k d below.
          elim (cases_lt k n) [
            | inl low ↦ let old = passing.done k d low in (old.0, old.1, adds.kept old.0 old.2)
            | inr ge ↦
                let last : k ≡ n = omega arith in
                let same : meaning (get_or known k d) ≡ value = ap (λ i. meaning (get_or known i d)) last ∙ ap meaning (get_or_default known n d e lt) in
                (z, subst (λ v. joins g v z) (sym same) made, adds.added)
          ];
    }

-- a pass that came to the end
pub passed_all :
    {X M : Type 0} (meaning : X → M) (joins : M → M → M → Type 0) (known : List X) (g : M) (new_known : List X) →
    IsPassing meaning joins known g new_known (length known) → KnowsJoins meaning joins known g new_known
passed_all {X} {M} meaning joins known g new_known passing v (k, x, lt, read, is) =
    subst (KnowsJoin meaning joins new_known g) (ap meaning read ∙ is) (passing.done k x lt)

-- the join of the generator and the value at a place, where it is that value
pub adds_known_join :
    {X M : Type 0} (meaning : X → M) (joins : M → M → M → Type 0) (items : List X) (place : ℕ) (x g : X) (z : M) → place < length items → x ≡ get_or items place x →
    joins (meaning g) (meaning x) z → z ≡ meaning x → AddsJoin meaning joins items (meaning g) (meaning (get_or items place g)) items
adds_known_join meaning joins items place x g z lt read joined same =
    (z, subst (λ v. joins (meaning g) (meaning v) z) (get_or_read items place x lt read g) joined, adds_nothing meaning items z (place, x, lt, sym read, sym same))

-- and where it is added
pub adds_new_join :
    {X M : Type 0} (meaning : X → M) (joins : M → M → M → Type 0) (items : List X) (place : ℕ) (x g : X) (z : M) (new_items : List X) → place < length items → x ≡ get_or items place x →
    joins (meaning g) (meaning x) z → Adds meaning items z new_items → AddsJoin meaning joins items (meaning g) (meaning (get_or items place g)) new_items
adds_new_join meaning joins items place x g z new_items lt read joined adds = (z, subst (λ v. joins (meaning g) (meaning v) z) (get_or_read items place x lt read g) joined, adds)
