-- Tests of the causes why small networks are not sound.
use Rattle.std.proofs.Common.{◌≡◌, ℕ, zero, suc, ◌&&◌, ◌||◌, Bool, true, false, not, List, [], ◌∷◌, ◌++◌, codes, get_or, All, Contains, inl, inr, sym, ◌∙◌, refl, ap, subst, arith}
use Rattle.std.proofs.lemmas.Bool.{false≢true}
use Rattle.std.proofs.lemmas.Option.{none-some}
use Rattle.std.proofs.lemmas.Slice.Eq.{bytes_eq-Decides}
use Rattle.std.specs.List.{list_any}
use Rattle.std.specs.Str.{bytes_eq}
use Rattle.list_facts.specs.Laws.Members.{Contains-cons, Contains-here, Contains-none, Contains-there}
use Rattle.net_core.specs.declared.Gate.{Gate}
use Rattle.net_core.specs.declared.Network.{Network}
use Rattle.net_core.specs.declared.causes.NetFail.{NetFail}
use Rattle.net_core.specs.declared.causes.NetFail.TheVariants.{Cycle, NoMemory, TwoDrivers, Undriven}
use Rattle.net_core.specs.Causes.{AreOnce, IsCause, IsCycle, uses_of}
use Rattle.net_core.specs.SoundNetwork.{driven_by, drivers_of}
use Rattle.net_core.specs.Worked.{gate, network}
use Rattle.net_core.specs.Laws.Counted.{cond_of, counted-cons, counted_none}
use Rattle.net_core.specs.Laws.Members.{is_same_name, same_name}
use Rattle.blif_in.specs.declared.fault.BlifKind.{BlifKind}
use Rattle.blif_in.specs.declared.fault.BlifKind.TheVariants.{Structure}
use Rattle.blif_in.specs.Text.{IsStructureFault}
use Rattle.blif_laws.specs.Worked.{IsRefused, cycle_lines}

pub both : (a b : Bool) → (a && b) ≡ true → (a ≡ true) × (b ≡ true)
both true b h = (refl, h)
both false b h = absurd (false≢true h)

pub no_more : (a : Bool) → not a ≡ true → a ≡ false
no_more true h = absurd (false≢true h)
no_more false h = refl

neither : (a b : Bool) → (a || b) ≡ false → (a ≡ false) × (b ≡ false)
neither true b h = absurd (false≢true (sym h))
neither false b h = (refl, h)

pub among : (name : List ℕ) (names : List (List ℕ)) → list_any (bytes_eq name) names ≡ true → Contains names name
among name [] h = absurd (false≢true h)
among name (x ∷ xs) h =
    elim (bytes_eq name x) as (λ b. bytes_eq name x ≡ b → (b || list_any (bytes_eq name) xs) ≡ true → Contains (x ∷ xs) name) [
      | true ↦ λ same found. subst (λ n. Contains (n ∷ xs) name) (same_name name x same) (Contains-here name xs)
      | false ↦ λ other found. Contains-there x name xs (among name xs found)
    ] refl h

pub outside : (name : List ℕ) (names : List (List ℕ)) → list_any (bytes_eq name) names ≡ false → Contains names name → ⊥
outside name [] h k = Contains-none name k
outside name (x ∷ xs) h k =
    let parts = neither (bytes_eq name x) (list_any (bytes_eq name) xs) h in
    elim (Contains-cons x name xs k) [
      | inl here ↦ false≢true (sym parts.0 ∙ is_same_name name x (sym here))
      | inr there ↦ outside name xs parts.1 there
    ]

abbrev pub all_among : List (List ℕ) → List (List ℕ) → Bool
all_among these [] = true
all_among these (name ∷ names) = list_any (bytes_eq name) these && all_among these names

pub each_among : (these names : List (List ℕ)) → all_among these names ≡ true → All (Contains these) names
each_among these [] h k d lt = absurd (omega arith)
each_among these (x ∷ xs) h zero d lt = among x these (both (list_any (bytes_eq x) these) (all_among these xs) h).0
each_among these (x ∷ xs) h (suc k) d lt = each_among these xs (both (list_any (bytes_eq x) these) (all_among these xs) h).1 k d (omega arith)

abbrev pub all_once : List (List ℕ) → Bool
all_once [] = true
all_once (name ∷ names) = not (list_any (bytes_eq name) names) && all_once names

pub once : (names : List (List ℕ)) → all_once names ≡ true → AreOnce names
once [] h name = omega arith
once (x ∷ xs) h name =
    let parts = both (not (list_any (bytes_eq x) xs)) (all_once xs) h in
    elim (cond_of bytes_eq bytes_eq-Decides name x) [
      | inl is ↦
          omega (
            arith,
            counted-cons bytes_eq bytes_eq-Decides name x xs,
            is.1,
            counted_none bytes_eq bytes_eq-Decides name xs (λ h. outside x xs (no_more (list_any (bytes_eq x) xs) parts.0) (subst (Contains xs) is.0 h)),
          )
      | inr is ↦ omega (arith, counted-cons bytes_eq bytes_eq-Decides name x xs, is.1, once xs parts.1 name)
    ]

-- a name is driven again
pub driven_again : (N : Network) (earlier later : List (List ℕ)) (name : List ℕ) → drivers_of N ≡ earlier ++ name ∷ later → all_once earlier ≡ true → list_any (bytes_eq name) earlier ≡ true
    → IsStructureFault N (record { line = 0; kind = Structure (TwoDrivers name) })
driven_again N earlier later name is first again =
    record {
      fail = TwoDrivers name;
      of_network = tt;
      cause = record { earlier = earlier; later = later; is = is; once = once earlier first; again = among name earlier again };
      is = refl;
    }

-- a name is used and not driven
pub used_undriven : (N : Network) (earlier later : List (List ℕ)) (name : List ℕ) → all_once (drivers_of N) ≡ true → uses_of N ≡ earlier ++ name ∷ later → all_among (drivers_of N) earlier ≡ true
    → list_any (bytes_eq name) (drivers_of N) ≡ false → IsStructureFault N (record { line = 0; kind = Structure (Undriven name) })
used_undriven N earlier later name single is inside out =
    record {
      fail = Undriven name;
      of_network = tt;
      cause = (once (drivers_of N) single, record { earlier = earlier; later = later; is = is; within = each_among (drivers_of N) earlier inside; outside = outside name (drivers_of N) out });
      is = refl;
    }

-- the network of the worked cycle
abbrev a : List ℕ
a = codes "a"

abbrev b : List ℕ
b = codes "b"

abbrev c : List ℕ
c = codes "c"

abbrev first_gate : Gate
first_gate = gate b a (codes "1" ∷ []) true

abbrev second_gate : Gate
second_gate = gate c b (codes "1" ∷ []) true

abbrev third_gate : Gate
third_gate = gate a c (codes "1" ∷ []) true

abbrev cycle_gates : List Gate
cycle_gates = first_gate ∷ second_gate ∷ third_gate ∷ []

abbrev cycle_network : Network
cycle_network = network [] [] [] cycle_gates

is_cycle : IsCycle cycle_network (a ∷ b ∷ c ∷ [])
is_cycle =
    record {
      first = a;
      others = b ∷ c ∷ [];
      is = refl;
      once = once (a ∷ b ∷ c ∷ []) refl;
      reads = (
        (first_gate, Contains-here first_gate (second_gate ∷ third_gate ∷ []), refl, Contains-here b []),
        (
          (second_gate, Contains-there first_gate second_gate (second_gate ∷ third_gate ∷ []) (Contains-here second_gate (third_gate ∷ [])), refl, Contains-here c []),
          (
            third_gate,
            Contains-there first_gate third_gate (second_gate ∷ third_gate ∷ []) (Contains-there second_gate third_gate (third_gate ∷ []) (Contains-here third_gate [])),
            refl,
            Contains-here a [],
          ),
        ),
      );
      stands_first = ([], first_gate, second_gate ∷ third_gate ∷ [], refl, refl, λ k d lt h. Contains-none (get_or (a ∷ b ∷ c ∷ []) k d) h);
    }

pub cycle_is_told : IsStructureFault cycle_network (record { line = 0; kind = Structure (Cycle (a ∷ b ∷ c ∷ [])) })
cycle_is_told =
    record {
      fail = Cycle (a ∷ b ∷ c ∷ []);
      of_network = tt;
      cause = (once (drivers_of cycle_network) refl, each_among (drivers_of cycle_network) (uses_of cycle_network) refl, is_cycle);
      is = refl;
    }

-- no cycle begins at the second gate
begins_first : (first : List ℕ) (earlier : List Gate) (starts : Gate) (later : List Gate) → first ≡ b → cycle_gates ≡ earlier ++ starts ∷ later → starts.output ≡ first
    → All (λ name. Contains (driven_by earlier) name → ⊥) (b ∷ c ∷ a ∷ []) → ⊥
begins_first first [] starts later is split output none =
    let same : a ≡ b = ap (λ (gates : List Gate). (get_or gates 0 first_gate).output) split ∙ (output ∙ is) in
    let letters : ◌≡◌ {A = ℕ} 97 98 = ap (λ (name : List ℕ). get_or name 0 0) same in
    absurd (omega (arith, letters))
begins_first first (e ∷ es) starts later is split output none =
    let same : a ≡ e.output = ap (λ (gates : List Gate). (get_or gates 0 first_gate).output) split in
    none 2 a (omega arith) (subst (λ name. Contains (name ∷ driven_by es) a) same (Contains-here a (driven_by es)))

not_begun_later : IsCycle cycle_network (b ∷ c ∷ a ∷ []) → ⊥
not_begun_later is =
    let stands = is.stands_first in
    begins_first is.first stands.0 stands.1 stands.2 (sym (ap (λ (names : List (List ℕ)). get_or names 0 []) is.is)) stands.3 stands.4 stands.5

fail_of : BlifKind → NetFail
fail_of (Structure fail) = fail
fail_of _ = NoMemory

pub not_from_later_gate : IsRefused cycle_lines 0 (Structure (Cycle (b ∷ c ∷ a ∷ []))) → ⊥
unfolding fail_of
not_from_later_gate (inl found) = none-some _ found
not_from_later_gate (inr (closed, structure)) =
    let same : Cycle (b ∷ c ∷ a ∷ []) ≡ structure.fail = ap (λ fault. fail_of fault.kind) structure.is in
    let cause : IsCause cycle_network (Cycle (b ∷ c ∷ a ∷ [])) = subst (IsCause cycle_network) (sym same) structure.cause in
    not_begun_later cause.2
