-- The first fault of a statement, and what is kept after one that has none.
use Rattle.std.proofs.Common.{◌≡◌, ℕ, suc, ◌+◌, ◌-◌, ◌<◌, ◌≤◌, ◌||◌, Bool, true, false, cond, leb, ltb, not, List, ◌∷◌, ◌++◌, length, count_by, length-append, Option, Some, None, sym, ◌∙◌, refl, ap, subst, arith}
use Rattle.std.specs.Prelude.{is_none}
use Rattle.std.specs.List.{cons_option, flat_map}
use Rattle.std.specs.Option.{is_some}
use Rattle.std.proofs.lemmas.Bool.{le-leb, le-ltb, lt-leb, lt-ltb}
use Rattle.std.proofs.lemmas.List.Sums.{sum_by-cons}
use Rattle.net_core.specs.Limits.{is_names}
use Rattle.net_core.specs.Faults.{brings_clock, names_another}
use Rattle.net_core.specs.Statements.{Statement, LatchLine, LatchParts, Names, clocks_in, latch_from, latch_of, start_said}
use Rattle.net_core.specs.declared.Latch.{Latch}
use Rattle.net_core.specs.declared.Start.{Start}
use Rattle.blif_in.specs.declared.fault.BlifKind.{BlifKind}
use Rattle.blif_in.specs.Faults.{fault_where, first_of}

pub first_here : (found : Option BlifKind) (more : List (Option BlifKind)) (kind : BlifKind) → found ≡ Some kind → first_of (found ∷ more) ≡ Some kind
first_here found more kind h = ap (λ f. first_of (f ∷ more)) h

pub first_later : (found : Option BlifKind) (more : List (Option BlifKind)) (next : Option BlifKind) → found ≡ None → first_of more ≡ next → first_of (found ∷ more) ≡ next
first_later found more next h k = ap (λ f. first_of (f ∷ more)) h ∙ k

pub where_some : (test : Bool) (kind : BlifKind) → test ≡ true → fault_where test kind ≡ Some kind
where_some test kind h = ap (λ b. fault_where b kind) h

-- a count of names that goes over the most
pub count_over : (most count : ℕ) (more names : List (List ℕ)) → count ≡ length names → most - count < length more → ltb most (length (more ++ names)) ≡ true
count_over most count more names is over = lt-ltb most (length (more ++ names)) (omega (arith, length-append more names))

pub count_within : (most count : ℕ) (more names : List (List ℕ)) → count ≡ length names → count ≤ most → length more ≤ most - count → ltb most (length (more ++ names)) ≡ false
count_within most count more names is small within = le-ltb most (length (more ++ names)) (omega (arith, length-append more names))

pub count_more : (count : ℕ) (more names : List (List ℕ)) → count ≡ length names → count + length more ≡ length (more ++ names)
count_more count more names is = omega (arith, length-append more names)

-- a latch whose start is said, or not
pub lacks_start : (given : Option LatchParts) (parts : LatchParts) (has : Bool) → Some parts ≡ given → is_some (start_said parts.start) ≡ has → is_none (latch_of given) ≡ not has
lacks_start given parts has same h = subst (λ g. is_none (latch_of g) ≡ not has) same (by (start_said parts.start) h) where
  by : (start : Option Start) → is_some start ≡ has → is_none (latch_from parts start) ≡ not has
  by None h = ap not h
  by (Some start) h = ap not h

-- one latch more
pub latches_more : (given : Option LatchParts) (parts : LatchParts) (latches : List Latch) → Some parts ≡ given → is_some (start_said parts.start) ≡ true → length (cons_option (latch_of given) latches) ≡ suc (length latches)
latches_more given parts latches same h = subst (λ g. length (cons_option (latch_of g) latches) ≡ suc (length latches)) same (by (start_said parts.start) h) where
  by : (start : Option Start) → is_some start ≡ true → length (cons_option (latch_from parts start) latches) ≡ suc (length latches)
  by None h = absurd (cc)
  by (Some start) h = refl

-- the clocks that a latch brings are those of its control
pub latch_brings : (earlier : List Statement) (operands : List (List ℕ)) (clocks : List (List ℕ)) → clocks_in (LatchLine operands) ≡ clocks → brings_clock earlier (LatchLine operands) ≡ names_another (flat_map clocks_in earlier) clocks
latch_brings earlier operands clocks is = or_false (names_another (flat_map clocks_in earlier) (clocks_in (LatchLine operands))) ∙ ap (names_another (flat_map clocks_in earlier)) is where
  or_false : (b : Bool) → (b || false) ≡ b
  or_false true = refl
  or_false false = refl

-- a count that is one more
pub one_more : (count before after : ℕ) → count ≡ before → after ≡ suc before → count + 1 ≡ after
one_more count before after is more = omega arith

pub one_over : (most count before after : ℕ) → count ≡ before → after ≡ suc before → most ≤ count → ltb most after ≡ true
one_over most count before after is more over = lt-ltb most after (omega arith)

pub one_within : (most count before after : ℕ) → count ≡ before → after ≡ suc before → count < most → ltb most after ≡ false
one_within most count before after is more within = le-ltb most after (omega arith)

-- one gate more
pub gates_more : (names : List (List ℕ)) (earlier : List Statement) → count_by is_names (Names names ∷ earlier) ≡ suc (count_by is_names earlier)
gates_more names earlier = omega (arith, sum_by-cons (λ s. cond (is_names s) 1 0) (Names names) earlier)

-- a test that fails, and one whose fault a call gives
pub where_told : (test : Bool) (kind told : BlifKind) → told ≡ kind → test ≡ true → fault_where test kind ≡ Some told
where_told test kind told is h = ap (λ b. fault_where b kind) h ∙ ap (λ k. Some k) (sym is)

pub too_many : (most count : ℕ) → most < count → not (leb count most) ≡ true
too_many most count over = ap not (lt-leb count most over)

pub not_too_many : (most count : ℕ) → count ≤ most → not (leb count most) ≡ false
not_too_many most count within = ap not (le-leb count most within)
