-- What a text and its network have in all is what its statements have one after another.
use Rattle.std.proofs.Common.{◌≡◌, ℕ, ◌+◌, ◌-◌, ◌≤◌, ◌||◌, Bool, true, false, cond, ltb, List, [], ◌∷◌, ◌++◌, length, length-append, length-take, count_by, zero-add, sym, ◌∙◌, refl, ap, subst, arith, Option, Some, None}
use Rattle.std.specs.List.{cons_option, filter_map, flat_map, list_any, AllByRecursion}
use Rattle.std.proofs.lemmas.Bool.Decides.{nat_tests}
use Rattle.std.proofs.lemmas.Bool.{false≢true}
use Rattle.std.proofs.lemmas.List.Elements.{recursion_from_All, All-from_recursion}
use Rattle.std.proofs.lemmas.List.Sums.{sum_by-append}
use Rattle.list_facts.specs.Laws.Everywhere.{each_append, each_weaker}
use Rattle.net_core.specs.declared.Gate.{Gate}
use Rattle.net_core.specs.declared.Latch.{Latch}
use Rattle.net_core.specs.declared.Network.{Network}
use Rattle.net_core.specs.Blif.{IsWithinLimits, names_in}
use Rattle.net_core.specs.Denotation.{Denotes}
use Rattle.net_core.specs.Limits.{StatementLimit, NameBytes, InputCount, OutputCount, LatchCount, GateCount, GateInputs, is_names, goes_over, KeepsLimit, LimitsByStatement}
use Rattle.net_core.specs.Statements.{Statement, Names, said_in, inputs_in, outputs_in, latch_in, gates_of}

-- a number that each statement brings some of
record IsSum (limit : StatementLimit) (bound : ℕ) (size : List Statement → ℕ) (brought : Statement → ℕ) : Type 0 where
  none : size [] ≡ 0
  more : (s : Statement) (ss : List Statement) → size (s ∷ ss) ≡ brought s + size ss
  over : (earlier : List Statement) (s : Statement) → goes_over limit earlier s ≡ ltb bound (size (s ∷ earlier))

not_over : (bound n : ℕ) → ltb bound n ≡ false → n ≤ bound
not_over bound n h = grind (arith, nat_tests)

over_none : (bound n : ℕ) → n ≤ bound → ltb bound n ≡ false
over_none bound n h = grind (arith, nat_tests)

-- the whole is within the bound where each front is
sum_kept : (limit : StatementLimit) (bound : ℕ) (size : List Statement → ℕ) (brought : Statement → ℕ) → IsSum limit bound size brought → (earlier statements : List Statement) → size earlier ≤ bound → KeepsLimit limit earlier statements → size earlier + size statements ≤ bound
sum_kept limit bound size brought sum earlier [] within keeps = omega (arith, within, sum.none)
sum_kept limit bound size brought sum earlier (s ∷ ss) within (keep, keeps) =
    let here : size (s ∷ earlier) ≤ bound = not_over bound (size (s ∷ earlier)) (sym (sum.over earlier s) ∙ keep) in
    omega (arith, sum_kept limit bound size brought sum (s ∷ earlier) ss here keeps, sum.more s ss, sum.more s earlier)

kept_of_sum : (limit : StatementLimit) (bound : ℕ) (size : List Statement → ℕ) (brought : Statement → ℕ) → IsSum limit bound size brought → (earlier statements : List Statement) → size earlier + size statements ≤ bound → KeepsLimit limit earlier statements
kept_of_sum limit bound size brought sum earlier [] within = tt
kept_of_sum limit bound size brought sum earlier (s ∷ ss) within = (
  sum.over earlier s ∙ over_none bound (size (s ∷ earlier)) (omega (arith, within, sum.more s ss, sum.more s earlier)),
  kept_of_sum limit bound size brought sum (s ∷ earlier) ss (omega (arith, within, sum.more s ss, sum.more s earlier)),
)

count-cons : (p : Statement → Bool) (s : Statement) (ss : List Statement) → count_by p (s ∷ ss) ≡ cond (p s) 1 0 + count_by p ss
count-cons p s ss = sum_by-append (λ x. cond (p x) 1 0) (s ∷ []) ss ∙ ap (λ n. n + count_by p ss) (zero-add (cond (p s) 1 0))

abbrev latch_count : Option Latch → ℕ
latch_count None = 0
latch_count (Some latch) = 1

inputs_sum : IsSum InputCount 256 (λ ss. length (flat_map inputs_in ss)) (λ s. length (inputs_in s))
inputs_sum = record { none = refl; more = λ s ss. length-append (inputs_in s) (flat_map inputs_in ss); over = λ earlier s. refl }

outputs_sum : IsSum OutputCount 256 (λ ss. length (flat_map outputs_in ss)) (λ s. length (outputs_in s))
outputs_sum = record { none = refl; more = λ s ss. length-append (outputs_in s) (flat_map outputs_in ss); over = λ earlier s. refl }

gates_sum : IsSum GateCount 65536 (λ ss. count_by is_names ss) (λ s. cond (is_names s) 1 0)
gates_sum = record { none = refl; more = λ s ss. count-cons is_names s ss; over = λ earlier s. refl }

gates_counted : (statements : List Statement) → length (gates_of statements) ≡ count_by is_names statements
gates_counted [] = refl
gates_counted (Names names ∷ ss) = omega (arith, count-cons is_names (Names names) ss, gates_counted ss)
gates_counted (s ∷ ss) = gates_counted ss ∙ (sym (zero-add (count_by is_names ss)) ∙ sym (count-cons is_names s ss))

found-cons : (found : Option Latch) (latches : List Latch) → length (cons_option found latches) ≡ latch_count found + length latches
found-cons None latches = sym (zero-add (length latches))
found-cons (Some latch) latches = omega arith

latches_sum : IsSum LatchCount 256 (λ ss. length (filter_map latch_in ss)) (λ s. latch_count (latch_in s))
latches_sum = record { none = refl; more = λ s ss. found-cons (latch_in s) (filter_map latch_in ss); over = λ earlier s. refl }

neither : (a b : Bool) → (a || b) ≡ false → (a ≡ false) × (b ≡ false)
neither true b h = absurd (false≢true (sym h))
neither false b h = (refl, h)

-- a test that no item passes
any_none : (p : List ℕ → Bool) (names : List (List ℕ)) → list_any p names ≡ false → AllByRecursion (λ name. p name ≡ false) names
any_none p [] h = tt
any_none p (name ∷ names) h = let parts = neither (p name) (list_any p names) h in (parts.0, any_none p names parts.1)

none_any : (p : List ℕ → Bool) (names : List (List ℕ)) → AllByRecursion (λ name. p name ≡ false) names → list_any p names ≡ false
none_any p [] h = refl
none_any p (name ∷ names) (h, hs) = ap (λ b. b || list_any p names) h ∙ none_any p names hs

all_parts : (P : List ℕ → Type 0) (xs ys : List (List ℕ)) → AllByRecursion P (xs ++ ys) → AllByRecursion P xs × AllByRecursion P ys
all_parts P [] ys q = (tt, q)
all_parts P (x ∷ xs) ys (p, ps) = let rest = all_parts P xs ys ps in ((p, rest.0), rest.1)

-- names are short enough where those of each statement are
abbrev IsShort : List ℕ → Type 0
IsShort name = length name ≤ 64

names_kept : (earlier statements : List Statement) → AllByRecursion IsShort (flat_map names_in statements) → KeepsLimit NameBytes earlier statements
names_kept earlier [] short = tt
names_kept earlier (s ∷ ss) short =
    let parts = all_parts IsShort (names_in s) (flat_map names_in ss) short in (
      none_any (λ name. ltb 64 (length name)) (names_in s) (each_weaker IsShort (λ name. ltb 64 (length name) ≡ false) (λ name h. over_none 64 (length name) h) (names_in s) parts.0),
      names_kept (s ∷ earlier) ss parts.1,
    )

names_short : (earlier statements : List Statement) → KeepsLimit NameBytes earlier statements → AllByRecursion IsShort (flat_map names_in statements)
names_short earlier [] keeps = tt
names_short earlier (s ∷ ss) (keep, keeps) =
    each_append IsShort (names_in s) (flat_map names_in ss)
    (each_weaker (λ name. ltb 64 (length name) ≡ false) IsShort (λ name h. not_over 64 (length name) h) (names_in s) (any_none (λ name. ltb 64 (length name)) (names_in s) keep))
    (names_short (s ∷ earlier) ss keeps)

-- gates read few enough signals where each statement of names has few enough
abbrev ReadsFew : Gate → Type 0
ReadsFew gate = length gate.inputs ≤ 256

reads_kept : (earlier statements : List Statement) → AllByRecursion ReadsFew (gates_of statements) → KeepsLimit GateInputs earlier statements
reads_kept earlier [] few = tt
reads_kept earlier (Names names ∷ ss) (few, more) = (over_none 256 (length names - 1) (omega (arith, few, length-take (length names - 1) names)), reads_kept (Names names ∷ earlier) ss more)
reads_kept earlier (s ∷ ss) few = (refl, reads_kept (s ∷ earlier) ss few)

reads_few : (earlier statements : List Statement) → KeepsLimit GateInputs earlier statements → AllByRecursion ReadsFew (gates_of statements)
reads_few earlier [] keeps = tt
reads_few earlier (Names names ∷ ss) (keep, keeps) =
    let few : length names - 1 ≤ 256 = not_over 256 (length names - 1) keep in
    (omega (arith, few, length-take (length names - 1) names), reads_few (Names names ∷ earlier) ss keeps)
reads_few earlier (s ∷ ss) (keep, keeps) = reads_few (s ∷ earlier) ss keeps

kept_each : (bytes : List ℕ) (N : Network) → Denotes bytes N → IsWithinLimits bytes N → (limit : StatementLimit) → KeepsLimit limit [] (said_in bytes)
kept_each bytes N d w NameBytes = names_kept [] (said_in bytes) (recursion_from_All IsShort (flat_map names_in (said_in bytes)) w.names)
kept_each bytes N d w InputCount = kept_of_sum InputCount 256 _ _ inputs_sum [] (said_in bytes) (omega (arith, w.inputs, ap length d.inputs))
kept_each bytes N d w OutputCount = kept_of_sum OutputCount 256 _ _ outputs_sum [] (said_in bytes) (omega (arith, w.outputs, ap length d.outputs))
kept_each bytes N d w LatchCount = kept_of_sum LatchCount 256 _ _ latches_sum [] (said_in bytes) (omega (arith, w.latches, ap length d.latches))
kept_each bytes N d w GateCount = kept_of_sum GateCount 65536 _ _ gates_sum [] (said_in bytes) (omega (arith, w.gates, ap length d.gates, gates_counted (said_in bytes)))
kept_each bytes N d w GateInputs = reads_kept [] (said_in bytes) (subst (λ gates. AllByRecursion ReadsFew gates) d.gates (recursion_from_All ReadsFew N.gates w.gate_inputs))

within_from_each : (bytes : List ℕ) (N : Network) → Denotes bytes N → ((limit : StatementLimit) → KeepsLimit limit [] (said_in bytes)) → IsWithinLimits bytes N
within_from_each bytes N d keeps =
    record {
      names = All-from_recursion IsShort (flat_map names_in (said_in bytes)) (names_short [] (said_in bytes) (keeps NameBytes));
      inputs = omega (arith, sum_kept InputCount 256 _ _ inputs_sum [] (said_in bytes) (omega arith) (keeps InputCount), ap length d.inputs);
      outputs = omega (arith, sum_kept OutputCount 256 _ _ outputs_sum [] (said_in bytes) (omega arith) (keeps OutputCount), ap length d.outputs);
      latches = omega (arith, sum_kept LatchCount 256 _ _ latches_sum [] (said_in bytes) (omega arith) (keeps LatchCount), ap length d.latches);
      gates = omega (arith, sum_kept GateCount 65536 _ _ gates_sum [] (said_in bytes) (omega arith) (keeps GateCount), ap length d.gates, gates_counted (said_in bytes));
      gate_inputs = All-from_recursion ReadsFew N.gates (subst (λ gates. AllByRecursion ReadsFew gates) (sym d.gates) (reads_few [] (said_in bytes) (keeps GateInputs)));
    }

pub within_each : LimitsByStatement
within_each bytes N d = (kept_each bytes N d, within_from_each bytes N d)
