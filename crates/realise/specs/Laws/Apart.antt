-- No name is that of two signals.
use Rattle.std.proofs.Common.{◌≡◌, ℕ, zero, suc, ◌+◌, ◌^◌, ◌<◌, ◌≤◌, Bool, true, false, Option, Some, None, List, [], ◌∷◌, ◌++◌, length, map, drop, get_or, Contains, ap, sym, ◌∙◌, refl, subst, arith}
use Rattle.std.specs.Fmt.{decimal}
use Rattle.std.specs.List.{range_with_len}
use Rattle.std.specs.Option.{unwrap_or}
use Rattle.std.specs.Str.{bytes_eq}
use Rattle.std.proofs.lemmas.Fmt.{decimal_injective}
use Rattle.std.proofs.lemmas.List.{append_cancel_left}
use Rattle.std.proofs.lemmas.List.FromFn.{get_or-map-range_with_len, length-map-range_with_len}
use Rattle.list_facts.specs.Laws.Members.{Contains-here, Contains-there}
use Rattle.kiss_file.specs.declared.file.KissFile.{KissFile}
use Rattle.kiss_file.specs.LawfulFile.{AreGiven, IsLawful, given_names}
use Rattle.kiss_file.specs.Names.{AreDistinct}
use Rattle.net_core.specs.declared.SignalNames.{SignalNames}
use Rattle.net_core.specs.Laws.Members.{same_name, times, times-append, times-cons}
use Rattle.realise.specs.Laws.{ArePairwiseDistinct, NamesAreApart}
use Rattle.realise.specs.Names.{AreNames, input_letter, next_letter, output_letter, own_name, own_names, prefix, state_letter, unless_given, used_names}

-- ---- how often a name stands in a list
-- a name that neither is the first nor stands in the rest
times_other : (name x : List ℕ) (xs : List (List ℕ)) → (name ≡ x → ⊥) → times name xs ≡ 0 → times name (x ∷ xs) ≡ 0
times_other name x xs other none = by (bytes_eq name x) refl
  where
    by : (test : Bool) → bytes_eq name x ≡ test → times name (x ∷ xs) ≡ 0
    by true same = absurd (other (same_name name x same))
    by false apart = rw (times-cons name x xs, apart) (omega (arith, none))

-- a name that does not stand in a list
times_none : (name : List ℕ) (names : List (List ℕ)) → (Contains names name → ⊥) → times name names ≡ 0
times_none name [] none = refl
times_none name (x ∷ xs) none =
    times_other name x xs (λ e. none (subst (Contains (x ∷ xs)) (sym e) (Contains-here x xs)))
    (times_none name xs (λ h. none (Contains-there x name xs h)))

-- a first name that does not stand in the rest
times_first : (name x : List ℕ) (xs : List (List ℕ)) → times name xs ≤ 1 → (Contains xs x → ⊥) → times name (x ∷ xs) ≤ 1
times_first name x xs once apart = by (bytes_eq name x) refl
  where
    by : (test : Bool) → bytes_eq name x ≡ test → times name (x ∷ xs) ≤ 1
    by true same =
        let none : times name xs ≡ 0 = times_none name xs (λ h. apart (subst (Contains xs) (same_name name x same) h)) in
        rw (times-cons name x xs, same) (omega (arith, none))
    by false other = rw (times-cons name x xs, other) (omega (arith, once))

-- names that stand once in a list
times_distinct : (name : List ℕ) (names : List (List ℕ)) → AreDistinct names → times name names ≤ 1
times_distinct name [] distinct = omega arith
times_distinct name (x ∷ xs) distinct =
    times_first name x xs (times_distinct name xs (λ i j d low within. distinct (suc i) (suc j) d (omega arith) (omega arith)))
    (λ (k, lt, is). distinct 0 (suc k) x (omega arith) (omega arith) (sym is))

-- a name that stands in a list once or more
from_times : (name : List ℕ) (names : List (List ℕ)) → 1 ≤ times name names → Contains names name
from_times name [] some = absurd (omega arith)
from_times name (x ∷ xs) some = by (bytes_eq name x) refl (from_times name xs)
  where
    by : (test : Bool) → bytes_eq name x ≡ test → (1 ≤ times name xs → Contains xs name) → Contains (x ∷ xs) name
    by true same later = subst (Contains (x ∷ xs)) (sym (same_name name x same)) (Contains-here x xs)
    by false other later =
        let rest : times name (x ∷ xs) ≡ times name xs = rw (times-cons name x xs, other) (omega arith) in
        Contains-there x name xs (later (omega (arith, rest, some)))

-- own names of one letter have one number
same_number : (count letter i j : ℕ) → i < 2 ^ 64 → j < 2 ^ 64 → own_name count letter i ≡ own_name count letter j → i ≡ j
same_number count letter i j small also e =
    decimal_injective i j small also
    (ap (λ (t : List ℕ). drop 1 t) (append_cancel_left (prefix count) (letter ∷ decimal i) (letter ∷ decimal j) e))

-- the number of an own name of a list
number_of_own : (count letter first many : ℕ) (name : List ℕ) → Contains (map (own_name count letter) (range_with_len first many)) name
    → (number : ℕ) × (first ≤ number) × (number < first + many) × (name ≡ own_name count letter number)
number_of_own count letter first many name (k, lt, is) =
    let within : k < many = omega (arith, lt, length-map-range_with_len (own_name count letter) first many) in
    (first + k, omega arith, omega arith, sym is ∙ get_or-map-range_with_len (own_name count letter) first many k (first + k) name within refl)

-- own names of one letter stand once each
own_once : (count letter first many : ℕ) (name : List ℕ) → first + many ≤ 2 ^ 64 → times name (map (own_name count letter) (range_with_len first many)) ≤ 1
own_once count letter first zero name fits = omega arith
own_once count letter first (suc many) name fits =
    times_first name (own_name count letter first) (map (own_name count letter) (range_with_len (first + 1) many))
    (own_once count letter (first + 1) many name (omega arith))
    (λ h.
    let n = number_of_own count letter (first + 1) many (own_name count letter first) h in
    let same : first ≡ n.0 = same_number count letter first n.0 (omega arith) (omega arith) n.3 in
    absurd (omega (arith, same, n.1)))

-- the letter of an own name stands behind its prefix
letter_of : (count letter number : ℕ) → get_or (drop (length (prefix count)) (own_name count letter number)) 0 0 ≡ letter
letter_of count letter number = ap (λ (t : List ℕ). get_or t 0 0) (drop_append (prefix count) (letter ∷ decimal number))
  where
    drop_append : (xs ys : List ℕ) → drop (length xs) (xs ++ ys) ≡ ys
    drop_append [] ys = refl
    drop_append (x ∷ xs) ys = drop_append xs ys

-- the letter of a name behind so many prefixes
abbrev letter_in : ℕ → List ℕ → ℕ
letter_in count name = get_or (drop (length (prefix count)) name) 0 0

-- a name that stands among own names has their letter
own_letter : (count letter many : ℕ) (name : List ℕ) → 1 ≤ times name (own_names count letter many) → letter_in count name ≡ letter
own_letter count letter many name some =
    let n = number_of_own count letter 0 many name (from_times name (own_names count letter many) some) in
    ap (letter_in count) n.3 ∙ letter_of count letter n.0

-- no name is an own name twice
own_names_once : (F : KissFile) (latches count : ℕ) (name : List ℕ) → IsLawful F → latches ≤ 64
    → times name (own_names count input_letter F.inputs) + times name (own_names count state_letter latches)
    + times name (own_names count next_letter latches) + times name (own_names count output_letter F.outputs) ≤ 1
own_names_once F latches count name lawful few =
    let inputs : F.inputs ≤ 32 = lawful.inputs in
    let outputs : F.outputs ≤ 64 = lawful.outputs in
    grind (
      arith,
      own_once count input_letter 0 F.inputs name (omega arith),
      own_once count state_letter 0 latches name (omega arith),
      own_once count next_letter 0 latches name (omega arith),
      own_once count output_letter 0 F.outputs name (omega arith),
      own_letter count input_letter F.inputs name,
      own_letter count state_letter latches name,
      own_letter count next_letter latches name,
      own_letter count output_letter F.outputs name,
    )

-- ---- given names and own names
-- a name stands among the names of signals as often as among the given ones and the own ones that are used
times_or_own : (given : Option (List (List ℕ))) (own : List (List ℕ)) (name : List ℕ)
    → times name (unwrap_or given own) ≡ times name (unwrap_or given []) + times name (unless_given given own)
times_or_own None own name = omega arith
times_or_own (Some names) own name = omega arith

-- own names that are used are own names
times_used : (given : Option (List (List ℕ))) (own : List (List ℕ)) (name : List ℕ) → times name (unless_given given own) ≤ times name own
times_used None own name = omega arith
times_used (Some names) own name = omega arith

-- two numbers of which one is 0
one_of_two : (a b : ℕ) → a ≤ 1 → b ≤ 1 → (1 ≤ a → 1 ≤ b → ⊥) → a + b ≤ 1
one_of_two zero b small also never = omega arith
one_of_two (suc a) zero small also never = omega arith
one_of_two (suc a) (suc b) small also never = absurd (never (omega arith) (omega arith))

-- four lists
times_four : (name : List ℕ) (a b c d : List (List ℕ)) → times name (a ++ b ++ c ++ d) ≡ times name a + times name b + times name c + times name d
times_four name a b c d =
    times-append name (a ++ b ++ c) d ∙ ap (λ n. n + times name d) (times-append name (a ++ b) c ∙ ap (λ n. n + times name c) (times-append name a b))

-- no name is that of two signals
names_once : (F : KissFile) (latches : ℕ) (names : SignalNames) → IsLawful F → latches ≤ 64 → AreNames F latches names → ArePairwiseDistinct names
names_once F latches names lawful few are name =
    let count : ℕ = are.count in
    let own_ins : List (List ℕ) = own_names count input_letter F.inputs in
    let own_outs : List (List ℕ) = own_names count output_letter F.outputs in
    let nexts : List (List ℕ) = own_names count next_letter latches in
    let states : List (List ℕ) = own_names count state_letter latches in
    let used_ins : List (List ℕ) = unless_given F.input_names own_ins in
    let used_outs : List (List ℕ) = unless_given F.output_names own_outs in
    let used : times name (used_names F latches count) ≡ times name used_ins + times name used_outs + times name nexts + times name states =
    times_four name used_ins used_outs nexts states in
    let given : times name (given_names F) ≡ times name (unwrap_or F.input_names []) + times name (unwrap_or F.output_names []) =
    times-append name (unwrap_or F.input_names []) (unwrap_or F.output_names []) in
    let own = own_names_once F latches count name lawful few in
    let once : times name (used_names F latches count) ≤ 1 =
    omega (arith, used, own, times_used F.input_names own_ins name, times_used F.output_names own_outs name) in
    let both : times name (used_names F latches count) + times name (given_names F) ≤ 1 =
    one_of_two (times name (used_names F latches count)) (times name (given_names F)) once (times_distinct name (given_names F) lawful.given_distinct)
    (λ some also. are.apart.free name (from_times name (used_names F latches count) some) (from_times name (given_names F) also)) in
    omega (
      arith,
      both,
      used,
      given,
      times_four name names.inputs names.outputs names.latch_inputs names.latch_outputs,
      ap (times name) are.inputs,
      ap (times name) are.outputs,
      ap (times name) are.latch_inputs,
      ap (times name) are.latch_outputs,
      times_or_own F.input_names own_ins name,
      times_or_own F.output_names own_outs name,
    )

-- ---- how many there are
counted_or_own : (given : Option (List (List ℕ))) (count letter many : ℕ) → AreGiven many given → length (unwrap_or given (own_names count letter many)) ≡ many
counted_or_own None count letter many are = length-map-range_with_len (own_name count letter) 0 many
counted_or_own (Some names) count letter many are = are.0

pub names_apart : NamesAreApart
names_apart F latches names lawful few are = (
  record {
    inputs = ap length are.inputs ∙ counted_or_own F.input_names are.count input_letter F.inputs lawful.input_names;
    outputs = ap length are.outputs ∙ counted_or_own F.output_names are.count output_letter F.outputs lawful.output_names;
    latch_inputs = ap length are.latch_inputs ∙ length-map-range_with_len (own_name are.count next_letter) 0 latches;
    latch_outputs = ap length are.latch_outputs ∙ length-map-range_with_len (own_name are.count state_letter) 0 latches;
  },
  names_once F latches names lawful few are,
)
