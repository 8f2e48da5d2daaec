-- The lines above the rows, as they are written, have no fault.
use Rattle.std.proofs.Common.{◌≡◌, ◌≢◌, ℕ, ◌<◌, ◌≤◌, ◌^◌, false, not, cond, eqb, ltb, ◌||◌, List, [], ◌∷◌, ◌++◌, length, Option, Some, None, All, ap, ◌∙◌, refl, arith}
use Rattle.std.specs.Prelude.{find}
use Rattle.std.specs.Fmt.{decimal}
use Rattle.std.specs.List.{list_any}
use Rattle.std.specs.Option.{option_map}
use Rattle.std.proofs.lemmas.Bool.{eq-eqb, le-ltb, ne_eqb, or_from}
use Rattle.std.proofs.lemmas.List.Elements.{All-head, All-tail}
use Rattle.kiss2.specs.declared.fault.KissKind.{KissKind}
use Rattle.kiss2.specs.declared.fault.KissKind.TheVariants.{BadFields, BadNumber, OverLimit, Repeated}
use Rattle.kiss2.specs.declared.fault.KissLimit.{KissLimit}
use Rattle.kiss2.specs.declared.fault.KissLimit.TheVariants.{NameBytes}
use Rattle.kiss2.specs.Faults.{count_fault, fault_where, first_of, has_twice, long_name, names_fault, number_fault, reset_fault}
use Rattle.kiss_file.specs.LawfulFile.{IsGivenName}
use Rattle.kiss2.specs.Words.{decimal_value, has_backslash}
use Rattle.kiss2_laws.proofs.ReadBack.{decimal_read}

-- `.i` and `.o`
pub count_written : (what : KissLimit) (limit n : ℕ) → 1 ≤ n → n ≤ limit → limit ≤ 64 → count_fault what limit (decimal n ∷ []) ≡ None
count_written what limit n some le few =
    let read = decimal_read n (omega arith) in
    let value : decimal_value (decimal n) ≡ n = read.1 in
    let zero_no : eqb (decimal_value (decimal n)) 0 ≡ false = ne_eqb (decimal_value (decimal n)) 0 (λ e. absurd (omega arith)) in
    let over_no : ltb limit (decimal_value (decimal n)) ≡ false = le-ltb limit (decimal_value (decimal n)) (omega arith) in
    ap (λ b. first_of (fault_where (not b || eqb (decimal_value (decimal n)) 0) BadNumber ∷ fault_where (ltb limit (decimal_value (decimal n))) (OverLimit what (decimal_value (decimal n))) ∷ [])) read.0
    ∙ (ap (λ b. first_of (fault_where b BadNumber ∷ fault_where (ltb limit (decimal_value (decimal n))) (OverLimit what (decimal_value (decimal n))) ∷ [])) zero_no
    ∙ ap (λ b. first_of (fault_where b (OverLimit what (decimal_value (decimal n))) ∷ [])) over_no)

-- `.p` and `.s`
pub number_written : (n : ℕ) → n < 10 ^ 9 → number_fault (decimal n ∷ []) ≡ None
number_written n small = ap (λ b. first_of (fault_where (not b) BadNumber ∷ [])) (decimal_read n small).0

-- no name is long
pub none_long : (names : List (List ℕ)) → All (λ name. length name ≤ 64) names → long_name names ≡ None
none_long [] all = refl
none_long (name ∷ names) all =
    let short : ltb 64 (length name) ≡ false = le-ltb 64 (length name) (All-head (λ n. length n ≤ 64) name names all) in
    ap (λ b. option_map (λ n. OverLimit NameBytes (length n)) (cond b (Some name) (find (λ n. ltb 64 (length n)) names))) short ∙ none_long names (All-tail (λ n. length n ≤ 64) name names all)

-- `.r`
pub reset_written : (name : List ℕ) → length name ≤ 64 → reset_fault (name ∷ []) ≡ None
reset_written name le = ap (λ b. first_of (option_map (λ n. OverLimit NameBytes (length n)) (cond b (Some name) None) ∷ [])) (le-ltb 64 (length name) le)

no_backslash : (name : List ℕ) → All (λ byte. byte ≢ 92) name → has_backslash name ≡ false
no_backslash [] all = refl
no_backslash (b ∷ bs) all = or_from (eqb b 92) (has_backslash bs) (ne_eqb b 92 (All-head (λ byte. byte ≢ 92) b bs all)) (no_backslash bs (All-tail (λ byte. byte ≢ 92) b bs all))

no_backslashes : (names : List (List ℕ)) → All IsGivenName names → list_any has_backslash names ≡ false
no_backslashes [] all = refl
no_backslashes (name ∷ names) all =
    or_from (has_backslash name) (list_any has_backslash names) (no_backslash name (All-head IsGivenName name names all).no_backslash) (no_backslashes names (All-tail IsGivenName name names all))

all_short : (names : List (List ℕ)) → All IsGivenName names → All (λ name. length name ≤ 64) names
all_short names all i d lt = (all i d lt).short

-- `.ilb` and `.ob`
pub names_written : (k : ℕ) (others names : List (List ℕ)) → length names ≡ k → All IsGivenName names → has_twice (others ++ names) ≡ false → names_fault (Some k) others names ≡ None
names_written k others names long given once =
    let last : List (Option KissKind) = fault_where (has_twice (others ++ names)) Repeated ∷ [] in
    ap (λ b. first_of (fault_where (not b || list_any has_backslash names) BadFields ∷ long_name names ∷ last)) (eq-eqb (length names) k long)
    ∙ (ap (λ b. first_of (fault_where b BadFields ∷ long_name names ∷ last)) (no_backslashes names given)
    ∙ (ap (λ f. first_of (f ∷ last)) (none_long names (all_short names given))
    ∙ ap (λ b. first_of (fault_where b Repeated ∷ [])) once))
