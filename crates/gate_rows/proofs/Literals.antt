-- Terms over the columns of a gate, one column more at a time.
use Rattle.std.proofs.Common.{◌≡◌, ℕ, zero, suc, ◌+◌, ◌*◌, ◌%◌, ◌^◌, ◌<◌, ◌↔◌, inl, inr, Bool, true, false, if◌then◌else◌, Option, Some, None, List, [], ◌∷◌, ◌++◌, length, map, All, bit_or, refl, sym, ap, subst, ◌∙◌, arith, length-append}
use Rattle.std.specs.Int.{bit_at}
use Rattle.std.proofs.lemmas.List.{get_or_append_left, length-map, map-append}
use Rattle.std.proofs.lemmas.Nat.{one_shl, or_lt, pow_pos}
use Rattle.std.proofs.lemmas.Nat.Bits.{bit_at-zero, bit_at_above}
use Rattle.list_facts.specs.Laws.Places.{get_behind, get_cases, get_first}
use Rattle.cover_terms.specs.declared.term.Term.{Term}
use Rattle.cover_terms.specs.Term.{Holds}
use Rattle.cover_terms.specs.Laws.Terms.{split_by}
use Rattle.cubes.specs.Symbol.{bit}
use Rattle.cubes.specs.Laws.Bits.{bit_from_one, bit_from_zero, one_from_bit, zero_from_bit}
use Rattle.gate_rows.specs.Inner.Literals.{AllowsFrom, HasCharacters, code_character}

-- ---- characters of two lists, one behind the other
pub allows_first : (n : ℕ) (cs ds : List (Option Bool)) (v : ℕ) → AllowsFrom n (cs ++ ds) v → AllowsFrom n cs v
allows_first n cs ds v all c wanted is = all c wanted (get_first cs ds c (Some wanted) is)

pub allows_behind : (n : ℕ) (cs ds : List (Option Bool)) (v : ℕ) → AllowsFrom n (cs ++ ds) v → AllowsFrom (n + length cs) ds v
allows_behind n cs ds v all c wanted is =
    let e : n + length cs + c ≡ n + (length cs + c) = omega arith in
    ap (bit v) e ∙ all (length cs + c) wanted (get_behind cs ds c ∙ is)

pub allows_both : (n : ℕ) (cs ds : List (Option Bool)) (v : ℕ) → AllowsFrom n cs v → AllowsFrom (n + length cs) ds v → AllowsFrom n (cs ++ ds) v
allows_both n cs ds v first behind c wanted is =
    elim (get_cases cs ds c (Some wanted) is) [
      | inl here ↦ first c wanted here
      | inr there ↦
          let e : n + c ≡ n + length cs + there.0 = (let same = there.1 in omega arith) in
          ap (bit v) e ∙ behind there.0 wanted there.2
    ]

-- one character
allows_one : (n : ℕ) (one : Bool) (v : ℕ) → bit v n ≡ one → AllowsFrom n (Some one ∷ []) v
allows_one n one v has zero wanted is =
    let e : n + 0 ≡ n = omega arith in
    let same : one ≡ wanted = cc in
    ap (bit v) e ∙ (has ∙ same)
allows_one n one v has (suc c) wanted is = absurd (cc)

allows_dash : (n v : ℕ) → AllowsFrom n (None ∷ []) v
allows_dash n v zero wanted is = absurd (cc)
allows_dash n v (suc c) wanted is = absurd (cc)

-- a literal more
pub holds_more : (n : ℕ) (ds : List (Option Bool)) (one : Bool) (start t more : Term) → ((v : ℕ) → Holds t v ↔ (Holds start v × AllowsFrom n ds v))
    → ((v : ℕ) → Holds more v ↔ (Holds t v × (bit v (n + length ds) ≡ one)))
    → (v : ℕ) → Holds more v ↔ (Holds start v × AllowsFrom n (ds ++ Some one ∷ []) v)
holds_more n ds one start t more before step v = (
  λ held.
      let both = (step v).0 held in
      let parts = (before v).0 both.0 in
      (parts.0, allows_both n ds (Some one ∷ []) v parts.1 (allows_one (n + length ds) one v both.1)),
  λ both.
      let e : n + length ds + 0 ≡ n + length ds = omega arith in
      (step v).1 (
        (before v).1 (both.0, allows_first n ds (Some one ∷ []) v both.1),
        sym (ap (bit v) e) ∙ allows_behind n ds (Some one ∷ []) v both.1 0 one refl,
      ),
)

-- a term with one character more
pub literal_more : (cs : List (Option Bool)) (column : ℕ) (one : Bool) (t more : Term) → length cs ≡ column → HasCharacters cs t → more.care < 2 ^ (column + 1)
    → ((v : ℕ) → Holds more v ↔ (Holds t v × (bit v column ≡ one))) → HasCharacters (cs ++ Some one ∷ []) more
literal_more cs column one t more counts is fits step =
    let long : column + 1 ≡ length (cs ++ Some one ∷ []) = omega (arith, counts, length-append cs (Some one ∷ [])) in
    let at : column ≡ 0 + length cs = omega arith in
    record {
      fits = subst (λ (n : ℕ). more.care < 2 ^ n) long fits;
      holds = λ v. (
        λ held.
            let both = (step v).0 held in
            allows_both 0 cs (Some one ∷ []) v ((is.holds v).0 both.0) (allows_one (0 + length cs) one v (sym (ap (bit v) at) ∙ both.1)),
        λ all.
            let e : column ≡ 0 + length cs + 0 = omega arith in
            (step v).1 (
              (is.holds v).1 (allows_first 0 cs (Some one ∷ []) v all),
              ap (bit v) e ∙ allows_behind 0 cs (Some one ∷ []) v all 0 one refl,
            ),
      );
    }

below_more_bits : (n k : ℕ) → n < 2 ^ k → n < 2 ^ (k + 1)
below_more_bits n k small = let e : 2 ^ (k + 1) ≡ 2 ^ k + 2 ^ k = doubled k in omega (arith, e, small)
  where
    doubled : (k : ℕ) → 2 ^ (k + 1) ≡ 2 ^ k + 2 ^ k
    doubled k = let e : k + 1 ≡ suc k = omega arith in ap (λ (n : ℕ). 2 ^ n) e ∙ omega arith

pub dash_more : (cs : List (Option Bool)) (t : Term) → HasCharacters cs t → HasCharacters (cs ++ None ∷ []) t
dash_more cs t is =
    let long : length cs + 1 ≡ length (cs ++ None ∷ []) = omega (arith, length-append cs (None ∷ [])) in
    record {
      fits = subst (λ (n : ℕ). t.care < 2 ^ n) long (below_more_bits t.care (length cs) is.fits);
      holds = λ v. (
        λ held. allows_both 0 cs (None ∷ []) v ((is.holds v).0 held) (allows_dash (0 + length cs) v),
        λ all. (is.holds v).1 (allows_first 0 cs (None ∷ []) v all),
      );
    }

-- the whole term
pub term_whole : (cs ds : List (Option Bool)) (start t : Term) → HasCharacters cs start → t.care < 2 ^ (length cs + length ds)
    → ((v : ℕ) → Holds t v ↔ (Holds start v × AllowsFrom (length cs) ds v)) → HasCharacters (cs ++ ds) t
term_whole cs ds start t is fits step =
    let at : 0 + length cs ≡ length cs = omega arith in
    record {
      fits = subst (λ (n : ℕ). t.care < 2 ^ n) (sym (length-append cs ds)) fits;
      holds = λ v. (
        λ held.
            let both = (step v).0 held in
            allows_both 0 cs ds v ((is.holds v).0 both.0) (subst (λ (n : ℕ). AllowsFrom n ds v) (sym at) both.1),
        λ all.
            (step v).1 (
              (is.holds v).1 (allows_first 0 cs ds v all),
              subst (λ (n : ℕ). AllowsFrom n ds v) at (allows_behind 0 cs ds v all),
            ),
      );
    }

-- ---- one literal
pub literal_fits : (n k : ℕ) → k < 128 → n < 2 ^ k → bit_or n (1 * 2 ^ k % 2 ^ 128) < 2 ^ (k + 1)
literal_fits n k few small =
    let one : 1 * 2 ^ k % 2 ^ 128 ≡ 2 ^ k = one_shl k 128 few in
    let positive = pow_pos k in
    let same : 2 ^ k < 2 ^ (k + 1) = (let e : k + 1 ≡ suc k = omega arith in rw e (omega (arith, positive))) in
    or_lt (k + 1) n (1 * 2 ^ k % 2 ^ 128) (below_more_bits n k small) (subst (λ (m : ℕ). m < 2 ^ (k + 1)) (sym one) same)

-- a digit is a bit
digit_bit : (v k : ℕ) (one : Bool) → bit_at v k ≡ (if one then 1 else 0) → bit v k ≡ one
digit_bit v k true h = bit_from_one v k h
digit_bit v k false h = bit_from_zero v k h

bit_digit : (v k : ℕ) (one : Bool) → bit v k ≡ one → bit_at v k ≡ (if one then 1 else 0)
bit_digit v k true h = one_from_bit v k h
bit_digit v k false h = zero_from_bit v k h

pub literal_holds : (t : Term) (k : ℕ) (one : Bool) (more : Term) → k < 128 → t.care < 2 ^ k → more.care ≡ bit_or t.care (1 * 2 ^ k % 2 ^ 128)
    → (one ≡ true → more.value ≡ bit_or t.value (1 * 2 ^ k % 2 ^ 128)) → (one ≡ false → more.value ≡ t.value)
    → (v : ℕ) → Holds more v ↔ (Holds t v × (bit v k ≡ one))
literal_holds t k one more few fits care set stay v =
    let half = split_by t k one more few (bit_at_above t.care k k fits (omega arith)) care set stay v in (
      λ held. let both = half.0 held in (both.0, digit_bit v k one both.1),
      λ both. half.1 (both.0, bit_digit v k one both.1),
    )

-- no literal
zero_bits : (t : Term) → t.care ≡ 0 → (i : ℕ) → bit_at t.care i ≡ 0
zero_bits t none i = ap (λ (n : ℕ). bit_at n i) none ∙ bit_at-zero i

holds_none : (t : Term) → t.care ≡ 0 → (v : ℕ) → Holds t v
unfolding Holds
holds_none t none v i looks = absurd (let z = zero_bits t none i in omega arith)

pub no_literals : (t : Term) → t.care ≡ 0 → HasCharacters [] t
no_literals t none = record {
  fits = rw none (omega arith);
  holds = λ v. (λ held c wanted is. absurd (cc), λ all. holds_none t none v);
}

-- ---- the last item of a list, and the others
map_last : {X Y : Type 0} (f : X → Y) (xs others : List X) (x : X) → xs ≡ others ++ x ∷ [] → map f xs ≡ map f others ++ f x ∷ []
map_last {X} {Y} f xs others x is = ap (map f) is ∙ map-append f others (x ∷ [])

pub all_others : (P : ℕ → Type 0) (xs others : List ℕ) (x : ℕ) → xs ≡ others ++ x ∷ [] → All P xs → All P others
all_others P xs others x is all k d lt =
    let whole : All P (others ++ x ∷ []) = subst (λ (list : List ℕ). All P list) is all in
    subst P (get_or_append_left others (x ∷ []) d k lt) (whole k d (omega (arith, lt, length-append others (x ∷ []))))

pub none_of_none : {X : Type 0} (f : X → Option Bool) (xs : List X) (t : Term) → length xs ≡ 0 → t.care ≡ 0 → HasCharacters (map f xs) t
none_of_none f [] t none clear = no_literals t clear
none_of_none f (x ∷ xs) t none clear = absurd (omega arith)

pub with_last_literal : (f : ℕ → Option Bool) (xs others : List ℕ) (x : ℕ) (one : Bool) (t more : Term) → xs ≡ others ++ x ∷ [] → f x ≡ Some one → HasCharacters (map f others) t → more.care < 2 ^ (length others + 1)
    → ((v : ℕ) → Holds more v ↔ (Holds t v × (bit v (length others) ≡ one))) → HasCharacters (map f xs) more
with_last_literal f xs others x one t more is says before fits step =
    subst (λ (list : List (Option Bool)). HasCharacters list more) (ap (λ (c : Option Bool). map f others ++ c ∷ []) (sym says) ∙ sym (map_last f xs others x is))
    (literal_more (map f others) (length others) one t more (length-map others f) before fits step)

pub with_last_dash : (f : ℕ → Option Bool) (xs others : List ℕ) (x : ℕ) (t : Term) → xs ≡ others ++ x ∷ [] → f x ≡ None → HasCharacters (map f others) t → HasCharacters (map f xs) t
with_last_dash f xs others x t is says before =
    subst (λ (list : List (Option Bool)). HasCharacters list t) (ap (λ (c : Option Bool). map f others ++ c ∷ []) (sym says) ∙ sym (map_last f xs others x is))
    (dash_more (map f others) t before)

pub with_last_bit : (n word : ℕ) (xs others : List ℕ) (x : ℕ) (one : Bool) (start t more : Term) → xs ≡ others ++ x ∷ [] → bit word x ≡ one
    → ((v : ℕ) → Holds t v ↔ (Holds start v × AllowsFrom n (map (code_character word) others) v)) → ((v : ℕ) → Holds more v ↔ (Holds t v × (bit v (n + length others) ≡ one)))
    → (v : ℕ) → Holds more v ↔ (Holds start v × AllowsFrom n (map (code_character word) xs) v)
with_last_bit n word xs others x one start t more is says before step =
    let same : map (code_character word) others ++ Some one ∷ [] ≡ map (code_character word) xs =
    ap (λ (b : Bool). map (code_character word) others ++ Some b ∷ []) (sym says) ∙ sym (map_last (code_character word) xs others x is) in
    subst (λ (list : List (Option Bool)). (v : ℕ) → Holds more v ↔ (Holds start v × AllowsFrom n list v)) same
    (holds_more n (map (code_character word) others) one start t more before
    (subst (λ (count : ℕ). (v : ℕ) → Holds more v ↔ (Holds t v × (bit v (n + count) ≡ one))) (sym (length-map others (code_character word))) step))

-- no bits
pub with_no_bits : (n word : ℕ) (xs : List ℕ) (start : Term) → length xs ≡ 0 → (v : ℕ) → Holds start v ↔ (Holds start v × AllowsFrom n (map (code_character word) xs) v)
with_no_bits n word [] start none v = (λ held. (held, λ c wanted is. absurd (cc)), λ both. both.0)
with_no_bits n word (x ∷ xs) start none v = absurd (omega arith)

-- the whole term, from the lists that were lent
pub term_of_lists : (f g : ℕ → Option Bool) (ins lats first counted behind : List ℕ) (start t : Term) → first ≡ ins → counted ≡ ins → behind ≡ lats → HasCharacters (map f first) start
    → t.care < 2 ^ (length counted + length behind) → ((v : ℕ) → Holds t v ↔ (Holds start v × AllowsFrom (length counted) (map g behind) v)) → HasCharacters (map f ins ++ map g lats) t
term_of_lists f g ins lats first counted behind start t is_first is_counted is_behind before fits step =
    let count : length counted ≡ length (map f ins) = ap length is_counted ∙ sym (length-map ins f) in
    let places : length counted + length behind ≡ length (map f ins) + length (map g lats) = omega (arith, count, ap length is_behind, length-map lats g) in
    term_whole (map f ins) (map g lats) start t
    (subst (λ (list : List ℕ). HasCharacters (map f list) start) is_first before)
    (subst (λ (n : ℕ). t.care < 2 ^ n) places fits)
    (subst (λ (n : ℕ). (v : ℕ) → Holds t v ↔ (Holds start v × AllowsFrom n (map g lats) v)) count
    (subst (λ (list : List ℕ). (v : ℕ) → Holds t v ↔ (Holds start v × AllowsFrom (length counted) (map g list) v)) is_behind step))
