-- The first states of classes.
use Rattle.std.proofs.Common.{◌≡◌, ℕ, ◌+◌, ◌<◌, inl, inr, List, [], ◌∷◌, ◌++◌, length, get_or, slice_index, sym, ◌∙◌, subst, arith}
use Rattle.std.proofs.lemmas.Bool.{cases_eq, cases_lt}
use Rattle.std.proofs.lemmas.List.{get_or_append_left, get_or_push, length_push}
use Rattle.kiss_file.specs.declared.file.KissFile.{KissFile}
use Rattle.shift_real.specs.Inner.Tables.{AreAlike, AreFirsts, IsFirstAlike}

pub alike_turned : (F : KissFile) (b s t : ℕ) → AreAlike F b s t → AreAlike F b t s
alike_turned F b s t alike x low = sym (alike x low)

pub alike_on : (F : KissFile) (b s t u : ℕ) → AreAlike F b s t → AreAlike F b t u → AreAlike F b s u
alike_on F b s t u first second x low = first x low ∙ second x low

-- a state that is no first one is alike to an earlier one
pub passed_over : (F : KissFile) (b s : ℕ) (firsts : List ℕ) (t : ℕ) → AreFirsts F b s firsts → t < length firsts → (slice_index firsts t ≡ t → ⊥)
    → ((u : ℕ) → u < t → AreAlike F b u s → ⊥) → AreAlike F b t s → ⊥
passed_over F b s firsts t are within other none alike =
    let first = are.each t (omega (arith, within, are.size)) in
    let earlier : slice_index firsts t < t = omega (arith, first.within, other) in
    none (slice_index firsts t) earlier (alike_on F b (slice_index firsts t) t s first.alike alike)

-- one state more
pub firsts_more : (F : KissFile) (b s : ℕ) (old new : List ℕ) (first : ℕ) → AreFirsts F b s old → IsFirstAlike F b s first → new ≡ old ++ first ∷ [] → AreFirsts F b (s + 1) new
firsts_more F b s old new first before is pushed =
    subst (AreFirsts F b (s + 1)) (sym pushed) (record {
      size = omega (arith, length_push old first, before.size);
      each = λ t within. elim (cases_lt t s) [
        | inl below ↦ subst (IsFirstAlike F b t) (sym (get_or_append_left old (first ∷ []) 0 t (omega (arith, below, before.size)))) (before.each t below)
        | inr last ↦
            let at : t ≡ s = omega arith in
            let read : get_or (old ++ first ∷ []) t 0 ≡ first = get_or_push old first 0 t (omega (arith, at, before.size)) in
            subst (IsFirstAlike F b t) (sym read) (subst (λ (u : ℕ). IsFirstAlike F b u first) (sym at) is)
      ];
    })

-- alike states have one first state
pub one_first : (F : KissFile) (b s t i j : ℕ) → IsFirstAlike F b s i → IsFirstAlike F b t j → AreAlike F b s t → i ≡ j
one_first F b s t i j first second alike =
    elim (cases_lt i j) [
      | inl before ↦ absurd (second.least i before (alike_on F b i s t first.alike alike))
      | inr later ↦ elim (cases_eq i j) [
        | inl same ↦ same
        | inr other ↦ absurd (first.least j (omega (arith, later, other)) (alike_on F b j t s second.alike (alike_turned F b s t alike)))
      ]
    ]

-- and states of one first state are alike
pub one_class : (F : KissFile) (b s t i j : ℕ) → IsFirstAlike F b s i → IsFirstAlike F b t j → i ≡ j → AreAlike F b s t
one_class F b s t i j first second same =
    alike_on F b s i t (alike_turned F b i s first.alike) (subst (λ (k : ℕ). AreAlike F b k t) (sym same) second.alike)
