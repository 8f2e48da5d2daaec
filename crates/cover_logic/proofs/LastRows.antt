use Rattle.std.proofs.Common.{◌≡◌, ◌≢◌, ℕ, ◌+◌, ◌-◌, ◌<◌, ◌≤◌, ◌%◌, ◌^◌, ◌∙◌, ◌⊎◌, ⊎_elim, inl, inr, List, [], ◌∷◌, ◌++◌, Option, Some, None, length, replicate, drop, get_or, sym, ap, subst, arith, length-drop}
use Rattle.std.specs.List.{All}
use Rattle.std.proofs.lemmas.Bool.{cases_lt}
use Rattle.std.proofs.lemmas.List.{get_or_default, get_or-drop, get_or-replicate, length-replicate}
use Rattle.std.proofs.lemmas.List.Elements.{Contains-get_or}
use Rattle.cover_terms.specs.declared.term.Term.{Term}
use Rattle.cover_terms.specs.Term.{FitsWidth, Holds, IsCovered}
use Rattle.cover_terms.specs.Charts.{IsCleared, IsFilled, IsFound}
use Rattle.cover_logic.specs.Inner.Lasts.{AreLasts, AreLastsOn}
use Rattle.cover_terms.specs.Lists.{Covers}
use Rattle.cover_logic.specs.Inner.Rows.{IsSole}
use Rattle.cover_logic.specs.Inner.Tables.{AreMarks}
use Rattle.cover_terms.specs.Laws.Lists.{held_cases, held_left, held_push, held_push_cases, held_right}
use Rattle.cover_logic.proofs.Width.{held_from_low, held_low, holds_low, low_is_value}

pub lasts_none : (w : ℕ) (rows : List Term) (chart : List ℕ) → chart ≡ replicate (2 ^ w) 0 → AreLasts w rows 0 chart
lasts_none w rows chart e = record {
  size = ap length e ∙ length-replicate (2 ^ w) 0;
  bound = λ x below. let z = none x below in omega arith;
  last = λ x k d below is. let z = none x below in absurd (omega arith);
  later = λ x k d below low p. absurd (omega arith);
}
  where
    none : (x : ℕ) → x < 2 ^ w → get_or chart x 0 ≡ 0
    none x below = ap (λ (ns : List ℕ). get_or ns x 0) e ∙ get_or-replicate (2 ^ w) x 0 0 below

-- with the next row
pub lasts_more : (w : ℕ) (rows : List Term) (i : ℕ) (row : Term) (before after : List ℕ) → i < length rows → row ≡ get_or rows i row → AreLasts w rows i before → IsFilled w row (i + 1) before after → AreLasts w rows (i + 1) after
lasts_more w rows i row before after within is m f = record {
  size = f.size ∙ m.size;
  bound = λ x below. ⊎_elim (λ same. let b = m.bound x below in omega arith) (λ q. let e = f.all x below q in omega arith) (f.rest x below);
  last = λ x k d below e. ⊎_elim (λ same. m.last x k d below (sym same ∙ e))
      (λ q. let full = f.all x below q in let same : k ≡ i = omega arith in subst (λ (t : Term). Holds t x) (sym (at k d same)) q) (f.rest x below);
  later = λ x k d below low p. ⊎_elim
      (λ lt. ⊎_elim (λ same. subst (λ (n : ℕ). k < n) (sym same) (m.later x k d below lt p)) (λ q. let e = f.all x below q in omega arith) (f.rest x below))
      (λ ge.
      let same : k ≡ i = omega arith in
      let e = f.all x below (subst (λ (t : Term). Holds t x) (at k d same) p) in omega arith)
      (cases_lt k i);
}
  where
    at : (k : ℕ) (d : Term) → k ≡ i → get_or rows k d ≡ row
    at k d same = ap (λ j. get_or rows j d) same ∙ (get_or_default rows i d row within ∙ sym is)

-- at the values that terms of on hold
pub lasts_at_marks : (w : ℕ) (rows on : List Term) (marks before after : List ℕ) → AreMarks w on marks → AreLasts w rows (length rows) before → IsCleared marks before after → AreLastsOn w rows on after
lasts_at_marks w rows on marks before after m l c = record {
  size = c.size ∙ l.size;
  bound = λ x below. ⊎_elim (λ z. let e = c.none x (inside x below) z in omega arith) (λ held. let s = same x below held in let b = l.bound x below in omega arith) (m.zero x below);
  among = λ x below. ⊎_elim (λ z. inl (c.none x (inside x below) z)) (λ held. inr held) (m.zero x below);
  last = λ x k d below e. ⊎_elim (λ z. let n = c.none x (inside x below) z in absurd (omega arith)) (λ held. l.last x k d below (sym (same x below held) ∙ e)) (m.zero x below);
  later = λ x k d below held within p. subst (λ (n : ℕ). k < n) (sym (same x below held)) (l.later x k d below within p);
}
  where
    inside : (x : ℕ) → x < 2 ^ w → x < length before
    inside x below = subst (λ (n : ℕ). x < n) (sym l.size) below

    same : (x : ℕ) → x < 2 ^ w → IsCovered on x → get_or after x 0 ≡ get_or before x 0
    same x below held = let one = m.one x below held in c.same x (inside x below) (λ z. absurd (omega arith))

-- the value is of on; the row of that number holds it, and neither a row that is kept nor a later row does
pub record IsLastFor (rows on kept : List Term) (x k : ℕ) : Type 0 where
  pub within : k < length rows
  pub of_on : IsCovered on x
  pub holds : (d : Term) → Holds (get_or rows k d) x
  pub others : IsCovered (kept ++ drop (k + 1) rows) x → ⊥

-- a value has one more than the number of the last row that holds it, or 0 where it is not of on or a row that is kept holds it
pub record AreOpen (w : ℕ) (rows on kept : List Term) (chart : List ℕ) : Type 0 where
  pub size : length chart ≡ 2 ^ w
  pub last : (x k : ℕ) → x < 2 ^ w → get_or chart x 0 ≡ k + 1 → IsLastFor rows on kept x k
  pub held : (x : ℕ) → x < 2 ^ w → IsCovered on x → get_or chart x 0 ≡ 0 → IsCovered kept x

pub open_first : (w : ℕ) (rows on : List Term) (chart : List ℕ) → Covers rows on → AreLastsOn w rows on chart → AreOpen w rows on [] chart
open_first w rows on chart covers m = record {
  size = m.size;
  last = λ x k below e. record {
    within = let b = m.bound x below in omega arith;
    of_on = of_on x k below e;
    holds = λ d. m.last x k d below e;
    others = λ h.
        let place = h.1.0 in
        let inside : k + 1 + place < length rows = (let b = h.1.1 in omega (arith, length-drop (k + 1) rows)) in
        let q : Holds (get_or rows (k + 1 + place) h.0) x = subst (λ (t : Term). Holds t x) (sym (sym (get_or-drop (k + 1) rows place h.0) ∙ h.1.2)) h.2 in
        let late = m.later x (k + 1 + place) h.0 below (of_on x k below e) inside q in omega arith;
  };
  held = λ x below h e.
      let r = covers x h in
      let late = m.later x r.1.0 r.0 below h r.1.1 (subst (λ (t : Term). Holds t x) (sym r.1.2) r.2) in absurd (omega arith);
}
  where
    of_on : (x k : ℕ) → x < 2 ^ w → get_or chart x 0 ≡ k + 1 → IsCovered on x
    of_on x k below e = ⊎_elim (λ z. absurd (omega arith)) (λ held. held) (m.among x below)

-- the next row is kept
pub open_kept : (w : ℕ) (rows on kept : List Term) (row : Term) (before after : List ℕ) → AreOpen w rows on kept before → IsFilled w row 0 before after → AreOpen w rows on (kept ++ row ∷ []) after
open_kept w rows on kept row before after m f = record {
  size = f.size ∙ m.size;
  last = λ x k below e. ⊎_elim (λ same. later x k below e (m.last x k below (sym same ∙ e))) (λ q. absurd (gone x k below e q)) (f.rest x below);
  held = λ x below h e. ⊎_elim (λ same. held_left kept (row ∷ []) x (m.held x below h (sym same ∙ e))) (λ q. held_push kept row x q) (f.rest x below);
}
  where
    gone : (x k : ℕ) → x < 2 ^ w → get_or after x 0 ≡ k + 1 → Holds row x → ⊥
    gone x k below e q = let z = f.all x below q in omega arith

    later : (x k : ℕ) → x < 2 ^ w → get_or after x 0 ≡ k + 1 → IsLastFor rows on kept x k → IsLastFor rows on (kept ++ row ∷ []) x k
    later x k below e l = record {
      within = l.within;
      of_on = l.of_on;
      holds = l.holds;
      others = λ h. ⊎_elim
          (λ r. ⊎_elim (λ p. l.others (held_left kept (drop (k + 1) rows) x p)) (λ q. gone x k below e q) (held_push_cases kept row x r))
          (λ r. l.others (held_right kept (drop (k + 1) rows) x r))
          (held_cases (kept ++ row ∷ []) (drop (k + 1) rows) x h);
    }

-- what a row from a place on holds, the rest from there holds
rest_held : (rows : List Term) (n k : ℕ) (d : Term) (x : ℕ) → n ≤ k → k < length rows → Holds (get_or rows k d) x → IsCovered (drop n rows) x
rest_held rows n k d x low within p =
    let e : get_or (drop n rows) (k - n) d ≡ get_or rows k d = get_or-drop n rows (k - n) d ∙ ap (λ j. get_or rows j d) (omega arith) in
    (get_or (drop n rows) (k - n) d, Contains-get_or (drop n rows) (k - n) d (omega (arith, length-drop n rows)), subst (λ (t : Term). Holds t x) (sym e) p)

zero_or_more : (n : ℕ) → (n ≡ 0) ⊎ ((k : ℕ) × (n ≡ k + 1))
zero_or_more n = ⊎_elim (λ z. inl (omega arith)) (λ s. inr (n - 1, omega arith)) (cases_lt n 1)

-- a value with the number of a row is its own, and where no value of the row has it, the others hold all its values of on
module _ (w : ℕ) (rows on kept : List Term) (i : ℕ) (row : Term) (chart : List ℕ) (within : i < length rows) (is : row ≡ get_or rows i row) (m : AreOpen w rows on kept chart) where
  other_holds : (x : ℕ) → x < 2 ^ w → Holds row x → IsCovered on x → (get_or chart x 0 ≡ i + 1 → ⊥) → IsCovered (kept ++ drop (i + 1) rows) x
  other_holds x below p held none = ⊎_elim
      (λ z. held_left kept (drop (i + 1) rows) x (m.held x below held z))
      (λ s.
      let k = s.0 in
      let l = m.last x k below s.1 in
      ⊎_elim
      (λ lt. absurd (l.others (held_right kept (drop (k + 1) rows) x (rest_held rows (k + 1) i row x (omega arith) within (subst (λ (t : Term). Holds t x) is p)))))
      (λ ge. held_right kept (drop (i + 1) rows) x (rest_held rows (i + 1) k row x (let b : k ≢ i = (λ e. none (s.1 ∙ ap (λ n. n + 1) e)) in omega arith) l.within (l.holds row)))
      (cases_lt k i))
      (zero_or_more (get_or chart x 0))

  pub sole_from_number : (found : Option ℕ) → All (FitsWidth w) (kept ++ drop (i + 1) rows) → All (FitsWidth w) on → FitsWidth w row → IsFound w row (i + 1) chart found → IsSole row on (kept ++ drop (i + 1) rows) found
  sole_from_number (Some x) fits on_fits row_fits h = let l = m.last x i h.0 h.2 in (h.1, l.of_on, l.others)
  sole_from_number None fits on_fits row_fits h = λ x p held.
      let y = x % 2 ^ w in
      let below = low_is_value w x in
      let q = holds_low w row row_fits x p in
      held_from_low w (kept ++ drop (i + 1) rows) fits x (other_holds y below q (held_low w on on_fits x held) (λ e. h y below q e))
