-- A good cover of terms is one of the values that they hold, and a good cover is one of any sets with the same values.
use Rattle.std.proofs.Common.{◌≡◌, ℕ, Bool, List, length, map, All, IsPermutation, refl, sym, ap, ◌∙◌, subst}
use Rattle.std.proofs.lemmas.List.FromFn.{length-map-range_with_len}
use Rattle.cover_logic.specs.TermCover.{IsTermCover}
use Rattle.cubes.specs.Symbol.{bit, lowest_bits}
use Rattle.gate_rows.specs.GateCovers.{AreHeld, HoldValues, IsGoodCover}
use Rattle.gate_rows.specs.Inner.Texts.{IsCoverByTerms, row_text}
use Rattle.gate_rows.specs.Laws.RowTexts.{covered_from_held, good_cover, held_from_covered, widths}
use Rattle.cover_terms.specs.declared.term.Term.{Term}
use Rattle.cover_terms.specs.Term.{FitsWidth, IsCovered}

-- values are as many as the columns
pub values_length : (width : ℕ) (terms : List Term) (read : List Bool) → HoldValues width terms read → length read ≡ width
values_length width terms read h = sym (ap length h.2) ∙ length-map-range_with_len (bit h.0) 0 width

-- the terms hold the number that writes values that they hold
pub covered_values : (width : ℕ) (terms : List Term) (v : ℕ) → All (FitsWidth width) terms → HoldValues width terms (lowest_bits width v) → IsCovered terms v
covered_values width terms v fits h =
    covered_from_held width terms v fits (subst (AreHeld (map (row_text width) terms)) h.2 (held_from_covered width terms h.0 h.3))

pub term_cover : (width : ℕ) (on off rows : List Term) → All (FitsWidth width) on → All (FitsWidth width) off → All (FitsWidth width) rows → IsTermCover width rows on off
    → IsCoverByTerms (HoldValues width on) (HoldValues width off) width rows
term_cover width on off rows on_fits off_fits fits good =
    record {
      fits = fits;
      on_held = λ v low h. good.on_held v low (covered_values width on v on_fits h);
      off_free = λ v low h. good.off_free v low (covered_values width off v off_fits h);
      literals_needed = λ k d lt column looks.
          let found = good.literals_needed k d lt column looks in
          (found.0, found.1, (found.0, found.1, refl, found.2), found.3);
      rows_needed = λ i lt.
          let found = good.rows_needed i lt in
          (found.0, found.1, (found.0, found.1, refl, found.2), found.3);
    }

-- a good cover is one of sets with the same values
pub same_cover : (On Off On' Off' : List Bool → Type 0) (rows : List (List ℕ)) → ((read : List Bool) → On read → On' read) → ((read : List Bool) → On' read → On read)
    → ((read : List Bool) → Off read → Off' read) → ((read : List Bool) → Off' read → Off read) → IsGoodCover On Off rows → IsGoodCover On' Off' rows
same_cover On Off On' Off' rows on on_back off off_back good =
    record {
      on_held = λ read h. good.on_held read (on_back read h);
      off_free = λ read h. good.off_free read (off_back read h);
      literals_needed = λ row raised place among inside other dash.
          let found = good.literals_needed row raised place among inside other dash in
          (found.0, off found.0 found.1, found.2);
      rows_needed = λ i lt.
          let found = good.rows_needed i lt in
          (found.0, on found.0 found.1, found.2);
    }

-- ---- with the values of a call
module _ (width used : ℕ) (on off terms lent : List Term) (names : List (List ℕ)) (on_fits : All (FitsWidth width) on) (off_fits : All (FitsWidth width) off) (fits : All (FitsWidth width) terms) (good : IsTermCover width terms on off) (is_used : used ≡ width) (is_lent : lent ≡ terms) (moved : IsPermutation (map (row_text used) lent) names) where
  there : IsPermutation (map (row_text width) terms) names
  there = subst (λ (w : ℕ). IsPermutation (map (row_text w) terms) names) is_used (subst (λ (list : List Term). IsPermutation (map (row_text used) list) names) is_lent moved)

  pub texts_cover : IsGoodCover (HoldValues width on) (HoldValues width off) names
  texts_cover =
      good_cover (HoldValues width on) (HoldValues width off) width terms names (values_length width on) (values_length width off) (term_cover width on off terms on_fits off_fits fits good) there

  pub texts_widths : All (λ row. length row ≡ width) names
  texts_widths =
      widths (HoldValues width on) (HoldValues width off) width terms names (values_length width on) (values_length width off) (term_cover width on off terms on_fits off_fits fits good) there
