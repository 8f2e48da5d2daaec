-- The terms of a gate hold the numbers that write what is read where the bit is asked for.
use Rattle.std.proofs.Common.{◌≡◌, ℕ, ◌≤◌, inl, inr, Bool, true, false, List, [], ◌∷◌, ◌++◌, length, refl, ap, sym, ◌∙◌, subst, arith}
use Rattle.std.specs.Bool.{beq}
use Rattle.std.proofs.lemmas.Bool.{false≢true}
use Rattle.std.proofs.lemmas.List.Elements.{All-append, Contains-append_cases, Contains-append_left, Contains-append_right}
use Rattle.list_facts.specs.Laws.Everywhere.{all_one}
use Rattle.list_facts.specs.Laws.Members.{Contains-here, Contains-none, Contains-one}
use Rattle.cover_logic.specs.TermCover.{CanCover}
use Rattle.cubes.specs.Symbol.{symbol_of, lowest_bits}
use Rattle.gate_rows.specs.declared.demands.Demand.{Demand}
use Rattle.gate_rows.specs.Columns.{IsReadIn, IsTermOf, column_count}
use Rattle.gate_rows.specs.GateCovers.{HoldValues, IsGoodCover}
use Rattle.gate_rows.specs.Demands.{NeverContradict, IsAsked}
use Rattle.gate_rows.specs.Inner.Terms.{HoldWhatIsRead}
use Rattle.gate_rows.specs.Laws.ReadNumbers.{read_length}
use Rattle.gate_rows.specs.Laws.RowTexts.{number_for}
use Rattle.gate_rows.specs.Laws.TermCovers.{same_cover}
use Rattle.cover_terms.specs.declared.term.Term.{Term}
use Rattle.cover_terms.specs.Term.{FitsWidth, Holds}

-- a test of two bits
pub same_bit : (a b : Bool) → beq a b ≡ true → a ≡ b
same_bit true true h = refl
same_bit true false h = absurd (false≢true h)
same_bit false true h = absurd (false≢true h)
same_bit false false h = refl

pub other_bits : (a b : Bool) → beq a b ≡ false → a ≡ b → ⊥
other_bits true true h same = false≢true (sym h)
other_bits true false h same = false≢true (sym same)
other_bits false true h same = false≢true same
other_bits false false h same = false≢true (sym h)

-- ---- the loop over the demands
pub read_start : (inputs places : List ℕ) (given : Bool) → HoldWhatIsRead inputs places given [] []
read_start inputs places given = record {
  fits = λ k d lt. absurd (omega arith);
  held = λ v. (λ h. absurd (Contains-none h.0 h.1), λ h. absurd (Contains-none h.at h.among));
}

module _ (inputs places : List ℕ) (given : Bool) (demands : List Demand) (at : Demand) where
  read_later : (read : List Bool) → IsAsked inputs places given demands read → IsAsked inputs places given (demands ++ at ∷ []) read
  read_later read h = record { at = h.at; among = Contains-append_left demands (at ∷ []) h.at h.among; gives = h.gives; is_read = h.is_read }

  pub read_more : (old new : List Term) (t : Term) → HoldWhatIsRead inputs places given demands old → at.given ≡ given
      → IsTermOf inputs places at.cube at.word t → new ≡ old ++ t ∷ [] → HoldWhatIsRead inputs places given (demands ++ at ∷ []) new
  read_more old new t before gives is pushed =
      let whole : HoldWhatIsRead inputs places given (demands ++ at ∷ []) (old ++ t ∷ []) =
      record {
        fits = All-append (FitsWidth (column_count inputs places)) old (t ∷ []) before.fits (all_one (FitsWidth (column_count inputs places)) t is.fits);
        held = λ v. (
          λ h.
              elim (Contains-append_cases old (t ∷ []) h.0 h.1) [
                | inl first ↦ read_later (lowest_bits (column_count inputs places) v) ((before.held v).0 (h.0, first, h.2))
                | inr last ↦
                    let same : t ≡ h.0 = Contains-one t h.0 last in
                    record { at = at; among = Contains-append_right demands (at ∷ []) at (Contains-here at []); gives = gives; is_read = (is.holds v).0 (subst (λ (u : Term). Holds u v) (sym same) h.2) }
              ],
          λ h.
              elim (Contains-append_cases demands (at ∷ []) h.at h.among) [
                | inl first ↦
                    let found = (before.held v).1 (record { at = h.at; among = first; gives = h.gives; is_read = h.is_read }) in
                    (found.0, Contains-append_left old (t ∷ []) found.0 found.1, found.2)
                | inr last ↦
                    let same : at ≡ h.at = Contains-one at h.at last in (
                      t,
                      Contains-append_right old (t ∷ []) t (Contains-here t []),
                      (is.holds v).1 (subst (λ (p : Demand). IsReadIn inputs places p.cube p.word (lowest_bits (column_count inputs places) v)) (sym same) h.is_read),
                    )
              ],
        );
      } in
      subst (HoldWhatIsRead inputs places given (demands ++ at ∷ [])) (sym pushed) whole

  pub read_skip : (old : List Term) → HoldWhatIsRead inputs places given demands old → (at.given ≡ given → ⊥) → HoldWhatIsRead inputs places given (demands ++ at ∷ []) old
  read_skip old before other = record {
    fits = before.fits;
    held = λ v. (
      λ h. read_later (lowest_bits (column_count inputs places) v) ((before.held v).0 h),
      λ h.
          elim (Contains-append_cases demands (at ∷ []) h.at h.among) [
            | inl first ↦ (before.held v).1 (record { at = h.at; among = first; gives = h.gives; is_read = h.is_read })
            | inr last ↦ absurd (other (ap (λ (p : Demand). p.given) (Contains-one at h.at last) ∙ h.gives))
          ],
    );
  }

-- ---- what the terms hold
-- what is read is as long as the columns are many
read_width : (inputs places : List ℕ) (given : Bool) (demands : List Demand) (read : List Bool) → IsAsked inputs places given demands read → length read ≡ column_count inputs places
read_width inputs places given demands read h = ap length h.is_read.3 ∙ read_length inputs places (symbol_of h.at.cube.width h.is_read.0) h.at.word

module _ (inputs places : List ℕ) (demands : List Demand) where
  from_terms : (given : Bool) (terms : List Term) → HoldWhatIsRead inputs places given demands terms → (read : List Bool) → HoldValues (column_count inputs places) terms read → IsAsked inputs places given demands read
  from_terms given terms hold read (v, low, same, covered) = subst (IsAsked inputs places given demands) same ((hold.held v).0 covered)

  to_terms : (given : Bool) (terms : List Term) → HoldWhatIsRead inputs places given demands terms → (read : List Bool) → IsAsked inputs places given demands read → HoldValues (column_count inputs places) terms read
  to_terms given terms hold read h =
      let number = number_for read (column_count inputs places) (read_width inputs places given demands read h) in
      (number.0, number.1, number.2, (hold.held number.0).1 (subst (IsAsked inputs places given demands) (sym number.2) h))

  -- with the values of a call
  pub can_cover_at : (width : ℕ) (on off : List Term) → width ≡ column_count inputs places → column_count inputs places ≤ 128 → NeverContradict inputs places demands → HoldWhatIsRead inputs places true demands on → HoldWhatIsRead inputs places false demands off → CanCover width on off
  can_cover_at width on off same few apart on_is off_is =
      subst (λ (w : ℕ). CanCover w on off) (sym same) (record {
        columns = few;
        on_fits = on_is.fits;
        off_fits = off_is.fits;
        apart = λ v low is_on is_off. apart (lowest_bits (column_count inputs places) v) ((on_is.held v).0 is_on) ((off_is.held v).0 is_off);
      })

  pub read_cover_at : (width : ℕ) (on off : List Term) (rows : List (List ℕ)) → width ≡ column_count inputs places → HoldWhatIsRead inputs places true demands on → HoldWhatIsRead inputs places false demands off → IsGoodCover (HoldValues width on) (HoldValues width off) rows
      → IsGoodCover (IsAsked inputs places true demands) (IsAsked inputs places false demands) rows
  read_cover_at width on off rows same on_is off_is good =
      same_cover (HoldValues (column_count inputs places) on) (HoldValues (column_count inputs places) off) (IsAsked inputs places true demands) (IsAsked inputs places false demands) rows
      (from_terms true on on_is) (to_terms true on on_is) (from_terms false off off_is) (to_terms false off off_is)
      (subst (λ (w : ℕ). IsGoodCover (HoldValues w on) (HoldValues w off) rows) same good)
