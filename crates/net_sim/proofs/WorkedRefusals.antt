-- Starts and lines of symbols that are refused.
use Rattle.std.proofs.Common.{◌≡◌, ℕ, zero, suc, ◌<◌, ◌≤◌, Bool, true, false, List, [], ◌∷◌, Some, None, codes, get_or, length, slice_get, sym, ◌∙◌, refl, ap, subst, arith}
use Rattle.std.specs.Prelude.{IsSome}
use Rattle.std.proofs.lemmas.Bool.{false≢true}
use Rattle.std.proofs.lemmas.Option.{same_Some}
use Rattle.hs_io.specs.declared.lines.Line.{Line}
use Rattle.hs_io.specs.Lines.{is_skipped, lines_of}
use Rattle.net_core.specs.declared.Latch.{Latch}
use Rattle.net_core.specs.declared.Start.TheVariants.{Free, One, Unknown}
use Rattle.net_core.specs.Step.{bit_of_start}
use Rattle.net_core.specs.Worked.{latch}
use Rattle.net_sim.specs.BitTexts.{IsBitText, character_of, text_of_bits}
use Rattle.net_sim.specs.Run.{IsRunCause}
use Rattle.net_sim.specs.Symbols.{IsFirstRefused, IsRefusedLine, SaysSymbol}
use Rattle.net_sim.specs.Starts.{IsFirstUnknown}
use Rattle.net_sim.specs.Worked.{shifted, started}
use Rattle.net_sim.specs.declared.causes.SimFail.TheVariants.{BadSymbol}

-- a bit is written as 0 or 1
no_other : (bit : Bool) (character : ℕ) → 50 ≤ character → character_of bit ≡ character → ⊥
no_other true character high is = absurd (omega (arith, high, is))
no_other false character high is = absurd (omega (arith, high, is))

-- ---- given starts of two bits
pub short_start : (state : List Bool) → IsBitText 2 (codes "1") state → ⊥
short_start [] is = absurd (omega (arith, is.as_many))
short_start (b ∷ []) is = absurd (omega (arith, is.as_many))
short_start (b ∷ d ∷ []) is = let same : ◌≡◌ {A = ℕ} 1 2 = ap (λ (text : List ℕ). length text) is.is in absurd (omega (arith, same))
short_start (b ∷ d ∷ e ∷ bits) is = absurd (omega (arith, is.as_many))

pub other_start : (state : List Bool) → IsBitText 2 (codes "1x") state → ⊥
other_start [] is = absurd (omega (arith, is.as_many))
other_start (b ∷ []) is = absurd (omega (arith, is.as_many))
other_start (b ∷ d ∷ []) is = no_other d 120 (omega arith) (sym (ap (λ (text : List ℕ). get_or text 1 0) is.is))
other_start (b ∷ d ∷ e ∷ bits) is = absurd (omega (arith, is.as_many))

-- ---- starts of latches that are not known
pub first_unknown : IsFirstUnknown (started (codes "q") Unknown Free).latches (codes "p")
first_unknown = record {
  place = 0;
  latch = latch (codes "a") (codes "p") Unknown;
  stands = refl;
  is = refl;
  unknown = refl;
  known_before = λ k other lt at. absurd (omega (arith, lt));
}

pub second_unknown : IsFirstUnknown (started (codes "q") One Free).latches (codes "q")
second_unknown = record {
  place = 1;
  latch = latch (codes "p") (codes "q") Free;
  stands = refl;
  is = refl;
  unknown = refl;
  known_before = before;
} where
  before : (k : ℕ) (other : Latch) → k < 1 → slice_get (started (codes "q") One Free).latches k ≡ Some other → IsSome (bit_of_start other.start)
  before zero other lt at = subst (λ l. IsSome (bit_of_start l.start)) (same_Some (latch (codes "a") (codes "p") One) other at) refl
  before (suc k) other lt at = absurd (omega (arith, lt))

-- ---- lines that are no symbol of one bit
no_symbol_2 : (line : Line) → line.fields ≡ codes "2" ∷ [] → (symbol : List Bool) → SaysSymbol 1 line symbol → ⊥
no_symbol_2 line fields [] says = absurd (omega (arith, says.as_wide))
no_symbol_2 line fields (b ∷ []) says =
    no_other b 50 (omega arith) (sym (ap (λ (texts : List (List ℕ)). get_or (get_or texts 0 []) 0 0) (sym fields ∙ says.field)))
no_symbol_2 line fields (b ∷ d ∷ bits) says = absurd (omega (arith, says.as_wide))

no_symbol_pair : (line : Line) → line.fields ≡ codes "0" ∷ codes "1" ∷ [] → (symbol : List Bool) → SaysSymbol 1 line symbol → ⊥
no_symbol_pair line fields symbol says =
    let same : ◌≡◌ {A = ℕ} 2 1 = ap (λ (texts : List (List ℕ)). length texts) (sym fields ∙ says.field) in
    absurd (omega (arith, same))

no_symbol_wide : (line : Line) → line.fields ≡ codes "00" ∷ [] → (symbol : List Bool) → SaysSymbol 1 line symbol → ⊥
no_symbol_wide line fields [] says = absurd (omega (arith, says.as_wide))
no_symbol_wide line fields (b ∷ []) says =
    let same : ◌≡◌ {A = ℕ} 2 1 = ap (λ (texts : List (List ℕ)). length (get_or texts 0 [])) (sym fields ∙ says.field) in
    absurd (omega (arith, same))
no_symbol_wide line fields (b ∷ d ∷ bits) says = absurd (omega (arith, says.as_wide))

-- a line that says a symbol is not refused, and neither is one that is skipped
not_refused : (line other : Line) (symbol : List Bool) → Some line ≡ Some other → SaysSymbol 1 line symbol → IsRefusedLine 1 other → ⊥
not_refused line other symbol at says refused = refused.no_symbol symbol (subst (λ l. SaysSymbol 1 l symbol) (same_Some line other at) says)

skipped : (line other : Line) → Some line ≡ Some other → is_skipped line ≡ true → IsRefusedLine 1 other → ⊥
skipped line other at is refused = false≢true (sym refused.said ∙ (ap is_skipped (sym (same_Some line other at)) ∙ is))

abbrev good_line : ℕ → List (List ℕ) → Line
good_line number fields = record { number = number; fields = fields; bad = false }

pub no_symbol_refused : IsFirstRefused 1 (lines_of (codes "1\n2\n0 1\n")) 2
no_symbol_refused = record {
  place = 1;
  line = good_line 2 (codes "2" ∷ []);
  stands = refl;
  is = refl;
  refused = record { said = refl; no_symbol = no_symbol_2 (good_line 2 (codes "2" ∷ [])) refl };
  none_before = before;
} where
  before : (k : ℕ) (other : Line) → k < 1 → slice_get (lines_of (codes "1\n2\n0 1\n")) k ≡ Some other → IsRefusedLine 1 other → ⊥
  before zero other lt at = not_refused (good_line 1 (codes "1" ∷ [])) other (true ∷ []) at (record { good = refl; field = refl; as_wide = refl })
  before (suc k) other lt at = absurd (omega (arith, lt))

pub two_fields_refused : IsFirstRefused 1 (lines_of (codes "# a\n1\n\n0 1\n2\n")) 4
two_fields_refused = record {
  place = 3;
  line = good_line 4 (codes "0" ∷ codes "1" ∷ []);
  stands = refl;
  is = refl;
  refused = record { said = refl; no_symbol = no_symbol_pair (good_line 4 (codes "0" ∷ codes "1" ∷ [])) refl };
  none_before = before;
} where
  before : (k : ℕ) (other : Line) → k < 3 → slice_get (lines_of (codes "# a\n1\n\n0 1\n2\n")) k ≡ Some other → IsRefusedLine 1 other → ⊥
  before zero other lt at = skipped (good_line 1 []) other at refl
  before (suc zero) other lt at = not_refused (good_line 2 (codes "1" ∷ [])) other (true ∷ []) at (record { good = refl; field = refl; as_wide = refl })
  before (suc (suc zero)) other lt at = skipped (good_line 3 []) other at refl
  before (suc (suc (suc k))) other lt at = absurd (omega (arith, lt))

pub two_bits_refused : IsFirstRefused 1 (lines_of (codes "00\n2\n")) 1
two_bits_refused = record {
  place = 0;
  line = good_line 1 (codes "00" ∷ []);
  stands = refl;
  is = refl;
  refused = record { said = refl; no_symbol = no_symbol_wide (good_line 1 (codes "00" ∷ [])) refl };
  none_before = λ k other lt at. absurd (omega (arith, lt));
}

pub refused_run : (symbols : List ℕ) (number : ℕ) → IsFirstRefused 1 (lines_of symbols) number → IsRunCause shifted None symbols (BadSymbol number)
refused_run symbols number is = (false ∷ false ∷ [], refl, is)
