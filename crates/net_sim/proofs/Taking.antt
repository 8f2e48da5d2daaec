-- The lines of a file of symbols, taken one after another.
use Rattle.std.proofs.Common.{◌≡◌, ℕ, zero, suc, ◌+◌, ◌<◌, ◌⊎◌, inl, inr, Bool, true, false, not, ◌&&◌, List, [], ◌∷◌, ◌++◌, Some, length, filter, slice_get, refl, sym, ◌∙◌, ap, subst, arith, append_assoc, append-nil}
use Rattle.std.specs.Prelude.{◌==◌, if◌then◌else◌}
use Rattle.std.proofs.lemmas.List.{length_push}
use Rattle.std.proofs.lemmas.List.Elements.{filter-append}
use Rattle.std.proofs.lemmas.Option.{none-some, same_Some}
use Rattle.hs_io.specs.declared.lines.Line.{Line}
use Rattle.hs_io.specs.Lines.{is_skipped, line_of, lines_from, lines_of, physical_lines}
use Rattle.net_sim.specs.Symbols.{IsRefusedLine, IsSymbolFault, SaysSymbol}
use Rattle.net_sim.specs.Inner.RunProgress.{HasTaken}
use Rattle.net_sim.proofs.Stepped.{slice_get-append_right}

-- a line that says a symbol is not skipped
pub symbol_said : (width : ℕ) (line : Line) (symbol : List Bool) → SaysSymbol width line symbol → is_skipped line ≡ false
symbol_said width line symbol says = ap (λ b. not b && length line.fields == 0) says.good ∙ ap (λ (fields : List (List ℕ)). length fields == 0) says.field

-- the lines that say something, after one more that does not, and after one that does
pub said_skipped : (lines : List Line) (line : Line) → is_skipped line ≡ true → filter (λ l. not (is_skipped l)) (lines ++ line ∷ []) ≡ filter (λ l. not (is_skipped l)) lines
said_skipped lines line is =
    filter-append (λ l. not (is_skipped l)) lines (line ∷ [])
    ∙ (ap (λ b. filter (λ l. not (is_skipped l)) lines ++ (if not b then line ∷ [] else [])) is
    ∙ append-nil (filter (λ l. not (is_skipped l)) lines))

pub said_symbol : (lines : List Line) (line : Line) → is_skipped line ≡ false → filter (λ l. not (is_skipped l)) (lines ++ line ∷ []) ≡ filter (λ l. not (is_skipped l)) lines ++ line ∷ []
said_symbol lines line is =
    filter-append (λ l. not (is_skipped l)) lines (line ∷ [])
    ∙ ap (λ b. filter (λ l. not (is_skipped l)) lines ++ (if not b then line ∷ [] else [])) is

-- an item of a list with one more at its end
pub get_push : {X : Type 0} (xs : List X) (y x : X) (k : ℕ) → slice_get (xs ++ y ∷ []) k ≡ Some x → (slice_get xs k ≡ Some x) ⊎ (y ≡ x)
get_push [] y x zero at = inr (same_Some y x at)
get_push [] y x (suc k) at = absurd (none-some x at)
get_push (z ∷ xs) y x zero at = inl at
get_push (z ∷ xs) y x (suc k) at = get_push xs y x k at

pub get_front : {X : Type 0} (xs ys : List X) (x : X) (k : ℕ) → k < length xs → slice_get (xs ++ ys) k ≡ Some x → slice_get xs k ≡ Some x
get_front [] ys x k lt at = absurd (omega arith)
get_front (z ∷ xs) ys x zero lt at = at
get_front (z ∷ xs) ys x (suc k) lt at = get_front xs ys x k (omega arith) at

module _ (width : ℕ) (symbols : List ℕ) where
  pub none_taken : HasTaken width symbols symbols 0 []
  none_taken = record { told = refl; counted = refl; none_refused = λ k line at refused. none-some line at }

  module _ (rest more line : List ℕ) (count : ℕ) (done : List Line) (cut : physical_lines rest ≡ line ∷ physical_lines more) (taken : HasTaken width symbols rest count done) where
    lines_told : done ++ (line_of (count + 1) line ∷ lines_from (count + 1 + 1) (physical_lines more)) ≡ lines_of symbols
    lines_told = ap (λ lines. done ++ lines_from (count + 1) lines) (sym cut) ∙ taken.told

    -- one more line that is not refused
    pub more_taken : (IsRefusedLine width (line_of (count + 1) line) → ⊥) → HasTaken width symbols more (count + 1) (done ++ line_of (count + 1) line ∷ [])
    more_taken good =
        record {
          told = append_assoc done (line_of (count + 1) line ∷ []) (lines_from (count + 1 + 1) (physical_lines more)) ∙ lines_told;
          counted = length_push done (line_of (count + 1) line) ∙ ap (λ n. n + 1) taken.counted;
          none_refused = λ k other at refused.
              elim (get_push done (line_of (count + 1) line) other k at) [
                | inl before ↦ taken.none_refused k other before refused
                | inr same ↦ good (subst (IsRefusedLine width) (sym same) refused)
              ];
        }

    -- one more that is refused is the first
    pub refused_here : IsRefusedLine width (line_of (count + 1) line) → IsSymbolFault width symbols (count + 1)
    refused_here refused =
        let behind : List Line = lines_from (count + 1 + 1) (physical_lines more) in
        let place : count + 0 ≡ count = omega arith in
        record {
          place = count;
          line = line_of (count + 1) line;
          stands = ap (λ list. slice_get list count) (sym lines_told)
              ∙ (ap (λ (n : ℕ). slice_get (done ++ (line_of (count + 1) line ∷ behind)) n) (sym place)
              ∙ slice_get-append_right done (line_of (count + 1) line ∷ behind) count 0 (line_of (count + 1) line) (sym taken.counted) refl);
          is = refl;
          refused = refused;
          none_before = λ k other lt at.
              taken.none_refused k other
              (get_front done (line_of (count + 1) line ∷ behind) other k (omega (arith, taken.counted)) (ap (λ list. slice_get list k) lines_told ∙ at));
        }
