-- The numbers of the symbols of a file, taken line by line, and that there is one list of them.
use Rattle.std.proofs.Common.{◌≡◌, ℕ, ◌+◌, ◌^◌, ◌<◌, ◌⊎◌, inl, inr, Bool, not, List, [], ◌∷◌, ◌++◌, Result, Ok, Err, IfErr, IfOk, MatchResult, All, filter, map, refl, sym, ◌∙◌, ap, subst}
use Rattle.std.specs.List.{AllZip}
use Rattle.std.proofs.lemmas.Bool.{false≢true}
use Rattle.std.proofs.lemmas.List.{map-append}
use Rattle.std.proofs.lemmas.List.Elements.{All-push}
use Rattle.cubes.specs.Symbol.{symbol_of}
use Rattle.hs_io.specs.declared.lines.Line.{Line}
use Rattle.hs_io.specs.Lines.{is_skipped, line_of, lines_of, physical_lines}
use Rattle.net_core.specs.Laws.Zipped.{zip_push}
use Rattle.net_sim.specs.declared.symbols.SymbolFail.{SymbolFail}
use Rattle.net_sim.specs.declared.symbols.SymbolFail.TheVariants.{NoMemory, Refused}
use Rattle.net_sim.specs.Symbols.{IsRefusedLine, IsSymbolFault, IsSymbolFile, SaysSymbol, SayWord, TellsRefused}
use Rattle.net_sim.specs.Inner.Numbers.{AddedLine, HasReadTo, TellsRefusedLine}
use Rattle.net_sim.proofs.Exclusive.{none_refused, refused_once, word_once}
use Rattle.net_sim.proofs.Taking.{more_taken, said_skipped, said_symbol, symbol_said}

module _ (width : ℕ) where
  added_line : (line : Line) (old new : List ℕ) → AddedLine width line old new → IsRefusedLine width line → ⊥
  added_line line old new (inl (skipped, same)) refused = false≢true (sym refused.said ∙ skipped)
  added_line line old new (inr (number, below, says, longer)) refused = refused.no_symbol (symbol_of width number) says

  -- what lines say, after one more
  reads_more : (done : List Line) (line : Line) (old new : List ℕ) → SayWord width done (map (symbol_of width) old) → AddedLine width line old new → SayWord width (done ++ line ∷ []) (map (symbol_of width) new)
  reads_more done line old new says (inl (skipped, same)) =
      subst (λ numbers. SayWord width (done ++ line ∷ []) (map (symbol_of width) numbers)) (sym same)
      (subst (λ lines. AllZip (SaysSymbol width) lines (map (symbol_of width) old)) (sym (said_skipped done line skipped)) says)
  reads_more done line old new says (inr (number, below, here, longer)) =
      let symbol : List Bool = symbol_of width number in
      let word : map (symbol_of width) old ++ symbol ∷ [] ≡ map (symbol_of width) new = sym (map-append (symbol_of width) old (number ∷ [])) ∙ ap (map (symbol_of width)) (sym longer) in
      subst (SayWord width (done ++ line ∷ [])) word
      (subst (λ lines. AllZip (SaysSymbol width) lines (map (symbol_of width) old ++ symbol ∷ [])) (sym (said_symbol done line (symbol_said width line symbol here)))
      (zip_push (SaysSymbol width) (filter (λ l. not (is_skipped l)) done) (map (symbol_of width) old) line symbol says here))

  below_more : (line : Line) (old new : List ℕ) → All (λ x. x < 2 ^ width) old → AddedLine width line old new → All (λ x. x < 2 ^ width) new
  below_more line old new all (inl (skipped, same)) = subst (All (λ x. x < 2 ^ width)) (sym same) all
  below_more line old new all (inr (number, below, here, longer)) = subst (All (λ x. x < 2 ^ width)) (sym longer) (All-push (λ x. x < 2 ^ width) old number all below)

  module _ (bytes : List ℕ) where
    pub read_more : (rest more line : List ℕ) (count : ℕ) (old new : List ℕ) → physical_lines rest ≡ line ∷ physical_lines more → HasReadTo width bytes rest count old → AddedLine width (line_of (count + 1) line) old new → HasReadTo width bytes more (count + 1) new
    read_more rest more line count old new cut read added =
        record {
          done = read.done ++ line_of (count + 1) line ∷ [];
          taken = more_taken width bytes rest more line count read.done cut read.taken (added_line (line_of (count + 1) line) old new added);
          reads = reads_more read.done (line_of (count + 1) line) old new read.reads added;
          below = below_more (line_of (count + 1) line) old new read.below added;
        }

    pub told_refused : (count : ℕ) (line : Line) → line.number ≡ count → (IsRefusedLine width line → IsSymbolFault width bytes count) → (fail : SymbolFail) → TellsRefusedLine width line fail → TellsRefused width bytes fail
    told_refused count line at turn (Refused number) (is, refused) = subst (IsSymbolFault width bytes) (sym (is ∙ at)) (turn refused)
    told_refused count line at turn NoMemory told = tt

    module _ {T : Type 0} (items : T → List ℕ) where
      pub word_answered : (r : Result T SymbolFail) → IfOk r (λ v. IsSymbolFile width bytes (map (symbol_of width) (items v))) → IfErr r (TellsRefused width bytes) → (word : List (List Bool)) → IsSymbolFile width bytes word → MatchResult r (λ v. map (symbol_of width) (items v) ≡ word) (λ fail. fail ≡ NoMemory)
      word_answered (Ok v) read told word is = word_once width (filter (λ l. not (is_skipped l)) (lines_of bytes)) (map (symbol_of width) (items v)) word read is
      word_answered (Err (Refused line)) read told word is = absurd (none_refused width (lines_of bytes) word line is told)
      word_answered (Err NoMemory) read told word is = refl

      pub fault_answered : (r : Result T SymbolFail) → IfOk r (λ v. IsSymbolFile width bytes (map (symbol_of width) (items v))) → IfErr r (TellsRefused width bytes) → (line : ℕ) → IsSymbolFault width bytes line → MatchResult r (λ v. ⊥) (λ fail. (fail ≡ Refused line) ⊎ (fail ≡ NoMemory))
      fault_answered (Ok v) read told line is = none_refused width (lines_of bytes) (map (symbol_of width) (items v)) line read is
      fault_answered (Err (Refused number)) read told line is = inl (ap Refused (refused_once width (lines_of bytes) number line told is))
      fault_answered (Err NoMemory) read told line is = inr refl
