-- What the numbers of symbols and of outputs say of the text of a machine.
use Rattle.std.proofs.Common.{◌≡◌, ℕ, List, map, ap, ◌∙◌, subst}
use Rattle.answers.specs.Cause.{CallsForNone}
use Rattle.cubes.specs.Symbol.{symbol_of, lowest_bits}
use Rattle.kiss_file.specs.declared.file.KissFile.{KissFile}
use Rattle.kiss_file.specs.Machine.{answers}
use Rattle.net_sim.specs.Run.{answers_text}
use Rattle.net_sim.specs.Symbols.{IsSymbolFile}
use Rattle.symbol_runs.specs.Causes.{BadSymbolRow}
use Rattle.symbol_runs.specs.Texts.{IsWalkText}

module _ (F : KissFile) (symbols : List ℕ) (inputs outputs : ℕ) (numbers numbers_read words words_read text : List ℕ) (inputs_are : inputs ≡ F.inputs) (outputs_are : outputs ≡ F.outputs) (read : numbers_read ≡ numbers) (read_too : words_read ≡ words) where
  pub walk_judged : CallsForNone (BadSymbolRow inputs symbols) → IsSymbolFile inputs symbols (map (symbol_of inputs) numbers) → map (lowest_bits F.outputs) words ≡ answers F F.reset (map (symbol_of F.inputs) numbers_read) → text ≡ answers_text (map (lowest_bits outputs) words_read)
      → CallsForNone (BadSymbolRow F.inputs symbols) × IsWalkText F symbols text
  walk_judged none file walked is = (
    subst (λ (width : ℕ). CallsForNone (BadSymbolRow width symbols)) inputs_are none,
    (
      map (symbol_of F.inputs) numbers,
      subst (λ (width : ℕ). IsSymbolFile width symbols (map (symbol_of width) numbers)) inputs_are file,
      is ∙ ap (λ (list : List ℕ). answers_text (map (lowest_bits outputs) list)) read_too ∙ ap (λ (count : ℕ). answers_text (map (lowest_bits count) words)) outputs_are
          ∙ ap answers_text walked ∙ ap (λ (list : List ℕ). answers_text (answers F F.reset (map (symbol_of F.inputs) list))) read,
    ),
  )
