-- The text of what a machine answers to symbols.
use Rattle.std.specs.Prelude.{◌≡◌, ℕ, Bool, List}
use Rattle.kiss_file.specs.declared.file.KissFile.{KissFile}
use Rattle.kiss_file.specs.Machine.{answers}
use Rattle.net_sim.specs.Run.{answers_text}
use Rattle.net_sim.specs.Symbols.{IsSymbolFile}

-- the text is the text of the answers of a file's machine, from its reset state on, to the symbols of a file
abbrev pub IsWalkText : KissFile → List ℕ → List ℕ → Type 0
IsWalkText F symbols text =
    (word : List (List Bool)) × IsSymbolFile F.inputs symbols word × (text ≡ answers_text (answers F F.reset word))
