-- The symbols of a file, line by line (source: this product's profile).
use Rattle.std.specs.Prelude.{◌≡◌, ℕ, ◌<◌, ⊤, Bool, false, not, List, [], ◌∷◌, Some, filter, length, slice_get}
use Rattle.std.specs.List.{AllZip}
use Rattle.hs_io.specs.declared.lines.Line.{Line}
use Rattle.hs_io.specs.Lines.{is_skipped, lines_of}
use Rattle.net_sim.specs.declared.symbols.SymbolFail.{SymbolFail}
use Rattle.net_sim.specs.declared.symbols.SymbolFail.TheVariants.{NoMemory, Refused}
use Rattle.net_sim.specs.BitTexts.{text_of_bits}

-- the only field of the line is the text of the symbol, which has `width` bits
pub record SaysSymbol (width : ℕ) (line : Line) (symbol : List Bool) : Type 0 where
  pub good : line.bad ≡ false
  pub field : line.fields ≡ text_of_bits symbol ∷ []
  pub as_wide : length symbol ≡ width

-- the line is not skipped, and its text is not a symbol of `width` bits
pub record IsRefusedLine (width : ℕ) (line : Line) : Type 0 where
  pub said : is_skipped line ≡ false
  pub no_symbol : (symbol : List Bool) → SaysSymbol width line symbol → ⊥

-- the lines that are not skipped give the symbols of the word, one each
abbrev pub SayWord : ℕ → List Line → List (List Bool) → Type 0
SayWord width lines word = AllZip (SaysSymbol width) (filter (λ line. not (is_skipped line)) lines) word

-- the number of the first line that is refused
pub record IsFirstRefused (width : ℕ) (lines : List Line) (number : ℕ) : Type 0 where
  pub place : ℕ
  pub line : Line
  pub stands : slice_get lines place ≡ Some line
  pub is : line.number ≡ number
  pub refused : IsRefusedLine width line
  pub none_before : (k : ℕ) (other : Line) → k < place → slice_get lines k ≡ Some other → IsRefusedLine width other → ⊥

-- the bytes are a file of these symbols
abbrev pub IsSymbolFile : ℕ → List ℕ → List (List Bool) → Type 0
IsSymbolFile width bytes word = SayWord width (lines_of bytes) word

-- the bytes are not a file of symbols, and this is the number of the first refused line
abbrev pub IsSymbolFault : ℕ → List ℕ → ℕ → Type 0
IsSymbolFault width bytes number = IsFirstRefused width (lines_of bytes) number

-- the failure names the first refused line, unless memory ran out
abbrev pub TellsRefused : ℕ → List ℕ → SymbolFail → Type 0
TellsRefused width bytes (Refused line) = IsSymbolFault width bytes line
TellsRefused width bytes NoMemory = ⊤
