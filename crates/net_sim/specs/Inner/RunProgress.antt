-- A network that has run on some lines.
use Rattle.std.specs.Prelude.{◌≡◌, ℕ, ◌+◌, ◌⊎◌, Bool, true, List, Some, [], ◌∷◌, ◌++◌, length, slice_get}
use Rattle.hs_io.specs.declared.lines.Line.{Line}
use Rattle.hs_io.specs.Lines.{is_skipped, lines_from, lines_of, physical_lines}
use Rattle.hs_io.specs.Spelling.{ended}
use Rattle.net_core.specs.declared.Network.{Network}
use Rattle.net_core.specs.declared.gate_order.Order.{Order}
use Rattle.net_core.specs.Order.{IsOrderOf}
use Rattle.net_core.specs.SoundNetwork.{Sound}
use Rattle.net_core.specs.Step.{Step}
use Rattle.net_sim.specs.declared.runner.Runner.{Runner}
use Rattle.net_sim.specs.BitTexts.{text_of_bits}
use Rattle.net_sim.specs.Symbols.{IsRefusedLine, SaysSymbol, SayWord}
use Rattle.net_sim.specs.Run.{answers_text}
use Rattle.net_sim.specs.Inner.Forms.{AreForms}

-- the forms are those of the gates, and the lists have the lengths that a step asks for
pub record Fits (order : Order) (runner : Runner) : Type 0 where
  pub forms : AreForms order.gates.items runner.forms
  pub state : length runner.state.items ≡ order.latch_count
  pub symbol : length runner.symbol.items ≡ order.input_count
  pub answer : length runner.answer.items ≡ length order.output_signals.items
  pub scratch : length runner.scratch.items ≡ order.signal_count

-- each network of this order goes from the one state to the other for the symbol, and gives this answer
abbrev pub Goes : Order → List Bool → List Bool → List Bool → List Bool → Type 0
Goes order state symbol answer next = (N : Network) → Sound N → IsOrderOf N order → Step N state symbol answer next

-- the line is skipped and nothing changed, or the line's symbol was answered and the answer added to the text
abbrev pub TookLine : Order → Line → Runner → Runner → Type 0
TookLine order line old new =
    ((is_skipped line ≡ true) × (new.state.items ≡ old.state.items) × (new.text.items ≡ old.text.items))
    ⊎ ((symbol : List Bool) × (answer : List Bool) × SaysSymbol order.input_count line symbol × Goes order old.state.items symbol answer new.state.items
    × (new.text.items ≡ old.text.items ++ ended (text_of_bits answer)))

-- the word leads from the one state to the other, with these answers
abbrev pub Leads : Network → List Bool → List (List Bool) → List (List Bool) → List Bool → Type 0
Leads N state [] answers last = (answers ≡ []) × (last ≡ state)
Leads N state (symbol ∷ word) answers last =
    (answer : List Bool) × (next : List Bool) × (more : List (List Bool)) × (answers ≡ answer ∷ more) × Step N state symbol answer next × Leads N next word more last

-- the lines give a word that leads from the one state to the other, and the text is that of its answers
pub record HasRun (N : Network) (state : List Bool) (lines : List Line) (text : List ℕ) (last : List Bool) : Type 0 where
  pub word : List (List Bool)
  pub answers : List (List Bool)
  pub reads : SayWord (length N.inputs) lines word
  pub leads : Leads N state word answers last
  pub is : text ≡ answers_text answers

-- these lines are all lines before the rest, `count` of them, and none of them is refused
pub record HasTaken (width : ℕ) (symbols rest : List ℕ) (count : ℕ) (done : List Line) : Type 0 where
  pub told : done ++ lines_from (count + 1) (physical_lines rest) ≡ lines_of symbols
  pub counted : length done ≡ count
  pub none_refused : (k : ℕ) (line : Line) → slice_get done k ≡ Some line → IsRefusedLine width line → ⊥

-- each network of this order has run on the lines before the rest
pub record HasRunTo (order : Order) (state : List Bool) (symbols rest : List ℕ) (count : ℕ) (runner : Runner) : Type 0 where
  pub done : List Line
  pub taken : HasTaken order.input_count symbols rest count done
  pub runs : (N : Network) → Sound N → IsOrderOf N order → HasRun N state done runner.text.items runner.state.items

-- each network of this order has run on all lines of the symbols
abbrev pub HasAnswered : Order → List Bool → List ℕ → List ℕ → Type 0
HasAnswered order state symbols text =
    (N : Network) → Sound N → IsOrderOf N order → (last : List Bool) × HasRun N state (lines_of symbols) text last
