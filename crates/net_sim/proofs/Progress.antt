-- A network that runs line by line.
use Rattle.std.proofs.Common.{◌≡◌, ℕ, ◌+◌, inl, inr, Bool, not, List, [], ◌∷◌, ◌++◌, Option, Result, Ok, Err, IfOk, length, filter, refl, sym, ◌∙◌, ap, subst, append-nil}
use Rattle.std.specs.List.{AllZip}
use Rattle.std.proofs.lemmas.Bool.{false≢true}
use Rattle.std.proofs.lemmas.Grind.{flat_map-append}
use Rattle.hs_io.specs.declared.lines.Line.{Line}
use Rattle.hs_io.specs.Lines.{is_skipped, line_of, physical_lines}
use Rattle.hs_io.specs.Spelling.{ended}
use Rattle.net_core.specs.declared.Network.{Network}
use Rattle.net_core.specs.declared.gate_order.Order.{Order}
use Rattle.net_core.specs.Order.{IsOrderOf}
use Rattle.net_core.specs.SoundNetwork.{Sound}
use Rattle.net_core.specs.Step.{NetAnswers, Step}
use Rattle.net_core.specs.Laws.Zipped.{zip_push}
use Rattle.net_sim.specs.declared.causes.SimFail.{SimFail}
use Rattle.net_sim.specs.declared.causes.SimFail.TheVariants.{BadStart, UnknownStart, BadSymbol, NoMemory}
use Rattle.net_sim.specs.declared.runner.Runner.{Runner}
use Rattle.net_sim.specs.BitTexts.{text_of_bits}
use Rattle.net_sim.specs.Symbols.{IsRefusedLine, IsSymbolFault, SaysSymbol}
use Rattle.net_sim.specs.Run.{IsRun, answers_text}
use Rattle.net_sim.specs.Starts.{IsStart}
use Rattle.net_sim.specs.Inner.Failures.{TellsLine, TellsSymbol}
use Rattle.net_sim.specs.Inner.RunProgress.{HasAnswered, HasRun, HasRunTo, Leads, TookLine}
use Rattle.net_sim.proofs.Taking.{more_taken, none_taken, said_skipped, said_symbol, symbol_said}

-- one more step
pub leads-push : (N : Network) (state : List Bool) (word answers : List (List Bool)) (last symbol answer next : List Bool) → Leads N state word answers last → Step N last symbol answer next → Leads N state (word ++ symbol ∷ []) (answers ++ answer ∷ []) next
leads-push N state [] answers last symbol answer next (none, same) step =
    (answer, next, [], ap (λ list. list ++ answer ∷ []) none, subst (λ from. Step N from symbol answer next) same step, (refl, refl))
leads-push N state (x ∷ word) answers last symbol answer next (a, n, more, is, first, rest) step =
    (a, n, more ++ answer ∷ [], ap (λ list. list ++ answer ∷ []) is, first, leads-push N n word more last symbol answer next rest step)

pub leads_answers : (N : Network) (state : List Bool) (word answers : List (List Bool)) (last : List Bool) → Leads N state word answers last → NetAnswers N state word answers
leads_answers N state [] answers last (none, same) = none
leads_answers N state (x ∷ word) answers last (a, n, more, is, first, rest) = (a, n, more, is, first, leads_answers N n word more last rest)

pub answers_more : (answers : List (List Bool)) (answer : List Bool) (text : List ℕ) → text ≡ answers_text answers → text ++ ended (text_of_bits answer) ≡ answers_text (answers ++ answer ∷ [])
answers_more answers answer text is =
    ap (λ t. t ++ ended (text_of_bits answer)) is
    ∙ (ap (λ t. answers_text answers ++ t) (sym (append-nil (ended (text_of_bits answer))))
    ∙ sym (flat_map-append (λ a. ended (text_of_bits a)) answers (answer ∷ [])))

-- what the answer to a line tells
pub told_line : (width count : ℕ) (symbols : List ℕ) (line : Line) → line.number ≡ count → (IsRefusedLine width line → IsSymbolFault width symbols count) → (fail : SimFail) → TellsLine width line fail → TellsSymbol width symbols fail
told_line width count symbols line at turn BadStart told = told
told_line width count symbols line at turn (UnknownStart latch) told = told
told_line width count symbols line at turn (BadSymbol number) (is, refused) = subst (IsSymbolFault width symbols) (sym (is ∙ at)) (turn refused)
told_line width count symbols line at turn NoMemory told = tt

-- a line that was taken is not refused
taken_line : (order : Order) (line : Line) (old new : Runner) → TookLine order line old new → IsRefusedLine order.input_count line → ⊥
taken_line order line old new (inl (skipped, same_state, same_text)) refused = false≢true (sym refused.said ∙ skipped)
taken_line order line old new (inr (symbol, answer, says, goes, longer)) refused = refused.no_symbol symbol says

module _ (N : Network) (order : Order) (sound : Sound N) (is : IsOrderOf N order) (state : List Bool) where
  -- a network that ran on lines, and then took one more
  pub ran_more : (done : List Line) (line : Line) (old new : Runner) → HasRun N state done old.text.items old.state.items → TookLine order line old new → HasRun N state (done ++ line ∷ []) new.text.items new.state.items
  ran_more done line old new ran (inl (skipped, same_state, same_text)) =
      record {
        word = ran.word;
        answers = ran.answers;
        reads = subst (λ lines. AllZip (SaysSymbol (length N.inputs)) lines ran.word) (sym (said_skipped done line skipped)) ran.reads;
        leads = subst (Leads N state ran.word ran.answers) (sym same_state) ran.leads;
        is = same_text ∙ ran.is;
      }
  ran_more done line old new ran (inr (symbol, answer, says, goes, longer)) =
      let reads : SaysSymbol (length N.inputs) line symbol = subst (λ width. SaysSymbol width line symbol) is.inputs says in
      record {
        word = ran.word ++ symbol ∷ [];
        answers = ran.answers ++ answer ∷ [];
        reads = subst (λ lines. AllZip (SaysSymbol (length N.inputs)) lines (ran.word ++ symbol ∷ [])) (sym (said_symbol done line (symbol_said (length N.inputs) line symbol reads)))
            (zip_push (SaysSymbol (length N.inputs)) (filter (λ l. not (is_skipped l)) done) ran.word line symbol ran.reads reads);
        leads = leads-push N state ran.word ran.answers old.state.items symbol answer new.state.items ran.leads (goes N sound is);
        is = longer ∙ answers_more ran.answers answer old.text.items ran.is;
      }

module _ (order : Order) (state : List Bool) (symbols : List ℕ) where
  pub run_begun : (runner : Runner) → runner.state.items ≡ state → runner.text.items ≡ [] → HasRunTo order state symbols symbols 0 runner
  run_begun runner same_state no_text =
      record {
        done = [];
        taken = none_taken order.input_count symbols;
        runs = λ N sound is. record { word = []; answers = []; reads = tt; leads = (refl, same_state); is = no_text };
      }

  pub run_more : (rest more line : List ℕ) (count : ℕ) (old : Runner) → physical_lines rest ≡ line ∷ physical_lines more → HasRunTo order state symbols rest count old → (new : Runner) → TookLine order (line_of (count + 1) line) old new → HasRunTo order state symbols more (count + 1) new
  run_more rest more line count old cut ran new took =
      record {
        done = ran.done ++ line_of (count + 1) line ∷ [];
        taken = more_taken order.input_count symbols rest more line count ran.done cut ran.taken (taken_line order (line_of (count + 1) line) old new took);
        runs = λ N sound is. ran_more N order sound is state ran.done (line_of (count + 1) line) old new (ran.runs N sound is) took;
      }

-- an answered file of symbols is a run
pub is_run : {T : Type 0} (items : T → List ℕ) (N : Network) (order : Order) (start : Option (List ℕ)) (state : List Bool) (symbols : List ℕ) → Sound N → IsOrderOf N order → IsStart N start state → (r : Result T SimFail) → IfOk r (λ v. HasAnswered order state symbols (items v)) → IfOk r (λ v. IsRun N start symbols (items v))
is_run items N order start state symbols sound is begins (Ok v) answered =
    let (last, ran) = answered N sound is in
    record {
      state = state;
      word = ran.word;
      answers = ran.answers;
      begins = begins;
      reads = ran.reads;
      answered = leads_answers N state ran.word ran.answers last ran.leads;
      is = ran.is;
    }
is_run items N order start state symbols sound is begins (Err fail) answered = tt
