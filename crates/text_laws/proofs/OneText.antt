-- A network and its machine give one text.
use Rattle.std.proofs.Common.{◌≡◌, ℕ, Bool, All, List, [], ◌∷◌, None, length, sym, ap, ◌∙◌, subst}
use Rattle.std.specs.List.{AllZip}
use Rattle.std.proofs.lemmas.List.Elements.{All-cons, All-nil}
use Rattle.hs_io.specs.declared.lines.Line.{Line}
use Rattle.kiss_file.specs.declared.file.KissFile.{KissFile}
use Rattle.net_core.specs.declared.Network.{Network}
use Rattle.net_core.specs.Laws.Determined.{denotes_one}
use Rattle.net_sim.specs.Run.{IsRun}
use Rattle.net_sim.specs.Symbols.{IsSymbolFile, SaysSymbol}
use Rattle.net_sim.proofs.Exclusive.{run_once}
use Rattle.realise.specs.CarriedMachine.{AnswersAs}
use Rattle.blif_out.specs.declared.networks.HeadedNetwork.{HeadedNetwork}
use Rattle.decomposition.specs.Decomposition.{IsDecomposed}
use Rattle.text_laws.specs.OneText.{GiveOneText}
use Rattle.state_codes.specs.declared.split.Kind.{Kind}
use Rattle.state_codes.specs.declared.split.Part.{Part}
use Rattle.symbol_runs.specs.Texts.{IsWalkText}

-- the symbols of a file have so many bits
wide : (width : ℕ) (lines : List Line) (word : List (List Bool)) → AllZip (SaysSymbol width) lines word → All (λ x. length x ≡ width) word
wide width [] [] zip = All-nil (λ (s : List Bool). length s ≡ width)
wide width [] (x ∷ xs) zip = absurd zip
wide width (l ∷ ls) [] zip = absurd zip
wide width (l ∷ ls) (x ∷ xs) (says, zip) = All-cons (λ (s : List Bool). length s ≡ width) x xs says.as_wide (wide width ls xs zip)

-- a network that answers as a machine runs as the machine walks
run_of_walk : (F : KissFile) (N : Network) (symbols walked : List ℕ) → AnswersAs F N → length N.inputs ≡ F.inputs → IsWalkText F symbols walked → IsRun N None symbols walked
run_of_walk F N symbols walked (starts, are, answered) inputs (word, file, is) = record {
  state = starts;
  word = word;
  answers = _;
  begins = are;
  reads = subst (λ (width : ℕ). IsSymbolFile width symbols word) (sym inputs) file;
  answered = answered word (wide F.inputs _ word file);
  is = is;
}

-- the network of a decomposition answers and has inputs as the machine of the file
answers_of : (reduce : Bool) (F W : KissFile) (kind : Kind) (parts : List Part) (made : HeadedNetwork) → IsDecomposed reduce F W kind parts made → AnswersAs F made.network × (length made.network.inputs ≡ F.inputs)
unfolding IsDecomposed
answers_of reduce F W kind parts made (class, codes, work, of_kind, are, is) = (is.answers, is.carries.inputs)

pub one_text : GiveOneText
one_text design kind operand reduce F N written symbols simulated walked (made, (W, parts, split, decomposed, kept), told) denotes ran walk =
    let same : made.network ≡ N = denotes_one written made.network N told.of_network.denotes denotes in
    let both = answers_of reduce F W kind parts made decomposed in
    run_once N None symbols simulated walked ran
    (run_of_walk F N symbols walked (subst (AnswersAs F) same both.0) (ap (λ (K : Network). length K.inputs) (sym same) ∙ both.1) walk)
