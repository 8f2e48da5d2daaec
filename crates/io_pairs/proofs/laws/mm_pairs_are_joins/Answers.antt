use Rattle.std.proofs.Common.{◌^◌, ◌∙◌, length, refl, sym, arith}
use Rattle.hs_lattice.specs.Laws.{IsGenerated-has}
use Rattle.kiss_file.specs.declared.file.KissFile.{KissFile}
use Rattle.partition.specs.Laws.Partners.{joins_fit_of, least_fits_of, same_right_of}
use Rattle.io_pairs.specs.Inputs.{GoFromStates, InPair, IsInJoin, IsInMmPair, IsLeastInPair}
use Rattle.io_pairs.specs.Laws.{in_pairs_grow, out_pairs_grow}
use Rattle.io_pairs.specs.Outputs.{GoAtSymbols, IsLeastOutPair, IsOutJoin, IsOutMmPair, OutPair, occurring}
use Rattle.partition.specs.Laws.Generating.{IsGoing, fit_made}
use Rattle.io_pairs.proofs.laws.mm_pairs_are_joins.Goals as goal

-- how symbols go together, and how states do
inputs_going : (F : KissFile) → IsGoing (GoFromStates F)
inputs_going F = record {
  above = λ q r x y le go s below. le _ _ (go s below);
  itself = λ q r x same go s below. let held = go s below in (omega (arith, held.0, same), omega (arith, held.0, same), refl);
  by_third = λ q third x y one two s below. let first = one s below in let second = two s below in (first.1, second.1, sym first.2 ∙ second.2);
}

outputs_going : (F : KissFile) → IsGoing (GoAtSymbols F)
outputs_going F = record {
  above = λ q r s t le go x below. le _ _ (go x below);
  itself = λ q r s same go x below. let held = go x below in (omega (arith, held.0, same), omega (arith, held.0, same), refl);
  by_third = λ q third s t one two x below. let first = one x below in let second = two x below in (first.1, second.1, sym first.2 ∙ second.2);
}

pub returns-clause-input_decided : goal.returns-clause-input_decided
returns-clause-input_decided c F x y one two same = same_right_of (2 ^ F.inputs) (length F.states) (InPair F) (in_pairs_grow F) x y one.high two.high same

pub returns-clause-output_decided : goal.returns-clause-output_decided
returns-clause-output_decided c F x y one two same = same_right_of (length F.states) (length (occurring F)) (OutPair F) (out_pairs_grow F) x y one.high two.high same

pub returns-clause-input_pairs : goal.returns-clause-input_pairs
returns-clause-input_pairs c F generators x fit made =
    IsGenerated-has (IsLeastInPair F) (IsInJoin F) (IsInMmPair F) generators x
    (λ z is. least_fits_of (2 ^ F.inputs) (length F.states) (InPair F) (in_pairs_grow F) z is)
    (λ a b z one two is. joins_fit_of (2 ^ F.inputs) (length F.states) (InPair F) (in_pairs_grow F) a b z one two is)
    fit made

pub returns-clause-output_pairs : goal.returns-clause-output_pairs
returns-clause-output_pairs c F generators x fit made =
    IsGenerated-has (IsLeastOutPair F) (IsOutJoin F) (IsOutMmPair F) generators x
    (λ z is. least_fits_of (length F.states) (length (occurring F)) (OutPair F) (out_pairs_grow F) z is)
    (λ a b z one two is. joins_fit_of (length F.states) (length (occurring F)) (OutPair F) (out_pairs_grow F) a b z one two is)
    fit made

pub returns-clause-input_joins : goal.returns-clause-input_joins
returns-clause-input_joins c F generators x fit have joins is =
    fit_made (2 ^ F.inputs) (length F.states) (GoFromStates F) (inputs_going F) (in_pairs_grow F) generators fit have joins x is

pub returns-clause-output_joins : goal.returns-clause-output_joins
returns-clause-output_joins c F generators x fit have joins is =
    fit_made (length F.states) (length (occurring F)) (GoAtSymbols F) (outputs_going F) (out_pairs_grow F) generators fit have joins x is
