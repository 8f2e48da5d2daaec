-- The network of a trial with its comments and its text, and why there may be none.
use Rattle.std.specs.Prelude.{◌≡◌, ℕ, ◌++◌, false, List, []}
use Rattle.answers.specs.Cause.{Cause}
use Rattle.blif_out.specs.declared.networks.CommentedNetwork.{CommentedNetwork}
use Rattle.blif_out.specs.declared.networks.HeadedNetwork.{HeadedNetwork}
use Rattle.blif_out.specs.Design.{plain_design}
use Rattle.blif_out.specs.Head.{header_text}
use Rattle.blif_out.specs.NetworkText.{IsHeadedText, IsNetworkText}
use Rattle.decomposition.specs.Decomposition.{IsDecomposed}
use Rattle.hs_texts.specs.declared.reports.TrialFigures.{TrialFigures}
use Rattle.hs_texts.specs.Reports.{trial_text}
use Rattle.kiss_file.specs.declared.file.KissFile.{KissFile}
use Rattle.split_texts.specs.Splits.{IsSplitOf}
use Rattle.split_texts.specs.Causes.{HasLongCode, OfParts}
use Rattle.state_codes.specs.declared.split.Kind.TheVariants.{Parallel}
use Rattle.state_codes.specs.declared.split.Part.{Part}
use Rattle.generated_texts.specs.Figures.{AreFigures}
use Rattle.generated_texts.specs.SeedMachine.{OfGenerated}

-- The network is that of the parallel decomposition of the machine, right for its kind, as `parallel` gives it. Its
-- comments are a summary and, after it, those of the decomposition's header.
abbrev pub IsTrialNetwork : ℕ → ℕ → ℕ → ℕ → KissFile → CommentedNetwork → Type 0
IsTrialNetwork seed a b k F made =
    (parts : List Part) × (figures : TrialFigures) × (headed : HeadedNetwork)
    × AreFigures seed a b k F parts figures × IsSplitOf Parallel [] F parts × IsDecomposed false F F Parallel parts headed
    × (made.network ≡ headed.network) × (made.comments ≡ trial_text figures ++ header_text headed.header)

-- The text is a summary and, after it, the text of the parallel decomposition of the machine, right for its kind,
-- as `parallel` writes it in the plain design. The whole text denotes the network of the decomposition, since the
-- summary consists of comments.
pub record IsTrialText (seed a b k : ℕ) (F : KissFile) (text : List ℕ) : Type 0 where
  pub parts : List Part
  pub figures : TrialFigures
  pub headed : HeadedNetwork
  pub rest : List ℕ
  pub right : AreFigures seed a b k F parts figures
  pub split : IsSplitOf Parallel [] F parts
  pub decomposed : IsDecomposed false F F Parallel parts headed
  pub of_parallel : IsHeadedText plain_design headed.header headed.network rest
  pub whole : text ≡ trial_text figures ++ rest
  pub of_network : IsNetworkText plain_design (trial_text figures ++ header_text headed.header) headed.network text

-- the codes of the parallel decomposition of the machine of the numbers have more than 64 bits
abbrev pub LongCodeRow : ℕ → ℕ → ℕ → ℕ → Cause
LongCodeRow seed a b k refusal = OfGenerated seed a b k (λ F. OfParts Parallel [] F HasLongCode refusal)
