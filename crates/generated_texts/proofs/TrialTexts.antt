-- The text of a trial's network is the text of a trial.
use Rattle.std.proofs.Common.{◌≡◌, ℕ, ◌++◌, false, List, refl, ap, ◌∙◌, subst, append_assoc}
use Rattle.blif_out.specs.declared.networks.CommentedNetwork.{CommentedNetwork}
use Rattle.blif_out.specs.declared.networks.HeadedNetwork.{HeadedNetwork}
use Rattle.blif_out.specs.Comments.{AreComments}
use Rattle.blif_out.specs.Design.{plain_design}
use Rattle.blif_out.specs.Head.{head_lines, header_text}
use Rattle.blif_out.specs.NetText.{net_text}
use Rattle.blif_out.specs.NetworkText.{CanBeText, CanBeWritten, IsNetworkText}
use Rattle.blif_out.specs.Laws.Designs.{plain_design_is_lawful}
use Rattle.blif_out.proofs.NetworkTexts.{network_has_text, text_has_head}
use Rattle.blif_out.specs.Laws.Visible.{head_comments}
use Rattle.decomposition.specs.Decomposition.{IsDecomposed}
use Rattle.hs_texts.specs.Reports.{trial_text}
use Rattle.kiss_file.specs.declared.file.KissFile.{KissFile}
use Rattle.net_core.specs.declared.Network.{Network}
use Rattle.state_codes.specs.declared.split.Kind.TheVariants.{Parallel}
use Rattle.state_codes.specs.declared.split.Part.{Part}
use Rattle.generated_texts.specs.Trial.{IsTrialNetwork, IsTrialText}

-- the header of a decomposition consists of comments
header_comments : (F : KissFile) (parts : List Part) (headed : HeadedNetwork) → IsDecomposed false F F Parallel parts headed → AreComments (header_text headed.header)
unfolding IsDecomposed
header_comments F parts headed (class, codes, work, kind, parts_are, is) = (head_lines headed.header, head_comments headed.header is.lawful.states, refl)

pub trial_has_text : (seed a b k : ℕ) (F : KissFile) (made : CommentedNetwork) (text : List ℕ) → CanBeText made → IsTrialNetwork seed a b k F made → IsNetworkText plain_design made.comments made.network text
    → IsTrialText seed a b k F text
trial_has_text seed a b k F made text ready (parts, figures, headed, are, split, decomposed, network, comments) told =
    let summary : List ℕ = trial_text figures in
    let header : List ℕ = header_text headed.header in
    let rest : List ℕ = header ++ net_text plain_design headed.network in
    record {
      parts = parts;
      figures = figures;
      headed = headed;
      rest = rest;
      right = are;
      split = split;
      decomposed = decomposed;
      of_parallel =
          text_has_head plain_design headed.header headed.network rest
          (network_has_text plain_design header headed.network (header_comments F parts headed decomposed) (subst CanBeWritten network ready.network) (plain_design_is_lawful headed.network));
      whole =
          told.whole
          ∙ ap (λ (front : List ℕ). front ++ net_text plain_design made.network) comments
          ∙ ap (λ (N : Network). (summary ++ header) ++ net_text plain_design N) network
          ∙ append_assoc summary header (net_text plain_design headed.network);
      of_network =
          subst (λ (N : Network). IsNetworkText plain_design (summary ++ header) N text) network
          (subst (λ (bytes : List ℕ). IsNetworkText plain_design bytes made.network text) comments told);
    }
