-- A network that is made is right, and nothing calls for a refusal.
use Rattle.std.proofs.Common.{◌≡◌, List, ℕ, length, subst}
use Rattle.answers.specs.Cause.{CallsForNone}
use Rattle.blif_out.specs.declared.networks.CommentedNetwork.{CommentedNetwork}
use Rattle.blif_out.specs.NetworkText.{CanBeText}
use Rattle.cover_texts.specs.Flaws.{BadCoverRow}
use Rattle.cover_texts.specs.Inner.Steps.{IsExpanded, IsRead}
use Rattle.cover_texts.specs.Inner.PairsNetwork.{IsWhole}
use Rattle.cover_texts.specs.CoverText.{IsCoverNetwork}
use Rattle.cover_texts.proofs.Judging.{none_called}
use Rattle.kiss_file.specs.declared.file.KissFile.{KissFile}

pub judged_network : (F M E : KissFile) → M ≡ F → (text : List ℕ) (blocks : List (List ℕ)) → IsRead (length F.states) text blocks → IsExpanded M blocks E → (made : CommentedNetwork) → CanBeText made → IsWhole F blocks E made
    → CallsForNone (BadCoverRow F text) × (CanBeText made × IsCoverNetwork F text made)
unfolding IsCoverNetwork
judged_network F M E same text blocks read expanded made ready whole =
    let here : IsExpanded F blocks E = subst (λ (H : KissFile). IsExpanded H blocks E) same expanded in (
      none_called F text blocks read here.closed,
      (ready, (blocks, E, whole.0, whole.1, whole.2, whole.3 text read.spelled)),
    )
