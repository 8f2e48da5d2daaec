-- The network of a split, with the comments of a cover.
use Rattle.std.specs.Prelude.{◌≡◌, ℕ, List}
use Rattle.blif_out.specs.declared.networks.CommentedNetwork.{CommentedNetwork}
use Rattle.cover_texts.specs.Lines.{cover_comments}
use Rattle.decomposition.specs.declared.network.SplitNetwork.{SplitNetwork}
use Rattle.kiss_file.specs.declared.file.KissFile.{KissFile}
use Rattle.state_codes.specs.declared.Codes.{Codes}

pub record IsCommented (F : KissFile) (blocks : List (List ℕ)) (codes : Codes) (made : SplitNetwork) (commented : CommentedNetwork) : Type 0 where
  pub comments : commented.comments ≡ cover_comments F.states blocks codes.bits codes.words made.notes
  pub network : commented.network ≡ made.network
