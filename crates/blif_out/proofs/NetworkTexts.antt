-- The text of a network after comments: it is whole, and denotes the network, also after further comments.
use Rattle.std.proofs.Common.{◌≡◌, ℕ, List, ◌++◌, append_assoc, refl, sym, ap, ◌∙◌, subst}
use Rattle.std.specs.List.{flat_map}
use Rattle.std.proofs.lemmas.Grind.{flat_map-append}
use Rattle.list_facts.specs.Laws.Everywhere.{each_append}
use Rattle.hs_io.specs.Spelling.{IsComment, ended}
use Rattle.net_core.specs.declared.Network.{Network}
use Rattle.net_core.specs.Denotation.{Denotes}
use Rattle.blif_out.specs.declared.design.Design.{Design}
use Rattle.blif_out.specs.declared.header.Header.{Header}
use Rattle.blif_out.specs.Comments.{AreComments, CommentsJoin, HeaderIsComments}
use Rattle.blif_out.specs.Design.{IsDesignOf}
use Rattle.blif_out.specs.Head.{Head, head_lines, header_text}
use Rattle.blif_out.specs.NetText.{net_text}
use Rattle.blif_out.specs.NetworkText.{IsNetworkText, CanBeWritten, NetworkHasText, TextHasHead}
use Rattle.blif_out.specs.Writable.{IsWritable}
use Rattle.blif_out.proofs.Denoting.{net_denotes}
use Rattle.blif_out.specs.Laws.Visible.{head_comments}
use Rattle.blif_out.proofs.Whole.{head_begins}

pub comments_join : CommentsJoin
comments_join one other (lines, are, is) (more, also, too) = (
  lines ++ more,
  each_append IsComment lines more are also,
  ap (λ (t : List ℕ). t ++ other) is ∙ ap (λ (t : List ℕ). flat_map ended lines ++ t) too ∙ sym (flat_map-append ended lines more),
)

pub header_is_comments : HeaderIsComments
header_is_comments H printable = (head_lines H, head_comments H printable.states, refl)

-- the text of a network after comments denotes it
denotes_after : (design : Design) (comments : List ℕ) (N : Network) → IsWritable N → IsDesignOf N design → AreComments comments → Denotes (comments ++ net_text design N) N
denotes_after design comments N writable lawful (lines, are, is) =
    subst (λ (bytes : List ℕ). Denotes (bytes ++ net_text design N) N) (sym is) (net_denotes design N lines writable lawful are)

pub network_has_text : NetworkHasText
network_has_text design comments N are ready lawful = record {
  whole = refl;
  comments_alone = are;
  denotes = denotes_after design comments N ready.writable lawful are;
  after_comments = λ others also.
      subst (λ (bytes : List ℕ). Denotes bytes N) (append_assoc others comments (net_text design N))
      (denotes_after design (others ++ comments) N ready.writable lawful (comments_join others comments also are));
  sound = ready.sound;
  starts = ready.starts;
}

-- any text that is spelled so is the text
pub text_is : (design : Design) (comments : List ℕ) (N : Network) (text : List ℕ) → AreComments comments → CanBeWritten N → IsDesignOf N design → text ≡ comments ++ net_text design N
    → IsNetworkText design comments N text
text_is design comments N text are ready lawful is = subst (IsNetworkText design comments N) (sym is) (network_has_text design comments N are ready lawful)

pub text_has_head : TextHasHead
text_has_head design H N text is = record {
  of_network = is;
  head = subst (λ (bytes : List ℕ). Head design bytes H) (sym is.whole) (head_begins design H N);
}
