use Rattle.std.proofs.Common.{ℕ, List, ◌++◌, refl, ap, ◌∙◌}
use Rattle.blif_out.specs.declared.header.LatchNote.{LatchNote}
use Rattle.cover_texts.specs.Lines.{cover_comments}
use Rattle.cover_texts.proofs.networks.commented.Goals as goal

pub returns : goal.returns
returns c =
    let lines : List LatchNote → List ℕ = λ notes. cover_comments c.args.file.now.states c.args.cover.now.blocks c.args.codes.now.bits c.args.codes.now.words notes in
    record {
      comments =
          c.from.ensures
          ∙ c.in_ok-append_head.ensures
          ∙ ap (λ (t : List ℕ). t ++ lines c.as_slice.result.now) c.new-comments.ensures.items
          ∙ ap (λ (notes : List LatchNote). lines notes) c.as_slice.ensures;
      network = refl;
    }
