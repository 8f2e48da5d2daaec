use Rattle.std.proofs.Common.{ℕ, List, [], subst, sym}
use Rattle.std.proofs.lemmas.Result.{IfOk-weaker}
use Rattle.net_core.specs.Denotation.{Denotes}
use Rattle.blif_out.specs.Design.{plain_design}
use Rattle.blif_out.specs.Head.{Head}
use Rattle.blif_out.specs.Laws.Designs.{plain_design_is_lawful}
use Rattle.blif_out.proofs.Whole.{head_begins, whole_denotes}
use Rattle.blif_out.proofs.writing.text.Goals as goal

pub returns : goal.returns
returns c =
    let N = c.args.net.now in
    let H = c.args.header.now in
    record {
      whole = c.whole_text.ensures;
      denotes = IfOk-weaker c.whole_text.result _ _ (λ text is. subst (λ (bytes : List ℕ). Denotes bytes N) (sym is) (whole_denotes plain_design N H [] c.requires.writable (plain_design_is_lawful N) c.requires.states tt)) c.whole_text.ensures;
      head = IfOk-weaker c.whole_text.result _ _ (λ text is. subst (λ (bytes : List ℕ). Head plain_design bytes H) (sym is) (head_begins plain_design H N)) c.whole_text.ensures;
    }
