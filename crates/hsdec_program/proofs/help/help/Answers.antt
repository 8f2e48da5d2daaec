-- The rows of the code's table are those that are built.
use Rattle.std.proofs.Common.{◌≡◌, List, [], ◌∷◌, IfOk, subst}
use Rattle.job_words.specs.Table.{Row}
use Rattle.job_words.specs.declared.table.CommandOption.TheVariants.{Limit, Reduce, Start, Fill, Names, Clock, Model}
use Rattle.job_words.specs.declared.table.OperandKind.TheVariants as kinds
use Rattle.hsdec_program.specs.declared.groups.Group.TheVariants.{Look, Split, Code, Run, Make}
use Rattle.hsdec_program.specs.Pages.{help_page, help_page_of}
use Rattle.hsdec_program.proofs.help.help.Goals as goal

pub returns : goal.returns
unfolding help_page
returns c =
    subst
    (λ (rows : List Row). IfOk c.help_on.result (λ page. page.items ≡ help_page_of rows (Look ∷ Split ∷ Code ∷ Run ∷ Make ∷ []) (kinds.File ∷ kinds.Net ∷ kinds.Symbols ∷ kinds.Part ∷ kinds.Parts ∷ kinds.Cover ∷ kinds.Split ∷ kinds.J ∷ kinds.Seed ∷ kinds.A ∷ kinds.B ∷ kinds.K ∷ []) (Limit ∷ Reduce ∷ Start ∷ Fill ∷ Names ∷ Clock ∷ Model ∷ [])))
    c.built_forms.ensures c.help_on.ensures
