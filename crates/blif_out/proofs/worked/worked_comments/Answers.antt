use Rattle.std.proofs.Common.{[], ◌∷◌, codes, refl, arith}
use Rattle.blif_out.proofs.WorkedTexts.{begins}
use Rattle.blif_out.proofs.worked.worked_comments.Goals as goal

pub returns : goal.returns
returns c = record {
  none = ([], tt, refl);
  two = (codes "# ab" ∷ codes "#" ∷ [], ((refl, (λ e. absurd (omega (arith, e)), (λ e. absurd (omega (arith, e)), (λ e. absurd (omega (arith, e)), tt)))), ((refl, tt), tt)), refl);
  other = λ are. let mark = begins _ _ are in absurd (omega (arith, mark));
}
