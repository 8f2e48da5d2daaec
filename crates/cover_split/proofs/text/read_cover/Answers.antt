use Rattle.std.proofs.Common.{◌≡◌, ◌⊎◌, ℕ, List, inl, inr, subst}
use Rattle.std.proofs.lemmas.Result.{err_from_is_err_and}
use Rattle.cover_split.specs.declared.state_cover.CoverFail.{CoverFail}
use Rattle.cover_split.specs.declared.state_cover.CoverFail.TheVariants.{NoMemory}
use Rattle.cover_split.specs.Refusal.{BlocksFault, CoverFault, SpellsBlocks}
use Rattle.cover_split.proofs.Outcomes.{text_fault}
use Rattle.cover_split.proofs.text.read_cover.Goals as goal

judged : (n : ℕ) (text : List ℕ) (blocks read : List (List ℕ)) (fail : CoverFail) → SpellsBlocks n text blocks → read ≡ blocks → (fail ≡ NoMemory) ⊎ BlocksFault n read fail
    → (fail ≡ NoMemory) ⊎ CoverFault n text fail
judged n text blocks read fail is same (inl memory) = inl memory
judged n text blocks read fail is same (inr fault) = inr (text_fault n text blocks fail is (subst (λ (b : List (List ℕ)). BlocksFault n b fail) same fault))

pub returns-in_err-judge : goal.returns-in_err-judge
returns-in_err-judge c =
    let p = err_from_is_err_and c.from_residual-in_err-judge.result c.from_residual-in_err-judge.ensures.1 in
    rw (p.1, p.2) (judged c.args.n c.args.text.now c.in_ok-blocks.blocks c.as_slice.result.now _ c.in_ok-blocks.ensures.0 c.as_slice.ensures c.in_err-judge.ensures.err)
