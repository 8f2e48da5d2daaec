use Rattle.std.proofs.Common.{◌∙◌, ap, arith}
use Rattle.std.specs.Int.{bit_at}
use Rattle.std.proofs.lemmas.Nat.Bits.{bit_at_ones}
use Rattle.cover_logic.proofs.Groups.{live_all}
use Rattle.cover_logic.proofs.waiting_terms.Group.new.Goals as goal

pub returns : goal.returns
returns c = live_all _ (λ k below. ap (λ n. bit_at n k) c.first_places-live.ensures ∙ bit_at_ones c.len.result k (let n = c.len.ensures.terms in omega arith))
