use Rattle.std.proofs.Common.{◌≡◌, ℕ, ◌+◌, ◌*◌, ◌^◌, ap, ◌∙◌, arith}
use Rattle.std.proofs.lemmas.Nat.{one_shl}
use Rattle.cubes.specs.Symbol.{symbol_of}
use Rattle.gate_rows.specs.Laws.Ranges.{map-range-push}
use Rattle.kiss_file.specs.Machine.{next}
use Rattle.shift_real.specs.Inner.Contents.{content_after, turned_bits}
use Rattle.shift_real.proofs.ContentLists.{next_content_is}
use Rattle.shift_real.proofs.contents.add_next.Goals as goal

pub loop-x-preserved : goal.loop-x-preserved
loop-x-preserved c =
    let F = c.args.m.now in
    let content = c.args.content.now in
    let power : c.from.result ≡ 2 ^ F.inputs =
    c.from.ensures ∙ (one_shl c.inputs.result 32 (omega (arith, c.inputs.ensures.count, c.requires.inputs)) ∙ ap (λ (n : ℕ). 2 ^ n) c.inputs.ensures.count) in
    let low : c.turned.result ≡ turned_bits F.inputs c.loop-x.x = c.turned.ensures.value ∙ ap (λ (n : ℕ). turned_bits n c.loop-x.x) c.inputs-in-loop-x.ensures.count in
    map-range-push (content_after F content) c.args.longer.now.items c.loop-x.longer.items _ c.loop-x.x _ c.loop-x.invariant c.in_ok-push.ensures.items
    (next_content_is F content c.loop-x.x (content.latches * c.from.result + c.turned.result) c.next-state.result
    (ap (λ (n : ℕ). content.latches * n + c.turned.result) power ∙ ap (λ (n : ℕ). content.latches * 2 ^ F.inputs + n) low)
    (c.next-state.ensures.next ∙ ap (λ (s : ℕ). next F s (symbol_of F.inputs c.loop-x.x)) c.from-in-loop-x.ensures))
