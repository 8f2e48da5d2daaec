use Rattle.std.proofs.Common.{◌≡◌, ◌<◌, ◌+◌, ◌∙◌, ap, length, sym, arith}
use Rattle.std.proofs.lemmas.Result.{err_from_is_err_and}
use Rattle.io_pairs.specs.Inner.Words.{with_words}
use Rattle.io_pairs.specs.Outputs.{occurring, outputs_at}
use Rattle.io_pairs.proofs.Gathering.{outputs_all, outputs_fewer, outputs_next, outputs_none}
use Rattle.io_pairs.proofs.output_words.outputs.Goals as goal

pub loop-s-init : goal.loop-s-init
loop-s-init c = record {
  so_far = c.new-outs.ensures.items ∙ sym (outputs_none c.args.m.now);
  few = omega (arith, c.new-outs.ensures.len);
}

pub returns-in_err-add_words-clause-too_many : goal.returns-in_err-add_words-clause-too_many
returns-in_err-add_words-clause-too_many c is =
    let F = c.args.m.now in
    let s = c.loop-s.s in
    let fail = err_from_is_err_and c.from_residual-in_err-add_words.result c.from_residual-in_err-add_words.ensures.1 in
    let row : c.as_slice.result.now ≡ outputs_at F s = c.as_slice.ensures.value ∙ c.in_ok-words.ensures in
    let next = outputs_next F s c.loop-s.outs.items c.as_slice.result.now (omega arith) c.loop-s.invariant.so_far row in
    let more : 256 < length (with_words c.loop-s.outs.items c.as_slice.result.now) = c.add_words.ensures.too_many (cc (c.in_err-add_words.was, is, fail.1, fail.2)) in
    omega (arith, more, ap length next, outputs_fewer F (s + 1))

pub loop-s-preserved : goal.loop-s-preserved
loop-s-preserved c =
    let F = c.args.m.now in
    let s = c.loop-s.s in
    let row : c.as_slice.result.now ≡ outputs_at F s = c.as_slice.ensures.value ∙ c.in_ok-words.ensures in
    let next = outputs_next F s c.loop-s.outs.items c.as_slice.result.now (omega arith) c.loop-s.invariant.so_far row in
    record { so_far = c.in_ok-add_words.ensures.ok ∙ next; few = c.in_ok-add_words.ensures.few }

pub returns-clause-ok : goal.returns-clause-ok
returns-clause-ok c =
    let F = c.args.m.now in
    let all : c.loop-s.outs.items ≡ occurring F = c.loop-s.invariant.so_far ∙ outputs_all F c.loop-s.s (omega arith) in
    record { same = c.from.ensures ∙ all; few = omega (arith, ap length c.from.ensures, c.loop-s.invariant.few) }

pub returns-clause-few : goal.returns-clause-few
returns-clause-few c =
    let F = c.args.m.now in
    let all : c.loop-s.outs.items ≡ occurring F = c.loop-s.invariant.so_far ∙ outputs_all F c.loop-s.s (omega arith) in
    omega (arith, ap length all, c.loop-s.invariant.few)
