use Rattle.std.proofs.Common.{◌≡◌, ◌++◌, ap, append-nil, sym, ◌∙◌, arith}
use Rattle.kiss2.specs.KissText.{output_characters}
use Rattle.kiss2.proofs.Written.{output_more}
use Rattle.kiss2.proofs.writer.append_outputs.Goals as goal

pub loop-output-init : goal.loop-output-init
loop-output-init c = sym (append-nil c.args.text.now.items)

pub loop-output-preserved : goal.loop-output-preserved
loop-output-preserved c =
    output_more c.args.text.now.items c.loop-output.text.items c.push.new.self.items c.loop-output.output c.output_byte.result c.args.row.now c.in_ok-push.ensures.items c.output_byte.ensures c.loop-output.invariant

pub returns : goal.returns
returns c =
    let all : c.loop-output.output ≡ c.args.outputs = omega arith in
    c.loop-output.invariant ∙ ap (λ count. c.args.text.now.items ++ output_characters count c.args.row.now) all
