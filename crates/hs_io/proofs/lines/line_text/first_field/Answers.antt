use Rattle.std.proofs.Common.{◌≡◌, ◌+◌, ◌-◌, take, length, length-take, length-drop, ◌∙◌, ap, arith}
use Rattle.hs_io.proofs.Cuts.{first_run, past_blank}
use Rattle.hs_io.proofs.lines.line_text.first_field.Goals as goal

pub returns-then-end-gt0-clause-some : goal.returns-then-end-gt0-clause-some
returns-then-end-gt0-clause-some c =
    λ some. c.loop-end.invariant.same ∙ first_run c.loop-end.rest.now c.first_cut-end.result c.after.result.now c.first_cut-end.ensures.place some c.after.ensures

pub returns-then-end-gt0-clause-within : goal.returns-then-end-gt0-clause-within
returns-then-end-gt0-clause-within c =
    let rest = c.loop-end.rest.now in
    let end = c.first_cut-end.result in
    let left : length c.after.result.now ≡ length rest - (end + 1) = ap length c.after.ensures ∙ length-drop (end + 1) rest in
    omega (arith, left, length-take end rest, c.first_cut-end.ensures.within, c.loop-end.invariant.within)

pub loop-end-preserved : goal.loop-end-preserved
loop-end-preserved c =
    let rest = c.loop-end.rest.now in
    let end = c.first_cut-end.result in
    let none : length (take end rest) ≡ 0 = omega (arith, length-take end rest) in
    let left : length c.after-rest.result.now ≡ length rest - (end + 1) = ap length c.after-rest.ensures ∙ length-drop (end + 1) rest in
    record {
      same = c.loop-end.invariant.same ∙ past_blank rest end c.after-rest.result.now c.first_cut-end.ensures.place none c.after-rest.ensures;
      within = omega (arith, left, c.loop-end.invariant.within);
    }
