-- One word more, of the argument that was lent.
use Rattle.std.proofs.Common.{◌≡◌, ◌+◌, ◌≤◌, ℕ, List, [], ◌∷◌, ◌++◌, Option, IfSome, length, length-append, ap, subst, arith}
use Rattle.std.specs.List.{slice_get}
use Rattle.hsdec_program.proofs.ToldWords.{told_more}
use Rattle.hsdec_program.proofs.arguments.words_of.Goals as goal

pub loop-number-preserved : goal.loop-number-preserved
loop-number-preserved g c =
    let pushed : c.push.new.self ≡ c.loop-number.words ++ c.word_of.result.now ∷ [] = c.in_ok-push.ensures.ok in
    let few : length c.push.new.self ≤ c.loop-number.number + 1 = omega (arith, simp length-append at (ap length pushed)) in (
      few,
      told_more (g.A.Arguments.given c.args.arguments.now) c.loop-number.number c.loop-number.words c.push.new.self c.in-Some.argument c.bytes.result.now c.word_of.result.now
          c.loop-number.invariant.1
          (subst (λ (item : Option (List ℕ)). IfSome (g.A.Arguments.given c.args.arguments.now) (λ all. item ≡ slice_get all c.loop-number.number)) c.in-Some.is c.in_ok-argument.ensures)
          c.bytes.ensures c.word_of.ensures pushed,
    )
