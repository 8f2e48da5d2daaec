use Rattle.std.proofs.Common.{◌≡◌, length, subst, sym, ◌∙◌, arith}
use Rattle.std.proofs.lemmas.Bool.{false≢true}
use Rattle.std.proofs.lemmas.Option.{slice_get-get_or}
use Rattle.pattern_bundles.specs.Inner.Plane.{Allows}
use Rattle.pattern_bundles.proofs.Marking.{MarksFirst, marks_all, marks_more, marks_passed}
use Rattle.pattern_bundles.proofs.bundle.allowing.Goals as goal
use Rattle.pattern_bundles.proofs.bundle.allowing.Goals.{then-allows, else-allows}

pub loop-k-preserved : goal.loop-k-preserved
loop-k-preserved c =
    let patterns = c.args.patterns.now in
    let P = Allows c.args.place c.args.one in
    let k = c.loop-k.k in
    let at = slice_get-get_or patterns k (record { care = 0; value = 0 }) c.loop-k-test.true in
    elim c.if-allows.branch [
      | then-allows w ↦
          rw w.marks-is (marks_more patterns P k c.loop-k.marks _ at c.loop-k.invariant (let few = c.requires.few in let below = c.loop-k-test.true in omega (arith, few, below)) (c.allows.ensures.0 w.if-allows.true))
      | else-allows w ↦ rw w.marks-is (marks_passed patterns P k c.loop-k.marks _ at c.loop-k.invariant (λ holds. false≢true (sym w.if-allows.false ∙ c.allows.ensures.1 holds)))
    ]

pub returns : goal.returns
returns c =
    let patterns = c.args.patterns.now in
    let all : c.loop-k.k ≡ length patterns = let above = c.loop-k-test.false in let within = c.loop-k.auto.k-end in omega (arith, above, within) in
    marks_all patterns (Allows c.args.place c.args.one) c.loop-k.marks (subst (λ n. MarksFirst patterns (Allows c.args.place c.args.one) n c.loop-k.marks) all c.loop-k.invariant)
