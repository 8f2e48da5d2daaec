use Rattle.std.proofs.Common.{ℕ, ◌≡◌, ◌+◌, ◌∷◌, ◌++◌, [], Bool, true, false, not, Option, Some, None, is_some, List, take, refl, subst, sym, ap, ◌∙◌}
use Rattle.std.proofs.lemmas.List.{take_more}
use Rattle.cover_split.specs.declared.joint.Joint.{Joint}
use Rattle.cover_split.specs.Inner.Joints.{IsLeastLeaving}
use Rattle.cover_split.proofs.JointLemmas.{IsScanned, scan_leads, scan_leaves}
use Rattle.cover_split.proofs.expansion.first_leaving.Goals as goal
use Rattle.cover_split.proofs.expansion.first_leaving.Goals.{then-is_none, else-is_none}

none_from : (o : Option ℕ) (b : Bool) → is_some o ≡ not b → b ≡ true → o ≡ None
none_from None b is yes' = refl
none_from (Some t) b is yes' = absurd (let both : true ≡ false = is ∙ ap not yes' in cc)

some_from : (o : Option ℕ) (b : Bool) → is_some o ≡ not b → b ≡ false → (t : ℕ) × (o ≡ Some t)
some_from (Some t) b is no' = (t, refl)
some_from None b is no' = absurd (let both : false ≡ true = is ∙ ap not no' in cc)

pub loop-joint-preserved : goal.loop-joint-preserved
loop-joint-preserved c =
    let joints = c.args.joints.now in
    let i = c.loop-joint.joint-index in
    let joint = c.joint-item.result in
    let cut : take i joints ++ joint ∷ [] ≡ take (i + 1) joints = sym (take_more joints i joint c.loop-joint-test.true ∙ ap (λ (q : Joint). take i joints ++ q ∷ []) (sym c.joint-item.is)) in
    elim c.if-is_none.branch [
      | then-is_none w ↦
          subst (IsScanned (take (i + 1) joints)) (sym w.least-is)
          (subst (λ (list : List Joint). IsLeastLeaving list w.lesser.result) cut
          (scan_leaves (take i joints) joint c.loop-joint.least w.lesser.result (none_from joint.target c.is_none.result c.is_none.ensures w.if-is_none.true) w.lesser.ensures c.loop-joint.invariant))
      | else-is_none w ↦
          let goes = some_from joint.target c.is_none.result c.is_none.ensures w.if-is_none.false in
          subst (IsScanned (take (i + 1) joints)) (sym w.least-is)
          (subst (λ (list : List Joint). IsScanned list c.loop-joint.least) cut (scan_leads (take i joints) joint c.loop-joint.least goes.0 goes.1 c.loop-joint.invariant))
    ]
