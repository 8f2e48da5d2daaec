use Rattle.std.proofs.lemmas.Result.{IfOk-from_err}
use Rattle.std.proofs.Common.{◌≡◌, ◌+◌, ◌∙◌, List, [], ◌∷◌, ◌++◌, take, sym, subst, ap, rules}
use Rattle.std.specs.List.Sorted.{IsPermutation}
use Rattle.std.proofs.lemmas.List.{take_all, take_more}
use Rattle.cover_terms.specs.declared.term.Term.{Term}
use Rattle.cover_terms.specs.Lists.{HasSameValues, IsWithinOne}
use Rattle.cover_terms.specs.Laws.Values.{values_none, values_push, values_spared, values_permuted}
use Rattle.cover_terms.proofs.distinct_terms.distinct.Goals as goal
use Rattle.cover_terms.proofs.distinct_terms.distinct.Goals.{then-not-last_includes+in_ok-push, else-not-last_includes}

pub loop-term-init : goal.loop-term-init
loop-term-init c = rw c.new-once.ensures.items values_none

pub loop-term-preserved : goal.loop-term-preserved
loop-term-preserved c =
    let term = c.term-item.result in
    let sorted = c.deref-term-items.result.now in
    let i = c.loop-term.term-index in
    let once = c.loop-term.once.items in
    let more : take (i + 1) sorted ≡ take i sorted ++ term ∷ [] =
    take_more sorted i term c.loop-term-test.true ∙ ap (λ (t : Term). take i sorted ++ t ∷ []) (sym c.term-item.is) in
    let P : List Term → Type 0 = λ ts. HasSameValues (take i sorted ++ term ∷ []) ts in
    rw more
    (elim c.if-not-last_includes.branch [
      | then-not-last_includes+in_ok-push w ↦
          let pushed : c.if-not-last_includes.once.items ≡ once ++ term ∷ [] = ap (λ v. v.items) w.once-is ∙ w.in_ok-push.ensures.items in
          subst P (sym pushed) (values_push (take i sorted) once term c.loop-term.invariant)
      | else-not-last_includes w ↦
          let known : IsWithinOne once term =
          subst (λ (ts : List Term). IsWithinOne ts term) c.deref.ensures.value (c.last_includes.ensures (search rules)) in
          subst P (sym (ap (λ v. v.items) w.once-is)) (values_spared (take i sorted) once term c.loop-term.invariant known)
    ])

pub returns : goal.returns
returns c =
    let sorted = c.deref-term-items.result.now in
    let permuted : IsPermutation c.args.terms.now sorted =
    rw c.deref-term-items.ensures.value (subst (λ (ts : List Term). IsPermutation ts c.sort_unstable_by_key.new.self.items) c.in_ok-sorted.ensures.items c.sort_unstable_by_key.ensures.permutation) in
    values_permuted c.args.terms.now sorted c.loop-term.once.items permuted
    (subst (λ (ts : List Term). HasSameValues ts c.loop-term.once.items) (take_all c.loop-term.term-index sorted c.loop-term-test.false) c.loop-term.invariant)

pub returns-in_err-sorted : goal.returns-in_err-sorted
returns-in_err-sorted c = IfOk-from_err c.from_residual.result _ c.from_residual.ensures.0

pub returns-in_err-push : goal.returns-in_err-push
returns-in_err-push c = IfOk-from_err c.from_residual-in_err-push.result _ c.from_residual-in_err-push.ensures.0
