use Rattle.std.proofs.Common.{◌≡◌, ℕ, ◌-◌, List, [], ◌∷◌, ◌++◌, ap, sym, ◌∙◌, subst, arith}
use Rattle.std.proofs.lemmas.List.{append-nil}
use Rattle.partition.specs.Partition.{blocks_of}
use Rattle.state_codes.specs.Code.{need, Place, label_places, IsLaidOut}
use Rattle.state_codes.specs.Laws.Places.{label_places-next}
use Rattle.state_codes.proofs.draft.put_label.Goals as goal

pub loop-weight-preserved : goal.loop-weight-preserved
loop-weight-preserved c = record {
  states = c.in_ok-put_bit.ensures.states ∙ c.loop-weight.invariant.states;
  room = omega (arith, c.in_ok-put_bit.ensures.bits);
  written = λ n places start.
      let so_far = c.loop-weight.invariant.written n places start in
      let place : Place = record { part = c.args.part; carried = c.args.carried; labels = c.args.labels.now; weight = c.loop-weight.weight - 1 } in (
        so_far.0 ++ place ∷ [],
        label_places-next c.args.part c.args.carried c.args.labels.now c.loop-weight.weight so_far.0 (places ++ label_places c.args.part c.args.carried c.args.labels.now (need (blocks_of c.args.labels.now))) (omega arith) so_far.1,
        c.in_ok-put_bit.ensures.written n so_far.0 so_far.2,
      );
}

pub returns : goal.returns
returns c n places start =
    let so_far = c.loop-weight.invariant.written n places start in
    let none : c.loop-weight.weight ≡ 0 = omega arith in
    let whole = sym (append-nil so_far.0) ∙ ap (λ (k : ℕ). so_far.0 ++ label_places c.args.part c.args.carried c.args.labels.now k) (sym none) ∙ so_far.1 in
    subst (λ (list : List Place). IsLaidOut n list c.loop-weight.draft.bits c.loop-weight.draft.words.items c.loop-weight.draft.owner c.loop-weight.draft.carried) whole so_far.2
