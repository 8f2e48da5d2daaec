use Rattle.std.proofs.Common.{◌≡◌, ℕ, ◌+◌, ◌<◌, ◌↔◌, All, List, [], ◌∷◌, ◌++◌, length, get_or, take, sym, ap, ◌∙◌, subst, add-one}
use Rattle.std.proofs.lemmas.List.{take_all}
use Rattle.std.proofs.lemmas.List.Elements.{All-nil, All-head, All-more}
use Rattle.std.proofs.Math.Seq.{take-suc}
use Rattle.partition.specs.Partition.{IsPartition, Together}
use Rattle.partition.specs.Laws.Labels.{IsPartition-of}
use Rattle.state_codes.specs.Laws.Places.{All-left, All-right}
use Rattle.parallel_split.proofs.spare_members.meet_with_all.Goals as goal

-- one more of the list
step : {Old Start New : Type 0} (P : List ℕ → Type 0) (list : List (List ℕ)) (k : ℕ) (p : List ℕ) → k < length list → p ≡ get_or list k p
    → Old ↔ (Start × All P (take k list)) → New ↔ (Old × P p) → New ↔ (Start × All P (take (k + 1) list))
step P list k p within read so_far more = (
  (λ new.
      let both = more.0 new in
      let old = so_far.0 both.0 in
      (old.0, All-more P list k p within old.1 (subst P read both.1))),
  (λ both.
      let split : All P (take k list ++ p ∷ []) = subst (All P) one both.1 in
      more.1 (so_far.1 (both.0, All-left P (take k list) (p ∷ []) split), All-head P p [] (All-right P (take k list) (p ∷ []) split))),
)
  where
    one : take (k + 1) list ≡ take k list ++ p ∷ []
    one = ap (λ (i : ℕ). take i list) (add-one k) ∙ take-suc list k p within ∙ ap (λ (x : List ℕ). take k list ++ x ∷ []) (sym read)

pub loop-p-init : goal.loop-p-init
loop-p-init c = record {
  lawful = c.requires.lawful;
  together = λ s t. ((λ held. (held, All-nil (λ p. Together p s t))), (λ both. both.0));
}

pub meet-requires : goal.meet-requires
meet-requires c =
    let item : IsPartition (length c.args.start) c.p-item.result = subst (IsPartition (length c.args.start)) (sym c.p-item.is) (c.requires.all c.loop-p.p-index c.p-item.result c.loop-p-test.true) in
    item.length ∙ sym c.loop-p.invariant.lawful.length

pub loop-p-preserved : goal.loop-p-preserved
loop-p-preserved c =
    let more = c.in_ok-meet.ensures.meet in
    let list = c.args.list.now in
    let k = c.loop-p.p-index in
    record {
      lawful = IsPartition-of c.loop-p.invariant.lawful.length more.lawful;
      together = λ s t. step (λ p. Together p s t) list k c.p-item.result c.loop-p-test.true c.p-item.is (c.loop-p.invariant.together s t) (more.together s t);
    }

pub returns-clause-lawful : goal.returns-clause-lawful
returns-clause-lawful c = c.loop-p.invariant.lawful

pub returns-clause-together : goal.returns-clause-together
returns-clause-together c s t =
    let whole = take_all c.loop-p.p-index c.args.list.now c.loop-p-test.false in
    subst (λ (list : List (List ℕ)). Together c.loop-p.meet s t ↔ (Together c.args.start s t × All (λ p. Together p s t) list)) whole (c.loop-p.invariant.together s t)
