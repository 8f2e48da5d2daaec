use Rattle.std.proofs.Common.{◌≡◌, ℕ, suc, ◌+◌, ◌-◌, ◌↔◌, All, List, length, length-drop, take, drop, add-one, sym, ap, ◌∙◌, subst, arith}
use Rattle.std.proofs.lemmas.Bool.{eq-eqb, eqb-true}
use Rattle.std.proofs.lemmas.List.{take_all}
use Rattle.std.proofs.lemmas.List.Elements.{All-drop, All-take}
use Rattle.partition.specs.Partition.{IsPartition, Together}
use Rattle.partition.specs.Laws.Labels.{IsPartition-of}
use Rattle.parallel_split.proofs.Spared.{blocks_where_spared, spared_by_blocks}
use Rattle.parallel_split.proofs.spare_members.can_spare.Goals as goal

-- what a slice from a place on holds
rest_of : (list : List (List ℕ)) (place : ℕ) → take (length list - (place + 1)) (drop (place + 1) list) ≡ drop (suc place) list
rest_of list place = take_all (length list - (place + 1)) (drop (place + 1) list) (omega (arith, length-drop (place + 1) list)) ∙ ap (λ (k : ℕ). drop k list) (add-one place)

pub returns : goal.returns
returns c =
    let before : IsPartition c.args.n c.in_ok-before.before = IsPartition-of c.in_ok-one.ensures.lawful.length c.in_ok-before.ensures.lawful in
    let others : IsPartition c.args.n c.in_ok-others.others = IsPartition-of before.length c.in_ok-others.ensures.lawful in
    let first = c.in_ok-before.ensures.together in
    let second : (s t : ℕ) → Together c.in_ok-others.others s t ↔ (Together c.in_ok-before.before s t × All (λ p. Together p s t) (drop (suc c.args.place) c.args.list.now)) =
    subst (λ (rest : List (List ℕ)). (s t : ℕ) → Together c.in_ok-others.others s t ↔ (Together c.in_ok-before.before s t × All (λ p. Together p s t) rest)) (rest_of c.args.list.now c.args.place) c.in_ok-others.ensures.together in (
      (λ spared. spared_by_blocks c.args.n c.args.place c.args.list.now c.in_ok-one.one c.in_ok-before.before c.in_ok-others.others c.in_ok-one.ensures.lawful c.in_ok-one.ensures.one others first second (sym c.blocks-2.ensures ∙ eqb-true c.blocks-2.result c.args.n spared)),
      (λ zero. eq-eqb c.blocks-2.result c.args.n (c.blocks-2.ensures ∙ blocks_where_spared c.args.n c.args.place c.args.list.now c.in_ok-one.one c.in_ok-before.before c.in_ok-others.others c.in_ok-one.ensures.lawful c.in_ok-one.ensures.one others first second zero)),
    )

pub meet_with_all-requires-clause-lawful : goal.meet_with_all-requires-clause-lawful
meet_with_all-requires-clause-lawful c = subst (λ (n : ℕ). IsPartition n c.in_ok-one.one) (sym c.in_ok-one.ensures.lawful.length) c.in_ok-one.ensures.lawful

pub meet_with_all-requires-clause-all : goal.meet_with_all-requires-clause-all
meet_with_all-requires-clause-all c =
    let list : List (List ℕ) = take c.args.place c.args.list.now in
    subst (λ (n : ℕ). All (IsPartition n) list) (sym c.in_ok-one.ensures.lawful.length) (All-take (IsPartition c.args.n) c.args.place c.args.list.now c.requires.lawful)

pub meet_with_all-requires-2-clause-lawful : goal.meet_with_all-requires-2-clause-lawful
meet_with_all-requires-2-clause-lawful c = subst (λ (n : ℕ). IsPartition n c.in_ok-before.before) (sym c.in_ok-before.ensures.lawful.length) c.in_ok-before.ensures.lawful

pub meet_with_all-requires-2-clause-all : goal.meet_with_all-requires-2-clause-all
meet_with_all-requires-2-clause-all c =
    let count = length c.args.list.now - (c.args.place + 1) in
    let rest : List (List ℕ) = drop (c.args.place + 1) c.args.list.now in
    subst (λ (n : ℕ). All (IsPartition n) (take count rest)) (sym (c.in_ok-before.ensures.lawful.length ∙ c.in_ok-one.ensures.lawful.length))
    (All-take (IsPartition c.args.n) count rest (All-drop (IsPartition c.args.n) (c.args.place + 1) c.args.list.now c.requires.lawful))
