use Rattle.std.proofs.Common.{◌≡◌, ℕ, List, [], ◌∷◌, ◌++◌, map, refl, ap, ◌∙◌, subst}
use Rattle.state_codes.specs.declared.split.Part.{Part}
use Rattle.cover_split.specs.Expansion.{pairs_of}
use Rattle.cover_split.specs.Parts.{IsByBlock}
use Rattle.state_codes.specs.Split.{own_part}
use Rattle.cover_split.proofs.PartLemmas.{closed_parts, in_zero, labels_of, lawful_parts, split_by_block}
use Rattle.cover_split.proofs.PartSizes.{front_count, front_nontrivial, longest}
use Rattle.cover_split.proofs.parts.split.Goals as goal

-- the two parts, pushed one after the other
two : (none some all : List Part) (one other : Part) (first second reads empty_reads more : List ℕ) → none ≡ [] → some ≡ none ++ one ∷ [] → all ≡ some ++ other ∷ [] → reads ≡ [] → empty_reads ≡ [] → more ≡ empty_reads ++ 0 ∷ []
    → one ≡ own_part first reads → other ≡ own_part second more → all ≡ own_part first [] ∷ own_part second (0 ∷ []) ∷ []
two none some all one other first second reads empty_reads more empty pushed pushed_too unread fresh read is_first is_second =
    rw (pushed_too, pushed, empty, is_first, is_second, unread, read, fresh) refl

-- the labels of the first part
named : (blocks read : List (List ℕ)) (p : List ℕ) → read ≡ blocks → p ≡ map (λ pair. pair.0) (pairs_of read) → p ≡ labels_of blocks
unfolding labels_of
named blocks read p same is = is ∙ ap (λ (b : List (List ℕ)). map (λ pair. pair.0) (pairs_of b)) same

pub returns-clause-by_block : goal.returns-clause-by_block
returns-clause-by_block c =
    let parts = two c.new-parts.result c.push-2.new.self c.push-3.new.self c.in_ok-one.one c.in_ok-other.other c.in_ok-first.first c.in_ok-second.second c.new-none.result c.new-reads.result c.push.new.self
    c.new-parts.ensures c.in_ok-push-2.ensures.ok c.in_ok-push-3.ensures.ok c.new-none.ensures c.new-reads.ensures c.in_ok-push.ensures.ok c.in_ok-one.ensures c.in_ok-other.ensures in
    let is = subst (λ (blocks : List (List ℕ)). IsByBlock blocks c.in_ok-first.first) c.as_slice.ensures c.in_ok-first.ensures.by_block in
    let labels = named c.args.cover.now.blocks c.as_slice.result.now c.in_ok-first.first c.as_slice.ensures c.in_ok-first.ensures.labels in
    let cover = c.requires.1 in
    split_by_block c.args.cover.now.blocks c.in_ok-first.first c.in_ok-second.second c.push-3.new.self parts is c.in_ok-second.ensures.inside c.in_ok-second.ensures.blocks
    (front_nontrivial c.requires.0 c.args.cover.now.blocks cover c.in_ok-first.first is) (front_count c.requires.0 c.args.cover.now.blocks cover c.in_ok-first.first is labels)
    (longest c.args.cover.now.blocks c.in_ok-first.first _ labels c.in_ok-second.ensures.blocks)

pub returns-clause-in_zero : goal.returns-clause-in_zero
returns-clause-in_zero c =
    let parts = two c.new-parts.result c.push-2.new.self c.push-3.new.self c.in_ok-one.one c.in_ok-other.other c.in_ok-first.first c.in_ok-second.second c.new-none.result c.new-reads.result c.push.new.self
    c.new-parts.ensures c.in_ok-push-2.ensures.ok c.in_ok-push-3.ensures.ok c.new-none.ensures c.new-reads.ensures c.in_ok-push.ensures.ok c.in_ok-one.ensures c.in_ok-other.ensures in
    let is = subst (λ (blocks : List (List ℕ)). IsByBlock blocks c.in_ok-first.first) c.as_slice.ensures c.in_ok-first.ensures.by_block in
    in_zero c.args.cover.now.blocks c.in_ok-first.first c.in_ok-second.second c.push-3.new.self parts is c.in_ok-second.ensures.inside

pub returns-clause-closed : goal.returns-clause-closed
returns-clause-closed c =
    let parts = two c.new-parts.result c.push-2.new.self c.push-3.new.self c.in_ok-one.one c.in_ok-other.other c.in_ok-first.first c.in_ok-second.second c.new-none.result c.new-reads.result c.push.new.self
    c.new-parts.ensures c.in_ok-push-2.ensures.ok c.in_ok-push-3.ensures.ok c.new-none.ensures c.new-reads.ensures c.in_ok-push.ensures.ok c.in_ok-one.ensures c.in_ok-other.ensures in
    let is = subst (λ (blocks : List (List ℕ)). IsByBlock blocks c.in_ok-first.first) c.as_slice.ensures c.in_ok-first.ensures.by_block in
    closed_parts c.args.cover.now.blocks c.in_ok-first.first c.in_ok-second.second c.push-3.new.self parts is

pub returns-clause-lawful : goal.returns-clause-lawful
returns-clause-lawful c =
    let parts = two c.new-parts.result c.push-2.new.self c.push-3.new.self c.in_ok-one.one c.in_ok-other.other c.in_ok-first.first c.in_ok-second.second c.new-none.result c.new-reads.result c.push.new.self
    c.new-parts.ensures c.in_ok-push-2.ensures.ok c.in_ok-push-3.ensures.ok c.new-none.ensures c.new-reads.ensures c.in_ok-push.ensures.ok c.in_ok-one.ensures c.in_ok-other.ensures in
    let is = subst (λ (blocks : List (List ℕ)). IsByBlock blocks c.in_ok-first.first) c.as_slice.ensures c.in_ok-first.ensures.by_block in
    lawful_parts c.args.cover.now.blocks c.in_ok-first.first c.in_ok-second.second c.push-3.new.self parts is c.in_ok-second.ensures.inside
