use Rattle.std.proofs.Common.{◌≡◌, ℕ, ◌<◌, All, List, [], ◌∷◌, length, get_or, map, vec_len, refl, sym, ap, ◌∙◌, subst, arith}
use Rattle.std.proofs.lemmas.Bool.{eq-eqb, eqb-true, false≢true}
use Rattle.kiss_file.specs.declared.file.KissFile.{KissFile}
use Rattle.partition.specs.Partition.{IsPartition, IsZero}
use Rattle.state_codes.specs.declared.split.Part.{Part}
use Rattle.state_codes.specs.Split.{IsPart, lone_part}
use Rattle.parallel_split.specs.Kind.{IsParallel}
use Rattle.parallel_split.specs.Best.{IsBestParallel}
use Rattle.parallel_split.specs.Choice.{IsParallelChoice, LeavesOut}
use Rattle.parallel_split.specs.Inner.Members.{AreMembers}
use Rattle.parallel_split.proofs.Gathering.{members_none}
use Rattle.parallel_split.proofs.Parts.{AreLeft, members_choice, members_left, parts_best, parts_few, parts_lawful, parts_parallel, two_in_parallel}
use Rattle.parallel_split.proofs.parallel.split.Goals as goal

nothing : (xs : List (List ℕ)) → length xs ≡ 0 → xs ≡ []
nothing [] none = refl
nothing (x ∷ xs) none = absurd (omega arith)

something : (xs : List (List ℕ)) → (length xs ≡ 0 → ⊥) → 0 < length xs
something [] some = absurd (some refl)
something (x ∷ xs) some = omega arith

pub returns-then-is_empty-clause-none : goal.returns-then-is_empty-clause-none
returns-then-is_empty-clause-none c =
    let some = rw c.in-Some.is at c.in_ok-list.ensures.some in
    let none : c.in-Some.list.items ≡ [] = nothing c.in-Some.list.items (omega (arith, eqb-true (vec_len c.in-Some.list) 0 (sym c.is_empty.ensures ∙ c.if-is_empty.true), c.in-Some.list.ok.0)) in
    ((λ _. members_none c.args.m.now some.0 c.in-Some.list.items some.2 some.1 none), (λ _. refl))

-- what is known of the parts
record Known (F : KissFile) (parts : List Part) : Type 0 where
  last : List ℕ
  is_zero : IsZero last
  ordered : List (List ℕ)
  found : AreMembers F last ordered
  remaining : List (List ℕ)
  leaves : LeavesOut (length F.states) [] ordered remaining
  left : AreLeft F remaining
  made : parts ≡ map lone_part remaining

known : (c : goal.In_ok-lone_parts) → Known c.args.m.now c.in_ok-lone_parts.field-0
known c =
    let some = rw c.in-Some.is at c.in_ok-list.ensures.some in
    let nonempty : 0 < length c.in-Some.list.items = something c.in-Some.list.items (λ none. false≢true (sym c.if-is_empty.false ∙ c.is_empty.ensures ∙ eq-eqb (vec_len c.in-Some.list) 0 (omega (arith, none, c.in-Some.list.ok.0)))) in
    let leaves : LeavesOut (length c.args.m.now.states) [] c.in-Some.list.items c.leave_out.new.list.items = rw c.states.ensures.count at c.in_ok-leave_out.ensures in
    record {
      last = some.0;
      is_zero = some.1;
      ordered = c.in-Some.list.items;
      found = some.2;
      remaining = c.leave_out.new.list.items;
      leaves = leaves;
      left = members_left c.args.m.now some.0 c.in-Some.list.items c.leave_out.new.list.items some.2 some.1 nonempty leaves;
      made = c.in_ok-lone_parts.ensures;
    }

pub returns-clause-none : goal.returns-clause-none
returns-clause-none c =
    ((λ is. absurd (false≢true (sym is))), (λ none. absurd (two_in_parallel c.args.m.now (known c).remaining (known c).left none)))

pub returns-clause-parallel : goal.returns-clause-parallel
returns-clause-parallel c = subst (IsParallel c.args.m.now) (sym (known c).made) (parts_parallel c.args.m.now (known c).remaining (known c).left)

pub returns-clause-best : goal.returns-clause-best
returns-clause-best c = subst (IsBestParallel c.args.m.now) (sym (known c).made) (parts_best c.args.m.now (known c).remaining (known c).left)

pub returns-clause-choice : goal.returns-clause-choice
returns-clause-choice c =
    let all = known c in
    subst (IsParallelChoice c.args.m.now) (sym all.made) (members_choice c.args.m.now all.last all.ordered all.remaining all.found all.is_zero all.leaves)

pub returns-clause-few : goal.returns-clause-few
returns-clause-few c =
    let all = known c in
    omega (arith, ap length all.made, parts_few c.args.m.now all.last all.ordered all.remaining all.found all.leaves)

pub returns-clause-lawful : goal.returns-clause-lawful
returns-clause-lawful c = subst (All (IsPart (length c.args.m.now.states))) (sym (known c).made) (parts_lawful c.args.m.now (known c).remaining (known c).left)

pub leave_out-requires-clause-lawful : goal.leave_out-requires-clause-lawful
leave_out-requires-clause-lawful c k d within =
    let some = rw c.in-Some.is at c.in_ok-list.ensures.some in
    subst (λ (n : ℕ). IsPartition n (get_or c.in-Some.list.items k d)) (sym c.states.ensures.count) (some.2.members k d within).greatest.closed.0

pub leave_out-requires-clause-count : goal.leave_out-requires-clause-count
leave_out-requires-clause-count c = (c.states.ensures.some, c.states.ensures.limit)

pub returns-in_default-clause-none : goal.returns-in_default-clause-none
returns-in_default-clause-none c = let none = rw c.in_default.is at c.in_ok-list.ensures.none in ((λ _. none), (λ _. refl))
