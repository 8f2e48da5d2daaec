use Rattle.std.proofs.Common.{◌≡◌, ◌<◌, ◌+◌, ℕ, List, Option, Some, IfSome, length, take, rules, inl, inr, refl, sym, subst}
use Rattle.std.proofs.lemmas.Result.{on_ok_weaker}
use Rattle.hs_io.specs.ShelfState.{FailsNext, held}
use Rattle.hs_io.proofs.memory_shelf.MemShelfShelf.load.Goals as goal
use Rattle.hs_io.proofs.memory_shelf.MemShelfShelf.load.Goals.{in_default-via-in-Some+else-not-listed, in_default-via-in_default}

held_here : (c : goal.After-copy) → held c.args.self.now c.args.name.now ≡ Some c.in-Some.text.now
held_here c = search rules

pub returns-in-Some-clause-whole : goal.returns-in-Some-clause-whole
returns-in-Some-clause-whole c =
    on_ok_weaker c.copy.result (λ whole. subst (λ (bytes : Option (List ℕ)). IfSome bytes (λ text. c.copy.new.into.items ≡ text)) (sym (held_here c)) whole.0) c.copy.ensures.whole

pub returns-in-Some-clause-front : goal.returns-in-Some-clause-front
returns-in-Some-clause-front c =
    λ too_long. subst (λ (bytes : Option (List ℕ)). IfSome bytes (λ text. c.copy.new.into.items ≡ take (c.args.limit + 1) text)) (sym (held_here c)) (c.copy.ensures.too_long too_long).0

pub returns-in-Some-clause-longer : goal.returns-in-Some-clause-longer
returns-in-Some-clause-longer c =
    λ too_long. subst (λ (bytes : Option (List ℕ)). IfSome bytes (λ text. c.args.limit < length text)) (sym (held_here c)) (c.copy.ensures.too_long too_long).1

pub returns-in_default-clause-fails : goal.returns-in_default-clause-fails
returns-in_default-clause-fails c =
    let failing : FailsNext c.args.self.now c.args.name.now =
    elim c.in_default.branch [ in_default-via-in-Some+else-not-listed w ↦ inl (search rules) | in_default-via-in_default w ↦ inr (search rules) ] in
    (λ _. failing, λ _. refl)

pub returns-in_default-clause-not_counted : goal.returns-in_default-clause-not_counted
returns-in_default-clause-not_counted c = λ not_failing. absurd (not_failing ((returns-in_default-clause-fails c).0 refl))
