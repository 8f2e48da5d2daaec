use Rattle.std.proofs.Common.{ℕ, IfNone, IfSome, Option, subst, sym, inl, inr}
use Rattle.kiss_file.specs.declared.file.KissFile.{KissFile}
use Rattle.kiss_file.specs.Machine.{Conflicting, Specified}
use Rattle.machine_table.specs.declared.open_entry.Entry.{Entry}
use Rattle.machine_table.specs.declared.open_part.Missing.{Missing}
use Rattle.machine_table.specs.OpenEntries.{IsEntry, IsFirstOpen, IsSaid}
use Rattle.machine_table.proofs.Specified.{specified}
use Rattle.machine_table.proofs.machine.Machine.judge_open.Goals as goal

pub invariant_of-self : goal.invariant_of-self
invariant_of-self c =
    let said = subst (λ (found : Option Entry). IfNone found ((s number : ℕ) (part : Missing) → IsEntry c.args.self.now s number part → IsSaid c.args.self.now s number part))
    c.in_default.is c.in_ok-entry.ensures.none in
    let complete : Specified c.self.inside.rows = subst Specified (sym c.self.view_is) (specified c.args.self.now said) in
    (c.self.invariant.0, c.self.invariant.1, (λ _. complete))

pub returns-in_default-clause-accepted : goal.returns-in_default-clause-accepted
returns-in_default-clause-accepted c =
    let said = subst (λ (found : Option Entry). IfNone found ((s number : ℕ) (part : Missing) → IsEntry c.args.self.now s number part → IsSaid c.args.self.now s number part))
    c.in_default.is c.in_ok-entry.ensures.none in
    record {
      no_conflict = subst (λ (F : KissFile). Conflicting F → ⊥) c.self.view_is c.self.invariant.1;
      filled = inl (specified c.args.self.now said);
    }

pub returns-in-Hold-clause-accepted : goal.returns-in-Hold-clause-accepted
returns-in-Hold-clause-accepted c = record {
  no_conflict = subst (λ (F : KissFile). Conflicting F → ⊥) c.self.view_is c.self.invariant.1;
  filled = inr c.in-Hold.is;
}

pub returns-in-Refuse-clause-caused : goal.returns-in-Refuse-clause-caused
returns-in-Refuse-clause-caused c =
    let first = subst (λ (found : Option Entry). IfSome found (λ entry. IsFirstOpen c.args.self.now entry.state entry.symbol entry.part))
    c.in-Some.is c.in_ok-entry.ensures.some in
    record {
      refused = c.in-Refuse.is;
      no_conflict = subst (λ (F : KissFile). Conflicting F → ⊥) c.self.view_is c.self.invariant.1;
      entry = first;
    }
