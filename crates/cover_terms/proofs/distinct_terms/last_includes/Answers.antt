use Rattle.std.proofs.Common.{◌-◌, length, sym, subst, arith}
use Rattle.std.specs.List.{Contains}
use Rattle.std.proofs.lemmas.List.Elements.{Contains-get_or}
use Rattle.cover_terms.specs.declared.term.Term.{Term}
use Rattle.cover_terms.proofs.distinct_terms.last_includes.Goals as goal

pub returns-in-Some : goal.returns-in-Some
returns-in-Some c = λ h.
    let terms = c.args.terms.now in
    let last = c.in-Some.last.now in
    let item = c.in-Some.ensures.item in
    let some = item.3.0 in (
      last,
      subst (λ (t : Term). Contains terms t) (sym item.1) (Contains-get_or terms (length terms - 1) last (omega arith)),
      c.includes.ensures.includes h,
    )
