use Rattle.std.proofs.Common.{ℕ, List, None, Option, Some, sym, subst}
use Rattle.std.specs.List.{All, Contains}
use Rattle.std.proofs.lemmas.List.{take_all}
use Rattle.std.proofs.lemmas.List.Elements.{All-more, All-nil, Contains-get_or}
use Rattle.std.proofs.lemmas.Result.{IfOk-from_err}
use Rattle.cover_logic.specs.declared.bundles.Entry.{Entry}
use Rattle.cover_logic.specs.Inner.Bundles.{entries_of}
use Rattle.cover_logic.specs.Inner.Entries.{terms_in}
use Rattle.cover_terms.specs.Lists.{IsSharedGap}
use Rattle.cover_logic.specs.Inner.Rows.{IsSole}
use Rattle.cover_logic.proofs.Entries.{term_of_entry}
use Rattle.cover_logic.proofs.NeededRows.{IsSharedAt, shared_all, sole_met}
use Rattle.cover_logic.proofs.rivals.sole_value.Goals as goal

pub met_by-requires : goal.met_by-requires
met_by-requires c = c.requires

pub returns-in_err-near : goal.returns-in_err-near
returns-in_err-near c = IfOk-from_err c.from_residual.result _ c.from_residual.ensures.0

pub loop-entry-init : goal.loop-entry-init
loop-entry-init c = All-nil (IsSharedAt c.args.row c.args.others.now)

pub returns-in_err-gap : goal.returns-in_err-gap
returns-in_err-gap c = IfOk-from_err c.from_residual-in_err-gap.result _ c.from_residual-in_err-gap.ensures.0

pub returns-in-Some : goal.returns-in-Some
returns-in-Some c =
    let row = c.args.row in
    let others = c.args.others.now in
    let entry = c.entry-item.result in
    let near = c.deref-entry-items.result.now in
    let sole = Some c.in-Some.gap in
    let gap = subst (λ (o : Option ℕ). IsSharedGap row entry.term others o) c.in-Some.is c.in_ok-gap.ensures in
    let among : Contains near entry = subst (λ (e : Entry). Contains near e) (sym c.entry-item.is) (Contains-get_or near c.loop-entry.entry-index entry c.loop-entry-test.true) in
    let own : IsSole row (terms_in near) others sole = (gap.0, (entry.term, term_of_entry near entry among, gap.1), gap.2) in
    sole_met row (entries_of c.args.on.now) c.in_ok-near.near.items others sole c.in_ok-near.ensures
    (subst (λ (es : List Entry). IsSole row (terms_in es) others sole) c.deref-entry-items.ensures.value own)

pub loop-entry-preserved : goal.loop-entry-preserved
loop-entry-preserved c =
    let entry = c.entry-item.result in
    let one : IsSharedAt c.args.row c.args.others.now entry =
    subst (λ (o : Option ℕ). IsSharedGap c.args.row entry.term c.args.others.now o) c.in_default.is c.in_ok-gap.ensures in
    All-more (IsSharedAt c.args.row c.args.others.now) c.deref-entry-items.result.now c.loop-entry.entry-index entry c.loop-entry-test.true c.loop-entry.invariant
    (subst (λ (e : Entry). IsSharedAt c.args.row c.args.others.now e) c.entry-item.is one)

pub returns : goal.returns
returns c =
    let row = c.args.row in
    let others = c.args.others.now in
    let near = c.deref-entry-items.result.now in
    let own : IsSole row (terms_in near) others None =
    shared_all row near others
    (subst (λ (es : List Entry). All (IsSharedAt row others) es) (take_all c.loop-entry.entry-index near c.loop-entry-test.false) c.loop-entry.invariant) in
    sole_met row (entries_of c.args.on.now) c.in_ok-near.near.items others None c.in_ok-near.ensures
    (subst (λ (es : List Entry). IsSole row (terms_in es) others None) c.deref-entry-items.ensures.value own)
