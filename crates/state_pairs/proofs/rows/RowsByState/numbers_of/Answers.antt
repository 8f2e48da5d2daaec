use Rattle.std.proofs.Common.{ℕ, ◌≡◌, List, Contains, length, get_or, refl, sym, subst, arith}
use Rattle.std.proofs.lemmas.List.Elements.{Contains-get_or}
use Rattle.std.proofs.lemmas.Option.{slice_get_within}
use Rattle.kiss_file.specs.declared.file.KissFile.{KissFile}
use Rattle.kiss_file.specs.Machine.{Conflicting}
use Rattle.state_rows.specs.Places.{IsNumberOf, ListRows, places_of}
use Rattle.state_pairs.specs.Table.{IsTable}
use Rattle.state_rows.specs.Laws.Lists.{list_at}
use Rattle.state_pairs.proofs.rows.RowsByState.numbers_of.Goals as goal

-- what stands in the places of a machine
stand : (c : goal.After-as_slice) → ListRows c.args.self.now.rows (length c.args.self.now.states) c.self.inside.places.items
stand c = subst (λ (F : KissFile). ListRows F.rows (length F.states) c.self.inside.places.items) c.self.view_is c.self.invariant.2

-- the list that is lent is that of the state
lent : (c : goal.After-as_slice) → c.as_slice.result.now ≡ places_of c.self.inside.places.items c.args.s
lent c =
    list_at c.self.inside.places.items c.args.s c.args.s c.index.result.now c.as_slice.result.now (omega (arith, c.requires, (stand c).size)) refl
    c.index.ensures c.as_slice.ensures

own_of : (c : goal.After-as_slice) (i : ℕ) → Contains c.as_slice.result.now i → IsNumberOf c.args.self.now c.args.s i
own_of c i among =
    let found = (stand c).own c.args.s i (subst (λ (numbers : List ℕ). Contains numbers i) (lent c) among) in
    (found.0, found.1, found.2)

pub returns-clause-inside : goal.returns-clause-inside
returns-clause-inside c k d within =
    let found = own_of c (get_or c.as_slice.result.now k d) (Contains-get_or c.as_slice.result.now k d within) in
    slice_get_within c.args.self.now.rows (get_or c.as_slice.result.now k d) found.0 found.1

pub returns-clause-own : goal.returns-clause-own
returns-clause-own c = own_of c

pub returns-clause-each : goal.returns-clause-each
returns-clause-each c i row at_i from =
    subst (λ (numbers : List ℕ). Contains numbers i) (sym (lent c))
    (subst (λ (s : ℕ). Contains (places_of c.self.inside.places.items s) i) from
    ((stand c).each i row at_i))

pub returns-clause-table : goal.returns-clause-table
returns-clause-table c = subst IsTable c.self.view_is c.self.invariant.0

pub returns-clause-no_conflict : goal.returns-clause-no_conflict
returns-clause-no_conflict c = subst (λ (F : KissFile). Conflicting F → ⊥) c.self.view_is c.self.invariant.1
