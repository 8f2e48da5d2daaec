use Rattle.std.proofs.Common.{ℕ, ◌≡◌, List, Contains, length, refl, sym, subst, arith}
use Rattle.kiss_file.specs.declared.file.KissFile.{KissFile}
use Rattle.state_rows.specs.declared.bundles.RowBundle.{RowBundle}
use Rattle.state_rows.specs.Bundles.{IsInBundles, ListBundles, bundles_of}
use Rattle.state_pairs.specs.Table.{IsTable}
use Rattle.state_rows.specs.Laws.Lists.{bundles_at}
use Rattle.state_pairs.specs.Laws.Lawful.{fit_of_table}
use Rattle.state_pairs.proofs.rows.RowsByState.bundles_of.Goals as goal

-- what stands in the bundles of a machine
stand : (c : goal.After-as_slice) → ListBundles c.args.self.now.rows (length c.args.self.now.states) c.self.inside.bundles.items
stand c = subst (λ (F : KissFile). ListBundles F.rows (length F.states) c.self.inside.bundles.items) c.self.view_is c.self.invariant.4

-- the list that is lent is that of the state
lent : (c : goal.After-as_slice) → c.as_slice.result.now ≡ bundles_of c.self.inside.bundles.items c.args.s
lent c =
    bundles_at c.self.inside.bundles.items c.args.s c.args.s c.index.result.now c.as_slice.result.now (omega (arith, c.requires, (stand c).size)) refl
    c.index.ensures c.as_slice.ensures

pub returns-clause-right : goal.returns-clause-right
returns-clause-right c bundle among = (stand c).right c.args.s bundle (subst (λ (list : List RowBundle). Contains list bundle) (lent c) among)

pub returns-clause-own : goal.returns-clause-own
returns-clause-own c i found = (stand c).own c.args.s i (subst (λ (list : List RowBundle). IsInBundles list i) (lent c) found)

pub returns-clause-each : goal.returns-clause-each
returns-clause-each c i row at_i from =
    subst (λ (list : List RowBundle). IsInBundles list i) (sym (lent c))
    (subst (λ (s : ℕ). IsInBundles (bundles_of c.self.inside.bundles.items s) i) from ((stand c).each i row at_i))

pub returns-clause-fit : goal.returns-clause-fit
returns-clause-fit c = fit_of_table c.args.self.now (subst IsTable c.self.view_is c.self.invariant.0)
