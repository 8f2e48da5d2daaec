use Rattle.std.proofs.Common.{refl, ap, sym, length, arith}
use Rattle.std.proofs.lemmas.Bool.{false≢true}
use Rattle.serial_split.proofs.Steps.{chain_best, chain_cascade, chain_choice, chain_few, chain_long, chain_parts, chain_short}
use Rattle.serial_split.proofs.chain.cascade.Goals as goal

pub returns-then-as_slice-lt2-clause-none : goal.returns-then-as_slice-lt2-clause-none
returns-then-as_slice-lt2-clause-none c =
    let chain = c.in_ok-parts.ensures in
    ((λ _. chain_short c.args.m.now c.in_ok-parts.parts chain.0 chain.2 chain.1 (omega (arith, ap length c.as_slice.ensures, c.if-as_slice-lt2.true))), (λ _. refl))

pub returns-clause-none : goal.returns-clause-none
returns-clause-none c =
    let chain = c.in_ok-parts.ensures in
    ((λ is. absurd (false≢true (sym is))), (λ none. absurd (chain_long c.args.m.now c.in_ok-parts.parts chain.0 chain.2 (omega (arith, ap length c.as_slice.ensures, c.if-as_slice-lt2.false)) none)))

pub returns-clause-cascade : goal.returns-clause-cascade
returns-clause-cascade c =
    let chain = c.in_ok-parts.ensures in
    chain_cascade c.args.m.now c.in_ok-parts.parts chain.0 chain.2 chain.1 (omega (arith, ap length c.as_slice.ensures, c.if-as_slice-lt2.false))

pub returns-clause-best : goal.returns-clause-best
returns-clause-best c = let chain = c.in_ok-parts.ensures in chain_best c.args.m.now c.in_ok-parts.parts chain.0 chain.2

pub returns-clause-choice : goal.returns-clause-choice
returns-clause-choice c = let chain = c.in_ok-parts.ensures in chain_choice c.args.m.now c.in_ok-parts.parts chain.0 chain.2 chain.1

pub returns-clause-few : goal.returns-clause-few
returns-clause-few c =
    let chain = c.in_ok-parts.ensures in
    omega (arith, chain_few c.args.m.now c.in_ok-parts.parts chain.0 chain.2, chain.2.one_lawful.count.1)

pub returns-clause-lawful : goal.returns-clause-lawful
returns-clause-lawful c = let chain = c.in_ok-parts.ensures in chain_parts c.args.m.now c.in_ok-parts.parts chain.0 chain.2
