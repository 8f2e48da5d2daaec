use Rattle.std.proofs.Common.{◌≡◌, arith, length, ap}
use Rattle.shift_real.proofs.LastMember.{apart_found, last_lawful, order_found, some_member}
use Rattle.shift_real.proofs.orders.order_of_chain.Goals as goal

pub returns-in-None-clause-order : goal.returns-in-None-clause-order
returns-in-None-clause-order c =
    let same : c.as_slice-members.result.now ≡ c.args.chain.now = c.as_slice-members.ensures in
    order_found c.args.m.now c.args.chain.now c.as_slice-members.result.now c.index-members-last.result c.requires.chain c.requires.together same c.index-members-last.is c.in-None.ensures.none

pub overflow_cast-result : goal.overflow_cast-result
overflow_cast-result c =
    let same : c.as_slice-members.result.now ≡ c.args.chain.now = c.as_slice-members.ensures in
    let lawful = last_lawful c.args.m.now c.args.chain.now c.as_slice-members.result.now c.index-members-last.result c.requires.chain c.requires.together same c.index-members-last.is in
    omega (arith, c.in-Some.ensures.within, lawful.length, lawful.count.1)

pub returns-in-Some-clause-refused : goal.returns-in-Some-clause-refused
returns-in-Some-clause-refused c =
    let same : c.as_slice-members.result.now ≡ c.args.chain.now = c.as_slice-members.ensures in
    apart_found c.args.m.now c.args.chain.now c.as_slice-members.result.now c.index-members-last.result c.requires.chain c.requires.together same c.index-members-last.is
    c.in-Some.t c.keeps_its_states.ensures.next c.in-Some.ensures.within c.in-Some.ensures.apart c.in-Some.ensures.first

pub overflow_sub-last : goal.overflow_sub-last
overflow_sub-last c = omega (arith, ap length c.as_slice-members.ensures, some_member c.args.m.now c.args.chain.now c.requires.chain)

pub first_apart-requires : goal.first_apart-requires
first_apart-requires c =
    let same : c.as_slice-members.result.now ≡ c.args.chain.now = c.as_slice-members.ensures in
    let lawful = last_lawful c.args.m.now c.args.chain.now c.as_slice-members.result.now c.index-members-last.result c.requires.chain c.requires.together same c.index-members-last.is in
    omega (arith, lawful.length, c.keeps_its_states.ensures.table.reset)

pub returns-in-None-clause-few : goal.returns-in-None-clause-few
returns-in-None-clause-few c = omega (arith, ap length c.as_slice-members.ensures, c.requires.size, some_member c.args.m.now c.args.chain.now c.requires.chain)
