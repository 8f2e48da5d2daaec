use Rattle.std.proofs.Common.{◌≡◌, get_or, rules}
use Rattle.cover_logic.proofs.Groups.{taken_at}
use Rattle.cover_logic.proofs.waiting_terms.Waiting.pop.Goals as goal

pub returns-in-Some : goal.returns-in-Some
returns-in-Some c =
    let groups = c.args.self.now.groups.items in
    let group = c.index_mut.result.now in
    let is : group ≡ get_or groups c.in-Some.i group = search rules in
    let one = taken_at groups c.in-Some.i group c.take_last.new.self c.take_last.result c.in-Some.ensures.0 is c.take_last.ensures in
    record { was = one.was; among = one.among; rest = one.rest; fewer = one.fewer }
