use Rattle.std.proofs.Common.{◌≡◌, ◌≤◌, ◌+◌, length, subst, ap, arith}
use Rattle.std.proofs.lemmas.Result.{IfOk-from_err}
use Rattle.hs_lattice.specs.Collection.{items_in}
use Rattle.hs_lattice.proofs.Passes.{Joining, IsReached, generated_more, have_joins, is_evidence, lists_all, reached_more, reached_none, reached_skip}
use Rattle.hs_lattice.proofs.Values.{All-from_known, known_fit, read_fits}
use Rattle.hs_lattice.proofs.closure.joins_of.Goals as goal

pub loop-generator-preserved-then-holds : goal.loop-generator-preserved-then-holds
loop-generator-preserved-then-holds g c =
    let w = g.W.JoinWorld in
    let laws = g.met.W.JoinWorld in
    let world = c.args.world.now in
    let lawful = c.requires.world in
    let joining : Joining (w.fits world) (w.least world) (w.joins world) = record {
      least_fits = λ x. laws.least_fits world x lawful;
      fit = λ x y z. laws.joins_fit world x y z lawful;
      once = λ x y z other. laws.joins_once world x y z other lawful;
      commute = λ x y z. laws.joins_commute world x y z lawful;
      associate = λ x y z front back all. laws.joins_associate world x y z front back all lawful;
      repeat = λ x. laws.joins_repeat world x lawful;
      unit = λ x y. laws.joins_least world x y lawful;
    } in
    let inv = c.loop-generator.invariant in
    record {
      known = inv.known;
      reached = reached_skip w.meaning (w.fits world) (w.least world) (w.joins world) c.args.generators.now c.loop-generator.generator-index c.generator-item.result (items_in c.loop-generator.known) joining
          c.requires.generators inv.known.fit c.loop-generator-test.true c.generator-item.is inv.reached (c.holds.ensures.0 c.if-holds.true);
      small = inv.small;
    }

pub loop-generator-preserved : goal.loop-generator-preserved
loop-generator-preserved g c =
    let w = g.W.JoinWorld in
    let laws = g.met.W.JoinWorld in
    let world = c.args.world.now in
    let lawful = c.requires.world in
    let joining : Joining (w.fits world) (w.least world) (w.joins world) = record {
      least_fits = λ x. laws.least_fits world x lawful;
      fit = λ x y z. laws.joins_fit world x y z lawful;
      once = λ x y z other. laws.joins_once world x y z other lawful;
      commute = λ x y z. laws.joins_commute world x y z lawful;
      associate = λ x y z front back all. laws.joins_associate world x y z front back all lawful;
      repeat = λ x. laws.joins_repeat world x lawful;
      unit = λ x y. laws.joins_least world x y lawful;
    } in
    let inv = c.loop-generator.invariant in
    let small : length (items_in c.add_joins.new.known) ≤ c.args.limit = omega arith in
    record {
      known = c.in_ok-add_joins.ensures.known;
      reached = reached_more w.meaning (w.fits world) (w.least world) (w.joins world) c.args.generators.now c.loop-generator.generator-index c.generator-item.result (items_in c.loop-generator.known) (items_in c.add_joins.new.known) joining
          c.requires.generators inv.known.fit c.loop-generator-test.true c.generator-item.is inv.reached c.in_ok-add_joins.ensures.extends (c.in_ok-add_joins.ensures.all small);
      small = small;
    }

pub returns-then-len-limit-clause-more : goal.returns-then-len-limit-clause-more
returns-then-len-limit-clause-more g c =
    let w = g.W.JoinWorld in
    let world = c.args.world.now in
    let more : length c.in_ok-ascending.field-0 ≡ c.args.limit + 1 = omega (arith, c.in_ok-ascending.ensures.count, c.in_ok-add_joins.ensures.few) in
    is_evidence w.meaning (w.precedes world) (w.least world) (w.joins world) c.args.generators.now (c.loop-generator.generator-index + 1) c.in_ok-ascending.field-0 c.args.limit c.in_ok-ascending.ensures.ascending
    (λ z h.
    generated_more w.meaning (w.least world) (w.joins world) c.args.generators.now c.loop-generator.generator-index c.generator-item.result (items_in c.loop-generator.known) (items_in c.add_joins.new.known)
    c.loop-generator-test.true c.generator-item.is c.loop-generator.invariant.reached c.in_ok-add_joins.ensures.extends z ((c.in_ok-ascending.ensures.values z).0 h))
    more

pub returns-then-len-limit-clause-fit : goal.returns-then-len-limit-clause-fit
returns-then-len-limit-clause-fit g c =
    let w = g.W.JoinWorld in
    let fits = w.fits c.args.world.now in
    All-from_known w.meaning fits c.in_ok-ascending.field-0 (λ z h. known_fit w.meaning fits (items_in c.add_joins.new.known) c.in_ok-add_joins.ensures.known.fit z ((c.in_ok-ascending.ensures.values z).0 h))

pub returns-clause-whole : goal.returns-clause-whole
returns-clause-whole g c =
    let w = g.W.JoinWorld in
    let laws = g.met.W.JoinWorld in
    let world = c.args.world.now in
    let lawful = c.requires.world in
    let joining : Joining (w.fits world) (w.least world) (w.joins world) = record {
      least_fits = λ x. laws.least_fits world x lawful;
      fit = λ x y z. laws.joins_fit world x y z lawful;
      once = λ x y z other. laws.joins_once world x y z other lawful;
      commute = λ x y z. laws.joins_commute world x y z lawful;
      associate = λ x y z front back all. laws.joins_associate world x y z front back all lawful;
      repeat = λ x. laws.joins_repeat world x lawful;
      unit = λ x y. laws.joins_least world x y lawful;
    } in
    let generators = c.args.generators.now in
    let items = items_in c.loop-generator.known in
    let values = c.in_ok-ascending-2.ensures.values in
    let end : c.loop-generator.generator-index ≡ length generators = omega arith in
    let reached : IsReached w.meaning (w.least world) (w.joins world) generators (length generators) items =
    subst (λ n. IsReached w.meaning (w.least world) (w.joins world) generators n items) end c.loop-generator.invariant.reached in
    lists_all w.meaning (w.fits world) (w.least world) (w.precedes world) (w.joins world) generators items c.in_ok-ascending-2.field-0 joining
    c.requires.generators c.loop-generator.invariant.known.fit reached c.in_ok-ascending-2.ensures.ascending (λ z. (values z).0) (λ z. (values z).1)

pub returns-clause-joined : goal.returns-clause-joined
returns-clause-joined g c =
    let w = g.W.JoinWorld in
    let world = c.args.world.now in
    let generators = c.args.generators.now in
    let items = items_in c.loop-generator.known in
    let end : c.loop-generator.generator-index ≡ length generators = omega arith in
    let reached : IsReached w.meaning (w.least world) (w.joins world) generators (length generators) items =
    subst (λ n. IsReached w.meaning (w.least world) (w.joins world) generators n items) end c.loop-generator.invariant.reached in
    have_joins w.meaning (w.least world) (w.joins world) generators items (w.meaning c.args.bottom) c.requires.bottom reached

pub returns-clause-fit : goal.returns-clause-fit
returns-clause-fit g c =
    let w = g.W.JoinWorld in
    let fits = w.fits c.args.world.now in
    All-from_known w.meaning fits c.in_ok-ascending-2.field-0 (λ z h. known_fit w.meaning fits (items_in c.loop-generator.known) c.loop-generator.invariant.known.fit z ((c.in_ok-ascending-2.ensures.values z).0 h))

pub returns-in_err-add-clause-whole : goal.returns-in_err-add-clause-whole
returns-in_err-add-clause-whole g c = IfOk-from_err c.from_residual.result _ c.from_residual.ensures.0

pub returns-in_err-add-clause-joined : goal.returns-in_err-add-clause-joined
returns-in_err-add-clause-joined g c = IfOk-from_err c.from_residual.result _ c.from_residual.ensures.0

pub returns-in_err-add-clause-within : goal.returns-in_err-add-clause-within
returns-in_err-add-clause-within g c = IfOk-from_err c.from_residual.result _ c.from_residual.ensures.0

pub returns-in_err-add-clause-more : goal.returns-in_err-add-clause-more
returns-in_err-add-clause-more g c = IfOk-from_err c.from_residual.result _ c.from_residual.ensures.0

pub returns-in_err-add-clause-fit : goal.returns-in_err-add-clause-fit
returns-in_err-add-clause-fit g c = IfOk-from_err c.from_residual.result _ c.from_residual.ensures.0

pub returns-in_err-add_joins-clause-whole : goal.returns-in_err-add_joins-clause-whole
returns-in_err-add_joins-clause-whole g c = IfOk-from_err c.from_residual-in_err-add_joins.result _ c.from_residual-in_err-add_joins.ensures.0

pub returns-in_err-add_joins-clause-joined : goal.returns-in_err-add_joins-clause-joined
returns-in_err-add_joins-clause-joined g c = IfOk-from_err c.from_residual-in_err-add_joins.result _ c.from_residual-in_err-add_joins.ensures.0

pub returns-in_err-add_joins-clause-within : goal.returns-in_err-add_joins-clause-within
returns-in_err-add_joins-clause-within g c = IfOk-from_err c.from_residual-in_err-add_joins.result _ c.from_residual-in_err-add_joins.ensures.0

pub returns-in_err-add_joins-clause-more : goal.returns-in_err-add_joins-clause-more
returns-in_err-add_joins-clause-more g c = IfOk-from_err c.from_residual-in_err-add_joins.result _ c.from_residual-in_err-add_joins.ensures.0

pub returns-in_err-add_joins-clause-fit : goal.returns-in_err-add_joins-clause-fit
returns-in_err-add_joins-clause-fit g c = IfOk-from_err c.from_residual-in_err-add_joins.result _ c.from_residual-in_err-add_joins.ensures.0

pub returns-in_err-ascending-clause-whole : goal.returns-in_err-ascending-clause-whole
returns-in_err-ascending-clause-whole g c = IfOk-from_err c.from_residual-in_err-ascending.result _ c.from_residual-in_err-ascending.ensures.0

pub returns-in_err-ascending-clause-joined : goal.returns-in_err-ascending-clause-joined
returns-in_err-ascending-clause-joined g c = IfOk-from_err c.from_residual-in_err-ascending.result _ c.from_residual-in_err-ascending.ensures.0

pub returns-in_err-ascending-clause-within : goal.returns-in_err-ascending-clause-within
returns-in_err-ascending-clause-within g c = IfOk-from_err c.from_residual-in_err-ascending.result _ c.from_residual-in_err-ascending.ensures.0

pub returns-in_err-ascending-clause-more : goal.returns-in_err-ascending-clause-more
returns-in_err-ascending-clause-more g c = IfOk-from_err c.from_residual-in_err-ascending.result _ c.from_residual-in_err-ascending.ensures.0

pub returns-in_err-ascending-clause-fit : goal.returns-in_err-ascending-clause-fit
returns-in_err-ascending-clause-fit g c = IfOk-from_err c.from_residual-in_err-ascending.result _ c.from_residual-in_err-ascending.ensures.0

pub returns-in_err-ascending-2-clause-whole : goal.returns-in_err-ascending-2-clause-whole
returns-in_err-ascending-2-clause-whole g c = IfOk-from_err c.from_residual-in_err-ascending-2.result _ c.from_residual-in_err-ascending-2.ensures.0

pub returns-in_err-ascending-2-clause-joined : goal.returns-in_err-ascending-2-clause-joined
returns-in_err-ascending-2-clause-joined g c = IfOk-from_err c.from_residual-in_err-ascending-2.result _ c.from_residual-in_err-ascending-2.ensures.0

pub returns-in_err-ascending-2-clause-within : goal.returns-in_err-ascending-2-clause-within
returns-in_err-ascending-2-clause-within g c = IfOk-from_err c.from_residual-in_err-ascending-2.result _ c.from_residual-in_err-ascending-2.ensures.0

pub returns-in_err-ascending-2-clause-more : goal.returns-in_err-ascending-2-clause-more
returns-in_err-ascending-2-clause-more g c = IfOk-from_err c.from_residual-in_err-ascending-2.result _ c.from_residual-in_err-ascending-2.ensures.0

pub returns-in_err-ascending-2-clause-fit : goal.returns-in_err-ascending-2-clause-fit
returns-in_err-ascending-2-clause-fit g c = IfOk-from_err c.from_residual-in_err-ascending-2.result _ c.from_residual-in_err-ascending-2.ensures.0

pub holds-requires-clause-item : goal.holds-requires-clause-item
holds-requires-clause-item g c =
    let w = g.W.JoinWorld in
    read_fits w.meaning (w.fits c.args.world.now) c.args.generators.now c.loop-generator.generator-index c.generator-item.result c.requires.generators c.loop-generator-test.true c.generator-item.is

pub add_joins-requires-clause-generator : goal.add_joins-requires-clause-generator
add_joins-requires-clause-generator g c =
    let w = g.W.JoinWorld in
    read_fits w.meaning (w.fits c.args.world.now) c.args.generators.now c.loop-generator.generator-index c.generator-item.result c.requires.generators c.loop-generator-test.true c.generator-item.is

pub add-requires-clause-item : goal.add-requires-clause-item
add-requires-clause-item g c = g.met.W.JoinWorld.least_fits c.args.world.now _ c.requires.world c.requires.bottom

pub returns-clause-within : goal.returns-clause-within
returns-clause-within g c = omega (arith, c.in_ok-ascending-2.ensures.count, c.loop-generator.invariant.small)

pub loop-generator-init : goal.loop-generator-init
loop-generator-init g c =
    let w = g.W.JoinWorld in
    let world = c.args.world.now in
    let bottom = w.meaning c.args.bottom in
    record {
      known = c.in_ok-add.ensures.collection;
      reached = reached_none w.meaning (w.least world) (w.joins world) c.args.generators.now (items_in c.new-known.result) (items_in c.add.new.self) bottom c.requires.bottom
          (λ z is. g.met.W.JoinWorld.least_once world bottom z c.requires.world c.requires.bottom is) c.new-known.ensures.items c.in_ok-add.ensures.adds;
      small = omega (arith, c.in_ok-add.ensures.adds.at_most_one, ap length c.new-known.ensures.items, c.requires.positive);
    }
