use Rattle.std.proofs.Common.{◌≡◌, ◌<◌, [], length, arith}
use Rattle.std.proofs.lemmas.List.Elements.{All-nil, All-push, All-same}
use Rattle.cubes.specs.Symbol.{symbol_of}
use Rattle.kiss_file.specs.Machine.{next}
use Rattle.list_facts.specs.Laws.Places.{each_pushed}
use Rattle.pair_operators.proofs.next_columns.column_at.Goals as goal

pub overflow_cast-next : goal.overflow_cast-next
overflow_cast-next c = omega (arith, c.next.ensures.state, c.states.ensures.count, c.states.ensures.limit)

pub loop-s-init : goal.loop-s-init
loop-s-init c = record {
  size = c.in_ok-states.ensures.len;
  inside = All-same (λ t. t < length c.args.m.now.states) c.in_ok-states.states.items [] c.in_ok-states.ensures.items (All-nil _);
  next_state = λ k below. omega (arith, below);
}

pub loop-s-preserved : goal.loop-s-preserved
loop-s-preserved c = record {
  size = omega (arith, c.loop-s.invariant.size, c.in_ok-push.ensures.len);
  inside = All-same (λ t. t < length c.args.m.now.states) _ _ c.in_ok-push.ensures.items (All-push (λ t. t < length c.args.m.now.states) c.loop-s.states.items c.next.result c.loop-s.invariant.inside c.next.ensures.state);
  next_state = each_pushed c.loop-s.states.items c.push.new.self.items c.next.result 0 c.loop-s.s (λ k t. t ≡ next c.args.m.now k (symbol_of c.args.m.now.inputs c.args.x)) (omega (arith, c.loop-s.invariant.size, c.loop-s.states.ok.0))
      c.in_ok-push.ensures.items c.loop-s.invariant.next_state c.next.ensures.next;
}

pub returns : goal.returns
returns c = record {
  symbol = c.args.x;
  within = c.requires;
  size = omega (arith, c.loop-s.invariant.size, c.loop-s-test.false, c.states-s-end.ensures.count, c.loop-s.auto.s-end);
  inside = c.loop-s.invariant.inside;
  next_state = λ s inside. c.loop-s.invariant.next_state s (omega (arith, inside, c.loop-s-test.false, c.states-s-end.ensures.count));
}
