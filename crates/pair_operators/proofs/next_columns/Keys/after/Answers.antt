use Rattle.std.proofs.Common.{ℕ, ◌≡◌, ◌<◌, ◌∙◌, List, length, get_or, ap, subst, sym, arith}
use Rattle.std.proofs.lemmas.List.{get_or_read}
use Rattle.std.proofs.lemmas.List.Elements.{All-get_or}
use Rattle.list_facts.specs.Laws.Places.{each_pushed}
use Rattle.pair_operators.specs.Inner.Keys.{mixed}
use Rattle.pair_operators.proofs.next_columns.Keys.after.Goals as goal

pub label-label-requires : goal.label-label-requires
label-label-requires c =
    let states = c.args.column.now.states.items in
    let within : c.loop-s.s < length states = omega (arith, c.loop-s-test.true, c.deref-key-items.ensures.len, c.requires.size) in
    let here = c.from.ensures ∙ get_or_read states _ _ within c.index.ensures 0 in
    subst (λ (t : ℕ). t < length c.args.q.now) (sym here) (All-get_or (λ t. t < length c.args.q.now) states c.loop-s.s 0 within c.requires.inside)

pub loop-s-init : goal.loop-s-init
loop-s-init c = record { size = c.in_ok-numbers.ensures.len; each = λ k below. omega (arith, below) }

pub loop-s-preserved : goal.loop-s-preserved
loop-s-preserved c =
    let s : ℕ = c.loop-s.s in
    let keys : List ℕ = c.args.self.now.numbers.items in
    let q : List ℕ = c.args.q.now in
    let states : List ℕ = c.args.column.now.states.items in
    let within : s < length states = omega (arith, c.loop-s-test.true, c.deref-key-items.ensures.len, c.requires.size) in
    let next = c.from.ensures ∙ get_or_read states _ _ within c.index.ensures 0 in
    let label = c.label-label.ensures ∙ ap (λ (t : ℕ). get_or q t 0) next in
    let here = c.mixed.ensures ∙ ap (λ (list : List ℕ). mixed (get_or list s 0) c.label-label.result) c.deref-key-items.ensures.value ∙ ap (λ (l : ℕ). mixed (get_or keys s 0) l) label in
    record {
      size = omega (arith, c.loop-s.invariant.size, c.in_ok-push.ensures.len);
      each = each_pushed c.loop-s.numbers.items c.push.new.self.items c.mixed.result 0 s (λ k key. key ≡ mixed (get_or keys k 0) (get_or q (get_or states k 0) 0))
          (omega (arith, c.loop-s.invariant.size, c.loop-s.numbers.ok.0)) c.in_ok-push.ensures.items c.loop-s.invariant.each here;
    }

pub returns : goal.returns
returns c =
    let all : c.loop-s.s ≡ length c.args.self.now.numbers.items = omega (arith, c.loop-s.auto.s-end, c.loop-s-test.false, ap length c.deref-key-items.ensures.value) in
    record {
      size = omega (arith, all, c.loop-s.invariant.size, c.loop-s.numbers.ok.0);
      each = λ s inside. c.loop-s.invariant.each s (omega (arith, inside, all));
    }
