use Rattle.std.proofs.Common.{◌<◌, All, length, refl, sym, subst, arith}
use Rattle.shift_real.specs.declared.contents.Content.{Content}
use Rattle.shift_real.specs.Inner.Contents.{AreContents}
use Rattle.shift_real.proofs.ContentLists.{alone, contents_none, contents_small, contents_step, contents_within, few_bits, few_inputs}
use Rattle.shift_real.proofs.contents.contents.Goals as goal

pub symbols-init : goal.symbols-init
symbols-init c =
    let none : Content = record { latches = 0; state = c.reset.result } in
    subst (AreContents c.args.m.now 0) (sym (alone c.push.new.self.items c.new-contents.result.items none c.new-contents.ensures.items c.in_ok-push.ensures.items))
    (contents_none c.args.m.now none (omega (arith, c.reset.ensures.number, c.reset.ensures.state)) refl c.reset.ensures.number)

pub lengthened-requires-clause-inputs : goal.lengthened-requires-clause-inputs
lengthened-requires-clause-inputs c = few_inputs c.args.k c.args.m.now.inputs c.symbols.counter c.requires (omega arith)

pub lengthened-requires-clause-small : goal.lengthened-requires-clause-small
lengthened-requires-clause-small c =
    subst (All (λ content. content.latches < 4096)) (sym c.deref.ensures.value)
    (contents_small c.args.m.now c.symbols.counter c.symbols.contents.items (few_bits c.args.k c.args.m.now.inputs c.symbols.counter c.requires (omega arith)) c.symbols.invariant)

pub lengthened-requires-clause-states : goal.lengthened-requires-clause-states
lengthened-requires-clause-states c =
    subst (All (λ content. content.state < length c.args.m.now.states)) (sym c.deref.ensures.value)
    (contents_within c.args.m.now c.symbols.counter c.symbols.contents.items c.symbols.invariant)

pub symbols-preserved : goal.symbols-preserved
symbols-preserved c =
    contents_step c.args.m.now c.symbols.counter c.symbols.contents.items c.deref.result.now c.in_ok-contents.contents.items c.keeps_its_states.ensures.next c.symbols.invariant c.deref.ensures.value c.in_ok-contents.ensures
