use Rattle.std.proofs.Common.{◌≡◌, ◌≤◌, ◌<◌, min, length, get_or, List, ℕ, [], ◌∷◌, ◌++◌, sym, ap, ◌∙◌, arith}
use Rattle.hs_io.specs.Spelling.{line_text}
use Rattle.machine_reports.proofs.StateNames.{block_ended, has_more, has_some, joined_more, name_more, name_passed, names_within}
use Rattle.machine_reports.proofs.state_texts.append_block.Goals as goal
use Rattle.machine_reports.proofs.state_texts.append_block.Goals.{then-from-block+in_ok-append_blank+in_ok-extend_from_slice, else-from-block}

pub loop-s-preserved : goal.loop-s-preserved
loop-s-preserved c =
    let names = c.args.names.now in
    let labels = c.args.part.now in
    let s = c.loop-s.s in
    let start = c.args.text.now.items ++ 123 ∷ [] in
    let before = names_within names labels c.args.block s in
    let named : s < length names = omega (arith, c.loop-s-test.true, c.min-states.ensures, c.count.ensures.count) in
    let has_label : s < length labels = omega (arith, c.loop-s-test.true, c.min-states.ensures, c.len.ensures.len) in
    elim c.if-from-block.branch [
      | then-from-block+in_ok-append_blank+in_ok-extend_from_slice w ↦
          let name = w.name.result.now in
          let has : get_or labels s 0 ≡ c.args.block = sym c.label.ensures ∙ (sym c.from.ensures ∙ w.if-from-block.true) in
          let more = name_more names labels c.args.block s name named has_label w.name.ensures has in
          rw (w.some-is, w.text-is)
          (record {
            some = sym (ap has_some more ∙ has_more before name);
            text = joined_more start c.loop-s.text.items w.append_blank.new.text.items w.extend_from_slice.new.self.items before name c.loop-s.some c.loop-s.invariant.some c.loop-s.invariant.text w.in_ok-append_blank.ensures w.in_ok-extend_from_slice.ensures.items
                ∙ ap (λ (fields : List (List ℕ)). start ++ line_text fields) (sym more);
          })
      | else-from-block w ↦
          let passed = name_passed names labels c.args.block s [] named has_label (λ same. w.if-from-block.false (c.from.ensures ∙ (c.label.ensures ∙ same))) in
          rw (w.some-is, w.text-is)
          (record {
            some = c.loop-s.invariant.some ∙ ap has_some (sym passed);
            text = c.loop-s.invariant.text ∙ ap (λ (fields : List (List ℕ)). start ++ line_text fields) (sym passed);
          })
    ]

pub returns : goal.returns
returns c =
    let done : min (length c.args.names.now) (length c.args.part.now) ≤ c.loop-s.s = omega (arith, c.loop-s-test.false, c.min-states.ensures, c.count.ensures.count, c.len.ensures.len) in
    block_ended c.args.text.now.items c.loop-s.text.items c.push-2.new.self.items c.args.names.now c.args.part.now c.args.block c.loop-s.s done c.loop-s.invariant.text c.in_ok-push-2.ensures.items
