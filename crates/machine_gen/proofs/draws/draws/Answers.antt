use Rattle.std.proofs.Common.{◌≡◌, ℕ, ◌∷◌, ◌++◌, [], List, sym, ap, ◌∙◌, arith}
use Rattle.std.proofs.lemmas.List.FromFn.{map-range_with_len_more}
use Rattle.machine_gen.specs.declared.draws.Draw.{Draw}
use Rattle.machine_gen.specs.Inner.Draws.{draw_of, draws_of}
use Rattle.machine_gen.specs.Words.{word}
use Rattle.machine_gen.proofs.Words.{generator-start, stream, stream_left, word_given}
use Rattle.machine_gen.proofs.draws.draws.Goals as goal

pub loop-number-init : goal.loop-number-init
loop-number-init c = record {
  so_far = c.new-draws.ensures.items;
  left = ap stream (c.new-generator.ensures ∙ sym (generator-start c.args.seed));
}

pub loop-number-preserved : goal.loop-number-preserved
loop-number-preserved c =
    let seed = c.args.seed in
    let number = c.loop-number._number in
    let left = c.loop-number.invariant.left in
    let is : c.next_u32.result ≡ word seed number = word_given seed number c.next_u32.result _ _ left c.next_u32.ensures in
    let draw : c.draw_from.result ≡ draw_of c.args.a c.args.b (word seed number) =
    c.draw_from.ensures ∙ ap (draw_of c.args.a c.args.b) is in
    let f : ℕ → Draw = λ n. draw_of c.args.a c.args.b (word seed n) in
    record {
      so_far = c.in_ok-push.ensures.items ∙ ap (λ (list : List Draw). list ++ c.draw_from.result ∷ []) c.loop-number.invariant.so_far
          ∙ ap (λ (d : Draw). draws_of (word seed) c.args.a c.args.b number ++ d ∷ []) draw ∙ sym (map-range_with_len_more f 0 number number (omega arith));
      left = stream_left seed number c.next_u32.result _ _ left c.next_u32.ensures;
    }
