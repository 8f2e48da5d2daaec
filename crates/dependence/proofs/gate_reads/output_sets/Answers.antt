use Rattle.std.proofs.Common.{◌+◌, ℕ, List, sym, subst, arith}
use Rattle.std.proofs.lemmas.List.{length_push}
use Rattle.dependence.specs.declared.sets.ReadSet.{ReadSet}
use Rattle.dependence.specs.Candidates.{IsBitOfCode}
use Rattle.dependence.specs.Inner.Sets.{AreOutputSets}
use Rattle.dependence.specs.SufficientBits.{InWord, output_value}
use Rattle.dependence.specs.Reads.{IsReadSet}
use Rattle.dependence.proofs.Gathered.{each_more, read_set_same}
use Rattle.dependence.proofs.gate_reads.output_sets.Goals as goal

pub loop-b-preserved : goal.loop-b-preserved
loop-b-preserved c =
    let set : ReadSet = c.in_ok-read_set.field-0 in
    let F = c.args.m.now in
    let words : List ℕ = c.args.codes.now.words in
    let here : IsReadSet F words (IsBitOfCode c.args.codes.now) (output_value F c.loop-b.b) set =
    read_set_same F words (InWord c.bits_below-candidates.result) (IsBitOfCode c.args.codes.now) (output_value F c.loop-b.b) set c.bits_below-candidates.ensures c.in_ok-read_set.ensures.set in
    record {
      sets = subst (λ (sets : List ReadSet). AreOutputSets F c.args.codes.now sets (c.loop-b.b + 1)) (sym c.in_ok-push.ensures.ok)
          (record {
            size = omega (arith, length_push c.loop-b.sets set, c.loop-b.invariant.sets.size);
            each = each_more (λ b it. IsReadSet F words (IsBitOfCode c.args.codes.now) (output_value F b) it) c.loop-b.sets c.loop-b.b set c.loop-b.invariant.sets.size c.loop-b.invariant.sets.each here;
          });
      found = c.in_ok-read_set.ensures.found;
    }
