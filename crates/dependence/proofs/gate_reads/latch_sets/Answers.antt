use Rattle.std.proofs.Common.{◌+◌, ℕ, List, sym, subst, arith}
use Rattle.std.proofs.lemmas.List.{length_push}
use Rattle.dependence.specs.declared.sets.ReadSet.{ReadSet}
use Rattle.dependence.specs.Candidates.{IsCandidate}
use Rattle.dependence.specs.Inner.Sets.{AreLatchSets}
use Rattle.dependence.specs.SufficientBits.{InWord, next_value}
use Rattle.dependence.specs.Reads.{IsReadSet}
use Rattle.dependence.proofs.Gathered.{each_more, read_set_same}
use Rattle.dependence.proofs.gate_reads.latch_sets.Goals as goal

pub loop-i-preserved : goal.loop-i-preserved
loop-i-preserved c =
    let set : ReadSet = c.in_ok-read_set.field-0 in
    let F = c.args.m.now in
    let words : List ℕ = c.args.codes.now.words in
    let here : IsReadSet F words (IsCandidate c.args.split.now.parts c.args.codes.now c.loop-i.i) (next_value F words c.loop-i.i) set =
    read_set_same F words (InWord c.candidates_of-candidates.result) (IsCandidate c.args.split.now.parts c.args.codes.now c.loop-i.i) (next_value F words c.loop-i.i) set c.candidates_of-candidates.ensures c.in_ok-read_set.ensures.set in
    record {
      sets = subst (λ (sets : List ReadSet). AreLatchSets F c.args.split.now.parts c.args.codes.now sets (c.loop-i.i + 1)) (sym c.in_ok-push.ensures.ok)
          (record {
            size = omega (arith, length_push c.loop-i.sets set, c.loop-i.invariant.sets.size);
            each = each_more (λ i it. IsReadSet F words (IsCandidate c.args.split.now.parts c.args.codes.now i) (next_value F words i) it) c.loop-i.sets c.loop-i.i set c.loop-i.invariant.sets.size c.loop-i.invariant.sets.each here;
          });
      found = c.in_ok-read_set.ensures.found;
    }
