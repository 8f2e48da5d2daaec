use Rattle.std.proofs.Common.{ℕ, ◌≡◌, ◌↔◌, ◌∙◌, List, IsTrue, ap, false, not, slice_index, subst, sym}
use Rattle.std.specs.Int.{bit_at}
use Rattle.cubes.specs.Symbol.{symbol_of}
use Rattle.cubes.specs.Laws.Bits.{same_bits, same_digits}
use Rattle.kiss_file.specs.Machine.{next}
use Rattle.state_pairs.specs.Pairs.{AtEachSymbol, GoInto, HaveOneBit}
use Rattle.state_pairs.specs.Laws.Labels.{each_from_none, none_from_each, true_from_not}
use Rattle.state_pairs.specs.Laws.NextLabels.{label_of_next, named, named_everywhere, next_labels, one_named}
use Rattle.machine_table.proofs.machine.Machine.bit_goes.Goals as goal

pub returns : goal.returns
returns c =
    let F = c.args.self.now in
    let s = c.args.s in
    let t = c.args.t in
    let words = c.new-question.result.words.now in
    let at = c.new-question.result.at in
    let bit_of = (λ (u : ℕ). bit_at (slice_index words u) at) in
    let table = c.keeps_its_states.ensures.table in
    let no_conflict = c.keeps_its_states.ensures.no_conflict in
    let alike = (λ (x : ℕ) (same : label_of_next bit_of F s x ≡ label_of_next bit_of F t x).
    same_bits (slice_index words (next F s (symbol_of F.inputs x))) (slice_index words (next F t (symbol_of F.inputs x))) at at same) in
    let equal = (λ (x : ℕ) (goes : GoInto (HaveOneBit words at) F s t x).
    same_digits (slice_index words (next F s (symbol_of F.inputs x))) (slice_index words (next F t (symbol_of F.inputs x))) at at goes) in
    let found = c.first_differing in
    let both : IsTrue c.is_none.result ↔ AtEachSymbol F.inputs (GoInto (HaveOneBit words at) F s t) = (
      λ none. each_from_none F table (named bit_of) bit_of (label_of_next bit_of F) (next_labels F no_conflict bit_of) s t (GoInto (HaveOneBit words at) F s t) alike equal found.result found.ensures.within found.ensures.some false found.ensures.met
          (c.is_none.ensures ∙ ap not none),
      λ go. true_from_not c.is_none.result (sym c.is_none.ensures
          ∙ none_from_each F table (named bit_of) bit_of (label_of_next bit_of F) (next_labels F no_conflict bit_of) s t (GoInto (HaveOneBit words at) F s t) alike equal found.result found.ensures.within found.ensures.some go),
    ) in
    subst (λ (list : List ℕ). IsTrue c.is_none.result ↔ AtEachSymbol F.inputs (GoInto (HaveOneBit list c.args.at) F s t)) c.new-question.ensures.words
    (subst (λ (n : ℕ). IsTrue c.is_none.result ↔ AtEachSymbol F.inputs (GoInto (HaveOneBit words n) F s t)) c.new-question.ensures.at both)

pub first_differing-requires-clause-one : goal.first_differing-requires-clause-one
first_differing-requires-clause-one c =
    one_named c.args.self.now c.keeps_its_states.ensures.no_conflict (λ (u : ℕ). bit_at (slice_index c.new-question.result.words.now u) c.new-question.result.at)

pub first_differing-requires-clause-none_open : goal.first_differing-requires-clause-none_open
first_differing-requires-clause-none_open c = named_everywhere c.args.self.now (λ (u : ℕ). bit_at (slice_index c.new-question.result.words.now u) c.new-question.result.at) c.args.s c.args.t c.requires.s c.requires.t
