use Rattle.std.proofs.Common.{ℕ, ◌≡◌, List, Contains, Some, length, slice_get, refl, subst, sym, ap, ◌∙◌, arith}
use Rattle.std.proofs.lemmas.Result.{err_from_is_err_and}
use Rattle.kiss_file.specs.NumberedNames.{numbered_names}
use Rattle.cover_split.specs.Expansion.{IsFirstCopy, IsFirstWith, pairs_of}
use Rattle.cover_split.specs.Inner.Rows.{AreRowsBelow}
use Rattle.cover_split.specs.Laws.Pairs.{few_blocks, length-pairs_of}
use Rattle.cover_split.proofs.RowLemmas.{pair_among}
use Rattle.cover_split.proofs.expansion.file_of_pairs.Goals as goal

pub pairs_of-requires : goal.pairs_of-requires
pairs_of-requires c = omega (arith, few_blocks (length c.args.m.now.states) c.args.blocks.now c.requires.lawful, c.requires.few)

pub first_with-requires-clause-few : goal.first_with-requires-clause-few
first_with-requires-clause-few c = omega (arith, few_blocks (length c.args.m.now.states) c.args.blocks.now c.requires.lawful, c.requires.few)

pub number_of-requires-clause-few : goal.number_of-requires-clause-few
number_of-requires-clause-few c =
    omega (arith, ap length c.as_slice-pairs.ensures.value, ap length c.in_ok-pairs.ensures, length-pairs_of c.args.blocks.now, c.requires.few)

pub number_of-requires-clause-among : goal.number_of-requires-clause-among
number_of-requires-clause-among c =
    subst (λ (ps : List (ℕ × ℕ)). Contains ps (c.first_with.result, c.reset-reset.result)) (sym (c.as_slice-pairs.ensures.value ∙ c.in_ok-pairs.ensures))
    (pair_among c.args.blocks.now c.first_with.result c.reset-reset.result c.first_with.ensures.has)

pub overflow_cast-pairs : goal.overflow_cast-pairs
overflow_cast-pairs c =
    omega (arith, ap length c.as_slice-pairs.ensures.value, ap length c.in_ok-pairs.ensures, length-pairs_of c.args.blocks.now, c.requires.few)

pub returns-in_err-pairs-clause-caused : goal.returns-in_err-pairs-clause-caused
returns-in_err-pairs-clause-caused c = let p = err_from_is_err_and c.from_residual-in_err-pairs.result c.from_residual-in_err-pairs.ensures.1 in rw (p.1, p.2) tt

pub returns-in_err-rows-clause-caused : goal.returns-in_err-rows-clause-caused
returns-in_err-rows-clause-caused c = let p = err_from_is_err_and c.from_residual-in_err-rows.result c.from_residual-in_err-rows.ensures.1 in rw (p.1, p.2) tt

pub returns-in_err-numbered_names-clause-caused : goal.returns-in_err-numbered_names-clause-caused
returns-in_err-numbered_names-clause-caused c = let p = err_from_is_err_and c.from_residual-in_err-numbered_names.result c.from_residual-in_err-numbered_names.ensures.1 in rw (p.1, p.2) tt

-- the reset pair
first_copy : (blocks : List (List ℕ)) (pairs read : List (ℕ × ℕ)) (s reset j i : ℕ) → read ≡ pairs → pairs ≡ pairs_of blocks → s ≡ reset → IsFirstWith blocks s j → slice_get read i ≡ Some (j, s) → IsFirstCopy blocks reset i
first_copy blocks pairs read s reset j i same are is first there =
    subst (λ (t : ℕ). IsFirstCopy blocks t i) is (j, first, subst (λ (ps : List (ℕ × ℕ)). slice_get ps i ≡ Some (j, s)) (same ∙ are) there)

pub returns-clause-built : goal.returns-clause-built
returns-clause-built c =
    let read : c.as_slice-pairs.result.now ≡ pairs_of c.args.blocks.now = c.as_slice-pairs.ensures.value ∙ c.in_ok-pairs.ensures in
    record {
      inputs = c.inputs.ensures.count;
      outputs = c.outputs.ensures.count;
      states = c.in_ok-numbered_names.ensures.names ∙ ap numbered_names (ap length read);
      rows = subst (λ (n : ℕ). AreRowsBelow c.args.m.now c.args.blocks.now n c.in_ok-rows.rows) (ap length read) c.in_ok-rows.ensures;
      reset = first_copy c.args.blocks.now c.in_ok-pairs.pairs.items c.as_slice-pairs.result.now c.reset-reset.result c.args.m.now.reset c.first_with.result c.number_of.result c.as_slice-pairs.ensures.value c.in_ok-pairs.ensures
          c.reset-reset.ensures.number c.first_with.ensures c.number_of.ensures;
      input_names = refl;
      output_names = refl;
    }
