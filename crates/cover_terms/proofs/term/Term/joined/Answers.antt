use Rattle.std.proofs.Common.{◌∙◌, ap, sym, bit_and, rules}
use Rattle.std.proofs.Math.Nat.{le_trans}
use Rattle.std.proofs.lemmas.Nat.{and_le_l}
use Rattle.cover_terms.specs.Laws.Terms.{IsCommon, joined_left, joined_right}
use Rattle.cover_terms.proofs.term.Term.joined.Goals as goal

pub returns-clause-left : goal.returns-clause-left
returns-clause-left c =
    let common : IsCommon c.args.self c.args.other c.masked.result =
    record {
      care = c.masked.ensures.care;
      value = c.masked.ensures.value ∙ ap (bit_and c.args.self.value) (sym c.masked.ensures.care);
      left_fits = search rules;
      right_fits = search rules;
      care_fits = search rules;
    } in
    joined_left c.args.self c.args.other _ common

pub returns-clause-right : goal.returns-clause-right
returns-clause-right c =
    let common : IsCommon c.args.self c.args.other c.masked.result =
    record {
      care = c.masked.ensures.care;
      value = c.masked.ensures.value ∙ ap (bit_and c.args.self.value) (sym c.masked.ensures.care);
      left_fits = search rules;
      right_fits = search rules;
      care_fits = search rules;
    } in
    joined_right c.args.self c.args.other _ common

pub returns-clause-care : goal.returns-clause-care
returns-clause-care c = rw c.masked.ensures.care (le_trans (and_le_l _ _) (and_le_l _ _))
