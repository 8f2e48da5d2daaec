use Rattle.std.proofs.Common.{ℕ, false, eqb, ◌||◌, ◌++◌, length, get_or, map, ap, ◌∙◌, arith}
use Rattle.std.specs.List.{filter_map, list_any}
use Rattle.std.proofs.lemmas.List.{get_or-replicate}
use Rattle.kiss2.proofs.Written.{marks_count}
use Rattle.kiss2.proofs.writer.count_standing.Goals as goal

pub returns : goal.returns
returns c =
    let old = c.args.standing.now in
    let marks = c.mark_states.new.standing in
    let stands = λ (s : ℕ). list_any (λ t. eqb t s) (map (λ row. row.from) c.args.rows.now ++ filter_map (λ row. row.to) c.args.rows.now) in
    c.count_marked.ensures
    ∙ marks_count marks (length old) stands (omega arith)
    (λ s lt. c.mark_states.ensures s (omega arith) ∙ ap (λ b. b || stands s) (ap (λ xs. get_or xs s false) c.requires ∙ get_or-replicate (length old) s false false lt))
