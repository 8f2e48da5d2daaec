use Rattle.std.proofs.Common.{ℕ, List, [], ◌∷◌, ◌++◌, ap, ◌∙◌, codes}
use Rattle.std.specs.Fmt.{decimal}
use Rattle.hs_texts.specs.Reports.{count_within, named_line, spaced_numbers}
use Rattle.hs_texts.proofs.Joining.{line_more}
use Rattle.hs_texts.proofs.reports.trial.Goals as goal

pub returns : goal.returns
returns c =
    let f = c.args.figures.now in
    let seed : List ℕ = codes "# trial" ++ spaced_numbers (f.seed ∷ f.a ∷ f.b ∷ f.k ∷ []) in
    let states : List ℕ = codes "# states " ++ decimal f.states in
    let closed : List ℕ = codes "# closed " ++ count_within f.closed in
    let parts : List ℕ = codes "# parts" ++ spaced_numbers f.parts in
    let latches : List ℕ = codes "# latches " ++ decimal f.latches in
    let ones : List ℕ = codes "# ones " ++ decimal f.ones in
    let one = line_more _ _ [] seed c.new-text.ensures.items c.in_ok-append_seed.ensures in
    let two = line_more _ _ (seed ∷ []) states one c.in_ok-append_count.ensures in
    let three = line_more _ _ (seed ∷ states ∷ []) closed two c.in_ok-append_closed.ensures in
    let four = line_more _ _ (seed ∷ states ∷ closed ∷ []) parts three (c.in_ok-append_numbers_line.ensures ∙ ap (λ (numbers : List ℕ). c.append_closed.new.text.items ++ named_line (codes "# parts") (spaced_numbers numbers)) c.as_slice.ensures) in
    let five = line_more _ _ (seed ∷ states ∷ closed ∷ parts ∷ []) latches four c.in_ok-append_count-2.ensures in
    line_more _ _ (seed ∷ states ∷ closed ∷ parts ∷ latches ∷ []) ones five c.in_ok-append_count-3.ensures
