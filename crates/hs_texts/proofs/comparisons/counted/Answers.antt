use Rattle.std.proofs.Common.{ℕ, List, [], ◌∷◌, ◌++◌, sym, ◌∙◌, append-nil, codes}
use Rattle.std.specs.Fmt.{decimal}
use Rattle.hs_texts.proofs.Joining.{figure_more}
use Rattle.hs_texts.proofs.comparisons.counted.Goals as goal

pub returns : goal.returns
returns c =
    let n = c.args.counts.now in
    let first : List (List ℕ) = c.args.measure.now ∷ decimal c.args.number ∷ [] in
    let latches : List (List ℕ) = codes "latches" ∷ decimal n.latches ∷ [] in
    let reads : List (List ℕ) = codes "reads" ∷ decimal n.reads ∷ [] in
    let across : List (List ℕ) = codes "across" ∷ decimal n.across ∷ [] in
    let rows : List (List ℕ) = codes "rows" ∷ decimal n.rows ∷ [] in
    let one = figure_more c.args.word.now _ _ c.args.measure.now (decimal c.args.number) [] (c.in_ok-line.ensures.items ∙ sym (append-nil c.args.word.now)) c.in_ok-append_figure.ensures in
    let two = figure_more c.args.word.now _ _ (codes "latches") (decimal n.latches) first one c.in_ok-append_figure-2.ensures in
    let three = figure_more c.args.word.now _ _ (codes "reads") (decimal n.reads) (first ++ latches) two c.in_ok-append_figure-3.ensures in
    let four = figure_more c.args.word.now _ _ (codes "across") (decimal n.across) (first ++ latches ++ reads) three c.in_ok-append_figure-4.ensures in
    let five = figure_more c.args.word.now _ _ (codes "rows") (decimal n.rows) (first ++ latches ++ reads ++ across) four c.in_ok-append_figure-5.ensures in
    figure_more c.args.word.now _ _ (codes "literals") (decimal n.literals) (first ++ latches ++ reads ++ across ++ rows) five c.in_ok-append_figure-6.ensures
