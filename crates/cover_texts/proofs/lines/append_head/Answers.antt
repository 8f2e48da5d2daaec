use Rattle.std.proofs.Common.{◌≡◌, ℕ, ◌<◌, All, List, ◌++◌, codes, length, sym, ap, ◌∙◌, subst, arith}
use Rattle.std.specs.List.{enumerate_from, flat_map, zip}
use Rattle.list_facts.specs.Laws.Appending.{text_more}
use Rattle.cover_split.specs.Expansion.{pairs_of}
use Rattle.cover_split.specs.Laws.Pairs.{few_blocks}
use Rattle.cover_texts.specs.Inner.Pieces.{block_line, pair_line}
use Rattle.cover_texts.proofs.Appending.{head_is}
use Rattle.cover_texts.proofs.Comments.{states_below}
use Rattle.cover_texts.proofs.lines.append_head.Goals as goal

pub pairs_of-requires : goal.pairs_of-requires
pairs_of-requires c =
    omega (arith, ap (λ (list : List (List ℕ)). length list) c.as_slice-blocks.ensures, few_blocks (length c.args.file.now.states) c.args.cover.now.blocks c.requires.cover.lawful, c.requires.cover.few)

pub append_pairs-requires-clause-states : goal.append_pairs-requires-clause-states
append_pairs-requires-clause-states c =
    let are : c.as_slice.result.now ≡ pairs_of c.args.cover.now.blocks = c.as_slice.ensures.value ∙ c.in_ok-pairs.ensures ∙ ap pairs_of c.as_slice-blocks.ensures in
    subst (λ (pairs : List (ℕ × ℕ)). All (λ pair. pair.1 < length c.args.file.now.states) pairs) (sym are) (states_below (length c.args.file.now.states) c.args.cover.now.blocks c.requires.cover.lawful)

pub returns : goal.returns
returns c =
    let start : List ℕ = c.args.text.now.items in
    let blocks : List (List ℕ) = c.args.cover.now.blocks in
    let names : List (List ℕ) = c.args.file.now.states in
    let bits : ℕ = c.args.codes.now.bits in
    let are : c.as_slice.result.now ≡ pairs_of blocks = c.as_slice.ensures.value ∙ c.in_ok-pairs.ensures ∙ ap pairs_of c.as_slice-blocks.ensures in
    let blocks_put = c.in_ok-append_blocks.ensures ∙ ap (λ (list : List (List ℕ)). c.extend_from_slice.new.self.items ++ flat_map block_line (enumerate_from 0 list)) c.as_slice-blocks.ensures in
    let pairs_put =
    c.in_ok-append_pairs.ensures
    ∙ ap (λ (pairs : List (ℕ × ℕ)). c.append_blocks.new.text.items ++ flat_map (pair_line names bits) (zip pairs c.as_slice-2.result.now)) are
    ∙ ap (λ (words : List ℕ). c.append_blocks.new.text.items ++ flat_map (pair_line names bits) (zip (pairs_of blocks) words)) c.as_slice-2.ensures in
    let one = text_more start _ _ (codes "# hsdec cover\n") _ c.in_ok-extend_from_slice.ensures.items blocks_put in
    let two = text_more start _ _ _ _ one pairs_put in
    text_more start _ _ _ _ two c.in_ok-append_notes.ensures
    ∙ ap (λ (t : List ℕ). start ++ t) (head_is names blocks bits c.args.codes.now.words c.args.notes.now)
