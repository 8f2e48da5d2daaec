use Rattle.std.proofs.Common.{◌≡◌, ℕ, List, [], ◌∷◌, Some, None, IfOk, MatchOption, length, slice_get, sym, subst, arith}
use Rattle.hsdec_program.specs.Pages.{page_asked}
use Rattle.hsdec_program.proofs.help.page_of.Goals as goal

-- two words are the list of them
two_words : (words : List (List ℕ)) (first second : List ℕ) → length words ≡ 2 → slice_get words 0 ≡ Some first → slice_get words 1 ≡ Some second → words ≡ first ∷ second ∷ []
two_words [] first second two is_first is_second = cc
two_words (word ∷ []) first second two is_first is_second = cc
two_words (word ∷ other ∷ []) first second two is_first is_second = cc
two_words (word ∷ other ∷ more ∷ words) first second two is_first is_second = cc

pub returns-then-count-eq2 : goal.returns-then-count-eq2
returns-then-count-eq2 c =
    let two : length c.args.words.now ≡ 2 = (let counted = c.count-count.ensures in let is = c.if-count-eq2.true in omega (arith, counted, is)) in
    let words = two_words c.args.words.now c.word-then-count-eq2.result.now c.word-then-count-eq2-2.result.now two c.word-then-count-eq2.ensures c.word-then-count-eq2-2.ensures in
    subst (λ (ws : List (List ℕ)). IfOk c.paired_page.result (λ page. MatchOption page (page_asked ws ≡ None) (λ text. page_asked ws ≡ Some text.items))) (sym words) c.paired_page.ensures
