use Rattle.std.proofs.Common.{◌≡◌, ◌∙◌, ℕ, ◌+◌, ◌<◌, Bool, List, [], ◌∷◌, ◌++◌, length, get_or, map, take, ap, sym}
use Rattle.std.proofs.lemmas.Grind.{flat_map-append}
use Rattle.std.proofs.lemmas.List.{append-nil, map-append, take_all, take_more}
use Rattle.hs_io.specs.Spelling.{ended}
use Rattle.cubes.specs.Symbol.{lowest_bits}
use Rattle.net_sim.specs.BitTexts.{text_of_bits}
use Rattle.net_sim.specs.Run.{answers_text}
use Rattle.symbol_runs.proofs.lines.answer_lines.Goals as goal

-- the line of a number
abbrev line : ℕ → ℕ → List ℕ
line count word = ended (text_of_bits (lowest_bits count word))

lines_more : (count : ℕ) (words : List ℕ) (i : ℕ) (old new : List ℕ) → i < length words → old ≡ answers_text (map (lowest_bits count) (take i words)) → new ≡ old ++ line count (get_or words i 0)
    → new ≡ answers_text (map (lowest_bits count) (take (i + 1) words))
lines_more count words i old new within before added =
    let word : ℕ = get_or words i 0 in
    let first : List (List Bool) = map (lowest_bits count) (take i words) in
    added ∙ ap (λ (text : List ℕ). text ++ line count word) before
    ∙ sym
    (ap (λ (list : List ℕ). answers_text (map (lowest_bits count) list)) (take_more words i 0 within) ∙ ap answers_text (map-append (lowest_bits count) (take i words) (word ∷ []))
    ∙ flat_map-append (λ answer. ended (text_of_bits answer)) first (lowest_bits count word ∷ []) ∙ ap (λ (text : List ℕ). answers_text first ++ text) (append-nil (line count word)))

pub loop-word-init : goal.loop-word-init
loop-word-init c = c.new-text.ensures.items

pub loop-word-preserved : goal.loop-word-preserved
loop-word-preserved c = lines_more c.args.count c.args.words.now c.loop-word.word-index c.loop-word.text.items c.append_word.new.text.items c.loop-word-test.true c.loop-word.invariant c.in_ok-append_word.ensures

pub returns : goal.returns
returns c =
    c.loop-word.invariant ∙ ap (λ (list : List ℕ). answers_text (map (lowest_bits c.args.count) list)) (take_all c.loop-word.word-index c.args.words.now c.loop-word-test.false)
