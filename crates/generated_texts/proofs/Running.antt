-- The run of a trial.
use Rattle.std.proofs.Common.{◌≡◌, ℕ, ◌<◌, ◌%◌, ◌^◌, ◌++◌, Bool, All, List, [], ◌∷◌, map, count_by, get_or, refl, sym, ap, ◌∙◌, subst}
use Rattle.std.specs.List.{flat_map, range_with_len}
use Rattle.std.proofs.lemmas.List.Elements.{All-map}
use Rattle.std.proofs.lemmas.Nat.{pow_pos}
use Rattle.std.proofs.lemmas.Simd.{map-map}
use Rattle.std.proofs.Math.Nat.{mod-lt}
use Rattle.cubes.specs.Symbol.{symbol_of, lowest_bits}
use Rattle.kiss_file.specs.declared.file.KissFile.{KissFile}
use Rattle.kiss_file.specs.Machine.{answers}
use Rattle.generated_texts.specs.Figures.{ones_in, trial_word}

-- symbols modulo their number are symbols
pub numbers_below : (inputs k : ℕ) (numbers : List ℕ) → inputs ≡ k → numbers ≡ map (λ j. j % 2 ^ inputs) (range_with_len 0 1000) → All (λ x. x < 2 ^ k) numbers
numbers_below inputs k numbers same is =
    subst (λ (list : List ℕ). All (λ x. x < 2 ^ k) list) (sym (is ∙ ap (λ (n : ℕ). map (λ j. j % 2 ^ n) (range_with_len 0 1000)) same))
    (All-map (λ (x : ℕ). x < 2 ^ k) (λ (j : ℕ). j % 2 ^ k) (range_with_len 0 1000) (λ i d within. mod-lt (get_or (range_with_len 0 1000) i d) (pow_pos k)))

flat_of_map : {X Y : Type 0} (f : X → List Y) (xs : List X) → flat_map (λ (a : List Y). a) (map f xs) ≡ flat_map f xs
flat_of_map f [] = refl
flat_of_map {X} {Y} f (x ∷ xs) = ap (λ (rest : List Y). f x ++ rest) (flat_of_map f xs)

-- the ones among the outputs that numbers write are those of the machine's answers
pub ones_of_words : (F : KissFile) (inputs : ℕ) (numbers words : List ℕ) (bits : List Bool) (ones : ℕ) → F.outputs ≡ 2 → inputs ≡ F.inputs → numbers ≡ map (λ j. j % 2 ^ inputs) (range_with_len 0 1000)
    → map (lowest_bits F.outputs) words ≡ answers F F.reset (map (symbol_of F.inputs) numbers) → bits ≡ flat_map (lowest_bits 2) words → ones ≡ count_by (λ bit. bit) bits → ones ≡ ones_in (answers F F.reset (trial_word F.inputs))
ones_of_words F inputs numbers words bits ones two same is walked bits_are counted =
    let word : map (symbol_of F.inputs) numbers ≡ trial_word F.inputs =
    ap (map (symbol_of F.inputs)) (is ∙ ap (λ (n : ℕ). map (λ j. j % 2 ^ n) (range_with_len 0 1000)) same) ∙ map-map (symbol_of F.inputs) (λ (j : ℕ). j % 2 ^ F.inputs) (range_with_len 0 1000) in
    let outputs : map (lowest_bits 2) words ≡ answers F F.reset (trial_word F.inputs) =
    ap (λ (o : ℕ). map (lowest_bits o) words) (sym two) ∙ walked ∙ ap (answers F F.reset) word in
    counted ∙ ap (count_by (λ bit. bit)) (bits_are ∙ sym (flat_of_map (lowest_bits 2) words)) ∙ ap ones_in outputs
