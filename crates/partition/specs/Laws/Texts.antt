-- A text is that of one list of labels, and so of one partition.
use Rattle.std.proofs.Common.{◌≡◌, ℕ, suc, ◌^◌, ◌<◌, List, [], ◌∷◌, length, get_or, map, refl, sym, ap, ◌∙◌, arith}
use Rattle.std.specs.Fmt.{decimal}
use Rattle.std.specs.List.{AllByRecursion}
use Rattle.std.proofs.lemmas.Fmt.{decimal_injective}
use Rattle.std.proofs.lemmas.List.Elements.{All-from_recursion}
use Rattle.list_facts.specs.Laws.Everywhere.{images_once}
use Rattle.partition.specs.Partition.{IsPartition}
use Rattle.partition.specs.Text.{labels_text, pieces_of}
use Rattle.partition.specs.Laws.Labels.{label-le}
use Rattle.partition.specs.Laws.Pieces.{pieces_of-labels_text}

-- numbers that a decimal numeral tells
abbrev pub AreSmall : List ℕ → Type 0
AreSmall numbers = AllByRecursion (λ n. n < 2 ^ 64) numbers

at_places : (numbers : List ℕ) → AreSmall numbers → (place : ℕ) → place < length numbers → get_or numbers place 0 < 2 ^ 64
at_places numbers p place within = All-from_recursion (λ n. n < 2 ^ 64) numbers p place 0 within

numerals_once : (xs ys : List ℕ) → AreSmall xs → AreSmall ys → map decimal xs ≡ map decimal ys → xs ≡ ys
numerals_once xs ys p q e = sym (same xs) ∙ images_once decimal (λ (n : ℕ). n) (λ n. n < 2 ^ 64) (λ x y a b f. decimal_injective x y a b f) xs ys p q e ∙ same ys
  where
    same : (ns : List ℕ) → map (λ (n : ℕ). n) ns ≡ ns
    same [] = refl
    same (n ∷ ns) = ap (λ (t : List ℕ). n ∷ t) (same ns)

pub text_once : (xs ys : List ℕ) → 0 < length xs → 0 < length ys → AreSmall xs → AreSmall ys → labels_text xs ≡ labels_text ys → xs ≡ ys
text_once xs ys some some' p q e =
    numerals_once xs ys p q (sym (pieces_of-labels_text xs some (at_places xs p)) ∙ ap pieces_of e ∙ pieces_of-labels_text ys some' (at_places ys q))

small_from : (xs : List ℕ) → ((place : ℕ) → place < length xs → get_or xs place 0 < 2 ^ 64) → AreSmall xs
small_from [] h = tt
small_from (x ∷ xs) h = (h 0 (omega arith), small_from xs (λ place within. h (suc place) (omega (arith, within))))

labels_small : (labels : List ℕ) → IsPartition (length labels) labels → AreSmall labels
labels_small labels p =
    small_from labels (λ place within. let le = label-le labels p.numbered place within in let count = p.count in omega (arith, within, le, count.1))

pub partition_once : (p q : List ℕ) → IsPartition (length p) p → IsPartition (length q) q → labels_text p ≡ labels_text q → p ≡ q
partition_once p q a b e =
    let some = a.count in
    let some' = b.count in
    text_once p q some.0 some'.0 (labels_small p a) (labels_small q b) e
