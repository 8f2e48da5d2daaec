-- Pieces that are ended by one byte are found again.
use Rattle.std.proofs.Common.{◌≡◌, ◌≢◌, ℕ, List, [], ◌∷◌, ◌++◌, length, length-append, get_or, refl, sym, ap, ◌∙◌, append_assoc, append-nil, arith}
use Rattle.std.specs.List.{flat_map, AllByRecursion}
use Rattle.list_facts.specs.Laws.Everywhere.{each_weaker}
use Rattle.hs_io.specs.Spelling.{spaced, IsFieldByte}
use Rattle.blif_out.specs.Head.{comment_text}
use Rattle.blif_out.specs.Laws.Visible.{IsVisible, AreVisible}

-- all but the first
abbrev pub rest_of : {X : Type 0} → List X → List X
rest_of [] = []
rest_of (x ∷ xs) = xs

-- the first place of a byte cuts a text in one way
cut_once : (s : ℕ) (xs ys left right : List ℕ) → AllByRecursion (λ b. b ≢ s) xs → AllByRecursion (λ b. b ≢ s) ys → xs ++ s ∷ left ≡ ys ++ s ∷ right → (xs ≡ ys) × (left ≡ right)
cut_once s [] [] left right p q e = (refl, ap (λ (t : List ℕ). rest_of t) e)
cut_once s [] (y ∷ ys) left right p q e = absurd (q.0 (sym (ap (λ (t : List ℕ). get_or t 0 0) e)))
cut_once s (x ∷ xs) [] left right p q e = absurd (p.0 (ap (λ (t : List ℕ). get_or t 0 0) e))
cut_once s (x ∷ xs) (y ∷ ys) left right (p, ps) (q, qs) e =
    let first : x ≡ y = ap (λ (t : List ℕ). get_or t 0 0) e in
    let more = cut_once s xs ys left right ps qs (ap (λ (t : List ℕ). rest_of t) e) in
    (ap (λ (z : ℕ). z ∷ xs) first ∙ ap (λ (zs : List ℕ). y ∷ zs) more.0, more.1)

first_piece : (s : ℕ) (piece more left : List ℕ) → ((piece ++ s ∷ []) ++ more) ++ left ≡ piece ++ s ∷ (more ++ left)
first_piece s piece more left = append_assoc (piece ++ s ∷ []) more left ∙ append_assoc piece (s ∷ []) (more ++ left)

-- pieces, each ended by the byte, before a text that begins with no such piece
pub pieces_once : (s : ℕ) (Q : List ℕ → Type 0) → ((p : List ℕ) → Q p → AllByRecursion (λ b. b ≢ s) p) → (left right : List ℕ) → ((p after : List ℕ) → Q p → p ++ s ∷ after ≢ left) → ((p after : List ℕ) → Q p → p ++ s ∷ after ≢ right) → (ps qs : List (List ℕ)) → AllByRecursion Q ps → AllByRecursion Q qs → flat_map (λ p. p ++ s ∷ []) ps ++ left ≡ flat_map (λ p. p ++ s ∷ []) qs ++ right → ps ≡ qs
pieces_once s Q lacks left right no_left no_right [] [] ok ok' e = refl
pieces_once s Q lacks left right no_left no_right [] (q ∷ qs) ok (b, bs) e =
    absurd (no_left q (flat_map (λ p. p ++ s ∷ []) qs ++ right) b (sym (e ∙ first_piece s q (flat_map (λ p. p ++ s ∷ []) qs) right)))
pieces_once s Q lacks left right no_left no_right (p ∷ ps) [] (a, more) ok' e =
    absurd (no_right p (flat_map (λ p. p ++ s ∷ []) ps ++ left) a (sym (first_piece s p (flat_map (λ p. p ++ s ∷ []) ps) left) ∙ e))
pieces_once s Q lacks left right no_left no_right (p ∷ ps) (q ∷ qs) (a, more) (b, bs) e =
    let after : List ℕ = flat_map (λ p. p ++ s ∷ []) ps in
    let after' : List ℕ = flat_map (λ p. p ++ s ∷ []) qs in
    let cut = cut_once s p q (after ++ left) (after' ++ right) (lacks p a) (lacks q b) (sym (first_piece s p after left) ∙ e ∙ first_piece s q after' right) in
    ap (λ (x : List ℕ). x ∷ ps) cut.0 ∙ ap (λ (xs : List (List ℕ)). q ∷ xs) (pieces_once s Q lacks left right no_left no_right ps qs more bs cut.1)

-- fields before spaces are fields behind spaces
turned : (fields : List (List ℕ)) → flat_map spaced fields ++ 32 ∷ [] ≡ 32 ∷ flat_map (λ p. p ++ 32 ∷ []) fields
turned [] = refl
turned (field ∷ fields) =
    ap (λ (t : List ℕ). 32 ∷ t) (append_assoc field (flat_map spaced fields) (32 ∷ []) ∙ ap (λ (t : List ℕ). field ++ t) (turned fields) ∙ sym (append_assoc field (32 ∷ []) (flat_map (λ p. p ++ 32 ∷ []) fields)))

nothing_left : (p after : List ℕ) → IsVisible p → p ++ 32 ∷ after ≢ []
nothing_left p after v e =
    let none : length (p ++ 32 ∷ after) ≡ 0 = ap length e in
    absurd (omega (arith, length-append p (32 ∷ after), none))

-- a comment has one list of fields
pub fields_once : (xs ys : List (List ℕ)) → AreVisible xs → AreVisible ys → comment_text xs ≡ comment_text ys → xs ≡ ys
fields_once xs ys p q e =
    let inner : flat_map spaced xs ≡ flat_map spaced ys = ap (λ (t : List ℕ). rest_of t) e in
    let same : flat_map (λ p. p ++ 32 ∷ []) xs ≡ flat_map (λ p. p ++ 32 ∷ []) ys =
    ap (λ (t : List ℕ). rest_of t) (sym (turned xs) ∙ ap (λ (t : List ℕ). t ++ 32 ∷ []) inner ∙ turned ys) in
    pieces_once 32 IsVisible (λ f h. each_weaker IsFieldByte (λ b. b ≢ 32) (λ b k i. absurd (omega (arith, k.low, i))) f h) [] [] nothing_left nothing_left xs ys p q
    (append-nil (flat_map (λ p. p ++ 32 ∷ []) xs) ∙ same ∙ sym (append-nil (flat_map (λ p. p ++ 32 ∷ []) ys)))
