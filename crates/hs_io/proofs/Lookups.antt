-- What a shelf in memory holds under a name, by the place of its text.
use Rattle.std.proofs.Common.{◌≡◌, ℕ, suc, zero, ◌<◌, Bool, true, false, cond, List, [], ◌∷◌, ◌++◌, length, get_or, set, Some, None, refl, sym, ap, ◌∙◌, arith}
use Rattle.std.proofs.lemmas.Bool.{false≢true}
use Rattle.std.proofs.lemmas.Slice.Eq.{bytes_eq-Decides}
use Rattle.std.specs.Map.{lookup}
use Rattle.std.specs.Str.{bytes_eq}
use Rattle.hs_io.specs.Inner.Places.{HoldsAlso, IsPlaceOf}

-- a name that no text has holds nothing
pub lookup-none : (texts : List (List ℕ × List ℕ)) (name : List ℕ) → IsPlaceOf texts name None → lookup (bytes_eq name) texts ≡ None
lookup-none [] name none = refl
lookup-none (t ∷ ts) name none =
    let e : bytes_eq name t.0 ≡ false = none 0 (omega arith) t in
    rw e (lookup-none ts name (λ k h past. none (suc k) (omega arith) past))

-- a name holds the text at its place
pub lookup-some : (texts : List (List ℕ × List ℕ)) (name : List ℕ) (place : ℕ) → IsPlaceOf texts name (Some place) → (past : List ℕ × List ℕ) → lookup (bytes_eq name) texts ≡ Some (get_or texts place past).1
lookup-some [] name place here past = absurd (omega (arith, here.0))
lookup-some (t ∷ ts) name zero here past = let e : bytes_eq name t.0 ≡ true = here.1 t in rw e
lookup-some (t ∷ ts) name (suc place) here past =
    let e : bytes_eq name t.0 ≡ false = here.2 0 (omega arith) t in
    let h : place < length ts = omega (arith, here.0) in
    rw e (lookup-some ts name place (h, here.1, λ k h past. here.2 (suc k) (omega arith) past) past)

-- two tests that never both pass may be asked in either order
either_order : {A : Type 0} (a b : Bool) (x y z : A) → (a ≡ true → b ≡ true → ⊥) → cond a x (cond b y z) ≡ cond b y (cond a x z)
either_order true true x y z apart = absurd (apart refl refl)
either_order true false x y z apart = refl
either_order false true x y z apart = refl
either_order false false x y z apart = refl

-- one name is not two
not_both : (name other q : List ℕ) → bytes_eq name other ≡ false → bytes_eq q other ≡ true → bytes_eq q name ≡ true → ⊥
not_both name other q apart at_other at_name =
    let e = (bytes_eq-Decides q other).0 at_other in
    let f = (bytes_eq-Decides q name).0 at_name in
    false≢true (sym apart ∙ (bytes_eq-Decides name other).1 (sym f ∙ e))

-- what a name holds once the text at the place of another is written anew
pub lookup-set : (texts : List (List ℕ × List ℕ)) (name bytes : List ℕ) (place : ℕ) → IsPlaceOf texts name (Some place) → (past : List ℕ × List ℕ) (q : List ℕ) → lookup (bytes_eq q) (set texts place ((get_or texts place past).0, bytes)) ≡ cond (bytes_eq q name) (Some bytes) (lookup (bytes_eq q) texts)
lookup-set [] name bytes place here past q = absurd (omega (arith, here.0))
lookup-set (t ∷ ts) name bytes zero here past q =
    let e : name ≡ t.0 = (bytes_eq-Decides name t.0).0 (here.1 t) in
    rw e (elim (bytes_eq q t.0) as (λ b. cond b (Some bytes) (lookup (bytes_eq q) ts) ≡ cond b (Some bytes) (cond b (Some t.1) (lookup (bytes_eq q) ts))) [ true ↦ refl | false ↦ refl ])
lookup-set (t ∷ ts) name bytes (suc place) here past q =
    let e : bytes_eq name t.0 ≡ false = here.2 0 (omega arith) t in
    let h : place < length ts = omega (arith, here.0) in
    ap (cond (bytes_eq q t.0) (Some t.1)) (lookup-set ts name bytes place (h, here.1, λ k h past. here.2 (suc k) (omega arith) past) past q)
    ∙ either_order (bytes_eq q t.0) (bytes_eq q name) (Some t.1) (Some bytes) (lookup (bytes_eq q) ts) (not_both name t.0 q e)

-- what a name holds once the text of a new name is added
pub lookup-push : (texts : List (List ℕ × List ℕ)) (name bytes : List ℕ) → IsPlaceOf texts name None → (q : List ℕ) → lookup (bytes_eq q) (texts ++ (name, bytes) ∷ []) ≡ cond (bytes_eq q name) (Some bytes) (lookup (bytes_eq q) texts)
lookup-push [] name bytes none q = refl
lookup-push (t ∷ ts) name bytes none q =
    let e : bytes_eq name t.0 ≡ false = none 0 (omega arith) t in
    ap (cond (bytes_eq q t.0) (Some t.1)) (lookup-push ts name bytes (λ k h past. none (suc k) (omega arith) past) q)
    ∙ either_order (bytes_eq q t.0) (bytes_eq q name) (Some t.1) (Some bytes) (lookup (bytes_eq q) ts) (not_both name t.0 q e)

-- what each name holds after the text at the place of a name was written
pub written : (texts : List (List ℕ × List ℕ)) (name key bytes text : List ℕ) (place : ℕ) (past : List ℕ × List ℕ) → IsPlaceOf texts name (Some place) → key ≡ (get_or texts place past).0 → text ≡ bytes → HoldsAlso texts (set texts place (key, text)) name bytes
written texts name key bytes text place past here e f other =
    ap (λ (k : List ℕ). lookup (bytes_eq other) (set texts place (k, text))) e
    ∙ ap (λ (b : List ℕ). lookup (bytes_eq other) (set texts place ((get_or texts place past).0, b))) f
    ∙ lookup-set texts name bytes place here past other

-- what each name holds after the text of a new name was added
pub added : (texts new : List (List ℕ × List ℕ)) (name key bytes text : List ℕ) → IsPlaceOf texts name None → new ≡ texts ++ (key, text) ∷ [] → key ≡ name → text ≡ bytes → HoldsAlso texts new name bytes
added texts new name key bytes text none e f g other =
    ap (lookup (bytes_eq other)) e
    ∙ ap (λ (k : List ℕ). lookup (bytes_eq other) (texts ++ (k, text) ∷ [])) f
    ∙ ap (λ (b : List ℕ). lookup (bytes_eq other) (texts ++ (name, b) ∷ [])) g
    ∙ lookup-push texts name bytes none other
