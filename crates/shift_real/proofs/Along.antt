-- The answers along positions of any kind, word by word.
use Rattle.std.proofs.Common.{◌≡◌, All, Bool, List, [], ◌∷◌, length, refl}
use Rattle.std.proofs.lemmas.List.Elements.{All-head, All-tail}
use Rattle.net_core.specs.declared.Network.{Network}
use Rattle.net_core.specs.Step.{NetAnswers}
use Rattle.shift_real.specs.Inner.Positions.{GoesAlong, outputs_along}

pub answers_from : {P : Type 0} (N : Network) (IsPosition : P → Type 0) (values : P → List Bool) (next : P → List Bool → P) (outputs : P → List Bool → List Bool) → GoesAlong N IsPosition values next outputs
    → (p : P) (word : List (List Bool)) → IsPosition p → All (λ x. length x ≡ length N.inputs) word → NetAnswers N (values p) word (outputs_along next outputs p word)
answers_from N IsPosition values next outputs goes p [] is long = refl
answers_from N IsPosition values next outputs goes p (x ∷ word) is long =
    let here : length x ≡ length N.inputs = All-head (λ symbol. length symbol ≡ length N.inputs) x word long in (
      outputs p x,
      values (next p x),
      outputs_along next outputs (next p x) word,
      refl,
      goes.steps p x is here,
      answers_from N IsPosition values next outputs goes (next p x) word (goes.stays p x is here) (All-tail (λ symbol. length symbol ≡ length N.inputs) x word long),
    )
