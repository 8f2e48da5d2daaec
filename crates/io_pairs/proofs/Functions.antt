-- Lists with a list for each state or symbol, as families of functions.
use Rattle.std.proofs.Common.{◌≡◌, ℕ, ◌+◌, ◌<◌, ◌^◌, List, [], ◌∷◌, ◌++◌, get_or, length, sym, ap, ◌∙◌, subst, inl, inr, arith}
use Rattle.std.proofs.lemmas.Bool.{cases_eq}
use Rattle.std.proofs.lemmas.List.{get_or_append_left, get_or_push}
use Rattle.kiss_file.specs.declared.file.KissFile.{KissFile}
use Rattle.partition.specs.Partition.{IsStateCount, Together}
use Rattle.io_pairs.specs.Inner.Families.{AreFunctions, Go, SameGoing, value_at}
use Rattle.io_pairs.specs.Inner.Lists.{AreAtPlace, AreNextStates, EachList}
use Rattle.io_pairs.specs.Inputs.{GoFromStates}
use Rattle.io_pairs.specs.Outputs.{AreOutputs, GoAtSymbols, output_number}
use Rattle.io_pairs.specs.Inner.Words.{AreNumbersOf}

pub each_more : (P : ℕ → List ℕ → Type 0) (count : ℕ) (lists : List (List ℕ)) (list : List ℕ) → length lists ≡ count → EachList P count lists → P count list → EachList P (count + 1) (lists ++ list ∷ [])
each_more P count lists list size so_far here k within =
    elim (cases_eq k count) [
      | inl at ↦ subst (λ (n : ℕ). P n (get_or (lists ++ list ∷ []) n [])) (sym at) (subst (P count) (sym (get_or_push lists list [] count size)) here)
      | inr other ↦ subst (P k) (sym (get_or_append_left lists (list ∷ []) [] k (omega arith))) (so_far k (omega arith))
    ]

-- together where the numbers are equal to others
together_as : (q : List ℕ) (a b u v : ℕ) → a ≡ u → b ≡ v → Together q a b → Together q u v
together_as q a b u v first second held = subst (λ (w : ℕ). Together q u w) second (subst (λ (w : ℕ). Together q w b) first held)

module _ (F : KissFile) (functions : List (List ℕ)) (all : length functions ≡ length F.states) (each : EachList (AreNextStates F) (length F.states) functions) where
  pub input_functions : IsStateCount (2 ^ F.inputs) → IsStateCount (length F.states) → AreFunctions (2 ^ F.inputs) (length F.states) functions
  input_functions symbols states = record {
    some_members = symbols;
    some_values = states;
    few = omega (arith, states.1);
    each = λ k within. (each k (omega arith)).count;
    below = λ k x within in_x. (each k (omega arith)).below x in_x;
  }

  pub input_going : SameGoing (2 ^ F.inputs) (Go functions) (GoFromStates F)
  input_going q x y in_x in_y = (
    (λ go s within. together_as q _ _ _ _ ((each s within).next x in_x) ((each s within).next y in_y) (go s (omega arith))),
    (λ go s within. let below : s < length F.states = omega arith in together_as q _ _ _ _ (sym ((each s below).next x in_x)) (sym ((each s below).next y in_y)) (go s below)),
  )

module _ (F : KissFile) (outs : List ℕ) (lists functions : List (List ℕ)) (same : AreOutputs F outs) (states : length lists ≡ length F.states) (each : EachList (AreNumbersOf F) (length F.states) lists)
    (all : length functions ≡ 2 ^ F.inputs) (turned : EachList (AreAtPlace lists) (2 ^ F.inputs) functions) where
  -- the value of a state at a symbol is the number of its output
  number_at : (x s : ℕ) → x < 2 ^ F.inputs → s < length F.states → value_at functions x s ≡ output_number F s x
  number_at x s in_x in_s = (turned x in_x).numbers s (omega arith) ∙ (each s in_s).numbers x in_x

  pub output_functions : IsStateCount (length F.states) → IsStateCount (2 ^ F.inputs) → AreFunctions (length F.states) (length outs) functions
  output_functions count symbols = record {
    some_members = count;
    some_values = (omega (arith, ap length same.same, (each 0 count.0).below 0 symbols.0), same.few);
    few = omega (arith, symbols.1);
    each = λ k within. (turned k (omega arith)).count ∙ states;
    below = λ k s within in_s.
        let in_k : k < 2 ^ F.inputs = omega arith in
        omega (arith, (turned k in_k).numbers s (omega arith), (each s in_s).below k in_k, ap length same.same);
  }

  pub output_going : SameGoing (length F.states) (Go functions) (GoAtSymbols F)
  output_going q s t in_s in_t = (
    (λ go x within. together_as q _ _ _ _ (number_at x s within in_s) (number_at x t within in_t) (go x (omega arith))),
    (λ go x within. let below : x < 2 ^ F.inputs = omega arith in together_as q _ _ _ _ (sym (number_at x s below in_s)) (sym (number_at x t below in_t)) (go x below)),
  )
