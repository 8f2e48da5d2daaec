use Rattle.std.proofs.Common.{ℕ, ◌≡◌, ◌+◌, ◌*◌, ◌/◌, ◌%◌, ◌^◌, ◌<◌, inr, Contains, List, Some, get_or, length, set, ap, sym, ◌∙◌, subst, refl, arith, bit_or}
use Rattle.std.specs.Int.{bit_at}
use Rattle.std.proofs.lemmas.Bool.{false≢true}
use Rattle.std.proofs.lemmas.Nat.Bits.{bit_at-lt, shr_and_one}
use Rattle.std.proofs.lemmas.List.{get_or_default}
use Rattle.state_pairs.specs.AddedPairs.{AddsPairs, IsFound}
use Rattle.state_pairs.specs.SeenPairs.{AreSeen, PairsOf, word_of_pair}
use Rattle.state_pairs.specs.Laws.AddedPairs.{adds_found, adds_listed}
use Rattle.state_pairs.proofs.PairsOnce.{new_word, seen_more, word_inside}
use Rattle.state_pairs.proofs.pair_list.PairList.add.Goals as goal

-- the word that has the bit of the pair
same_word : (a b u v : ℕ) → a ≡ u → b ≡ v → a * 4 + b / 64 ≡ word_of_pair u v
same_word a b u v first second = ap (λ (n : ℕ). n * 4 + b / 64) first ∙ ap (λ (n : ℕ). u * 4 + n / 64) second

read_at : (seen : List ℕ) (word at read : ℕ) → word ≡ at → at < length seen → read ≡ get_or seen word read → read ≡ get_or seen at 0
read_at seen word at read same inside is =
    let within : word < length seen = omega arith in
    is ∙ get_or_default seen word read 0 within ∙ ap (λ (n : ℕ). get_or seen n 0) same

pub invariant_of-self-2 : goal.invariant_of-self-2
invariant_of-self-2 c =
    let pairs = c.self.inside.pairs.items in
    let seen = c.self.inside.seen.items in
    let states = c.self.inside.states in
    let u = c.args.pair.0 in
    let v = c.args.pair.1 in
    let same : states ≡ c.args.self.now.states = ap (λ (p : PairsOf). p.states) c.self.view_is in
    let first : u < states = omega (arith, c.requires.first, same) in
    let second : v < states = omega (arith, c.requires.second, same) in
    let word = same_word c.from.result c.from-2.result u v c.from.ensures c.from-2.ensures in
    let inside = word_inside pairs seen states u v c.self.invariant first second in
    let read = read_at seen (c.from.result * 4 + c.from-2.result / 64) (word_of_pair u v) c.index.result.now word inside c.index.ensures in
    let written = read_at seen (c.from.result * 4 + c.from-2.result / 64) (word_of_pair u v) c.index_mut.result.now word inside c.index_mut.ensures.value in
    let other : (bit_at (get_or seen (word_of_pair u v) 0) (v % 64) ≡ 1) → ⊥ = λ one.
    c.if-index-place-eq1.false (shr_and_one c.index.result.now (v % 64) ∙ ap (λ (n : ℕ). bit_at n (v % 64)) read ∙ one) in
    let not_there : bit_at (get_or seen (word_of_pair u v) 0) (v % 64) ≡ 0 = let low = bit_at-lt (get_or seen (word_of_pair u v) 0) (v % 64) in omega (arith, low, other) in
    subst (λ (n : ℕ). AreSeen c.push.new.self.items (set seen n (bit_or c.index_mut.result.now (1 * 2 ^ (v % 64) % 2 ^ 64))) states) (sym word)
    (subst (λ (n : ℕ). AreSeen c.push.new.self.items (set seen (word_of_pair u v) (bit_or n (1 * 2 ^ (v % 64) % 2 ^ 64))) states) (sym written)
    (subst (λ (list : List (ℕ × ℕ)). AreSeen list (set seen (word_of_pair u v) (new_word pairs seen states u v c.self.invariant first second)) states) (sym c.in_ok-push.ensures.items)
    (seen_more pairs seen states u v c.self.invariant first second not_there)))

pub returns-then-index-place-eq1-clause-pairs : goal.returns-then-index-place-eq1-clause-pairs
returns-then-index-place-eq1-clause-pairs c =
    let seen = c.self.inside.seen.items in
    let states = c.self.inside.states in
    let u = c.args.pair.0 in
    let v = c.args.pair.1 in
    let same : states ≡ c.args.self.now.states = ap (λ (p : PairsOf). p.states) c.self.view_is in
    let first : u < states = omega (arith, c.requires.first, same) in
    let second : v < states = omega (arith, c.requires.second, same) in
    let word = same_word c.from.result c.from-2.result u v c.from.ensures c.from-2.ensures in
    let inside = word_inside c.self.inside.pairs.items seen states u v c.self.invariant first second in
    let read = read_at seen (c.from.result * 4 + c.from-2.result / 64) (word_of_pair u v) c.index.result.now word inside c.index.ensures in
    let one : bit_at (get_or seen (word_of_pair u v) 0) (v % 64) ≡ 1 =
    sym (shr_and_one c.index.result.now (v % 64) ∙ ap (λ (n : ℕ). bit_at n (v % 64)) read) ∙ c.if-index-place-eq1.true in
    let listed : Contains c.args.self.now.pairs c.args.pair = subst (λ (p : PairsOf). Contains p.pairs c.args.pair) c.self.view_is ((c.self.invariant.each u v first second).0 one) in
    adds_listed c.args.pair c.args.self.now.pairs listed

pub returns-then-index-place-eq1-clause-added : goal.returns-then-index-place-eq1-clause-added
returns-then-index-place-eq1-clause-added c = (
  λ yes. absurd (false≢true yes),
  λ absent. absurd (absent (((returns-then-index-place-eq1-clause-pairs c).each c.args.pair.0 c.args.pair.1).1 (inr refl))),
)

pub returns-clause-pairs : goal.returns-clause-pairs
returns-clause-pairs c =
    subst (λ (list : List (ℕ × ℕ)). AddsPairs (IsFound (Some c.args.pair)) list c.push.new.self.items) (ap (λ (p : PairsOf). p.pairs) c.self.view_is)
    (subst (λ (list : List (ℕ × ℕ)). AddsPairs (IsFound (Some c.args.pair)) c.self.inside.pairs.items list) (sym c.in_ok-push.ensures.items)
    (adds_found c.args.pair c.self.inside.pairs.items))

pub returns-clause-added : goal.returns-clause-added
returns-clause-added c =
    let seen = c.self.inside.seen.items in
    let states = c.self.inside.states in
    let u = c.args.pair.0 in
    let v = c.args.pair.1 in
    let same : states ≡ c.args.self.now.states = ap (λ (p : PairsOf). p.states) c.self.view_is in
    let first : u < states = omega (arith, c.requires.first, same) in
    let second : v < states = omega (arith, c.requires.second, same) in
    let word = same_word c.from.result c.from-2.result u v c.from.ensures c.from-2.ensures in
    let inside = word_inside c.self.inside.pairs.items seen states u v c.self.invariant first second in
    let read = read_at seen (c.from.result * 4 + c.from-2.result / 64) (word_of_pair u v) c.index.result.now word inside c.index.ensures in (
      λ yes there.
          c.if-index-place-eq1.false
          (shr_and_one c.index.result.now (v % 64) ∙ ap (λ (n : ℕ). bit_at n (v % 64)) read
          ∙ (c.self.invariant.each u v first second).1 (subst (λ (p : PairsOf). Contains p.pairs c.args.pair) (sym c.self.view_is) there)),
      λ absent. refl,
    )
