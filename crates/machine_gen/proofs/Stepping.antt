-- One step of the loop over rows: what is drawn for a place, and where it leads.
use Rattle.std.proofs.Common.{◌≡◌, ℕ, ◌+◌, ◌*◌, ◌^◌, ◌<◌, List, length, get_or, max, sym, subst, ap, ◌∙◌, arith}
use Rattle.std.proofs.lemmas.List.FromFn.{get_or-map-range_with_len, length-map-range_with_len}
use Rattle.machine_gen.specs.declared.draws.Draw.{Draw}
use Rattle.machine_gen.specs.declared.rows.Place.{Place}
use Rattle.machine_gen.specs.Inner.Draws.{draw_of, draws_of, next_of, place_of}
use Rattle.machine_gen.specs.WordMachine.{AreSizes}
use Rattle.machine_gen.proofs.Numbered.{first_within, next_within, second_within, symbol_within, two_digits}

-- ---- what stands at a place of the words' list
module _ (word : ℕ → ℕ) (a b k : ℕ) (draws : List Draw) (are : draws ≡ draws_of word a b (max a b * 2 ^ k)) where
  draw_count : length draws ≡ max a b * 2 ^ k
  draw_count = ap length are ∙ length-map-range_with_len (λ n. draw_of a b (word n)) 0 (max a b * 2 ^ k)

  draw_there : (part x : ℕ) → part < max a b → x < 2 ^ k → part * 2 ^ k + x < length draws
  draw_there part x low within = subst (λ n. part * 2 ^ k + x < n) (sym draw_count) (two_digits part x (max a b) (2 ^ k) low within)

  draw_at : (part x : ℕ) (d : Draw) → part < max a b → x < 2 ^ k → get_or draws (part * 2 ^ k + x) d ≡ draw_of a b (word (part * 2 ^ k + x))
  draw_at part x d low within =
      let f : ℕ → Draw = λ n. draw_of a b (word n) in
      ap (λ (list : List Draw). get_or list (part * 2 ^ k + x) d) are
      ∙ get_or-map-range_with_len f 0 (max a b * 2 ^ k) (part * 2 ^ k + x) (part * 2 ^ k + x) d (two_digits part x (max a b) (2 ^ k) low within) (omega arith)

-- the names are those of the code: `many` parts have draws, and there are so many `states` and `symbols`
module _ (word : ℕ → ℕ) (a b k number states symbols many : ℕ) (draws : List Draw) (place : Place) (sizes : AreSizes a b k) (power : symbols ≡ 2 ^ k)
    (most : many ≡ max a b) (all : states ≡ a * b) (drawn : draws ≡ draws_of word a b (many * symbols)) (at : place ≡ place_of b k number) (more : number < states * symbols) where
  within : number < a * b * 2 ^ k
  within = subst (λ n. number < n) (ap (λ n. n * symbols) all ∙ ap (λ n. a * b * n) power) more

  are : draws ≡ draws_of word a b (max a b * 2 ^ k)
  are = drawn ∙ ap (λ n. draws_of word a b (n * symbols)) most ∙ ap (λ n. draws_of word a b (max a b * n)) power

  first_low : place.first < a
  first_low = subst (λ (p : Place). p.first < a) (sym at) (first_within a b k number sizes within)

  second_low : place.second < b
  second_low = subst (λ (p : Place). p.second < b) (sym at) (second_within a b k number sizes within)

  symbol_low : place.symbol < 2 ^ k
  symbol_low = subst (λ (p : Place). p.symbol < 2 ^ k) (sym at) (symbol_within a b k number sizes within)

  there : (slice : List Draw) (part : ℕ) → slice ≡ draws → part < max a b → part * symbols + place.symbol < length slice
  there slice part is low =
      subst (λ (list : List Draw). part * symbols + place.symbol < length list) (sym is)
      (subst (λ n. part * n + place.symbol < length draws) (sym power) (draw_there word a b k draws are part place.symbol low symbol_low))

  drawn_at : (slice : List Draw) (part : ℕ) (d : Draw) → slice ≡ draws → part < max a b → d ≡ get_or slice (part * symbols + place.symbol) d
      → d ≡ draw_of a b (word (part * 2 ^ k + place.symbol))
  drawn_at slice part d is low here =
      here ∙ ap (λ (list : List Draw). get_or list (part * symbols + place.symbol) d) is ∙ ap (λ n. get_or draws (part * n + place.symbol) d) power
      ∙ draw_at word a b k draws are part place.symbol d low symbol_low

  pub first_there : (slice : List Draw) → slice ≡ draws → place.first * symbols + place.symbol < length slice
  first_there slice is = there slice place.first is (omega (arith, first_low))

  pub second_there : (slice : List Draw) → slice ≡ draws → place.second * symbols + place.symbol < length slice
  second_there slice is = there slice place.second is (omega (arith, second_low))

  pub from_fits : place.first * b + place.second < 65536
  from_fits = omega (arith, two_digits place.first place.second a b first_low second_low, sizes.states)

  module _ (slice other : List Draw) (first second : Draw) (is : slice ≡ draws) (also : other ≡ draws)
      (one : first ≡ get_or slice (place.first * symbols + place.symbol) first) (two : second ≡ get_or other (place.second * symbols + place.symbol) second) where
    pub next_is : first.first * b + second.second ≡ next_of word a b k place
    next_is =
        ap (λ (d : Draw). d.first * b + second.second) (drawn_at slice place.first first is (omega (arith, first_low)) one)
        ∙ ap (λ (d : Draw). (draw_of a b (word (place.first * 2 ^ k + place.symbol))).first * b + d.second) (drawn_at other place.second second also (omega (arith, second_low)) two)

    pub next_fits : first.first * b + second.second < 65536
    next_fits = omega (arith, next_is, next_within word a b k place sizes, sizes.states)
