-- The generator gives the words of its seed one after another.
use Rattle.std.proofs.Common.{◌≡◌, ℕ, zero, suc, ◌+◌, ap, arith, refl, sym, ◌∙◌}
use Rattle.rand_core.specs.Stream.{Stream, next_u32}
use Rattle.rand_core.specs.Steps.{steps_u32, stream_of}
use Rattle.rand_pcg.specs.Lcg.{Lcg, advance, next, next_state, state_after}
use Rattle.rand_pcg.specs.Pcg.{multiplier_64, pcg32}
use Rattle.machine_gen.specs.Words.{generator_of, word}

-- a last step, in place of a first one
steps_more : (w m increment n state : ℕ) → state_after w m increment (suc n) state ≡ next_state w m increment (state_after w m increment n state)
unfolding state_after
steps_more w m increment zero state = refl
steps_more w m increment (suc n) state = steps_more w m increment n (next_state w m increment state)

-- what a generator will answer
abbrev pub stream : Lcg → Stream
stream g = stream_of (steps_u32 pcg32) g

-- the generator of a seed after so many steps
abbrev pub generator_at : ℕ → ℕ → Lcg
generator_at seed number = advance 64 multiplier_64 number (generator_of seed)

pub generator-start : (seed : ℕ) → generator_at seed 0 ≡ generator_of seed
unfolding state_after
generator-start seed = refl

generator-more : (seed number : ℕ) → generator_at seed (number + 1) ≡ next 64 multiplier_64 (generator_at seed number)
generator-more seed number =
    let g = generator_of seed in
    let one_more : number + 1 ≡ suc number = omega arith in
    ap (λ n. advance 64 multiplier_64 n g) one_more ∙ ap (λ s. record { state = s; increment = g.increment }) (steps_more 64 multiplier_64 g.increment number g.state)

-- a call gives the word of the state, and leaves the stream of the state after it
stream-next : (g : Lcg) → ◌≡◌ {A = ℕ × Stream} (next_u32 (stream g)) ((pcg32 g).0, stream (pcg32 g).1)
unfolding next_u32 stream_of
stream-next g = refl

word_is : (seed number : ℕ) → (pcg32 (generator_at seed number)).0 ≡ word seed number
unfolding word
word_is seed number = refl

module _ (seed number given : ℕ) (old new : Stream) (at : old ≡ stream (generator_at seed number)) (call : ◌≡◌ {A = ℕ × Stream} (given, new) (next_u32 old)) where
  both : ◌≡◌ {A = ℕ × Stream} (given, new) ((pcg32 (generator_at seed number)).0, stream (next 64 multiplier_64 (generator_at seed number)))
  both = call ∙ ap next_u32 at ∙ stream-next (generator_at seed number)

  pub word_given : given ≡ word seed number
  word_given = ap (λ (p : ℕ × Stream). p.0) both ∙ word_is seed number

  pub stream_left : new ≡ stream (generator_at seed (number + 1))
  stream_left = ap (λ (p : ℕ × Stream). p.1) both ∙ ap stream (sym (generator-more seed number))
