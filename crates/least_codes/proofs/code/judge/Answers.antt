use Rattle.std.proofs.Common.{inl, refl}
use Rattle.least_codes.proofs.code.judge.Goals as goal

pub returns-in_ok-words : goal.returns-in_ok-words
returns-in_ok-words c = (
  c.in_ok-cost.cost,
  c.in_ok-cost.ensures,
  inl (record {
    less = c.is_less.ensures.0 c.if-is_less.true;
    best = record { words = c.in_ok-words.words; cost = c.in_ok-cost.cost };
    is = refl;
    words_are = c.in_ok-words.ensures.items_if_clones_equal (λ x y is. is);
    cost_is = refl;
  }),
)
