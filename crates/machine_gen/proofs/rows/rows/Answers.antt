use Rattle.std.proofs.Common.{◌≡◌, ℕ, ◌+◌, ◌*◌, ◌^◌, ◌<◌, ap, subst, ◌∙◌, arith}
use Rattle.machine_gen.specs.declared.rows.Place.{Place}
use Rattle.machine_gen.specs.Inner.Draws.{IsRowOfPlace, next_of}
use Rattle.machine_gen.specs.Words.{word}
use Rattle.machine_gen.proofs.Numbered.{AreRowsBelow, rows-more, rows_whole}
use Rattle.machine_gen.proofs.Stepping.{first_there, from_fits, next_fits, next_is, second_there}
use Rattle.machine_gen.proofs.rows.rows.Goals as goal

pub drawn-first-requires : goal.drawn-first-requires
drawn-first-requires c =
    first_there (word c.args.seed) c.args.a c.args.b c.args.k c.loop-number.number _ _ _ _ _ c.requires c.symbols-symbols.ensures (c.from.ensures ∙ c.max.ensures)
    c.from-2.ensures c.in_ok-draws.ensures c.place_at-place.ensures c.loop-number-test.true c.as_slice.result.now c.as_slice.ensures.value

pub drawn-second-requires : goal.drawn-second-requires
drawn-second-requires c =
    second_there (word c.args.seed) c.args.a c.args.b c.args.k c.loop-number.number _ _ _ _ _ c.requires c.symbols-symbols.ensures (c.from.ensures ∙ c.max.ensures)
    c.from-2.ensures c.in_ok-draws.ensures c.place_at-place.ensures c.loop-number-test.true c.as_slice-in-loop-number.result.now c.as_slice-in-loop-number.ensures.value

-- where the words lead is below the number of states
next_low : (c : goal.After-rows-1) → c.drawn-first.result.first * c.args.b + c.drawn-second.result.second < 65536
next_low c =
    next_fits (word c.args.seed) c.args.a c.args.b c.args.k c.loop-number.number _ _ _ _ _ c.requires c.symbols-symbols.ensures (c.from.ensures ∙ c.max.ensures)
    c.from-2.ensures c.in_ok-draws.ensures c.place_at-place.ensures c.loop-number-test.true _ _ _ _ c.as_slice.ensures.value c.as_slice-in-loop-number.ensures.value
    c.drawn-first.ensures c.drawn-second.ensures

pub overflow_mul-first : goal.overflow_mul-first
overflow_mul-first c = omega (arith, next_low c)

pub overflow_add-first : goal.overflow_add-first
overflow_add-first c = omega (arith, next_low c)

pub row-requires-clause-from : goal.row-requires-clause-from
row-requires-clause-from c =
    from_fits (word c.args.seed) c.args.a c.args.b c.args.k c.loop-number.number _ _ _ _ _ c.requires c.symbols-symbols.ensures (c.from.ensures ∙ c.max.ensures)
    c.from-2.ensures c.in_ok-draws.ensures c.place_at-place.ensures c.loop-number-test.true

pub loop-number-preserved : goal.loop-number-preserved
loop-number-preserved c =
    let words : ℕ → ℕ = word c.args.seed in
    let a = c.args.a in
    let b = c.args.b in
    let k = c.args.k in
    let place : Place = c.place_at-place.result in
    let state : c.drawn-first.result.first * b + c.drawn-second.result.second ≡ next_of words a b k place =
    next_is words a b k c.loop-number.number _ _ _ _ _ c.requires c.symbols-symbols.ensures (c.from.ensures ∙ c.max.ensures)
    c.from-2.ensures c.in_ok-draws.ensures c.place_at-place.ensures c.loop-number-test.true _ _ _ _ c.as_slice.ensures.value c.as_slice-in-loop-number.ensures.value
    c.drawn-first.ensures c.drawn-second.ensures in
    let here : IsRowOfPlace b k place (next_of words a b k place) c.row.result = subst (λ n. IsRowOfPlace b k place n c.row.result) state c.row.ensures in
    rows-more words a b k c.loop-number.number c.loop-number.rows c.push.new.self c.row.result c.loop-number.invariant c.in_ok-push.ensures.ok
    (subst (λ (p : Place). IsRowOfPlace b k p (next_of words a b k p) c.row.result) c.place_at-place.ensures here)

pub returns : goal.returns
returns c =
    let all : c.loop-number.number ≡ c.from-2.result * c.symbols-symbols.result = omega arith in
    let whole : c.loop-number.number ≡ c.args.a * c.args.b * 2 ^ c.args.k =
    all ∙ ap (λ n. n * c.symbols-symbols.result) c.from-2.ensures ∙ ap (λ n. c.args.a * c.args.b * n) c.symbols-symbols.ensures in
    rows_whole (word c.args.seed) c.args.a c.args.b c.args.k c.loop-number.rows
    (subst (λ n. AreRowsBelow (word c.args.seed) c.args.a c.args.b c.args.k n c.loop-number.rows) whole c.loop-number.invariant)
