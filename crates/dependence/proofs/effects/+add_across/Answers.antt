use Rattle.std.proofs.Common.{◌≡◌, ◌<◌, ℕ, All, IfSome, length, refl, sym, subst, arith}
use Rattle.std.proofs.lemmas.List.Elements.{All-drop, All-take}
use Rattle.kiss_file.specs.declared.file.KissRow.{KissRow}
use Rattle.dependence.proofs.Across.{adds_apart, adds_halved, adds_turned}
use Rattle.dependence.proofs.effects.+add_across.Goals as goal

pub returns-then-rows-others : goal.returns-then-rows-others
returns-then-rows-others t c =
    adds_turned (length c.args.effects.now) c.args.words.now c.args.effects.now c.add_across-then-rows-others.new.effects c.args.rows.now c.args.others.now
    (adds_halved c.args.words.now c.args.effects.now c.add_across.new.effects c.add_across-then-rows-others.new.effects _ c.args.others.now c.args.rows.now c.split_at.result.0.now c.split_at.result.1.now
    c.split_at.ensures.front c.split_at.ensures.back c.add_across.ensures c.add_across-then-rows-others.ensures)

pub returns-else-rows-others : goal.returns-else-rows-others
returns-else-rows-others t c =
    adds_halved c.args.words.now c.args.effects.now c.add_across-else-rows-others.new.effects c.add_across-else-rows-others-2.new.effects _ c.args.rows.now c.args.others.now c.split_at-else-rows-others.result.0.now c.split_at-else-rows-others.result.1.now
    c.split_at-else-rows-others.ensures.front c.split_at-else-rows-others.ensures.back c.add_across-else-rows-others.ensures c.add_across-else-rows-others-2.ensures

-- the next state of a row is below n
abbrev IsNext : ℕ → KissRow → Type 0
IsNext n row = IfSome row.to (λ t. t < n)

-- a row has n inputs
abbrev IsWide : ℕ → KissRow → Type 0
IsWide n row = row.cube.width ≡ n

pub add_across-requires : goal.add_across-requires
add_across-requires t c =
    let next = IsNext (length c.args.words.now) in
    let wide = IsWide (length c.args.effects.now) in (
      omega (arith, c.decreases, c.split_at.ensures.front_len, c.if-rows-others.true),
      (
        subst (All next) (sym c.split_at.ensures.front) (All-take next _ c.args.others.now c.requires.other_next),
        (
          c.requires.next,
          (
            subst (All wide) (sym c.split_at.ensures.front) (All-take wide _ c.args.others.now c.requires.other_inputs),
            c.requires.inputs,
          ),
        ),
      ),
    )

pub add_across-requires-then-rows-others : goal.add_across-requires-then-rows-others
add_across-requires-then-rows-others t c =
    let next = IsNext (length c.args.words.now) in
    let wide = IsWide (length c.args.effects.now) in
    let size = sym c.add_across.ensures.size in (
      omega (arith, c.decreases, c.split_at.ensures.back_len, c.if-rows-others.true),
      (
        subst (All next) (sym c.split_at.ensures.back) (All-drop next _ c.args.others.now c.requires.other_next),
        (
          c.requires.next,
          (
            subst (λ (n : ℕ). All (IsWide n) c.split_at.result.1.now) size (subst (All wide) (sym c.split_at.ensures.back) (All-drop wide _ c.args.others.now c.requires.other_inputs)),
            subst (λ (n : ℕ). All (IsWide n) c.args.rows.now) size c.requires.inputs,
          ),
        ),
      ),
    )

pub returns-then-others-le-FEW : goal.returns-then-others-le-FEW
returns-then-others-le-FEW t c = c.add_each.ensures

pub returns-else-not-differ_more : goal.returns-else-not-differ_more
returns-else-not-differ_more t c = adds_apart (length c.args.effects.now) c.args.words.now c.args.effects.now c.args.rows.now c.args.others.now (c.if-not-differ_more.ensures refl)
