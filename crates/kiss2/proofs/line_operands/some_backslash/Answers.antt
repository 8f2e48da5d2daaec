use Rattle.std.proofs.Common.{◌≡◌, ◌+◌, ◌++◌, [], ◌∷◌, true, false, ◌||◌, take, ap, sym, ◌∙◌, arith}
use Rattle.std.specs.List.{list_any}
use Rattle.std.proofs.lemmas.List.{take_all, take_more}
use Rattle.std.proofs.lemmas.List.Folds.{list_any-append, list_any-from_Any}
use Rattle.kiss2.specs.Words.{has_backslash}
use Rattle.kiss2.proofs.line_operands.some_backslash.Goals as goal

pub loop-name-preserved : goal.loop-name-preserved
loop-name-preserved c =
    let names = c.args.names.now in
    let i = c.loop-name.name-index in
    let name = c.name-item.result in
    let more : take (i + 1) names ≡ take i names ++ name ∷ [] = take_more names i name c.loop-name-test.true ∙ ap (λ n. take i names ++ n ∷ []) (sym c.name-item.is) in
    let none : has_backslash name ≡ false = ap has_backslash (sym c.bytes.ensures) ∙ (sym c.holds_backslash.ensures ∙ c.if-holds_backslash.false) in
    ap (list_any has_backslash) more
    ∙ (list_any-append has_backslash (take i names) (name ∷ []) ∙ (ap (λ b. b || (has_backslash name || false)) c.loop-name.invariant ∙ ap (λ b. b || false) none))

pub returns-then-holds_backslash : goal.returns-then-holds_backslash
returns-then-holds_backslash c =
    let name = c.name-item.result in
    let some : has_backslash name ≡ true = ap has_backslash (sym c.bytes.ensures) ∙ (sym c.holds_backslash.ensures ∙ c.if-holds_backslash.true) in
    sym (list_any-from_Any has_backslash c.args.names.now (c.loop-name.name-index, name, c.loop-name-test.true, sym c.name-item.is, some))

pub returns : goal.returns
returns c =
    let all : take c.loop-name.name-index c.args.names.now ≡ c.args.names.now = take_all _ _ (omega arith) in
    sym (sym (ap (list_any has_backslash) all) ∙ c.loop-name.invariant)
