use Rattle.std.proofs.Common.{◌≡◌, ℕ, Bool, true, false, cond, List, sym, ◌∙◌, ap, subst}
use Rattle.std.specs.Str.{bytes_eq}
use Rattle.net_core.specs.Statements.{Statement, Row}
use Rattle.blif_in.specs.Inner.ShortFields.{AreMeasurable}
use Rattle.blif_in.proofs.Names.{measurable_tail}
use Rattle.blif_in.proofs.statement.statement_by.Goals as goal

here : (test : Bool) (said other : Statement) → test ≡ true → said ≡ cond test said other
here test said other h = ap (λ b. cond b said other) (sym h)

later : (test : Bool) (first said other : Statement) → test ≡ false → said ≡ other → said ≡ cond test first other
later test first said other h k = k ∙ ap (λ b. cond b first other) (sym h)

tested : (found outcome : Bool) (word given text : List ℕ) → found ≡ bytes_eq word given → given ≡ text → found ≡ outcome → bytes_eq word text ≡ outcome
tested found outcome word given text is same h = sym (is ∙ ap (bytes_eq word) same) ∙ h

pub returns-then-eq-clause-says : goal.returns-then-eq-clause-says
returns-then-eq-clause-says c = here _ _ _ (tested _ _ _ _ _ c.eq.ensures c.as_slice.ensures c.if-eq.true)

pub returns-then-eq-2-clause-says : goal.returns-then-eq-2-clause-says
returns-then-eq-2-clause-says c = later _ _ _ _ (tested _ _ _ _ _ c.eq.ensures c.as_slice.ensures c.if-eq.false) (here _ _ _ (tested _ _ _ _ _ c.eq-else-eq.ensures c.as_slice-else-eq.ensures c.if-eq-2.true))

pub returns-then-eq-3-clause-says : goal.returns-then-eq-3-clause-says
returns-then-eq-3-clause-says c = later _ _ _ _ (tested _ _ _ _ _ c.eq.ensures c.as_slice.ensures c.if-eq.false) (later _ _ _ _ (tested _ _ _ _ _ c.eq-else-eq.ensures c.as_slice-else-eq.ensures c.if-eq-2.false) (here _ _ _ (tested _ _ _ _ _ c.eq-else-eq-2.ensures c.as_slice-else-eq-2.ensures c.if-eq-3.true)))

pub returns-then-eq-4-clause-says : goal.returns-then-eq-4-clause-says
returns-then-eq-4-clause-says c = later _ _ _ _ (tested _ _ _ _ _ c.eq.ensures c.as_slice.ensures c.if-eq.false) (later _ _ _ _ (tested _ _ _ _ _ c.eq-else-eq.ensures c.as_slice-else-eq.ensures c.if-eq-2.false) (later _ _ _ _ (tested _ _ _ _ _ c.eq-else-eq-2.ensures c.as_slice-else-eq-2.ensures c.if-eq-3.false) (here _ _ _ (tested _ _ _ _ _ c.eq-else-eq-3.ensures c.as_slice-else-eq-3.ensures c.if-eq-4.true))))

pub returns-then-eq-5-clause-says : goal.returns-then-eq-5-clause-says
returns-then-eq-5-clause-says c = later _ _ _ _ (tested _ _ _ _ _ c.eq.ensures c.as_slice.ensures c.if-eq.false) (later _ _ _ _ (tested _ _ _ _ _ c.eq-else-eq.ensures c.as_slice-else-eq.ensures c.if-eq-2.false) (later _ _ _ _ (tested _ _ _ _ _ c.eq-else-eq-2.ensures c.as_slice-else-eq-2.ensures c.if-eq-3.false) (later _ _ _ _ (tested _ _ _ _ _ c.eq-else-eq-3.ensures c.as_slice-else-eq-3.ensures c.if-eq-4.false) (here _ _ _ (tested _ _ _ _ _ c.eq-else-eq-4.ensures c.as_slice-else-eq-4.ensures c.if-eq-5.true)))))

pub returns-then-eq-6-clause-says : goal.returns-then-eq-6-clause-says
returns-then-eq-6-clause-says c = later _ _ _ _ (tested _ _ _ _ _ c.eq.ensures c.as_slice.ensures c.if-eq.false) (later _ _ _ _ (tested _ _ _ _ _ c.eq-else-eq.ensures c.as_slice-else-eq.ensures c.if-eq-2.false) (later _ _ _ _ (tested _ _ _ _ _ c.eq-else-eq-2.ensures c.as_slice-else-eq-2.ensures c.if-eq-3.false) (later _ _ _ _ (tested _ _ _ _ _ c.eq-else-eq-3.ensures c.as_slice-else-eq-3.ensures c.if-eq-4.false) (later _ _ _ _ (tested _ _ _ _ _ c.eq-else-eq-4.ensures c.as_slice-else-eq-4.ensures c.if-eq-5.false) (here _ _ _ (tested _ _ _ _ _ c.eq-else-eq-5.ensures c.as_slice-else-eq-5.ensures c.if-eq-6.true))))))

pub returns-then-is_word-clause-says : goal.returns-then-is_word-clause-says
returns-then-is_word-clause-says c = later _ _ _ _ (tested _ _ _ _ _ c.eq.ensures c.as_slice.ensures c.if-eq.false) (later _ _ _ _ (tested _ _ _ _ _ c.eq-else-eq.ensures c.as_slice-else-eq.ensures c.if-eq-2.false) (later _ _ _ _ (tested _ _ _ _ _ c.eq-else-eq-2.ensures c.as_slice-else-eq-2.ensures c.if-eq-3.false) (later _ _ _ _ (tested _ _ _ _ _ c.eq-else-eq-3.ensures c.as_slice-else-eq-3.ensures c.if-eq-4.false) (later _ _ _ _ (tested _ _ _ _ _ c.eq-else-eq-4.ensures c.as_slice-else-eq-4.ensures c.if-eq-5.false) (later _ _ _ _ (tested _ _ _ _ _ c.eq-else-eq-5.ensures c.as_slice-else-eq-5.ensures c.if-eq-6.false) (here _ _ _ (sym c.is_word.ensures ∙ c.if-is_word.true)))))))

pub returns-else-is_word-clause-says : goal.returns-else-is_word-clause-says
returns-else-is_word-clause-says c = later _ _ _ _ (tested _ _ _ _ _ c.eq.ensures c.as_slice.ensures c.if-eq.false) (later _ _ _ _ (tested _ _ _ _ _ c.eq-else-eq.ensures c.as_slice-else-eq.ensures c.if-eq-2.false) (later _ _ _ _ (tested _ _ _ _ _ c.eq-else-eq-2.ensures c.as_slice-else-eq-2.ensures c.if-eq-3.false) (later _ _ _ _ (tested _ _ _ _ _ c.eq-else-eq-3.ensures c.as_slice-else-eq-3.ensures c.if-eq-4.false) (later _ _ _ _ (tested _ _ _ _ _ c.eq-else-eq-4.ensures c.as_slice-else-eq-4.ensures c.if-eq-5.false) (later _ _ _ _ (tested _ _ _ _ _ c.eq-else-eq-5.ensures c.as_slice-else-eq-5.ensures c.if-eq-6.false) (later _ _ _ _ (sym c.is_word.ensures ∙ c.if-is_word.false) (ap Row c.requires)))))))

pub returns-then-eq-clause-measurable : goal.returns-then-eq-clause-measurable
returns-then-eq-clause-measurable c = measurable_tail c.args.word.now c.args.operands.now

pub returns-then-eq-2-clause-measurable : goal.returns-then-eq-2-clause-measurable
returns-then-eq-2-clause-measurable c = measurable_tail c.args.word.now c.args.operands.now

pub returns-then-eq-3-clause-measurable : goal.returns-then-eq-3-clause-measurable
returns-then-eq-3-clause-measurable c = measurable_tail c.args.word.now c.args.operands.now

pub returns-then-eq-4-clause-measurable : goal.returns-then-eq-4-clause-measurable
returns-then-eq-4-clause-measurable c = measurable_tail c.args.word.now c.args.operands.now

pub returns-then-eq-5-clause-measurable : goal.returns-then-eq-5-clause-measurable
returns-then-eq-5-clause-measurable c = measurable_tail c.args.word.now c.args.operands.now

pub returns-then-eq-6-clause-measurable : goal.returns-then-eq-6-clause-measurable
returns-then-eq-6-clause-measurable c = measurable_tail c.args.word.now c.args.operands.now

pub returns-else-is_word-clause-measurable : goal.returns-else-is_word-clause-measurable
returns-else-is_word-clause-measurable c = subst AreMeasurable (sym c.requires)
