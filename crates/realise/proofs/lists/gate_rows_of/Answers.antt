use Rattle.std.proofs.Common.{◌≡◌, ℕ, ◌∙◌, All, List, length, ap, subst}
use Rattle.std.proofs.lemmas.Result.{IfOk-weaker}
use Rattle.gate_rows.specs.Columns.{column_count}
use Rattle.realise.proofs.AskedRows.{are_apart_at, can_be_read_at, gives_cover_at}
use Rattle.realise.proofs.lists.gate_rows_of.Goals as goal

pub demanded_rows-requires-clause-read : goal.demanded_rows-requires-clause-read
demanded_rows-requires-clause-read c =
    can_be_read_at c.args.m.now c.args.words.now c.args.bits c.args.set.now c.args.bit c.args.filled.now c.requires.filled c.requires.within c.requires.bit
    c.as_slice.result.now c.as_slice-2.result.now c.deref.result.now c.as_slice.ensures c.as_slice-2.ensures (c.deref.ensures.value ∙ c.in_ok-demands.ensures)
    c.keeps_its_states.ensures.table.inputs c.requires.short

pub demanded_rows-requires-clause-apart : goal.demanded_rows-requires-clause-apart
demanded_rows-requires-clause-apart c =
    are_apart_at c.args.m.now c.args.words.now c.args.bits c.args.set.now c.args.bit c.args.filled.now c.requires.filled c.requires.within c.requires.bit
    c.as_slice.result.now c.as_slice-2.result.now c.deref.result.now c.as_slice.ensures c.as_slice-2.ensures (c.deref.ensures.value ∙ c.in_ok-demands.ensures)
    c.requires.enough

pub returns-clause-cover : goal.returns-clause-cover
returns-clause-cover c =
    IfOk-weaker c.demanded_rows.result _ _
    (gives_cover_at c.args.m.now c.args.words.now c.args.bits c.args.set.now c.args.bit c.args.filled.now c.requires.filled c.requires.within c.requires.bit
    c.as_slice.result.now c.as_slice-2.result.now c.deref.result.now c.as_slice.ensures c.as_slice-2.ensures (c.deref.ensures.value ∙ c.in_ok-demands.ensures))
    c.demanded_rows.ensures.cover

pub returns-clause-widths : goal.returns-clause-widths
returns-clause-widths c =
    IfOk-weaker c.demanded_rows.result _ _
    (λ names long. subst (λ (n : ℕ). All (λ row. length row ≡ n) names)
    (ap (λ (list : List ℕ). column_count list c.as_slice-2.result.now) c.as_slice.ensures ∙ ap (column_count c.args.set.now.inputs) c.as_slice-2.ensures) long)
    c.demanded_rows.ensures.widths
