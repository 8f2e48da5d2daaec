use Rattle.std.proofs.Common.{inl, inr, refl, ap, arith}
use Rattle.std.proofs.lemmas.Result.{err_from_is_err_and}
use Rattle.answers.specs.declared.refusals.Refusal.TheVariants.{StateCount}
use Rattle.split_texts.proofs.plans.least.Goals as goal

pub returns-then-states-lt3 : goal.returns-then-states-lt3
returns-then-states-lt3 c = λ text.
    let count = c.states-states.ensures.count in
    (inr (ap StateCount count, elim c.then-states-lt3.either [ inl few ↦ inl (omega (arith, few, count)) | inr many ↦ inr (omega (arith, many.1, count)) ]))

pub split-requires-clause-some : goal.split-requires-clause-some
split-requires-clause-some c = omega (arith, c.if-states-lt3.false, c.states-states.ensures.count)

pub returns-in_err-split : goal.returns-in_err-split
returns-in_err-split c = λ text. let p = err_from_is_err_and c.from_residual.result c.from_residual.ensures.1 in rw (p.1, p.2) (inl refl)

pub returns : goal.returns
returns c = λ text.
    let count = c.states-states.ensures.count in (
      λ refusal other. elim other.1 [ inl few ↦ absurd (omega (arith, few, count, c.if-states-lt3.false)) | inr many ↦ absurd (omega (arith, many, count, c.if-states-gt8.false)) ],
      record {
        same_kind = c.in_ok-split.ensures.kind;
        few = c.in_ok-split.ensures.few;
        lawful = c.in_ok-split.ensures.lawful;
        made = record { asked = c.in_ok-split.ensures.least; best = tt; choice = c.in_ok-split.ensures.code };
      },
    )
