use Rattle.std.proofs.Common.{◌≡◌, Ok, ap, ◌∙◌, refl, sym, subst}
use Rattle.answers.specs.Delivery.{LinePut}
use Rattle.answers.specs.declared.refusals.Refusal.TheVariants.{More, NoMemory, Unwritable}
use Rattle.answers.specs.declared.reports.Page.TheVariants.{Evidence, Whole}
use Rattle.answers.proofs.delivery.deliver.Goals as goal
use Rattle.answers.proofs.Delivering.{cut_evidence, cut_whole, shown, wanting}
use Rattle.hs_texts.specs.ErrLines.{more_line}

pub returns-in-Ok-Whole-clause-refused : goal.returns-in-Ok-Whole-clause-refused
returns-in-Ok-Whole-clause-refused g c = λ undone.
    let is : c.args.made ≡ Ok (Whole c.in-Ok-Whole.text) = cc in
    (Unwritable, sym c.answer.ensures.answer, cut_whole _ _ _ _ _ _ is c.as_slice.ensures c.in-Err-put_text.ensures.some c.in-Err-put_text.ensures.front c.in-Err-put_text.ensures.failed, c.answer.ensures.line)

pub returns-in_default-clause-refused : goal.returns-in_default-clause-refused
returns-in_default-clause-refused g c = λ undone.
    let is : c.args.made ≡ Ok (Evidence c.in-Ok-Evidence.text c.in-Ok-Evidence.limit) = cc in
    (NoMemory, sym c.answer-in_default.ensures.answer, wanting _ _ _ _ _ _ is, c.answer-in_default.ensures.line)

pub returns-in-Ok-put_text-clause-refused : goal.returns-in-Ok-put_text-clause-refused
returns-in-Ok-put_text-clause-refused g c = λ undone.
    let is : c.args.made ≡ Ok (Evidence c.in-Ok-Evidence.text c.in-Ok-Evidence.limit) = cc in
    let made : c.as_slice-in-Ok-put_text.result.now ≡ more_line c.in-Ok-Evidence.limit = c.as_slice-in-Ok-put_text.ensures.value ∙ c.in-Ok-more.ensures in
    (More c.in-Ok-Evidence.limit, sym c.answer-in-Ok-put_text.ensures.answer, shown _ _ _ _ _ _ _ is c.as_slice-in-Ok-Evidence.ensures c.in-Ok-put_text.ensures.whole, rw made at c.answer-in-Ok-put_text.ensures.line)

pub returns-in-Ok-Evidence-clause-refused : goal.returns-in-Ok-Evidence-clause-refused
returns-in-Ok-Evidence-clause-refused g c = λ undone.
    let is : c.args.made ≡ Ok (Evidence c.in-Ok-Evidence.text c.in-Ok-Evidence.limit) = cc in
    (Unwritable, sym c.answer-in-Err-put_text-2.ensures.answer, cut_evidence _ _ _ _ _ _ _ is c.as_slice-in-Ok-Evidence.ensures c.in-Err-put_text-2.ensures.some c.in-Err-put_text-2.ensures.front c.in-Err-put_text-2.ensures.failed, c.answer-in-Err-put_text-2.ensures.line)
