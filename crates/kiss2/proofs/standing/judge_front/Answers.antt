use Rattle.std.proofs.Common.{◌≡◌, true, false, length, ltb, ap, sym, ◌∙◌, arith}
use Rattle.std.proofs.lemmas.Result.{err_from_is_err_and}
use Rattle.kiss2.specs.Words.{current_field, input_field, is_character_field, is_open, next_field}
use Rattle.kiss2.proofs.Front.{long_current, long_next, no_inputs, no_outputs, open_next, short_next}
use Rattle.kiss2.proofs.standing.judge_front.Goals as goal

pub returns-in_default-clause-bad : goal.returns-in_default-clause-bad
returns-in_default-clause-bad c states = no_outputs c.args.inputs c.args.outputs c.args.rows states c.args.line.now c.in_default.is-1

pub returns-in_default-2-clause-bad : goal.returns-in_default-2-clause-bad
returns-in_default-2-clause-bad c states = no_inputs c.args.inputs c.args.outputs c.args.rows states c.args.line.now c.in_default.is-0

pub returns-in_err-judge_length-clause-bad : goal.returns-in_err-judge_length-clause-bad
returns-in_err-judge_length-clause-bad c =
    let p = err_from_is_err_and c.from_residual.result c.from_residual.ensures.1 in
    let line = c.args.line.now in
    let i = c.in-Some-Some.inputs in
    let four : length line.fields ≡ 4 = omega (arith, ap length c.as_slice.ensures) in
    let cube : is_character_field i (input_field line) ≡ true = ap (is_character_field i) (sym c.field_of.ensures) ∙ (sym c.has_characters.ensures ∙ c.if-not-has_characters.false) in
    let named : is_open (current_field line) ≡ false = ap is_open (sym c.field_of-2.ensures) ∙ (sym c.is_open_field.ensures ∙ c.if-is_open_field.false) in
    let long : ltb 64 (length (current_field line)) ≡ true = ap (λ field. ltb 64 (length field)) (sym c.field_of-3.ensures) ∙ c.in_err-judge_length.ensures.0 in
    rw (p.1, p.2)
    (λ states.
    rw (c.in-Some-Some.is-0, c.in-Some-Some.is-1, c.in_err-judge_length.ensures.1, c.field_of-3.ensures)
    (long_current i c.in-Some-Some.outputs c.args.rows line four c.if-rows-ge65536.false cube named states long))

pub returns-in_err-judge_length-2-clause-bad : goal.returns-in_err-judge_length-2-clause-bad
returns-in_err-judge_length-2-clause-bad c =
    let p = err_from_is_err_and c.from_residual-in_err-judge_length-2.result c.from_residual-in_err-judge_length-2.ensures.1 in
    let line = c.args.line.now in
    let i = c.in-Some-Some.inputs in
    let four : length line.fields ≡ 4 = omega (arith, ap length c.as_slice.ensures) in
    let cube : is_character_field i (input_field line) ≡ true = ap (is_character_field i) (sym c.field_of.ensures) ∙ (sym c.has_characters.ensures ∙ c.if-not-has_characters.false) in
    let named : is_open (current_field line) ≡ false = ap is_open (sym c.field_of-2.ensures) ∙ (sym c.is_open_field.ensures ∙ c.if-is_open_field.false) in
    let short : ltb 64 (length (current_field line)) ≡ false = ap (λ field. ltb 64 (length field)) (sym c.field_of-3.ensures) ∙ c.in_ok-judge_length.ensures in
    let next : is_open (next_field line) ≡ false = ap is_open (sym c.field_of-4.ensures) ∙ (sym c.is_open_field-2.ensures ∙ c.if-not-is_open_field.true) in
    let long : ltb 64 (length (next_field line)) ≡ true = ap (λ field. ltb 64 (length field)) (sym c.field_of-then-not-is_open_field.ensures) ∙ c.in_err-judge_length-2.ensures.0 in
    rw (p.1, p.2)
    (λ states.
    rw (c.in-Some-Some.is-0, c.in-Some-Some.is-1, c.in_err-judge_length-2.ensures.1, c.field_of-then-not-is_open_field.ensures)
    (long_next i c.in-Some-Some.outputs c.args.rows line four c.if-rows-ge65536.false cube named states short next long))

pub returns-in_ok-judge_length-2-clause-good : goal.returns-in_ok-judge_length-2-clause-good
returns-in_ok-judge_length-2-clause-good c states =
    let line = c.args.line.now in
    let i = c.in-Some-Some.inputs in
    let four : length line.fields ≡ 4 = omega (arith, ap length c.as_slice.ensures) in
    let cube : is_character_field i (input_field line) ≡ true = ap (is_character_field i) (sym c.field_of.ensures) ∙ (sym c.has_characters.ensures ∙ c.if-not-has_characters.false) in
    let named : is_open (current_field line) ≡ false = ap is_open (sym c.field_of-2.ensures) ∙ (sym c.is_open_field.ensures ∙ c.if-is_open_field.false) in
    let short : ltb 64 (length (current_field line)) ≡ false = ap (λ field. ltb 64 (length field)) (sym c.field_of-3.ensures) ∙ c.in_ok-judge_length.ensures in
    let next : is_open (next_field line) ≡ false = ap is_open (sym c.field_of-4.ensures) ∙ (sym c.is_open_field-2.ensures ∙ c.if-not-is_open_field.true) in
    let small : ltb 64 (length (next_field line)) ≡ false = ap (λ field. ltb 64 (length field)) (sym c.field_of-then-not-is_open_field.ensures) ∙ c.in_ok-judge_length-2.ensures in
    rw (c.in-Some-Some.is-0, c.in-Some-Some.is-1) (short_next i c.in-Some-Some.outputs c.args.rows line four c.if-rows-ge65536.false cube named states short next small)

pub returns-else-not-is_open_field-clause-good : goal.returns-else-not-is_open_field-clause-good
returns-else-not-is_open_field-clause-good c states =
    let line = c.args.line.now in
    let i = c.in-Some-Some.inputs in
    let four : length line.fields ≡ 4 = omega (arith, ap length c.as_slice.ensures) in
    let cube : is_character_field i (input_field line) ≡ true = ap (is_character_field i) (sym c.field_of.ensures) ∙ (sym c.has_characters.ensures ∙ c.if-not-has_characters.false) in
    let named : is_open (current_field line) ≡ false = ap is_open (sym c.field_of-2.ensures) ∙ (sym c.is_open_field.ensures ∙ c.if-is_open_field.false) in
    let short : ltb 64 (length (current_field line)) ≡ false = ap (λ field. ltb 64 (length field)) (sym c.field_of-3.ensures) ∙ c.in_ok-judge_length.ensures in
    let next : is_open (next_field line) ≡ true = ap is_open (sym c.field_of-4.ensures) ∙ (sym c.is_open_field-2.ensures ∙ c.if-not-is_open_field.false) in
    rw (c.in-Some-Some.is-0, c.in-Some-Some.is-1) (open_next i c.in-Some-Some.outputs c.args.rows line four c.if-rows-ge65536.false cube named states short next)
