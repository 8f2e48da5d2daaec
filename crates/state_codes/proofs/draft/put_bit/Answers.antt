use Rattle.std.proofs.Common.{◌≡◌, ◌∙◌, ℕ, List, ◌++◌, length, take, drop, refl, ap, arith}
use Rattle.std.proofs.lemmas.List.{append-nil, drop_all, take_all}
use Rattle.state_codes.proofs.draft.put_bit.Goals as goal

-- a list that is written over a whole list of its length
written_over : (k : ℕ) (new old : List ℕ) → length new ≡ length old → k ≡ length old → take k (new ++ drop (length new) old) ≡ new
written_over k new old size full =
    ap (λ (rest : List ℕ). take k (new ++ rest)) (drop_all (length new) old (omega (arith, size))) ∙ ap (take k) (append-nil new) ∙ take_all k new (omega (arith, size, full))

pub set_bits-requires-clause-length : goal.set_bits-requires-clause-length
set_bits-requires-clause-length c = ap length c.as_mut_slice.ensures.value ∙ c.requires.length

pub overflow_add-draft : goal.overflow_add-draft
overflow_add-draft c = omega (arith, c.requires.room)

pub returns-clause-bits : goal.returns-clause-bits
returns-clause-bits c = refl

pub returns-clause-states : goal.returns-clause-states
returns-clause-states c =
    let size : length c.set_bits.new.words ≡ length c.args.draft.now.words.items = c.set_bits.auto.words ∙ ap length c.as_mut_slice.ensures.value in
    ap length (written_over c.args.draft.now.words.len c.set_bits.new.words c.args.draft.now.words.items size c.args.draft.now.words.ok.0) ∙ size
