use Rattle.std.proofs.Common.{◌≡◌, ◌∙◌, ℕ, ◌+◌, ◌*◌, ◌%◌, ◌^◌, ◌<◌, All, List, Result, Ok, Err, OnOk, bit_or, get_or, length, set, ap, subst, sym, arith}
use Rattle.std.proofs.lemmas.Bool.{true≢false}
use Rattle.std.proofs.lemmas.List.{set-get_or, set-set}
use Rattle.kiss_file.specs.declared.file.KissFile.{KissFile}
use Rattle.least_codes.specs.Inner.Lists.{AreBefore, AreSeen, IsDraft, IsBestWith, IsBestSeen}
use Rattle.least_codes.specs.Inner.Table.{IsInside, IsImageTable}
use Rattle.least_codes.proofs.Trying.{draft_next, draft_one, draft_whole, draft_zero, is_with_one, judged_kept, kept_back, kept_both, kept_next, kept_one, kept_zero, used_kept, whole_before, whole_seen, with_one, with_one_length}
use Rattle.least_codes.proofs.code.+try_codes.Goals as goal

on_ok : {T E : Type 0} → (r : Result T E) (P Q : Type 0) → (P → Q) → OnOk r P → OnOk r Q
on_ok (Ok x) P Q more is = more is
on_ok (Err e) P Q more is = tt

-- the codes are whole
pub returns-then-s-words-clause-kept : goal.returns-then-s-words-clause-kept
returns-then-s-words-clause-kept t c =
    on_ok c.judge.result (IsBestWith c.args.table.now c.args.bits c.args.words.now c.args.best.now c.judge.new.best)
    ((F : KissFile) → IsImageTable F c.args.table.now → length F.states ≡ length c.args.words.now → IsBestSeen F c.args.bits (AreSeen c.args.words.now c.args.s c.args.i) c.judge.new.best)
    (λ judged F of size.
    whole_seen F c.args.bits c.args.words.now size c.args.s c.args.i c.if-s-words.true c.judge.new.best
    (judged_kept F c.args.bits c.args.words.now size (draft_whole F c.args.bits c.args.words.now size c.args.s c.args.i c.if-s-words.true c.requires.draft) judged.0 c.args.best.now c.judge.new.best
    (judged.1 F of size) judged.2
    (whole_before F c.args.bits c.args.words.now size c.args.s c.args.i c.if-s-words.true c.args.best.now (c.requires.kept F of size))))
    c.judge.ensures

-- the code of state s is whole
pub returns-then-is_used-clause-kept : goal.returns-then-is_used-clause-kept
returns-then-is_used-clause-kept t c F of size =
    subst (λ (k : ℕ). IsBestSeen F c.args.bits (AreSeen c.args.words.now c.args.s k) c.args.best.now) (sym c.if-i-bits.true)
    (used_kept F c.args.bits c.args.words.now size c.args.s (omega (arith, c.requires.draft.state, c.if-s-words.false))
    (subst (λ (k : ℕ). IsDraft c.args.bits c.args.words.now c.args.s k) c.if-i-bits.true c.requires.draft) (c.is_used.ensures.0 c.if-is_used.true) c.args.best.now
    (subst (λ (k : ℕ). IsBestSeen F c.args.bits (AreBefore c.args.words.now c.args.s k) c.args.best.now) c.if-i-bits.true (c.requires.kept F of size)))

pub try_codes-requires : goal.try_codes-requires
try_codes-requires t c =
    let within : c.args.s < length c.args.words.now = omega (arith, c.requires.draft.state, c.if-s-words.false) in
    let whole : IsDraft c.args.bits c.args.words.now c.args.s c.args.bits = subst (λ (k : ℕ). IsDraft c.args.bits c.args.words.now c.args.s k) c.if-i-bits.true c.requires.draft in (
      omega (arith, c.decreases, within, c.requires.bits, c.if-i-bits.true),
      (
        c.requires.bits,
        (
          c.requires.inside,
          (
            draft_next c.args.bits c.args.words.now c.args.s within whole (λ used. true≢false (sym (c.is_used.ensures.1 used) ∙ c.if-is_used.false)),
            (λ F of size. kept_next F c.args.bits c.args.words.now size c.args.s within whole c.args.best.now
                (subst (λ (k : ℕ). IsBestSeen F c.args.bits (AreBefore c.args.words.now c.args.s k) c.args.best.now) c.if-i-bits.true (c.requires.kept F of size))),
          ),
        ),
      ),
    )

pub returns-then-i-bits-clause-kept : goal.returns-then-i-bits-clause-kept
returns-then-i-bits-clause-kept t c =
    let within : c.args.s < length c.args.words.now = omega (arith, c.requires.draft.state, c.if-s-words.false) in
    let whole : IsDraft c.args.bits c.args.words.now c.args.s c.args.bits = subst (λ (k : ℕ). IsDraft c.args.bits c.args.words.now c.args.s k) c.if-i-bits.true c.requires.draft in
    on_ok c.try_codes.result
    ((F : KissFile) → IsImageTable F c.args.table.now → length F.states ≡ length c.args.words.now → IsBestSeen F c.args.bits (AreSeen c.args.words.now (c.args.s + 1) 0) c.try_codes.new.best)
    ((F : KissFile) → IsImageTable F c.args.table.now → length F.states ≡ length c.args.words.now → IsBestSeen F c.args.bits (AreSeen c.args.words.now c.args.s c.args.i) c.try_codes.new.best)
    (λ kept F of size. subst (λ (k : ℕ). IsBestSeen F c.args.bits (AreSeen c.args.words.now c.args.s k) c.try_codes.new.best) (sym c.if-i-bits.true)
    (kept_back F c.args.bits c.args.words.now size c.args.s within whole c.try_codes.new.best (kept F of size)))
    c.try_codes.ensures.kept

-- the code has a 0 next
pub try_codes-requires-2 : goal.try_codes-requires-2
try_codes-requires-2 t c =
    let below : c.args.i < c.args.bits = omega (arith, c.requires.draft.bit, c.if-i-bits.false) in (
      omega (arith, c.decreases, below),
      (
        c.requires.bits,
        (
          c.requires.inside,
          (
            draft_zero c.args.bits c.args.words.now c.args.s c.args.i below c.requires.draft,
            (λ F of size. kept_zero F c.args.bits c.args.words.now c.args.s c.args.i c.requires.draft c.args.best.now (c.requires.kept F of size)),
          ),
        ),
      ),
    )

-- the words with a 1 next, which the code makes of those that it has back
one_next : (words back : List ℕ) (s i : ℕ) → back ≡ words → set back s (bit_or (get_or back s 0) (1 * 2 ^ i % 2 ^ 64)) ≡ with_one words s i
one_next words back s i same = ap (λ (list : List ℕ). set list s (bit_or (get_or list s 0) (1 * 2 ^ i % 2 ^ 64))) same ∙ sym (is_with_one words s i)

pub try_codes-requires-3 : goal.try_codes-requires-3
try_codes-requires-3 t c =
    let words : List ℕ = c.args.words.now in
    let within : c.args.s < length words = omega (arith, c.requires.draft.state, c.if-s-words.false) in
    let below : c.args.i < c.args.bits = omega (arith, c.requires.draft.bit, c.if-i-bits.false) in
    let small : c.args.i < 64 = omega (arith, below, c.requires.bits) in
    let same : set c.try_codes-2.new.words c.args.s (bit_or (get_or c.try_codes-2.new.words c.args.s 0) (1 * 2 ^ c.args.i % 2 ^ 64)) ≡ with_one words c.args.s c.args.i = one_next words c.try_codes-2.new.words c.args.s c.args.i c.in_ok-try_codes.ensures.words in
    let size_same : length (set c.try_codes-2.new.words c.args.s (bit_or (get_or c.try_codes-2.new.words c.args.s 0) (1 * 2 ^ c.args.i % 2 ^ 64))) ≡ length words = ap (λ (list : List ℕ). length list) same ∙ with_one_length words c.args.s c.args.i within small in (
      omega (arith, c.decreases, below, size_same),
      (
        c.requires.bits,
        (
          subst (λ (n : ℕ). All (IsInside n) c.args.table.now) (sym size_same) c.requires.inside,
          (
            subst (λ (list : List ℕ). IsDraft c.args.bits list c.args.s (c.args.i + 1)) (sym same) (draft_one words c.args.s c.args.i within small c.args.bits below c.requires.draft),
            (λ F of size. subst (λ (list : List ℕ). IsBestSeen F c.args.bits (AreBefore list c.args.s (c.args.i + 1)) c.try_codes-2.new.best) (sym same)
                (kept_one words c.args.s c.args.i within small F c.args.bits c.requires.draft c.try_codes-2.new.best (c.in_ok-try_codes.ensures.kept F of (size ∙ size_same)))),
          ),
        ),
      ),
    )

pub returns-clause-words : goal.returns-clause-words
returns-clause-words t c =
    let back : List ℕ = c.try_codes-2.new.words in
    let one : ℕ = bit_or (get_or back c.args.s 0) (1 * 2 ^ c.args.i % 2 ^ 64) in
    ap (λ (list : List ℕ). set list c.args.s (get_or back c.args.s 0)) c.in_ok-try_codes-2.ensures.words ∙ set-set back c.args.s one (get_or back c.args.s 0) ∙ set-get_or back c.args.s 0 ∙ c.in_ok-try_codes.ensures.words

pub returns-clause-kept : goal.returns-clause-kept
returns-clause-kept t c F of size =
    let words : List ℕ = c.args.words.now in
    let within : c.args.s < length words = omega (arith, c.requires.draft.state, c.if-s-words.false) in
    let below : c.args.i < c.args.bits = omega (arith, c.requires.draft.bit, c.if-i-bits.false) in
    let small : c.args.i < 64 = omega (arith, below, c.requires.bits) in
    let same : set c.try_codes-2.new.words c.args.s (bit_or (get_or c.try_codes-2.new.words c.args.s 0) (1 * 2 ^ c.args.i % 2 ^ 64)) ≡ with_one words c.args.s c.args.i = one_next words c.try_codes-2.new.words c.args.s c.args.i c.in_ok-try_codes.ensures.words in
    let size_same : length (set c.try_codes-2.new.words c.args.s (bit_or (get_or c.try_codes-2.new.words c.args.s 0) (1 * 2 ^ c.args.i % 2 ^ 64))) ≡ length words = ap (λ (list : List ℕ). length list) same ∙ with_one_length words c.args.s c.args.i within small in
    kept_both words c.args.s c.args.i within small F c.args.bits c.requires.draft c.try_codes-3.new.best
    (subst (λ (list : List ℕ). IsBestSeen F c.args.bits (AreSeen list c.args.s (c.args.i + 1)) c.try_codes-3.new.best) same (c.in_ok-try_codes-2.ensures.kept F of (size ∙ sym size_same)))
