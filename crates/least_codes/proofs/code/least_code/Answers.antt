use Rattle.std.proofs.Common.{◌≡◌, ◌∙◌, ℕ, List, Option, get_or, length, replicate, ap, inl, inr, subst, sym, arith}
use Rattle.std.proofs.lemmas.Bool.{cases_lt}
use Rattle.std.proofs.lemmas.List.{get_or-replicate, get_or_past, length-replicate}
use Rattle.kiss_file.specs.declared.file.KissFile.{KissFile}
use Rattle.state_codes.specs.Code.{need}
use Rattle.least_codes.specs.declared.code.Best.{Best}
use Rattle.least_codes.specs.declared.table.Images.{Images}
use Rattle.least_codes.specs.Inner.Lists.{AreSeen, IsBestSeen}
use Rattle.least_codes.specs.Inner.Table.{IsImageTable}
use Rattle.least_codes.proofs.Least.{best_is_least, best_zero, draft_begun, some_kept}
use Rattle.least_codes.proofs.code.least_code.Goals as goal

-- so many zeros
zero_at : (words : List ℕ) (n : ℕ) → words ≡ replicate n 0 → (s : ℕ) → get_or words s 0 ≡ 0
zero_at words n is s =
    ap (λ (list : List ℕ). get_or list s 0) is ∙ elim (cases_lt s n) [
      | inl within ↦ get_or-replicate n s 0 0 within
      | inr past ↦ get_or_past (replicate n 0) s 0 (omega (arith, past, length-replicate {A = ℕ} n 0))
    ]

-- what is kept in the end
kept_here : (F : KissFile) (n bits : ℕ) (table lent : List Images) (words : List ℕ) (best : Option Best) → n ≡ length F.states → bits ≡ need n → IsImageTable F table → lent ≡ table → length words ≡ n
    → ((G : KissFile) → IsImageTable G lent → length G.states ≡ length words → IsBestSeen G bits (AreSeen words 1 0) best) → IsBestSeen F (need (length F.states)) (AreSeen words 1 0) best
kept_here F n bits table lent words best size needed of same long kept =
    subst (λ (b : ℕ). IsBestSeen F b (AreSeen words 1 0) best) (needed ∙ ap need size) (kept F (subst (IsImageTable F) (sym same) of) (sym size ∙ sym long))

pub try_codes-requires-clause-draft : goal.try_codes-requires-clause-draft
try_codes-requires-clause-draft c =
    draft_begun c.as_mut_slice.result.now (zero_at c.as_mut_slice.result.now c.states-n.result (c.as_mut_slice.ensures.value ∙ c.in_ok-words.ensures.items_if_clones_equal (λ y is. is)))
    c.bits_for.result (omega (arith, c.as_mut_slice.ensures.len, c.in_ok-words.ensures.len, c.states-n.ensures.count, c.requires.some))

pub unreachable-requires : goal.unreachable-requires
unreachable-requires c =
    let F : KissFile = c.args.m.now in
    let words : List ℕ = c.as_mut_slice.result.now in
    some_kept words (zero_at words c.states-n.result (c.as_mut_slice.ensures.value ∙ c.in_ok-words.ensures.items_if_clones_equal (λ y is. is))) F (omega (arith, c.requires.some))
    (subst (IsBestSeen F (need (length F.states)) (AreSeen words 1 0)) c.in-None.is
    (kept_here F c.states-n.result c.bits_for.result c.in_ok-table.table.items c.as_slice.result.now words c.try_codes.new.best c.states-n.ensures.count c.bits_for.ensures.need c.in_ok-table.ensures c.as_slice.ensures.value
    (omega (arith, c.as_mut_slice.ensures.len, c.in_ok-words.ensures.len)) c.in_ok-try_codes.ensures.kept))

pub returns-clause-least : goal.returns-clause-least
returns-clause-least c =
    let F : KissFile = c.args.m.now in
    let words : List ℕ = c.as_mut_slice.result.now in
    best_is_least words (zero_at words c.states-n.result (c.as_mut_slice.ensures.value ∙ c.in_ok-words.ensures.items_if_clones_equal (λ y is. is))) F (omega (arith, c.requires.some)) c.in-Some.best
    (subst (IsBestSeen F (need (length F.states)) (AreSeen words 1 0)) c.in-Some.is
    (kept_here F c.states-n.result c.bits_for.result c.in_ok-table.table.items c.as_slice.result.now words c.try_codes.new.best c.states-n.ensures.count c.bits_for.ensures.need c.in_ok-table.ensures c.as_slice.ensures.value
    (omega (arith, c.as_mut_slice.ensures.len, c.in_ok-words.ensures.len)) c.in_ok-try_codes.ensures.kept))
    c.keeps_its_states.ensures.next

pub returns-clause-zero : goal.returns-clause-zero
returns-clause-zero c =
    let F : KissFile = c.args.m.now in
    let words : List ℕ = c.as_mut_slice.result.now in
    best_zero words (zero_at words c.states-n.result (c.as_mut_slice.ensures.value ∙ c.in_ok-words.ensures.items_if_clones_equal (λ y is. is))) F (omega (arith, c.requires.some)) c.in-Some.best
    (subst (IsBestSeen F (need (length F.states)) (AreSeen words 1 0)) c.in-Some.is
    (kept_here F c.states-n.result c.bits_for.result c.in_ok-table.table.items c.as_slice.result.now words c.try_codes.new.best c.states-n.ensures.count c.bits_for.ensures.need c.in_ok-table.ensures c.as_slice.ensures.value
    (omega (arith, c.as_mut_slice.ensures.len, c.in_ok-words.ensures.len)) c.in_ok-try_codes.ensures.kept))
