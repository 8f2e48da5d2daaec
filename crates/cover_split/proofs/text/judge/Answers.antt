use Rattle.std.proofs.Common.{◌≡◌, ℕ, ◌<◌, List, [], length, inr, sym, ◌∙◌, subst, arith}
use Rattle.std.proofs.lemmas.Bool.{false≢true}
use Rattle.cover_split.specs.StateCover.{IsInSomeBlock, block_at}
use Rattle.cover_split.specs.Inner.Holders.{AreHoldersOf}
use Rattle.cover_split.specs.Refusal.{IsFirstMissing}
use Rattle.cover_split.proofs.Holding.{covered_from_some, first_missing_from}
use Rattle.cover_split.proofs.text.judge.Goals as goal

-- no state is missing
whole : (blocks lists read : List (List ℕ)) (n : ℕ) → AreHoldersOf blocks n lists → read ≡ lists → ((t : ℕ) → t < length read → 0 < length (block_at read t)) → (s : ℕ) → s < n → IsInSomeBlock blocks s
whole blocks lists read n are same none s within =
    let held = subst (λ (xs : List (List ℕ)). (t : ℕ) → t < length xs → 0 < length (block_at xs t)) same none in
    covered_from_some blocks n lists are s within (held s (omega (arith, are.size)))

-- one is
missing : (blocks lists read : List (List ℕ)) (n s : ℕ) → AreHoldersOf blocks n lists → read ≡ lists
    → (s < length read) × ((t : ℕ) → t < s → 0 < length (block_at read t)) × (block_at read s ≡ []) → IsFirstMissing n blocks s
missing blocks lists read n s are same found =
    let it = subst (λ (xs : List (List ℕ)). (s < length xs) × ((t : ℕ) → t < s → 0 < length (block_at xs t)) × (block_at xs s ≡ [])) same found in
    first_missing_from blocks n lists are s (omega (arith, it.0, are.size)) it.1 it.2

pub returns-in-Some-first_missing-clause-err : goal.returns-in-Some-first_missing-clause-err
returns-in-Some-first_missing-clause-err c =
    inr (c.in_default.ensures.none, missing c.args.blocks.now c.in_ok-holders.holders.items c.as_slice-2.result.now c.args.n c.in-Some-first_missing.state c.in_ok-holders.ensures c.as_slice-2.ensures.value c.in-Some-first_missing.ensures.some)

pub returns-then-found-gt-MOST_PLACES-clause-err : goal.returns-then-found-gt-MOST_PLACES-clause-err
returns-then-found-gt-MOST_PLACES-clause-err c =
    inr (
      record {
        apart = c.in_default.ensures.none;
        whole = whole c.args.blocks.now c.in_ok-holders.holders.items c.as_slice-2.result.now c.args.n c.in_ok-holders.ensures c.as_slice-2.ensures.value c.in_default-first_missing.ensures.none;
      },
      c.if-found-gt-MOST_PLACES.true,
      c.places-found.ensures,
    )

pub returns-then-is_trivial-clause-err : goal.returns-then-is_trivial-clause-err
returns-then-is_trivial-clause-err c =
    inr (
      record {
        apart = c.in_default.ensures.none;
        whole = whole c.args.blocks.now c.in_ok-holders.holders.items c.as_slice-2.result.now c.args.n c.in_ok-holders.ensures c.as_slice-2.ensures.value c.in_default-first_missing.ensures.none;
      },
      omega (arith, c.places-found.ensures, c.if-found-gt-MOST_PLACES.false),
      c.is_trivial.ensures.0 c.if-is_trivial.true,
    )

pub returns-clause-ok : goal.returns-clause-ok
returns-clause-ok c = record {
  count = c.requires.count;
  lawful = c.requires.lawful;
  apart = c.in_default.ensures.none;
  each = whole c.args.blocks.now c.in_ok-holders.holders.items c.as_slice-2.result.now c.args.n c.in_ok-holders.ensures c.as_slice-2.ensures.value c.in_default-first_missing.ensures.none;
  few = omega (arith, c.places-found.ensures, c.if-found-gt-MOST_PLACES.false);
  rich = λ trivial. false≢true (sym c.if-is_trivial.false ∙ c.is_trivial.ensures.1 trivial);
}
