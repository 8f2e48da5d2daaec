use Rattle.std.proofs.Common.{ℕ, ◌^◌, ◌<◌, inl, inr, arith}
use Rattle.std.proofs.lemmas.Bool.{cases_eq, cases_lt}
use Rattle.std.proofs.lemmas.Nat.Bits.{bit_at_above}
use Rattle.std.specs.Int.{bit_at}
use Rattle.dependence.specs.SufficientBits.{InWord}
use Rattle.least_codes.specs.Laws.Chosen.{least_reads_are_one}
use Rattle.least_codes.proofs.Deciding.{Decided}
use Rattle.least_codes.proofs.Seeking.{least_reads_exist}
use Rattle.least_codes.proofs.laws.least_reads_are_one.Goals as goal

pub returns-clause-one : goal.returns-clause-one
returns-clause-one c = least_reads_are_one

in_word_decided : (word c : ℕ) → Decided (InWord word c)
in_word_decided word c = cases_eq (bit_at word c) 1

in_word_below : (word bits : ℕ) → word < 2 ^ bits → (c : ℕ) → InWord word c → c < bits
in_word_below word bits small c is = elim (cases_lt c bits) [ inl below ↦ below | inr above ↦ absurd (omega (arith, is, bit_at_above word bits c small above)) ]

pub returns-clause-exist : goal.returns-clause-exist
returns-clause-exist c F words candidates value small permits = least_reads_exist (InWord candidates) (in_word_decided candidates) 64 (in_word_below candidates 64 small) F words value permits
