use Rattle.std.proofs.Common.{◌≡◌, ℕ, List, length, Err, inl, ap, ◌∙◌, subst, arith, All, inr, sym}
use Rattle.state_codes.specs.Split.{IsPart}
use Rattle.std.proofs.lemmas.Option.{same_Some}
use Rattle.std.specs.Result.{result_err}
use Rattle.state_codes.specs.declared.CodeFail.TheVariants.{NotApart, CodeTooLong}
use Rattle.state_codes.specs.declared.split.Part.{Part}
use Rattle.state_codes.specs.declared.Codes.{Codes}
use Rattle.state_codes.specs.Code.{AreInside, places_of, IsLaidOut}
use Rattle.state_codes.specs.Fault.{AreApart, CodeFault, FirstTogether}
use Rattle.state_codes.specs.Laws.Places.{AreInside-length}
use Rattle.state_codes.specs.Laws.Codes.{codes_differ}
use Rattle.state_codes.proofs.Causes.{only_too_long, no_fault}
use Rattle.state_codes.proofs.encoder.encode.Goals as goal

pub length_of-bits-requires-clause-inners : goal.length_of-bits-requires-clause-inners
length_of-bits-requires-clause-inners c =
    ap (λ (list : List (List ℕ)). length list) c.as_slice-inners.ensures.value ∙ AreInside-length c.as_slice-parts.result.now c.in_ok-table.table.items c.in_ok-table.ensures

pub returns-then-bits-gt-MOST_BITS-clause-caused : goal.returns-then-bits-gt-MOST_BITS-clause-caused
returns-then-bits-gt-MOST_BITS-clause-caused c fail fault =
    let parts : List Part = c.args.split.now.parts in
    let same : c.as_slice-parts.result.now ≡ parts = c.as_slice-parts.ensures in
    let apart : AreApart c.args.n parts = subst (AreApart c.args.n) same c.in_default.ensures.none in
    let inside : AreInside parts c.as_slice-inners.result.now = subst (λ (list : List Part). AreInside list c.as_slice-inners.result.now) same (rw c.as_slice-inners.ensures.value c.in_ok-table.ensures) in
    let size : c.length_of-bits.result ≡ length (places_of 0 parts c.as_slice-inners.result.now) = c.length_of-bits.ensures ∙ ap (λ (list : List Part). length (places_of 0 list c.as_slice-inners.result.now)) same in
    inl (ap Err (only_too_long c.args.n parts c.as_slice-inners.result.now c.length_of-bits.result apart inside size fail fault))

pub returns-clause-distinct : goal.returns-clause-distinct
returns-clause-distinct c =
    let parts : List Part = c.args.split.now.parts in
    let codes : Codes = c.in_ok-written.field-0 in
    let inners : List (List ℕ) = c.as_slice-inners.result.now in
    let same : c.as_slice-parts.result.now ≡ parts = c.as_slice-parts.ensures in
    let apart : AreApart c.args.n parts = subst (AreApart c.args.n) same c.in_default.ensures.none in
    let inside : AreInside parts inners = subst (λ (list : List Part). AreInside list inners) same (rw c.as_slice-inners.ensures.value c.in_ok-table.ensures) in
    let written : IsLaidOut c.args.n (places_of 0 parts inners) codes.bits codes.words codes.owner codes.carried =
    subst (λ (list : List Part). IsLaidOut c.args.n (places_of 0 list inners) codes.bits codes.words codes.owner codes.carried) same c.in_ok-written.ensures in
    codes_differ c.args.n parts codes c.requires.parts (record { inners = inners; inside = inside; written = written }) apart

pub returns-clause-caused : goal.returns-clause-caused
returns-clause-caused c fail fault =
    let parts : List Part = c.args.split.now.parts in
    let same : c.as_slice-parts.result.now ≡ parts = c.as_slice-parts.ensures in
    let apart : AreApart c.args.n parts = subst (AreApart c.args.n) same c.in_default.ensures.none in
    let inside : AreInside parts c.as_slice-inners.result.now = subst (λ (list : List Part). AreInside list c.as_slice-inners.result.now) same (rw c.as_slice-inners.ensures.value c.in_ok-table.ensures) in
    let size : c.length_of-bits.result ≡ length (places_of 0 parts c.as_slice-inners.result.now) = c.length_of-bits.ensures ∙ ap (λ (list : List Part). length (places_of 0 list c.as_slice-inners.result.now)) same in
    absurd (no_fault c.args.n parts c.as_slice-inners.result.now c.length_of-bits.result apart inside size (omega arith) fail fault)

pub first_together-requires : goal.first_together-requires
first_together-requires c = subst (All (IsPart c.args.n)) (sym c.as_slice-parts.ensures) c.requires.parts

pub overflow_cast-result : goal.overflow_cast-result
overflow_cast-result c = omega (arith, c.in-Some.ensures.some.partner.above, c.in-Some.ensures.some.partner.within, c.requires.states.1)

pub overflow_cast-result-in-Some : goal.overflow_cast-result-in-Some
overflow_cast-result-in-Some c = omega (arith, c.in-Some.ensures.some.partner.within, c.requires.states.1)

pub returns-in-Some-clause-refused : goal.returns-in-Some-clause-refused
returns-in-Some-clause-refused c =
    λ fail is. inr (subst (CodeFault c.args.n c.args.split.now.parts) (same_Some (NotApart c.in-Some.s c.in-Some.t) fail (ap result_err is)) (subst (λ (parts : List Part). FirstTogether c.args.n parts c.in-Some.s c.in-Some.t) c.as_slice-parts.ensures c.in-Some.ensures.some))

pub inner_labels-requires-clause-length : goal.inner_labels-requires-clause-length
inner_labels-requires-clause-length c =
    λ k d below.
    let lawful = subst (All (IsPart c.args.n)) (sym c.as_slice-parts.ensures) c.requires.parts k d below in
    lawful.partition.length ∙ sym lawful.carrier.length

pub inner_labels-requires-clause-above : goal.inner_labels-requires-clause-above
inner_labels-requires-clause-above c = λ k d below. (subst (All (IsPart c.args.n)) (sym c.as_slice-parts.ensures) c.requires.parts k d below).above

pub length_of-bits-requires-clause-count : goal.length_of-bits-requires-clause-count
length_of-bits-requires-clause-count c = omega (arith, ap length c.as_slice-parts.ensures, c.requires.count)

pub returns-then-bits-gt-MOST_BITS-clause-refused : goal.returns-then-bits-gt-MOST_BITS-clause-refused
returns-then-bits-gt-MOST_BITS-clause-refused c =
    λ fail is.
    let parts : List Part = c.args.split.now.parts in
    let inners : List (List ℕ) = c.as_slice-inners.result.now in
    let same : c.as_slice-parts.result.now ≡ parts = c.as_slice-parts.ensures in
    let apart : AreApart c.args.n parts = subst (AreApart c.args.n) same c.in_default.ensures.none in
    let inside : AreInside parts inners = subst (λ (list : List Part). AreInside list inners) same (rw c.as_slice-inners.ensures.value c.in_ok-table.ensures) in
    let size : c.length_of-bits.result ≡ length (places_of 0 parts inners) = c.length_of-bits.ensures ∙ ap (λ (list : List Part). length (places_of 0 list inners)) same in
    inr (subst (CodeFault c.args.n parts) (same_Some (CodeTooLong c.length_of-bits.result) fail (ap result_err is)) (apart, record { inners = inners; inside = inside; size = size }, omega (arith, c.if-bits-gt-MOST_BITS.true)))

pub written-requires-clause-count : goal.written-requires-clause-count
written-requires-clause-count c = omega (arith, ap length c.as_slice-parts.ensures, c.requires.count)

pub written-requires-clause-parts : goal.written-requires-clause-parts
written-requires-clause-parts c = subst (All (IsPart c.args.n)) (sym c.as_slice-parts.ensures) c.requires.parts

pub written-requires-clause-inside : goal.written-requires-clause-inside
written-requires-clause-inside c = rw c.as_slice-inners.ensures.value c.in_ok-table.ensures

pub written-requires-clause-short : goal.written-requires-clause-short
written-requires-clause-short c = omega (arith, c.length_of-bits.ensures, c.if-bits-gt-MOST_BITS.false)

pub returns-clause-code : goal.returns-clause-code
returns-clause-code c =
    let inners : List (List ℕ) = c.as_slice-inners.result.now in
    let codes : Codes = c.in_ok-written.field-0 in
    let same = c.as_slice-parts.ensures in
    record {
      inners = inners;
      inside = subst (λ (list : List Part). AreInside list inners) same (rw c.as_slice-inners.ensures.value c.in_ok-table.ensures);
      written = subst (λ (list : List Part). IsLaidOut c.args.n (places_of 0 list inners) codes.bits codes.words codes.owner codes.carried) same c.in_ok-written.ensures;
    }

pub returns-clause-short : goal.returns-clause-short
returns-clause-short c = omega (arith, c.in_ok-written.ensures.size, c.length_of-bits.ensures, c.if-bits-gt-MOST_BITS.false)
