use Rattle.std.proofs.Common.{◌≡◌, ◌∙◌, ℕ, List, Bool, false, true, Some, get_or, inl, inr, ap, sym, subst, arith}
use Rattle.std.proofs.lemmas.Bool.{eq-eqb, false≢true}
use Rattle.std.proofs.lemmas.Option.{get_or_from_slice_get, slice_get-get_or}
use Rattle.dependence.specs.Candidates.{MayReadPart}
use Rattle.dependence.proofs.gate_reads.is_open.Goals as goal

pub returns-then-other-own : goal.returns-then-other-own
returns-then-other-own c = (
  (λ _. inl (sym (ap (λ (l : List ℕ). get_or l c.args.c 0) c.as_slice-2.ensures) ∙ c.if-other-own.true ∙ ap (λ (l : List ℕ). get_or l c.args.i 0) c.as_slice.ensures)),
  (λ _. eq-eqb _ _ c.if-other-own.true),
)

pub returns-then-as_slice-c : goal.returns-then-as_slice-c
returns-then-as_slice-c c =
    let parts = c.args.split.now.parts in
    let codes = c.args.codes.now in
    let own : get_or c.as_slice.result.now c.args.i 0 ≡ get_or codes.owner c.args.i 0 = ap (λ (l : List ℕ). get_or l c.args.i 0) c.as_slice.ensures in
    let other : get_or c.as_slice-2.result.now c.args.c 0 ≡ get_or codes.owner c.args.c 0 = ap (λ (l : List ℕ). get_or l c.args.c 0) c.as_slice-2.ensures in
    let at : get_or c.as_slice-else-other-own.result.now c.args.c false ≡ get_or codes.carried c.args.c false = ap (λ (l : List Bool). get_or l c.args.c false) c.as_slice-else-other-own.ensures in (
      (λ may. inr (record {
        carried = slice_get-get_or codes.carried c.args.c false (omega (arith, c.requires.carried, c.requires.bit)) ∙ ap Some (sym at ∙ c.if-as_slice-c.true);
        reads = subst (λ (l : ℕ). MayReadPart parts (get_or codes.owner c.args.i 0) l) other (subst (λ (j : ℕ). MayReadPart parts j (get_or c.as_slice-2.result.now c.args.c 0)) own (c.may_read.ensures.0 may));
      })),
      (λ open_to. elim open_to [
        | inl same ↦ absurd (c.if-other-own.false (other ∙ same ∙ sym own))
        | inr carrier ↦ c.may_read.ensures.1 (subst (λ (l : ℕ). MayReadPart parts (get_or c.as_slice.result.now c.args.i 0) l) (sym other) (subst (λ (j : ℕ). MayReadPart parts j (get_or codes.owner c.args.c 0)) (sym own) carrier.reads))
      ]),
    )

pub returns-else-as_slice-c : goal.returns-else-as_slice-c
returns-else-as_slice-c c =
    let codes = c.args.codes.now in (
      (λ is. absurd (false≢true (sym c.if-as_slice-c.false ∙ is))),
      (λ open_to. elim open_to [
        | inl same ↦ absurd (c.if-other-own.false (ap (λ (l : List ℕ). get_or l c.args.c 0) c.as_slice-2.ensures ∙ same ∙ sym (ap (λ (l : List ℕ). get_or l c.args.i 0) c.as_slice.ensures)))
        | inr carrier ↦ ap (λ (l : List Bool). get_or l c.args.c false) c.as_slice-else-other-own.ensures ∙ get_or_from_slice_get codes.carried c.args.c true false carrier.carried
      ]),
    )
