use Rattle.std.proofs.Common.{ℕ, ◌+◌, length, subst, sym, arith}
use Rattle.std.proofs.lemmas.Bool.{eq-eqb, eqb-true}
use Rattle.cover_split.proofs.Within.{IsWalked, all_found, not_all_found, walked_found, walked_past}
use Rattle.cover_split.proofs.holders.is_within.Goals as goal
use Rattle.cover_split.proofs.holders.is_within.Goals.{then-found-first+then-first-found, else-found-first, else-found-first-via-then-found-first+else-first-found, else-found-first-via-else-found-first}

pub loop-t-preserved : goal.loop-t-preserved
loop-t-preserved c =
    let first = c.args.first.now in
    let second = c.args.second.now in
    let found = c.loop-t.found in
    let seen = c.loop-t.t-index in
    elim c.if-found-first.branch [
      | then-found-first+then-first-found w ↦
          subst (λ (n : ℕ). IsWalked first second n (seen + 1)) (sym w.found-is)
          (walked_found first second c.requires.first c.requires.second found seen c.loop-t.invariant c.loop-t-test.true w.if-found-first.true w.if-first-found.true)
      | else-found-first w ↦
          subst (λ (n : ℕ). IsWalked first second n (seen + 1)) (sym w.found-is)
          (elim w.else-found-first.branch [
            | else-found-first-via-then-found-first+else-first-found v ↦
                walked_past first second c.requires.first c.requires.second found seen c.loop-t.invariant (λ some. v.if-first-found.false)
            | else-found-first-via-else-found-first v ↦
                walked_past first second c.requires.first c.requires.second found seen c.loop-t.invariant (λ some. absurd (omega (arith, v.if-found-first.false)))
          ])
    ]

pub returns : goal.returns
returns c = (
  λ same. all_found c.args.first.now c.args.second.now c.loop-t.found c.loop-t.t-index c.loop-t.invariant c.loop-t.auto.t-index-end (eqb-true c.loop-t.found (length c.args.first.now) same),
  λ all. eq-eqb c.loop-t.found (length c.args.first.now) (not_all_found c.args.first.now c.args.second.now c.loop-t.found c.loop-t.t-index c.loop-t.invariant c.loop-t-test.false all),
)
