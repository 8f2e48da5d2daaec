use Rattle.std.proofs.Common.{ℕ, List, not, sym, ◌∙◌, ap, subst}
use Rattle.std.specs.Option.{option_copied}
use Rattle.std.specs.Str.{bytes_eq}
use Rattle.blif_in.specs.Inner.Standing.{IsClock}
use Rattle.blif_in.proofs.Names.{another_clock}
use Rattle.blif_in.proofs.standing.differs_from.Goals as goal

pub returns-in-Some : goal.returns-in-Some
returns-in-Some c names is =
    another_clock c.in-Some.clock.now c.args.name.now names (subst (λ o. IsClock (option_copied o) names) c.in-Some.is is)
    ∙ sym (c.ne.ensures ∙ ap (λ (name : List ℕ). not (bytes_eq name c.bytes-in-Some.result.now)) c.bytes.ensures ∙ ap (λ (clock : List ℕ). not (bytes_eq c.args.name.now clock)) c.bytes-in-Some.ensures)
