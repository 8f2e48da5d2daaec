use Rattle.std.proofs.Common.{◌≡◌, sym, subst}
use Rattle.std.specs.Option.{option_map, option_or}
use Rattle.blif_in.specs.Inner.Standing.{Stands}
use Rattle.blif_in.specs.Inner.Progress.{clock_at}
use Rattle.blif_in.proofs.Progressing.{read_more}
use Rattle.blif_in.proofs.progress.Progress.take.Goals as goal

pub returns-clause-read : goal.returns-clause-read
returns-clause-read c lines rest is =
    let judged = c.in-Ok.ensures.judged is.earlier (subst (λ name. Stands c.args.self.now.summary name is.earlier) (sym c.name_of.ensures) is.stands) in
    let first = subst (λ clock. c.first_clock.result ≡ option_or clock (option_map (clock_at c.args.line.now.number) c.in_ok-named.named)) c.take.ensures.value c.first_clock.ensures in
    read_more lines rest c.args.line.now c.args.self.now _ c.in_ok-named.named _ is judged c.in_ok-named.ensures first
