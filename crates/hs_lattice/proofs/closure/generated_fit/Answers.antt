use Rattle.hs_lattice.specs.Laws.{IsGenerated-has}
use Rattle.hs_lattice.proofs.closure.generated_fit.Goals as goal

pub returns : goal.returns
returns g c generators z all generated =
    let w = g.W.JoinWorld in
    let laws = g.met.W.JoinWorld in
    let world = c.args.world.now in
    IsGenerated-has (w.least world) (w.joins world) (w.fits world) generators z
    (λ x is. laws.least_fits world x c.requires is) (λ x y z one two joined. laws.joins_fit world x y z c.requires one two joined) all generated
