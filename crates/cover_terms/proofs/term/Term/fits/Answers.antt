use Rattle.cover_terms.specs.Laws.Bits.{shifted_out}
use Rattle.cover_terms.proofs.term.Term.fits.Goals as goal

pub returns-else-width-eq128 : goal.returns-else-width-eq128
returns-else-width-eq128 c = shifted_out c.args.self.care c.args.width
