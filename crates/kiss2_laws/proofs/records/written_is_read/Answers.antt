use Rattle.kiss2_laws.proofs.RoundTrip.{says_again}
use Rattle.kiss2_laws.proofs.records.written_is_read.Goals as goal

pub returns : goal.returns
returns c F lawful = says_again F lawful
