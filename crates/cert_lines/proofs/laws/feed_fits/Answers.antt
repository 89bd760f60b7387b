use Rattle.cert_lines.proofs.Suiting.{feed_fits}
use Rattle.cert_lines.proofs.laws.feed_fits.Goals as goal

pub returns : goal.returns
returns c = feed_fits
