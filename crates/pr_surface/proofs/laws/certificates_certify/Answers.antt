use Rattle.pr_surface.proofs.Certificates.{certificates_certify}
use Rattle.pr_surface.proofs.laws.certificates_certify.Goals as goal

pub returns : goal.returns
returns c = certificates_certify
