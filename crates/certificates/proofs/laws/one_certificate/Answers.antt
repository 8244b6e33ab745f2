use Rattle.certificates.proofs.OneCertificate.{same_certificate, same_fault, not_both, not_neither}
use Rattle.certificates.proofs.laws.one_certificate.Goals as goal

pub returns-clause-same_certificate : goal.returns-clause-same_certificate
returns-clause-same_certificate c = same_certificate

pub returns-clause-same_fault : goal.returns-clause-same_fault
returns-clause-same_fault c = same_fault

pub returns-clause-not_both : goal.returns-clause-not_both
returns-clause-not_both c = not_both

pub returns-clause-not_neither : goal.returns-clause-not_neither
returns-clause-not_neither c = not_neither
