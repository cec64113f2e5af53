use Rattle.std.proofs.Common.{subst, Ok, Err}
use Rattle.task_certificate.specs.CertificateSeen.{seen}
use Rattle.task_certificate.specs.DueCertificate.{DueCertificate}
use Rattle.task_certificate.specs.WrittenSo.{IsWrittenSo}
use Rattle.task_certificate.proofs.Certifying.{written_so}
use Rattle.task_certificate.proofs.certificate.CertificateDue.write.Goals as goal

pub returns-in-Ok-clause-written : goal.returns-in-Ok-clause-written
returns-in-Ok-clause-written g c =
    subst (λ (d : DueCertificate). IsWrittenSo d (g.K.Sink.written c.args.sink.now) (g.K.Sink.written c.write_certificate.new.sink) (Ok tt)) c.self.view_is
    (written_so c.ground_lists_have_written_tokens.ensures.written (seen c.self.inside) c.sites-known.ensures.valid c.self.invariant.list c.self.invariant.bound _ _ (Ok tt) c.in-Ok.ensures.written)

pub returns-in-Err-clause-written : goal.returns-in-Err-clause-written
returns-in-Err-clause-written g c =
    subst (λ (d : DueCertificate). IsWrittenSo d (g.K.Sink.written c.args.sink.now) (g.K.Sink.written c.write_certificate.new.sink) (Err c.in-Err.stop)) c.self.view_is
    (written_so c.ground_lists_have_written_tokens.ensures.written (seen c.self.inside) c.sites-known.ensures.valid c.self.invariant.list c.self.invariant.bound _ _ (Err c.in-Err.stop) c.in-Err.ensures.written)
