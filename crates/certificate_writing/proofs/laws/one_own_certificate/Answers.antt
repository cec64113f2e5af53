use Rattle.std.proofs.Common.{pos}
use Rattle.certificate_writing.proofs.OwnTexts.{one_own}
use Rattle.certificate_writing.proofs.laws.one_own_certificate.Goals as goal

pub returns : goal.returns
returns c p = one_own p (c.one_marked_ground_list.ensures p) (c.one_least_certain.ensures p) (c.one_list_of_tokens_is_written.ensures p (pos 0))
