use Rattle.certificate_writing.proofs.laws.own_certificates_are_sound.Goals as goal

pub returns : goal.returns
returns c p text own is = c.ground_lists_have_written_tokens.ensures.sound p own.list own.bound own.whole.tokens is own.marked own.whole.walked
