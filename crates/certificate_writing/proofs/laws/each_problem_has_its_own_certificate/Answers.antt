use Rattle.std.proofs.Common.{refl}
use Rattle.prune_certificate.specs.Printed.{certificate_text}
use Rattle.certificate_writing.proofs.laws.each_problem_has_its_own_certificate.Goals as goal

pub returns : goal.returns
returns c p is =
    let marked = c.each_problem_has_a_marked_list.ensures p is in
    let least = c.least_certain_energies_exist.ensures p is in
    let written = c.ground_lists_have_written_tokens.ensures.written p marked.0 least.0 is marked.1 least.1 in (
      certificate_text p marked.0 written.0,
      record { list = marked.0; bound = least.0; marked = marked.1; least = least.1; whole = record { tokens = written.0; walked = written.1; prints = refl } },
    )
