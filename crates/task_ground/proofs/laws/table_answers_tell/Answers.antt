use Rattle.std.proofs.Common.{sym, subst}
use Rattle.table_reading.specs.Reading.{IsTableText}
use Rattle.task_ground.proofs.laws.table_answers_tell.Goals as goal

pub returns : goal.returns
returns c = λ p text valid is. subst (λ t. IsTableText t p) (sym is.1) (c.printed_text.ensures p valid)
