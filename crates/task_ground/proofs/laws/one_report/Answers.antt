use Rattle.task_ground.proofs.Reports.{same_report, some_report}
use Rattle.task_ground.proofs.laws.one_report.Goals as goal

pub returns-clause-one : goal.returns-clause-one
returns-clause-one c = λ s about p es. same_report (record {
  text = c.one_ground_text.ensures;
  json = c.one_ground_json.ensures;
}) s.report.json s.report.energies about p es

pub returns-clause-some : goal.returns-clause-some
returns-clause-some c = λ s about p es valid. some_report c.energies_have_extremes.ensures p valid s.report.json s.report.energies about es
