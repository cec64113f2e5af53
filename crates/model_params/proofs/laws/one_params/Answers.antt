use Rattle.model_params.proofs.OneParams.{one_params}
use Rattle.model_params.proofs.laws.one_params.Goals as goal

pub returns : goal.returns
returns c = one_params
