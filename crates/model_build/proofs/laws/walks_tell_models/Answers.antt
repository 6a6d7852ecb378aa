use Rattle.model_build.proofs.WalkClear.{walk_clear, walk_model, walk_sound}
use Rattle.model_build.proofs.laws.walks_tell_models.Goals as goal

pub returns : goal.returns
returns c = record { clear = walk_clear; model = walk_model; sound = walk_sound }
