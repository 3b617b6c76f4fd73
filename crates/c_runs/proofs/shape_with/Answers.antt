use Rattle.std.proofs.Common.{◌∙◌, refl}
use Rattle.c_runs.proofs.shape_with.Goals as goal

pub returns-clause-ok : goal.returns-clause-ok
returns-clause-ok c = record {
  face = c.args.face.now;
  is_face = refl;
  features = c.as_slice.result.now;
  features_are = c.as_slice.ensures.value ∙ c.in_ok-features.ensures;
  serves = c.shape_runs.ensures.serves;
}
