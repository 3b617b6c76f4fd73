use Rattle.std.proofs.Common.{◌≡◌, ◌∙◌}
use Rattle.c_runs.proofs.kept.KeptFont.shape.Goals as goal

-- the face of the shaper is the one that is kept
pub returns-clause-ok : goal.returns-clause-ok
returns-clause-ok c =
    let same : c.deref.result.now ≡ c.args.self.now = cc in
    record {
      face = c.deref.result.now;
      is_face = same;
      features = c.as_slice.result.now;
      features_are = c.as_slice.ensures.value ∙ c.in_ok-features.ensures;
      serves = c.shape_runs-outcome.ensures.serves;
    }
