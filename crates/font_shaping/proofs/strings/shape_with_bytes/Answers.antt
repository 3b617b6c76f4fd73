use Rattle.std.proofs.Common.{inl, inr}
use Rattle.shape_pipeline.specs.Strings.{string_text}
use Rattle.font_shaping.proofs.strings.shape_with_bytes.Goals as goal

pub returns-in-Err-clause-length : goal.returns-in-Err-clause-length
returns-in-Err-clause-length g c = λ is.
    elim (c.in-Err.ensures.length (c.of.ensures.length.0 is)) [
      | inl many ↦ inl many
      | inr passes ↦ inr (c.in-Some.face, c.in-Some.ensures.face, passes)
    ]

pub returns-in-Ok-clause-tries : goal.returns-in-Ok-clause-tries
returns-in-Ok-clause-tries g c = λ face.
    c.script_runs_try_no_more_than_they_may.ensures face c.args.features.now (string_text c.args.string.now)
