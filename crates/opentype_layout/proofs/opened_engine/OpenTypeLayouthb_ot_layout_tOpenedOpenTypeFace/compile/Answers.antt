use Rattle.std.proofs.Common.{◌≡◌, subst}
use Rattle.std.specs.Prelude.{MatchResult}
use Rattle.shape_buffer.specs.declared.buffer.error.ShapeError.TheVariants.{Memory}
use Rattle.opentype_layout.specs.Engine.{map_of}
use Rattle.opentype_layout.specs.declared.face.OpenTypeFace.{OpenTypeFace}
use Rattle.opentype_layout.proofs.opened_engine.OpenTypeLayouthb_ot_layout_tOpenedOpenTypeFace.compile.Goals as goal

pub returns : goal.returns
returns c =
    subst (λ (f : OpenTypeFace). MatchResult c.compiled.result (λ map. map ≡ map_of f c.args.builder.now) (λ e. e ≡ Memory))
    c.face.ensures c.compiled.ensures
