-- Masks of features without flags of glyphs.
use Rattle.shape_buffer.specs.Layout.{HasNoDefinedFlag}
use Rattle.indic_shaper.specs.declared.engine.Facts.{Facts}

-- no mask of the facts has a defined flag
pub record FactsFlagless (facts : Facts) : Type 0 where
  pub rphf : HasNoDefinedFlag facts.masks.rphf
  pub pref : HasNoDefinedFlag facts.masks.pref
  pub blwf : HasNoDefinedFlag facts.masks.blwf
  pub abvf : HasNoDefinedFlag facts.masks.abvf
  pub half : HasNoDefinedFlag facts.masks.half
  pub pstf : HasNoDefinedFlag facts.masks.pstf
  pub init : HasNoDefinedFlag facts.masks.init
