-- what runs of Apple's tables, and of `kern`, read of a face
use Rattle.std.specs.Prelude.{ℕ}
use Rattle.apple_positioning.specs.OldTables as older
use Rattle.apple_positioning.specs.Tables as positioning
use Rattle.apple_substitution.specs.Substitution as substitution
use Rattle.opentype_layout.specs.declared.face.OpenTypeFace.{OpenTypeFace}

abbrev pub morx_of : OpenTypeFace → substitution.Font
morx_of f = record {
  morx = f.font.apple.morx.now;
  feat = f.font.apple.feat.now;
  ltag = f.font.apple.ltag.now;
  gdef = f.gdef.now;
  glyphs = f.font.glyph_count;
}

abbrev pub kerx_of : OpenTypeFace → ℕ → positioning.Font
kerx_of f mask = record {
  kerx = f.font.apple.kerx.now;
  ankr = f.font.apple.ankr.now;
  glyphs = f.font.glyph_count;
  scale = f.scale;
  mask = mask;
}

abbrev pub kern_of : OpenTypeFace → ℕ → older.Font
kern_of f mask = record { kern = f.font.kern.now; scale = f.scale; mask = mask }
