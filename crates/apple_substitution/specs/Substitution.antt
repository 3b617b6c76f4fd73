-- Substitution by Apple's tables of a font: the table morx, with the settings that the table feat has for what is asked
-- for, and the languages of the table ltag.
use Rattle.std.specs.Prelude.{ℕ, List, [], unwrap_or}
use Rattle.shape_common.specs.declared.text_types.Feature.{Feature}
use Rattle.shape_items.specs.Buffer.{Buffer}
use Rattle.apple_substitution.specs.ChainRuns.{Source}
use Rattle.apple_substitution.specs.FeatureMap.{requests_of}
use Rattle.apple_substitution.specs.Metamorphosis.{metamorphosed}
use Rattle.apple_substitution.specs.declared.substitution.MorxFont.{MorxFont}

-- what substitution reads of a font
pub record Font : Type 0 where
  pub morx : List ℕ
  pub feat : List ℕ
  pub ltag : List ℕ
  pub gdef : List ℕ
  pub glyphs : ℕ

abbrev pub font_of : MorxFont → Font
font_of f = record { morx = f.morx.now; feat = f.feat.now; ltag = f.ltag.now; gdef = f.gdef.now; glyphs = f.glyphs }

-- the name of a text's language, empty if it has none
abbrev pub language_of : Buffer → List ℕ
language_of b = unwrap_or b.language []

abbrev pub source_for : Font → List Feature → List ℕ → Source
source_for f features language = record {
  morx = f.morx;
  gdef = f.gdef;
  glyphs = f.glyphs;
  requests = requests_of f.feat features;
  languages = record { ltag = f.ltag; text = language };
}

unfoldable pub substituted : Font → List Feature → Buffer → Buffer
substituted f features b = metamorphosed (source_for f features (language_of b)) b
