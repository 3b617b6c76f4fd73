-- The settings that clearing keeps.
use Rattle.shape_items.specs.Buffer.{Buffer, new_buffer}
use Rattle.shape_pipeline.specs.declared.ot_shape.kept.KeptSettings.{KeptSettings}

abbrev pub kept_settings : Buffer → KeptSettings
kept_settings b = record {
  flags = b.flags;
  cluster_level = b.cluster_level;
  invisible_glyph = b.invisible_glyph;
  not_found_variation_selector_glyph = b.not_found_variation_selector_glyph;
}

-- a cleared buffer with these settings
abbrev pub cleared_with : KeptSettings → Buffer
cleared_with kept = record new_buffer {
  flags = kept.flags;
  cluster_level = kept.cluster_level;
  invisible_glyph = kept.invisible_glyph;
  not_found_variation_selector_glyph = kept.not_found_variation_selector_glyph;
}
