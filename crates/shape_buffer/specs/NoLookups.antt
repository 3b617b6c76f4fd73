-- The layout engine that changes nothing.
use Rattle.std.specs.Prelude.{false, None, refl}
use Rattle.std.proofs.Common.{rules}
use Rattle.shape_buffer.specs.Layout.{LayoutMeaning, MapMeaning, LookupMeaning, LawfulMasks, LawfulLookups}

abbrev pub no_layout : LayoutMeaning Unit
no_layout = record {
  chosen_script = λ _ _ _. None;
  compiled = λ _. tt;
  has_glyph_classes = false;
  has_kerning = false;
  has_machine_kerning = false;
  has_cross_kerning = false;
}

-- all masks are 0, and there is no stage
abbrev pub no_masks : MapMeaning
no_masks = record {
  global_mask = 0;
  one_mask = λ _. 0;
  mask = λ _. (0, 0);
  feature_index = λ _ _. None;
  stages = 0;
  pause_after = λ _. None;
}

-- every call leaves the buffer as it is
abbrev pub no_lookups : LookupMeaning
no_lookups = record {
  would_substitute = λ _ _ _. false;
  substitute_start = λ b. b;
  stage = λ _ b. b;
  aat_substitute = λ _ b. b;
  aat_remove_deleted = λ b. b;
  aat_zero_width_deleted = λ b. b;
  position_start = λ b. b;
  position = λ b. b;
  position_finish_advances = λ b. b;
  position_finish_offsets = λ b. b;
  aat_position = λ _ b. b;
  kern = λ _ b. b;
  aat_track = λ _ b. b;
}

pub no_masks-lawful : LawfulMasks no_masks
no_masks-lawful = record { global_mask = refl; one_mask = λ _. refl; mask = λ _. refl; shift = λ _. search rules }

pub no_lookups-lawful : LawfulLookups no_lookups
no_lookups-lawful = record {
  aat_zero_width_deleted = λ b. refl;
  position_start = λ b. refl;
  position = λ b. refl;
  position_finish_advances = λ b. refl;
  position_finish_offsets = λ b. refl;
  aat_position = λ mask b. refl;
  kern = λ mask b. refl;
  aat_track = λ mask b. refl;
}
