-- The engine of tests, which does what its face says.
use Rattle.std.specs.Prelude.{ℕ, ℤ, ◌<◌, ◌==◌, ◌&&◌, Bool, true, false, List, [], ◌∷◌, Some, None, refl, length, drop, if◌then◌else◌}
use Rattle.std.proofs.Common.{rules}
use Rattle.shape_items.specs.Delete.{deleted}
use Rattle.shape_items.specs.Items.{Item}
use Rattle.shape_buffer.specs.Layout.{LayoutMeaning, MapMeaning, LookupMeaning, LawfulMasks, LawfulLookups, HasNoDefinedFlag}
use Rattle.shape_buffer.specs.NoLookups.{no_lookups}
use Rattle.shape_buffer.specs.PositionWalks.{positions_mapped}
use Rattle.shape_buffer.specs.Walks.{items_mapped}
use Rattle.shape_buffer.specs.declared.interfaces.map_request.TableIndex.TheVariants.{GSUB, GPOS}
use Rattle.shape_common.specs.Wrapping.{◌+ʷ◌}
use Rattle.shape_common.specs.declared.positions.GlyphPosition.{GlyphPosition}
use Rattle.shape_common.specs.declared.text_types.Feature.{Feature}
use Rattle.test_fixtures.specs.Rules.{with_glyph, first_made}
use Rattle.test_fixtures.specs.declared.face.TestFace.{TestFace}
use Rattle.test_fixtures.specs.declared.layout.TestMap.{TestMap}

abbrev pub layout_of : TestFace → LayoutMeaning TestMap
layout_of face = record {
  chosen_script = λ _ _ table. elim table [ GSUB ↦ face.gsub_script | GPOS ↦ face.gpos_script ];
  compiled = λ _. record {
    stages = length face.stages.now;
    pause = face.pause;
    global_bit = face.global_bit;
    fractions = face.fractions;
    every_feature = face.every_feature;
    gpos_kerns = face.gpos_kerns;
  };
  has_glyph_classes = face.classes;
  has_kerning = face.kerning;
  has_machine_kerning = face.machine_kerning;
  has_cross_kerning = face.cross_kerning;
}

-- 8 if there are lookups for each feature; else `frac` has 0x10, `numr` 0x20 and `dnom` 0x40 if there are lookups for
-- fractions, and `ss01` has 0x100
abbrev pub one_mask : TestMap → ℕ → ℕ
one_mask map tag =
    if map.every_feature then 8
    else (if tag == 0x66726163 && map.fractions then 0x10
    else (if tag == 0x6E756D72 && map.fractions then 0x20
    else (if tag == 0x646E6F6D && map.fractions then 0x40
    else (if tag == 0x73733031 then 0x100 else 0))))

-- the bits of a value, and the first of them: for each feature the same bit, else for `ss01` two of its own
abbrev pub bits : Bool → Bool → ℕ × ℕ
bits every ss01 = if every then (8, 3) else (if ss01 then (0x300, 8) else (0, 0))

abbrev pub masks_of : TestMap → MapMeaning
masks_of map = record {
  global_mask = if map.global_bit then 8 else 0;
  one_mask = λ tag. one_mask map tag.0;
  mask = λ tag. bits map.every_feature (tag.0 == 0x73733031);
  feature_index = λ table _. elim table [ GSUB ↦ None | GPOS ↦ (if map.gpos_kerns then Some 0 else None) ];
  stages = map.stages;
  pause_after = λ i. if i == 0 then map.pause else None;
}

-- glyph 9 is a mark (8), all others are bases (2)
abbrev pub with_class_of_face : Item → Item
with_class_of_face item = record item {
  properties = record item.properties { glyph_class = if item.glyph_id == 9 then record { 0 = 8 } else record { 0 = 2 } };
}

-- the glyph that `morx` deletes: the one that the value of the user's first feature names, else that of x
abbrev pub struck_glyph : List Feature → ℕ
struck_glyph [] = 0x78
struck_glyph (feature ∷ features) = feature.value

-- glyph 0xFFFF stands for a deleted one
abbrev pub struck : ℕ → Item → Item
struck glyph item = if item.glyph_id == glyph then with_glyph 0xFFFF item else item

abbrev pub is_struck : Item → Bool
is_struck item = item.glyph_id == 0xFFFF

abbrev pub wider_by : ℤ → Item → GlyphPosition → GlyphPosition
wider_by n item position = record position { x_advance = position.x_advance +ʷ n }

abbrev pub lookups_of : TestFace → LookupMeaning
lookups_of face = record no_lookups {
  substitute_start = items_mapped with_class_of_face;
  stage = λ i. first_made (drop i face.stages.now);
  aat_substitute = λ features. items_mapped (struck (struck_glyph features));
  aat_remove_deleted = deleted is_struck;
  position = positions_mapped (wider_by face.gpos_adds);
  aat_position = λ _. positions_mapped (wider_by face.kerx_adds);
  kern = λ _. positions_mapped (wider_by face.kern_adds);
}

no_global_flag : (on : Bool) → HasNoDefinedFlag (if on then 8 else 0)
no_global_flag true = refl
no_global_flag false = refl

no_flag : (every frac numr dnom ss01 : Bool) → HasNoDefinedFlag
    (if every then 8
    else (if frac then 0x10
    else (if numr then 0x20
    else (if dnom then 0x40
    else (if ss01 then 0x100 else 0)))))
no_flag true _ _ _ _ = refl
no_flag false true _ _ _ = refl
no_flag false false true _ _ = refl
no_flag false false false true _ = refl
no_flag false false false false true = refl
no_flag false false false false false = refl

no_bit : (every ss01 : Bool) → HasNoDefinedFlag (bits every ss01).0
no_bit true _ = refl
no_bit false true = refl
no_bit false false = refl

within : (every ss01 : Bool) → (bits every ss01).1 < 32
within true _ = Prim.search rules
within false true = Prim.search rules
within false false = Prim.search rules

pub masks_of-lawful : (map : TestMap) → LawfulMasks (masks_of map)
masks_of-lawful map = record {
  global_mask = no_global_flag map.global_bit;
  one_mask = λ tag. no_flag map.every_feature (tag.0 == 0x66726163 && map.fractions) (tag.0 == 0x6E756D72 && map.fractions)
      (tag.0 == 0x646E6F6D && map.fractions) (tag.0 == 0x73733031);
  mask = λ tag. no_bit map.every_feature (tag.0 == 0x73733031);
  shift = λ tag. within map.every_feature (tag.0 == 0x73733031);
}

pub lookups_of-lawful : (face : TestFace) → LawfulLookups (lookups_of face)
unfolding positions_mapped
lookups_of-lawful face = record {
  aat_zero_width_deleted = λ _. refl;
  position_start = λ _. refl;
  position = λ _. refl;
  position_finish_advances = λ _. refl;
  position_finish_offsets = λ _. refl;
  aat_position = λ _ _. refl;
  kern = λ _ _. refl;
  aat_track = λ _ _. refl;
}
