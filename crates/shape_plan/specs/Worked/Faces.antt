-- What the tests of planning bring: faces and an engine that are a number.
use Rattle.std.specs.Prelude.{◌==◌, ℕ, pos, Bool, true, false, Some, None, refl, if◌then◌else◌}
use Rattle.std.specs.Int.RustNames.{bit_and}
use Rattle.std.proofs.Common.{rules}
use Rattle.shape_common.specs.Face.{FaceMeaning}
use Rattle.shape_buffer.specs.Layout.{LayoutMeaning, MapMeaning, LawfulMasks, HasNoDefinedFlag}
use Rattle.shape_buffer.specs.declared.interfaces.map_request.TableIndex.TheVariants.{GSUB, GPOS}

-- a face without glyphs and tables, of 1000 units per em, for rows to begin with
abbrev pub bare_face : FaceMeaning
bare_face = record {
  nominal_glyph = λ _. None;
  variation_glyph = λ _ _. None;
  h_advance = λ _. pos 0;
  v_advance = λ _. pos 0;
  h_origin = λ _. pos 0;
  v_origin = λ _. pos 0;
  extents = λ _. None;
  units_per_em = 1000;
  x_scale = pos 1000;
  y_scale = pos 1000;
  tables = record { gsub = false; gpos = false; morx = false; kerx = false; trak = false };
}

-- a bit of the number
abbrev pub has : ℕ → ℕ → Bool
has number bit = bit_and number bit == bit

-- which tables the face has: 1, 2, 4, 8, 16 in the order gsub, gpos, morx, kerx, trak
abbrev pub answers_of : ℕ → FaceMeaning
answers_of number = record bare_face {
  tables = record { gsub = has number 1; gpos = has number 2; morx = has number 4; kerx = has number 8; trak = has number 16 };
}

-- what the engine returns: 32 kerning, 64 machine kerning, 128 cross kerning, 256 the script 2 chosen for GPOS in place
-- of 1, 1024 classes of glyphs; requests are compiled to the number
abbrev pub layouts_of : ℕ → LayoutMeaning ℕ
layouts_of number = record {
  chosen_script = λ _ _ table. elim table [
    | GSUB ↦ Some (record { 0 = 1 })
    | GPOS ↦ Some
        (record { 0 = (if has number 256 then 2 else 1) })
  ];
  compiled = λ _. number;
  has_glyph_classes = has number 1024;
  has_kerning = has number 32;
  has_machine_kerning = has number 64;
  has_cross_kerning = has number 128;
}

-- 512: GPOS has a feature for kerning; 2048: every mask is 8
abbrev pub masks_of : ℕ → MapMeaning
masks_of number = record {
  global_mask = 0;
  one_mask = λ _. if has number 2048 then 8 else 0;
  mask = λ _. (if has number 2048 then 8 else 0, 3);
  feature_index = λ table _. elim table [ GSUB ↦ None | GPOS ↦ (if has number 512 then Some 0 else None) ];
  stages = 0;
  pause_after = λ _. None;
}

pub no_flag : (b : Bool) → HasNoDefinedFlag (if b then 8 else 0)
no_flag true = refl
no_flag false = refl

pub masks_of-lawful : (number : ℕ) → LawfulMasks (masks_of number)
masks_of-lawful number = record {
  global_mask = refl;
  one_mask = λ _. no_flag (has number 2048);
  mask = λ _. no_flag (has number 2048);
  shift = λ _. Prim.search rules;
}
