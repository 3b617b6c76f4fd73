-- When the tiles of signs are noted, and when the forms of Arabic are made without lookups.
use Rattle.std.specs.Prelude.{◌≡◌, ◌==◌, ◌&&◌, ℕ, Bool, true, false, Option, Some, None, if◌then◌else◌, pos, List, [], ◌∷◌, map as list_map, refl}
use Rattle.shape_items.specs.Buffer.{Buffer, new_buffer}
use Rattle.shape_items.specs.Items.{Item, new_item, new_properties}
use Rattle.shape_buffer.specs.Walks.{items_mapped}
use Rattle.shape_common.specs.Face.{FaceMeaning}
use Rattle.shape_buffer.specs.Layout.{MapMeaning}
use Rattle.shape_buffer.specs.declared.interfaces.map_request.TableIndex.{TableIndex}
use Rattle.shape_buffer.specs.declared.interfaces.map_request.TableIndex.TheVariants.{GSUB, GPOS}
use Rattle.shape_common.specs.declared.text_types.hb_tag_t.{hb_tag_t}
use Rattle.script_shapers.specs.ArabicPauses.{lacks, lacks_forms, masks_of, tiles_noted, made_by_pause}
use Rattle.script_shapers.specs.declared.arabic.requests.TheConstants.{FALLBACK, STRETCH}

abbrev pub tag : ℕ → hb_tag_t
tag n = record { 0 = n }

abbrev pub isol : ℕ
isol = 0x69736F6C

abbrev pub fina : ℕ
fina = 0x66696E61

abbrev pub medi : ℕ
medi = 0x6D656469

abbrev pub init : ℕ
init = 0x696E6974

-- the index 3 of a feature in one table
abbrev pub index_in : TableIndex → Bool → Bool → Option ℕ
index_in GSUB gsub gpos = if gsub then Some 3 else None
index_in GPOS gsub gpos = if gpos then Some 3 else None

-- each feature is on with bit 16 but for one, and one is in tables
abbrev pub map : (off found : ℕ) → (gsub gpos : Bool) → MapMeaning
map off found gsub gpos = record {
  global_mask = 0;
  one_mask = λ t. if t.0 == off then 0 else 16;
  mask = λ t. (16, 4);
  feature_index = λ table t. index_in table (gsub && (t.0 == found)) (gpos && (t.0 == found));
  stages = 1;
  pause_after = λ i. None;
}

-- one glyph, the second of those that another was taken apart into
abbrev pub parts : Buffer
parts = record new_buffer {
  items = record (new_item 0x70F 0) { properties = record new_properties { multiplied = true; ligature_component = 1 } } ∷ [];
}

abbrev pub kinds : Buffer → List ℕ
kinds b = list_map (λ (x : Item). x.properties.shaper_auxiliary) b.items

-- a face without glyphs
abbrev pub plain_face : FaceMeaning
plain_face = record {
  nominal_glyph = λ c. None;
  variation_glyph = λ c s. None;
  h_advance = λ g. pos 0;
  v_advance = λ g. pos 0;
  h_origin = λ g. pos 0;
  v_origin = λ g. pos 0;
  extents = λ g. None;
  units_per_em = 1000;
  x_scale = pos 1000;
  y_scale = pos 1000;
  tables = record { gsub = false; gpos = false; morx = false; kerx = false; trak = false };
}

-- all four are on, and in no table
abbrev pub without : MapMeaning
without = map 0 0 false false

pub record WorkedPauses : Type 0 where
  pub due : lacks_forms without ≡ true
  pub in_gsub : lacks (map 0 fina true false) (tag fina) ≡ false
  pub in_gpos : lacks (map 0 fina false true) (tag fina) ≡ false
  pub off : lacks (map fina 0 false false) (tag fina) ≡ false
  -- one of the four is enough
  pub isol_found : lacks_forms (map 0 isol true false) ≡ false
  pub fina_found : lacks_forms (map 0 fina true false) ≡ false
  pub medi_off : lacks_forms (map medi 0 false false) ≡ false
  pub init_off : lacks_forms (map init 0 false false) ≡ false
  -- forms of Syriac don't count, nor do required ligatures
  pub fin2_found : lacks_forms (map 0 0x66696E32 true false) ≡ true
  pub rlig_found : lacks_forms (map 0 0x726C6967 true false) ≡ true
  pub forms_number : FALLBACK ≡ 1
  pub tiles_number : STRETCH ≡ 2
  -- the second of the glyphs that one was taken apart into is a tile that repeats, if stch is on
  pub noted : kinds (tiles_noted without parts) ≡ 3 ∷ []
  pub stch_off : kinds (tiles_noted (map 0x73746368 0 false false) parts) ≡ 0 ∷ []
  pub at_the_first_pause : kinds (made_by_pause 2 without plain_face (λ g. None) parts) ≡ 3 ∷ []
  pub at_another : kinds (made_by_pause 3 without plain_face (λ g. None) parts) ≡ 0 ∷ []
  pub medial_mask : (masks_of (λ t. t.0)).medi ≡ medi
  pub initial_mask : (masks_of (λ t. t.0)).init ≡ init
  pub final_mask : (masks_of (λ t. t.0)).fina ≡ fina
  pub isolated_mask : (masks_of (λ t. t.0)).isol ≡ isol
  pub ligature_mask : (masks_of (λ t. t.0)).rlig ≡ 0x726C6967

pub worked_pauses : WorkedPauses
unfolding items_mapped
worked_pauses = record {
  due = refl;
  in_gsub = refl;
  in_gpos = refl;
  off = refl;
  isol_found = refl;
  fina_found = refl;
  medi_off = refl;
  init_off = refl;
  fin2_found = refl;
  rlig_found = refl;
  forms_number = refl;
  tiles_number = refl;
  noted = refl;
  stch_off = refl;
  at_the_first_pause = refl;
  at_another = refl;
  medial_mask = refl;
  initial_mask = refl;
  final_mask = refl;
  isolated_mask = refl;
  ligature_mask = refl;
}
