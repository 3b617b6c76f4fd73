-- What a layout engine returns of a face and of compiled requests, and what its lookups make of a buffer. `Map` is what
-- requests are compiled to.
use Rattle.std.specs.Prelude.{◌≡◌, ℕ, ◌<◌, Bool, List, Option, length}
use Rattle.std.specs.Int.RustNames.{bit_and}
use Rattle.shape_items.specs.Buffer.{Buffer}
use Rattle.shape_buffer.specs.MapBuilder.{Builder}
use Rattle.shape_common.specs.declared.text_types.Feature.{Feature}
use Rattle.shape_common.specs.declared.text_types.hb_tag_t.{hb_tag_t}
use Rattle.shape_common.specs.declared.text_types.Script.{Script}
use Rattle.shape_buffer.specs.declared.interfaces.map_request.TableIndex.{TableIndex}
use Rattle.shape_common.specs.FlagNames.{DEFINED}

pub record LayoutMeaning (Map : Type 0) : Type 0 where
  -- by script, bytes of the language, and table
  pub chosen_script : Option Script → Option (List ℕ) → TableIndex → Option hb_tag_t
  pub compiled : Builder → Map
  pub has_glyph_classes : Bool
  pub has_kerning : Bool
  pub has_machine_kerning : Bool
  pub has_cross_kerning : Bool

-- what compiled requests return
pub record MapMeaning : Type 0 where
  pub global_mask : ℕ
  -- the mask of a feature's value 1
  pub one_mask : hb_tag_t → ℕ
  -- the bits of a feature's value, and its shift
  pub mask : hb_tag_t → ℕ × ℕ
  pub feature_index : TableIndex → hb_tag_t → Option ℕ
  pub stages : ℕ
  pub pause_after : ℕ → Option ℕ

-- what the lookups make of a buffer
pub record LookupMeaning : Type 0 where
  -- whether lookups of a feature's stage in GSUB substitute exactly these glyphs; and with no context around them
  pub would_substitute : hb_tag_t → List ℕ → Bool → Bool
  pub substitute_start : Buffer → Buffer
  pub stage : ℕ → Buffer → Buffer
  pub aat_substitute : List Feature → Buffer → Buffer
  pub aat_remove_deleted : Buffer → Buffer
  pub aat_zero_width_deleted : Buffer → Buffer
  pub position_start : Buffer → Buffer
  pub position : Buffer → Buffer
  pub position_finish_advances : Buffer → Buffer
  pub position_finish_offsets : Buffer → Buffer
  -- by the mask of kerning
  pub aat_position : ℕ → Buffer → Buffer
  pub kern : ℕ → Buffer → Buffer
  -- by the mask of tracking
  pub aat_track : ℕ → Buffer → Buffer

-- a mask without a defined flag
abbrev pub HasNoDefinedFlag : ℕ → Type 0
HasNoDefinedFlag mask = bit_and mask DEFINED ≡ 0

-- the obligations of every engine on its masks
pub record LawfulMasks (map : MapMeaning) : Type 0 where
  pub global_mask : HasNoDefinedFlag map.global_mask
  pub one_mask : (tag : hb_tag_t) → HasNoDefinedFlag (map.one_mask tag)
  pub mask : (tag : hb_tag_t) → HasNoDefinedFlag (map.mask tag).0
  pub shift : (tag : hb_tag_t) → (map.mask tag).1 < 32

-- as many items as before
abbrev pub PreservesCount : (Buffer → Buffer) → Type 0
PreservesCount f = (b : Buffer) → length (f b).items ≡ length b.items

-- the obligations of every engine on its lookups: positioning preserves the number of items
pub record LawfulLookups (lookups : LookupMeaning) : Type 0 where
  pub aat_zero_width_deleted : PreservesCount lookups.aat_zero_width_deleted
  pub position_start : PreservesCount lookups.position_start
  pub position : PreservesCount lookups.position
  pub position_finish_advances : PreservesCount lookups.position_finish_advances
  pub position_finish_offsets : PreservesCount lookups.position_finish_offsets
  pub aat_position : (mask : ℕ) → PreservesCount (lookups.aat_position mask)
  pub kern : (mask : ℕ) → PreservesCount (lookups.kern mask)
  pub aat_track : (mask : ℕ) → PreservesCount (lookups.aat_track mask)
