-- What the constants and hooks of a shaper mean, and what every shaper must provide.
use Rattle.std.specs.Prelude.{◌≡◌, ℕ, ℤ, ◌⊎◌, Bool, true, ◌&&◌, nat_le, int_le, Option, map}
use Rattle.std.specs.Int.RustNames.{bit_or}
use Rattle.shape_items.specs.Buffer.{Buffer}
use Rattle.shape_items.specs.Items.{Item}
use Rattle.canonical_form.specs.Chain.{FallsAlong}
use Rattle.shape_common.specs.declared.text_types.hb_tag_t.{hb_tag_t}
use Rattle.shape_plan.specs.ModeNames.{MODE_NONE, MODE_AUTO}
use Rattle.shape_plan.specs.Reorder.{ReordersRanges}
use Rattle.shape_common.specs.FlagNames.{HAS_GLYPH_FLAGS}

-- the constants of a shaper
pub record ShaperConstants : Type 0 where
  pub is_default : Bool
  pub preference : ℤ
  pub gpos_tag : Option hb_tag_t
  pub zero_width_marks : ℕ
  pub fallback_position : Bool
  pub has_collect_features : Bool
  pub has_override_features : Bool
  pub has_create_data : Bool
  pub has_preprocess_text : Bool
  pub has_postprocess_glyphs : Bool
  pub has_pause : Bool
  pub has_decompose : Bool
  pub has_compose : Bool
  pub has_setup_masks : Bool
  pub has_reorder_marks : Bool

-- what the hooks of a shaper do under a plan and over a face
pub record HookMeaning : Type 0 where
  pub split : ℕ → Option (ℕ × ℕ)
  -- falls from a character to the first part of its split
  pub height : ℕ → ℕ
  pub compose : ℕ → ℕ → Option ℕ
  -- the buffer after `reorder_marks` from one place up to another
  pub reorder : Buffer → ℕ → ℕ → Buffer
  pub preprocess : Buffer → Buffer
  pub setup_masks : Buffer → Buffer
  pub postprocess : Buffer → Buffer
  -- by the number of the pause
  pub pause : ℕ → Buffer → Buffer

-- a mode of normalising, 0 to 4
abbrev pub is_preference : ℤ → Bool
is_preference preference = int_le MODE_NONE preference && int_le preference MODE_AUTO

-- a time when marks lose their advances, 0 to 2
abbrev pub is_zero_width_type : ℕ → Bool
is_zero_width_type zero_width_marks = nat_le zero_width_marks 2

-- the obligations of every shaper on its constants
pub record LawfulConstants (constants : ShaperConstants) : Type 0 where
  pub preference : is_preference constants.preference ≡ true
  pub zero_width : is_zero_width_type constants.zero_width_marks ≡ true

-- an item except for its mask
abbrev pub without_mask : Item → Item
without_mask item = record item { mask = 0 }

-- nothing differs except masks, and the scratch flag "has glyph flags" (32), which may come to be set
pub record ChangesMasksAlone (before after : Buffer) : Type 0 where
  pub items : map without_mask after.items ≡ map without_mask before.items
  pub scratch : (after.scratch_flags.0 ≡ before.scratch_flags.0) ⊎ (after.scratch_flags.0 ≡ bit_or before.scratch_flags.0 HAS_GLYPH_FLAGS)
  pub rest : record after { items = before.items; scratch_flags = before.scratch_flags } ≡ before

-- the obligations of every shaper on its hooks, whether they are given or not
pub record HookObligations (hooks : HookMeaning) : Type 0 where
  pub height_falls : FallsAlong hooks.split hooks.height
  pub reorders : ReordersRanges hooks.reorder
  pub masks_alone : (b : Buffer) → ChangesMasksAlone b (hooks.setup_masks b)
