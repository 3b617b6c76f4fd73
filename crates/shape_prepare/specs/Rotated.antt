-- Characters that have another form in the direction of a text.
use Rattle.std.specs.Prelude.{ℕ, Bool, ◌&&◌, not, if◌then◌else◌, Option, Some, None, is_some, unwrap_or}
use Rattle.std.specs.Int.RustNames.{bit_or}
use Rattle.shape_items.specs.Buffer.{Buffer}
use Rattle.shape_common.specs.Direction.{is_backward, is_vertical}
use Rattle.shape_common.specs.Face.{FaceMeaning}
use Rattle.shape_items.specs.Items.{Item}
use Rattle.shape_common.specs.Unicode.{UnicodeMeaning}
use Rattle.shape_buffer.specs.Walks.{items_mapped}
use Rattle.shape_common.specs.declared.text_types.Direction.{Direction}
use Rattle.shape_plan.specs.declared.decisions.Decisions.{Decisions}

-- the form of a character, if the face has it
abbrev pub form_in : FaceMeaning → Option ℕ → Option ℕ
form_in face None = None
form_in face (Some c) = if is_some (face.nominal_glyph c) then Some c else None

-- a mirrored character, or the mask that lookups mirror by
abbrev pub mirrored_or_masked : ℕ → Item → Option ℕ → Item
mirrored_or_masked rtlm_mask item None = record item { mask = bit_or item.mask rtlm_mask }
mirrored_or_masked rtlm_mask item (Some c) = record item { codepoint = c }

abbrev pub mirrored_item : UnicodeMeaning → FaceMeaning → ℕ → Item → Item
mirrored_item unicode face rtlm_mask item = mirrored_or_masked rtlm_mask item (form_in face (unicode.mirrored item.codepoint))

abbrev pub vertical_item : UnicodeMeaning → FaceMeaning → Item → Item
vertical_item unicode face item = record item { codepoint = unwrap_or (form_in face (unicode.vertical item.codepoint)) item.codepoint }

-- the mirrored form, if it is asked for, and then the vertical form of what the item has become, if that is asked for
abbrev pub in_forms : UnicodeMeaning → FaceMeaning → Bool → ℕ → Bool → Item → Item
in_forms unicode face mirrors rtlm_mask is_upright item =
    let mirrored = if mirrors then mirrored_item unicode face rtlm_mask item else item in
    if is_upright then vertical_item unicode face mirrored else mirrored

-- a backward direction mirrors, and a vertical one sets upright if no lookup does
abbrev pub rotated_item : UnicodeMeaning → FaceMeaning → Decisions → Direction → Item → Item
rotated_item unicode face decisions target =
    in_forms unicode face (is_backward target) decisions.rtlm_mask (is_vertical target && not decisions.has_vert)

-- each character in the form for the target direction; properties stay
unfoldable pub rotated : UnicodeMeaning → FaceMeaning → Decisions → Direction → Buffer → Buffer
rotated unicode face decisions target b = items_mapped (rotated_item unicode face decisions target) b
