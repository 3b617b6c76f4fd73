-- What pauses of Arabic do. After stch the tiles of signs that stretch are noted, if the font has that feature. After rlig the
-- forms are made without lookups, if each of the four features of forms is on and in neither table.
use Rattle.std.specs.Prelude.{ℕ, Bool, ◌==◌, ◌&&◌, not, is_none, Option, if◌then◌else◌}
use Rattle.shape_buffer.specs.Layout.{MapMeaning}
use Rattle.shape_buffer.specs.declared.interfaces.map_request.TableIndex.TheVariants.{GSUB, GPOS}
use Rattle.shape_common.specs.Face.{FaceMeaning}
use Rattle.shape_common.specs.declared.text_types.hb_tag_t.{hb_tag_t}
use Rattle.shape_items.specs.Buffer.{Buffer}
use Rattle.arabic_fallback.specs.Fallback.{fallback_shaped}
use Rattle.arabic_stretching.specs.Tiles.{tiles_recorded}
use Rattle.arabic_fallback.specs.declared.classes.GlyphClass.{GlyphClass}
use Rattle.arabic_fallback.specs.declared.fallback.FallbackMasks.{FallbackMasks}
use Rattle.letter_joining.specs.declared.features.TheConstants.{ISOL, FINA, MEDI, INIT}
use Rattle.script_shapers.specs.declared.arabic.requests.TheConstants.{FALLBACK, STRETCH, STCH, RLIG}

abbrev pub lacks : MapMeaning → hb_tag_t → Bool
lacks map tag =
    not (map.one_mask tag == 0) && is_none (map.feature_index GSUB tag) && is_none (map.feature_index GPOS tag)

abbrev pub lacks_forms : MapMeaning → Bool
lacks_forms map = lacks map ISOL && lacks map FINA && lacks map MEDI && lacks map INIT

abbrev pub masks_of : (hb_tag_t → ℕ) → FallbackMasks
masks_of mask = record { init = mask INIT; medi = mask MEDI; fina = mask FINA; isol = mask ISOL; rlig = mask RLIG }

abbrev pub tiles_noted : MapMeaning → Buffer → Buffer
tiles_noted map b = if map.one_mask STCH == 0 then b else tiles_recorded b

abbrev pub forms_made : MapMeaning → FaceMeaning → (ℕ → Option GlyphClass) → Buffer → Buffer
forms_made map face classes b = if lacks_forms map then fallback_shaped face classes (masks_of map.one_mask) b else b

-- what the pause of a number makes of a buffer
abbrev pub made_by_pause : ℕ → MapMeaning → FaceMeaning → (ℕ → Option GlyphClass) → Buffer → Buffer
made_by_pause n map face classes b =
    if n == STRETCH then tiles_noted map b else (if n == FALLBACK then forms_made map face classes b else b)
