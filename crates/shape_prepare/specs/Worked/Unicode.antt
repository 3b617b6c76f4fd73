-- What Unicode says of the characters of the worked cases, and a text of characters.
use Rattle.std.specs.Prelude.{ℕ, ◌==◌, ◌&&◌, ◌||◌, nat_le, Bool, if◌then◌else◌, List, map, Option, Some, None}
use Rattle.shape_items.specs.Buffer.{Buffer, new_buffer}
use Rattle.shape_common.specs.Face.{FaceMeaning}
use Rattle.shape_items.specs.Items.{new_item}
use Rattle.shape_common.specs.Positions.{zero_position}
use Rattle.shape_common.specs.Unicode.{UnicodeMeaning}
use Rattle.shape_common.specs.declared.general_category.hb_unicode_general_category_t.{hb_unicode_general_category_t}
use Rattle.shape_common.specs.declared.general_category.hb_unicode_general_category_t.TheVariants.{LowercaseLetter, OtherLetter, ModifierLetter}
use Rattle.shape_common.specs.declared.general_category.hb_unicode_general_category_t.TheVariants.{NonspacingMark, DecimalNumber, ModifierSymbol}
use Rattle.shape_common.specs.declared.general_category.hb_unicode_general_category_t.TheVariants.{OtherSymbol, OpenPunctuation, Format}
use Rattle.shape_common.specs.declared.general_category.hb_unicode_general_category_t.TheVariants.{SpaceSeparator}
use Rattle.shape_common.specs.declared.text_types.Direction.{Direction}
use Rattle.shape_common.specs.declared.text_types.Direction.TheVariants.{LeftToRight, RightToLeft, TopToBottom}
use Rattle.shape_common.specs.declared.text_types.Script.{Script}
use Rattle.shape_common.specs.PlainUnicode.{plain_unicode}
use Rattle.shape_plan.specs.Worked.Faces.{bare_face}

-- categories, near enough to those of UAX 44 for these cases
abbrev pub category_of : ℕ → hb_unicode_general_category_t
category_of c =
    if c == 0x61 || c == 0x62 then LowercaseLetter
    else if c == 0x5D0 then OtherLetter
    else if c == 0x301 || c == 0x323 || c == 0x20E3 || c == 0xFE0F then NonspacingMark
    else if nat_le 0x30 c && nat_le c 0x39 then DecimalNumber
    else if nat_le 0x1F3FB c && nat_le c 0x1F3FF then ModifierSymbol
    else if c == 0x200D || (nat_le 0xE0020 c && nat_le c 0xE007F) then Format
    else if c == 0xFF9E then ModifierLetter
    else if c == 0x20 then SpaceSeparator
    else if c == 0x28 || c == 0x29 then OpenPunctuation
    else OtherSymbol

-- Hebr is written right to left, Mong from the top, Latn left to right, and of Zyyy nothing is known
abbrev pub direction_of : Script → Option Direction
direction_of script =
    if script.0.0 == 0x48656272 then Some RightToLeft
    else if script.0.0 == 0x4D6F6E67 then Some TopToBottom
    else if script.0.0 == 0x4C61746E then Some LeftToRight
    else None

abbrev pub hebrew : Option Script
hebrew = Some (record { 0 = record { 0 = 0x48656272 } })

abbrev pub latin : Option Script
latin = Some (record { 0 = record { 0 = 0x4C61746E } })

abbrev pub mongolian : Option Script
mongolian = Some (record { 0 = record { 0 = 0x4D6F6E67 } })

abbrev pub common : Option Script
common = Some (record { 0 = record { 0 = 0x5A797979 } })

abbrev pub worked_unicode : UnicodeMeaning
worked_unicode = record plain_unicode {
  category = category_of;
  ccc = λ c. if c == 0x301 then 230 else if c == 0x323 then 220 else 0;
  mirrored = λ c. if c == 0x28 then Some 0x29 else if c == 0x29 then Some 0x28 else None;
  vertical = λ c. if c == 0x2014 then Some 0xFE31 else if c == 0x29 then Some 0xFE36 else None;
  ignorable = λ c. c == 0x200D || c == 0xFE0F;
  pictographic = λ c. (nat_le 0x1F400 c && nat_le c 0x1F64F) || c == 0x2764;
  selector = λ c. c == 0xFE0F;
  script = λ c. record { 0 = record { 0 = 0x5A797979 } };
  script_direction = direction_of;
}

-- a face with a glyph for the characters that a test picks
abbrev pub face_with : (ℕ → Bool) → FaceMeaning
face_with has = record bare_face { nominal_glyph = λ c. if has c then Some (record { 0 = 1 }) else None }

-- a text of characters, each with its cluster
abbrev pub text_of : List (ℕ × ℕ) → Buffer
text_of cs = record new_buffer { items = map (λ c. new_item c.0 c.1) cs; positions = map (λ c. zero_position) cs; direction = LeftToRight }

-- what is looked at: characters with their clusters, and continuations
abbrev pub shown : Buffer → List (ℕ × ℕ)
shown b = map (λ item. (item.codepoint, item.cluster)) b.items

abbrev pub continued : Buffer → List Bool
continued b = map (λ item. item.properties.continuation) b.items

abbrev pub masks : Buffer → List ℕ
masks b = map (λ item. item.mask) b.items
