-- The directions that scripts are written in.
use Rattle.std.specs.Prelude.{◌==◌, ◌*◌, ◌/◌, ◌%◌, ◌^◌, ℕ, Bool, Option, Some, None, nat_eq, if◌then◌else◌}
use Rattle.std.specs.Int.{bit_at}
use Rattle.std.specs.List.{list_any}
use Rattle.shape_common.specs.declared.text_types.hb_tag_t.{hb_tag_t}
use Rattle.shape_common.specs.declared.text_types.Script.{Script}
use Rattle.shape_common.specs.declared.text_types.Direction.{Direction}
use Rattle.shape_common.specs.declared.text_types.Direction.TheVariants.{LeftToRight, RightToLeft}
use Rattle.shape_unicode.specs.Script.{tag_of}
use Rattle.shape_unicode.specs.declared.script_direction.TheConstants.{RIGHT_TO_LEFT, EITHER_WAY, LISTED}

-- a script that is written from right to left
abbrev pub is_right_to_left : hb_tag_t → Bool
is_right_to_left tag = list_any (λ letters. tag_of letters == tag.0) RIGHT_TO_LEFT

-- a script that has been written both ways
abbrev pub is_either_way : hb_tag_t → Bool
is_either_way tag = list_any (λ letters. tag_of letters == tag.0) EITHER_WAY

-- left to right for all others, known or not
abbrev pub direction_of : Script → Option Direction
direction_of script =
    if is_right_to_left script.0 then Some RightToLeft
    else if is_either_way script.0 then None
    else Some LeftToRight

-- the place of a tag's bit in a digest of tags
abbrev pub tag_place : hb_tag_t → ℕ
tag_place tag = tag.0 * 1729471 % 2 ^ 32 / 2 ^ 26

-- whether the digest of both lists has that bit
unfoldable pub may_be_listed : hb_tag_t → Bool
may_be_listed tag = nat_eq (bit_at LISTED (tag_place tag)) 1
