-- what one word names: a tag, a direction, a script, a language
use Rattle.std.specs.Prelude.{ℕ, List, [], ◌∷◌, Bool, not, Option, Some, None, ◌+◌, ◌==◌, ◌||◌, length, map, take, if◌then◌else◌}
use Rattle.std.specs.List.{prefix_len}
use Rattle.shape_common.specs.ScriptTags.{script_of_tag}
use Rattle.shape_common.specs.declared.text_types.Script.{Script}
use Rattle.shape_common.specs.declared.text_types.Direction.{Direction}
use Rattle.shape_common.specs.declared.text_types.Direction.TheVariants.{Invalid, LeftToRight, RightToLeft, TopToBottom, BottomToTop}
use Rattle.shape_text_forms.specs.Feature.{tag_value, is_letter}
use Rattle.shape_text_forms.specs.Scan.{is_between}

-- the first four bytes; an empty text is the tag 0
abbrev pub tag_of_text : List ℕ → ℕ
tag_of_text text = if length text == 0 then 0 else tag_value text

abbrev pub script_of_text : List ℕ → Option Script
script_of_text text = script_of_tag (tag_of_text text)

-- the first letter decides: l (108), r (114), t (116), b (98)
abbrev pub direction_of_text : List ℕ → Direction
direction_of_text [] = Invalid
direction_of_text (first ∷ _) =
    if is_letter 108 first then LeftToRight
    else if is_letter 114 first then RightToLeft
    else if is_letter 116 first then TopToBottom
    else if is_letter 98 first then BottomToTop
    else Invalid

-- how a byte of a language is spelled: small letters and digits, `-` (45) also for `_` (95); 0 for any other
abbrev pub spelled : ℕ → ℕ
spelled b =
    if is_between 97 122 b || is_between 48 57 b || b == 45 then b
    else if is_between 65 90 b then b + 32
    else if b == 95 then 45
    else 0

abbrev pub is_spelled : ℕ → Bool
is_spelled b = not (spelled b == 0)

-- a language ends before the first byte that isn't spelled
abbrev pub language_name : List ℕ → List ℕ
language_name text = map spelled (take (prefix_len is_spelled text) text)

-- no name is no language
abbrev pub language_of_text : List ℕ → Option (List ℕ)
language_of_text text = let name = language_name text in if length name == 0 then None else Some name
