-- a value for an axis as text: a tag, `=`, a number
use Rattle.std.specs.Prelude.{ℕ, List, Option, Some, None, ◌&&◌, ◌==◌, drop, length, if◌then◌else◌}
use Rattle.std.specs.Option.{option_map, option_and_then}
use Rattle.std.specs.Float.{Float, binary32, float_is_finite}
use Rattle.fast_float.specs.Parse.{read_float}
use Rattle.font_variations.specs.declared.coordinates.Variation.{Variation}
use Rattle.shape_text_forms.specs.Feature.{tag_of}
use Rattle.shape_text_forms.specs.Scan.{without_spaces, after_byte}

-- spaces may stand before the number
abbrev pub number_at_front : List ℕ → Option (Float × List ℕ)
number_at_front text = let front = without_spaces text in
    option_map (λ r. (r.0, drop r.1 front)) (read_float binary32 front)

-- finite, and only spaces may stand after it
abbrev pub with_number : ℕ → Float × List ℕ → Option Variation
with_number tag number = if float_is_finite number.0 && length (without_spaces number.1) == 0
    then Some (record { tag = tag; value = number.0 }) else None

-- `=` is 61
abbrev pub variation_of : List ℕ → Option Variation
variation_of text = option_and_then (λ found. option_and_then (λ rest.
    option_and_then (with_number found.0) (number_at_front rest)) (after_byte 61 found.1)) (tag_of text)
