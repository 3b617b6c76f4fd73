-- a feature as text: sign, tag, range, value
use Rattle.std.specs.Prelude.{ℕ, List, [], ◌∷◌, Bool, Option, Some, None, ◌+◌, ◌-◌, ◌*◌, ◌%◌, ◌^◌, ◌==◌, ◌&&◌, ◌||◌, nat_lt, length, take, drop}
use Rattle.std.specs.Prelude.{get_or, if◌then◌else◌, is_some}
use Rattle.std.specs.List.{prefix_len}
use Rattle.std.specs.Option.{option_map, option_or, option_and_then, option_map_or, unwrap_or}
use Rattle.shape_common.specs.declared.text_types.Feature.{Feature}
use Rattle.shape_text_forms.specs.Scan.{is_of, without_spaces, after_first, after_byte, number_of}
use Rattle.shape_text_forms.specs.declared.scan.Kind.TheVariants.{Letter, Tag}

-- four bytes, the first one highest; spaces (32) if there are fewer
abbrev pub tag_value : List ℕ → ℕ
tag_value bytes =
    get_or bytes 0 32 * 16777216 + get_or bytes 1 32 * 65536 + get_or bytes 2 32 * 256 + get_or bytes 3 32

-- a minus (45) switches a feature off; without a sign, and after a plus (43), it is on
abbrev pub sign_of : List ℕ → ℕ × List ℕ
sign_of text = option_map_or (λ rest. (0, rest)) (after_byte 45 text)
    (option_map_or (λ rest. (1, rest)) (after_byte 43 text) (1, text))

-- the quote at the front, `'` (39) or `"` (34); 0 for none
abbrev pub quote_of : List ℕ → ℕ
quote_of [] = 0
quote_of (b ∷ _) = if b == 39 || b == 34 then b else 0

-- the tag of one to four bytes, and the text after it
abbrev pub plain_tag_of : List ℕ → Option (ℕ × List ℕ)
plain_tag_of text = let count = prefix_len (is_of (Tag 0)) text in
    if count == 0 || nat_lt 4 count then None else Some (tag_value (take count text), drop count text)

-- the tag of four bytes between quotes, and the text after them; the first quote is skipped
abbrev pub quoted_tag_of : ℕ → List ℕ → Option (ℕ × List ℕ)
quoted_tag_of quote text = let count = prefix_len (is_of (Tag quote)) text in
    if count == 4 then option_map (λ rest. (tag_value (take 4 text), rest)) (after_first quote (drop 4 text)) else None

abbrev pub tag_of : List ℕ → Option (ℕ × List ℕ)
tag_of text = let front = without_spaces text in
    if quote_of front == 0 then plain_tag_of front else quoted_tag_of (quote_of front) (drop 1 front)

-- a number at the front and the text after it, or none and the text as it is
abbrev pub optional_number : List ℕ → Option ℕ × List ℕ
optional_number text = option_map_or (λ r. (Some r.0, r.1)) (number_of text) (None, text)

-- where a range without a colon ends: after the one character that its number names, else nowhere
abbrev pub end_of_one : Option ℕ → ℕ
end_of_one start = option_map_or (λ n. (n + 1) % 2 ^ 32) start (2 ^ 32 - 1)

-- where a range ends, and the text after it: at the number after `:` (58) or `;` (59), nowhere without one
abbrev pub end_of : Option ℕ → List ℕ → ℕ × List ℕ
end_of start text = option_map_or
    (λ rest. let last = optional_number rest in (unwrap_or last.0 (2 ^ 32 - 1), last.1))
    (option_or (after_byte 58 text) (after_byte 59 text))
    (end_of_one start, text)

-- the range between brackets, after the opening one: start, end, and the text after `]` (93)
abbrev pub bracketed : List ℕ → Option (ℕ × ℕ × List ℕ)
bracketed text =
    let start = optional_number text in
    let end = end_of start.0 start.1 in
    option_map (λ rest. (unwrap_or start.0 0, end.0, rest)) (after_byte 93 end.1)

-- the range after `[` (91); without one the whole text
abbrev pub range_of : List ℕ → Option (ℕ × ℕ × List ℕ)
range_of text = option_map_or bracketed (after_byte 91 text) (Some (0, 2 ^ 32 - 1, text))

-- whether a byte is this small letter, or its capital
abbrev pub is_letter : ℕ → ℕ → Bool
is_letter small b = b == small || b + 32 == small

-- `on` (111 110) is 1, `off` (111 102 102) is 0
abbrev pub switch_value : List ℕ → Option ℕ
switch_value (a ∷ b ∷ []) = if is_letter 111 a && is_letter 110 b then Some 1 else None
switch_value (a ∷ b ∷ c ∷ []) = if is_letter 111 a && is_letter 102 b && is_letter 102 c then Some 0 else None
switch_value _ = None

abbrev pub switch_of : List ℕ → Option (ℕ × List ℕ)
switch_of text =
    let front = without_spaces text in
    let count = prefix_len (is_of Letter) front in
    option_map (λ value. (value, drop count front)) (switch_value (take count front))

abbrev pub given_value : List ℕ → Option (ℕ × List ℕ)
given_value text = option_or (number_of text) (switch_of text)

-- a number or a switch, after `=` (61) or with none; after `=` it must stand there, else the sign's value stays
abbrev pub value_of : ℕ → List ℕ → Option (ℕ × List ℕ)
value_of by_sign text =
    option_map_or given_value (after_byte 61 text) (option_or (given_value text) (Some (by_sign, text)))

-- only spaces may stand after the value
abbrev pub with_value : ℕ → ℕ → ℕ → Option (ℕ × List ℕ) → Option Feature
with_value tag start end None = None
with_value tag start end (Some value) = if length (without_spaces value.1) == 0
    then Some (record { tag = record { 0 = tag }; value = value.0; start = start; end = end })
    else None

abbrev pub feature_of : List ℕ → Option Feature
feature_of text =
    let sign = sign_of text in
    option_and_then (λ tag. option_and_then (λ range. with_value tag.0 range.0 range.1 (value_of sign.0 range.2))
    (range_of tag.1)) (tag_of sign.1)
