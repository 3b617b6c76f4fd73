-- what stands at the front of a text
use Rattle.std.specs.Prelude.{ℕ, List, [], ◌∷◌, Bool, true, false, not, Option, Some, None, ◌+◌, ◌-◌, ◌*◌, ◌%◌, ◌^◌, ◌==◌, ◌&&◌, ◌||◌, nat_lt, nat_le}
use Rattle.std.specs.Prelude.{min, take, drop, if◌then◌else◌}
use Rattle.std.specs.List.{prefix_len, fold}
use Rattle.std.specs.Option.{option_map}
use Rattle.shape_text_forms.specs.declared.scan.Kind.{Kind}
use Rattle.shape_text_forms.specs.declared.scan.Kind.TheVariants.{Space, Digit, Letter, Tag}

abbrev pub is_between : ℕ → ℕ → ℕ → Bool
is_between low high b = nat_le low b && nat_le b high

-- a tag ends at a space, `=` (61), `[` (91), or at its quote
abbrev pub is_of : Kind → ℕ → Bool
is_of Space b = (b == 32) || is_between 9 13 b
is_of Digit b = is_between 48 57 b
is_of Letter b = is_between 97 122 b || is_between 65 90 b
is_of (Tag quote) b = not (b == 32) && not (b == 61) && not (b == 91) && not (b == quote)

abbrev pub without_spaces : List ℕ → List ℕ
without_spaces text = drop (prefix_len (is_of Space) text) text

-- the text after its first byte, if it is this one
abbrev pub after_first : ℕ → List ℕ → Option (List ℕ)
after_first byte [] = None
after_first byte (b ∷ rest) = if b == byte then Some rest else None

-- spaces may stand before the byte
abbrev pub after_byte : ℕ → List ℕ → Option (List ℕ)
after_byte byte text = after_first byte (without_spaces text)

-- a number goes no further than the greatest one of 64 bits
abbrev pub with_digit : ℕ → ℕ → ℕ
with_digit n digit = min (10 * n + (digit - 48)) (2 ^ 64 - 1)

abbrev pub digits_value : List ℕ → ℕ
digits_value digits = fold with_digit 0 digits

-- a minus (45) stands at the front
abbrev pub is_minus : List ℕ → Bool
is_minus [] = false
is_minus (b ∷ _) = b == 45

-- the text after a sign, minus or plus (43)
abbrev pub signed_text : List ℕ → List ℕ
signed_text [] = []
signed_text (b ∷ rest) = if b == 45 || b == 43 then rest else b ∷ rest

-- a number counts modulo 2^32; one that 64 bits with a sign don't hold is none
abbrev pub number_value : Bool → ℕ → Option ℕ
number_value minus n =
    if nat_le (2 ^ 63) n then None
    else if minus then Some ((2 ^ 32 - n % 2 ^ 32) % 2 ^ 32)
    else Some (n % 2 ^ 32)

-- the number at the front, and the text after it: spaces, a sign, digits
abbrev pub number_of : List ℕ → Option (ℕ × List ℕ)
number_of text =
    let front = without_spaces text in
    let digits = signed_text front in
    let count = prefix_len (is_of Digit) digits in
    if count == 0 then None
    else option_map (λ n. (n, drop count digits)) (number_value (is_minus front) (digits_value (take count digits)))
