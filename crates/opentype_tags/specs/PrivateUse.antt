-- A tag that a language's private use names: after -hbot of a language system, after -hbsc of a script.
use Rattle.std.specs.Prelude.{ℕ, ◌+◌, ◌-◌, ◌*◌, ◌%◌, ◌==◌, ◌&&◌, nat_le, nat_lt, Bool, not, min, Option, Some, None, List, [], ◌∷◌, length, take}
use Rattle.std.specs.Prelude.{drop, fold, if◌then◌else◌, slice_index, codes}
use Rattle.std.specs.List.{prefix_len}
use Rattle.std.specs.Option.{option_map, option_and_then}
use Rattle.std.specs.Int.RustNames.{bit_and, bit_xor}
use Rattle.shape_font.specs.Search.{first_at}
use Rattle.opentype_tags.specs.Subtags.{begins_at, private_subtags, is_alphanumeric, is_digit}

-- the value of a hexadecimal digit
abbrev pub hex_value : ℕ → Option ℕ
hex_value byte =
    if is_digit byte then Some (byte - 48)
    else if nat_le 97 byte && nat_le byte 102 then Some (byte - 87)
    else if nat_le 65 byte && nat_le byte 70 then Some (byte - 55)
    else None

-- one digit more, of a number of at most eight
abbrev pub with_digit : Option ℕ → ℕ → Option ℕ
with_digit number byte = option_and_then (λ n. option_map (λ d. n % 0x10000000 * 16 + d) (hex_value byte)) number

-- a tag by eight hexadecimal digits
abbrev pub hex_tag : List ℕ → Option ℕ
hex_tag bytes = if nat_lt (length bytes) 8 then None else fold with_digit (Some 0) (take 8 bytes)

-- a letter as tags of scripts have them, small, or as those of language systems do, capital
abbrev pub in_case : Bool → ℕ → ℕ
in_case small byte =
    if small && nat_le 65 byte && nat_le byte 90 then byte + 32
    else if not small && nat_le 97 byte && nat_le byte 122 then byte - 32
    else byte

-- byte i of a tag that `count` letters and digits spell, filled up with spaces
abbrev pub tag_byte : Bool → List ℕ → ℕ → ℕ → ℕ
tag_byte small bytes count i = if nat_lt i count then in_case small (slice_index bytes i) else 32

-- a tag by up to four letters and digits, at least one
abbrev pub spelled_tag : Bool → List ℕ → Option ℕ
spelled_tag small bytes =
    let count = min 4 (prefix_len is_alphanumeric bytes) in
    if count == 0 then None
    else Some (tag_byte small bytes count 0 * 0x1000000 + tag_byte small bytes count 1 * 0x10000
    + tag_byte small bytes count 2 * 0x100 + tag_byte small bytes count 3)

-- the default's tag has the other case: DFLT of scripts, dflt of language systems
abbrev pub default_in_case : ℕ → ℕ
default_in_case n = if bit_and n 0xDFDFDFDF == 0x44464C54 then bit_xor n 0x20202020 else n

abbrev pub written_tag : Bool → List ℕ → Option ℕ
written_tag small bytes = if slice_index bytes 0 == 45 then hex_tag (drop 1 bytes) else spelled_tag small bytes

abbrev pub tag_after : Bool → List ℕ → Option ℕ
tag_after small bytes = option_map default_in_case (written_tag small bytes)

-- the tag after a place of a key
abbrev pub tag_at : Bool → List ℕ → Option ℕ → Option ℕ
tag_at small subtags None = None
tag_at small subtags (Some at) = tag_after small (drop (at + 5) subtags)

-- the tag after the first place of the key
abbrev pub tag_in : Bool → List ℕ → List ℕ → Option ℕ
tag_in small key subtags = tag_at small subtags (first_at (begins_at subtags key) (length subtags) 0)

abbrev pub private_tag : Bool → List ℕ → List ℕ → Option ℕ
private_tag small key name = tag_in small key (private_subtags name)
