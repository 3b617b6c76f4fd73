-- Apple's resource forks, whose resources of the type `sfnt` are fonts ("Inside Macintosh: More Macintosh Toolbox",
-- "Resource File Format")
use Rattle.std.specs.Prelude.{ℕ, List, [], Bool, Option, Some, None, ◌+◌, ◌*◌, nat_lt, nat_eq, if◌then◌else◌}
use Rattle.std.specs.Option.{option_map_or}
use Rattle.shape_font.specs.Bytes.{u16_of, u24_of, u32_of}
use Rattle.shape_font.specs.Search.{first_at}
use Rattle.shape_font.specs.Subtables.{tail_of}

-- the header says first where the data begin, 256 bytes on, and then where the map does
abbrev pub is_fork : List ℕ → Bool
is_fork bytes = nat_eq (u32_of bytes 0) 0x100

-- the map says at its byte 24 how far on the list of types begins
abbrev pub types_at : List ℕ → ℕ
types_at bytes = let map = u32_of bytes 4 in map + u16_of bytes (map + 24)

-- the list says how many types follow, less one; of each it has the tag, how many resources it has, less one, and where their records
-- begin, counted from the list
unfoldable pub font_type_in : List ℕ → ℕ → Option ℕ
font_type_in bytes types = first_at (λ i. nat_eq (u32_of bytes (types + 2 + 8 * i)) 0x73666E74) (u16_of bytes types + 1) 0

-- the record of a resource has twelve bytes, from the fifth on where it begins in the data, with its length of four bytes
abbrev pub start_in : List ℕ → ℕ → ℕ → ℕ → Option ℕ
start_in bytes types entry index = if nat_lt (u16_of bytes (entry + 4)) index then None
    else Some (0x104 + u24_of bytes (types + u16_of bytes (entry + 6) + 12 * index + 5))

-- the bytes from the beginning of a font of this type on, and those of a font of the fork; none if there is no such font
abbrev pub font_in : List ℕ → ℕ → ℕ → List ℕ
font_in bytes index i = let types = types_at bytes in
    option_map_or (tail_of bytes) (start_in bytes types (types + 2 + 8 * i) index) []

abbrev pub font_of : List ℕ → ℕ → List ℕ
font_of bytes index = option_map_or (font_in bytes index) (font_type_in bytes (types_at bytes)) []
