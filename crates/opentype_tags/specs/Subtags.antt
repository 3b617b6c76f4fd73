-- A language's name as BCP 47 cuts it up: subtags between hyphens. Places are indexes of bytes.
use Rattle.std.specs.Prelude.{ℕ, ◌+◌, ◌-◌, ◌==◌, ◌&&◌, ◌||◌, nat_eq, nat_le, Bool, not, Option, Some, None, List, [], length, take, drop}
use Rattle.std.specs.Prelude.{if◌then◌else◌, slice_index, codes}
use Rattle.std.specs.List.{prefix_len, starts_with}
use Rattle.std.specs.Option.{is_some, unwrap_or}
use Rattle.shape_font.specs.Search.{first_at}

abbrev pub is_digit : ℕ → Bool
is_digit byte = nat_le 48 byte && nat_le byte 57

abbrev pub is_letter : ℕ → Bool
is_letter byte = (nat_le 97 byte && nat_le byte 122) || (nat_le 65 byte && nat_le byte 90)

abbrev pub is_alphanumeric : ℕ → Bool
is_alphanumeric byte = is_digit byte || is_letter byte

abbrev pub is_no_hyphen : ℕ → Bool
is_no_hyphen byte = not (byte == 45)

-- the bytes from a place on begin with those given
abbrev pub begins_at : List ℕ → List ℕ → ℕ → Bool
begins_at name subtags at = starts_with nat_eq (drop at name) subtags

-- how long the subtag is that a name begins with
abbrev pub first_length : List ℕ → ℕ
first_length name = prefix_len is_no_hyphen name

abbrev pub first_subtag : List ℕ → List ℕ
first_subtag name = take (first_length name) name

-- what follows the first subtag and its hyphen
abbrev pub after_first : List ℕ → List ℕ
after_first name = drop (first_length name + 1) name

-- a hyphen before a subtag of one byte that is not the last (RFC 5646, 2.2.6: an extension or private use begins there)
abbrev pub is_before_singleton : List ℕ → ℕ → Bool
is_before_singleton name at = slice_index name at == 45 && slice_index name (at + 2) == 45

abbrev pub is_before_private : List ℕ → ℕ → Bool
is_before_private name at = is_before_singleton name at && slice_index name (at + 1) == 120

-- a name of private use alone
abbrev pub is_all_private : List ℕ → Bool
is_all_private name = starts_with nat_eq name (codes "x-")

-- the registered subtags: what comes before the first extension
abbrev pub registered_subtags : List ℕ → List ℕ
registered_subtags name =
    if is_all_private name then []
    else take (unwrap_or (first_at (is_before_singleton name) (length name) 0) (length name)) name

-- the subtags of private use, from its x on
abbrev pub private_from : List ℕ → Option ℕ → List ℕ
private_from name None = []
private_from name (Some at) = drop (at + 1) name

abbrev pub private_subtags : List ℕ → List ℕ
private_subtags name =
    if is_all_private name then name
    else private_from name (first_at (is_before_private name) (length name) 0)

-- a subtag after the first, given with its hyphen, stands at a place
abbrev pub is_subtag_at : List ℕ → List ℕ → ℕ → Bool
is_subtag_at name subtag at =
    begins_at name subtag at && not (is_alphanumeric (slice_index name (at + length subtag)))

abbrev pub has_subtag : List ℕ → List ℕ → Bool
has_subtag name subtag = is_some (first_at (is_subtag_at name subtag) (length name) 0)

-- a name begins with these subtags
abbrev pub begins_with : List ℕ → List ℕ → Bool
begins_with name subtags =
    begins_at name subtags 0
    && (slice_index name (length subtags) == 0 || slice_index name (length subtags) == 45)
