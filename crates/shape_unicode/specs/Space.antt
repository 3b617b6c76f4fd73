-- How wide the spaces are that a face has no glyph for.
use Rattle.std.specs.Prelude.{ℕ, ◌==◌, unwrap_or, option_map}
use Rattle.std.specs.List.{find}
use Rattle.shape_unicode.specs.declared.space.TheConstants.{SPACES}
use Rattle.shape_common.specs.declared.space_types.TheConstants.{NOT_SPACE}

-- the width that the table has for c
abbrev pub space_of : ℕ → ℕ
space_of c = unwrap_or (option_map (λ entry. entry.1) (find (λ entry. entry.0 == c) SPACES)) NOT_SPACE
