-- Which characters may take another's place.
use Rattle.std.specs.Prelude.{ℕ, ◌&&◌, not, Bool, Option, Some, None, option_and_then, if◌then◌else◌}
use Rattle.shape_common.specs.Category.{is_space_category}
use Rattle.shape_sessions.specs.Category.{category_of, is_marked}

-- neither a mark nor a space separator
abbrev pub is_plain : ℕ → Bool
is_plain c = not (is_marked c) && not (is_space_category (category_of c))

-- the form that a table has for c, if both are plain
abbrev pub plain_form : ℕ → Option ℕ → Option ℕ
plain_form c form = option_and_then (λ d. if is_plain c && is_plain d then Some d else None) form
