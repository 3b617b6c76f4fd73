-- The forms that characters have in vertical text (UAX 44, Decomposition_Mapping with the tag `<vertical>`, inverted).
use Rattle.std.specs.Prelude.{ℕ, ◌==◌, Option, option_map}
use Rattle.std.specs.List.{find}
use Rattle.shape_unicode.specs.declared.vertical.TheConstants.{VERTICAL_FORMS}

-- the form that the table has for c
abbrev pub vertical_of : ℕ → Option ℕ
vertical_of c = option_map (λ entry. entry.1) (find (λ entry. entry.0 == c) VERTICAL_FORMS)
