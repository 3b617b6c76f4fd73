-- What letters of Hebrew and their points make.
use Rattle.std.specs.Prelude.{ℕ, ◌==◌, ◌&&◌, Bool, if◌then◌else◌, Option, None, [], ◌∷◌}
use Rattle.std.specs.List.{All, find}
use Rattle.std.specs.Option.{option_map}
use Rattle.canonical_form.specs.Equivalent.{IsEquivalent}
use Rattle.shape_common.specs.Unicode.{UnicodeMeaning}
use Rattle.script_shapers.specs.declared.hebrew.forms.TheConstants.{FORMS}

-- the character of the table for a letter and a point
abbrev pub form_of : ℕ → ℕ → Option ℕ
form_of letter point = option_map (λ entry. entry.2) (find (λ entry. entry.0 == letter && entry.1 == point) FORMS)

-- none where GPOS attaches marks, which then places the point on its letter
abbrev pub form_unless : Bool → ℕ → ℕ → Option ℕ
form_unless attaches letter point = if attaches then None else form_of letter point

-- each character of the table is equivalent to its letter and its point, by Unicode's splits
abbrev pub FormsAreSound : UnicodeMeaning → Type 0
FormsAreSound unicode = All (λ (entry : ℕ × ℕ × ℕ). IsEquivalent
    (record { split = unicode.split; height = unicode.height; ccc = unicode.ccc }) (entry.2 ∷ []) (entry.0 ∷ entry.1 ∷ [])) FORMS
