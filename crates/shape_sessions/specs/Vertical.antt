-- The program's vertical forms.
use Rattle.std.specs.Prelude.{ℕ, ◌==◌, Option}
use Rattle.std.specs.List.{find}
use Rattle.std.specs.Option.{option_map}
use Rattle.shape_sessions.specs.Plain.{plain_form}
use Rattle.shape_sessions.specs.declared.unicode_tables.vertical.TheConstants.{VERTICALS}

-- the vertical form that the table has for c
abbrev pub vertical_in_table : ℕ → Option ℕ
vertical_in_table c = option_map (λ entry. entry.1) (find (λ entry. entry.0 == c) VERTICALS)

-- a vertical form counts among plain characters alone
abbrev pub vertical_of : ℕ → Option ℕ
vertical_of c = plain_form c (vertical_in_table c)
