-- The program's mirror images.
use Rattle.std.specs.Prelude.{ℕ, ◌==◌, Option}
use Rattle.std.specs.List.{find}
use Rattle.std.specs.Option.{option_map}
use Rattle.shape_sessions.specs.Plain.{plain_form}
use Rattle.shape_sessions.specs.declared.unicode_tables.mirror.TheConstants.{MIRRORS}

-- the mirror image that the table has for c
abbrev pub mirror_in_table : ℕ → Option ℕ
mirror_in_table c = option_map (λ entry. entry.1) (find (λ entry. entry.0 == c) MIRRORS)

-- a mirror image counts among plain characters alone
abbrev pub mirror_of : ℕ → Option ℕ
mirror_of c = plain_form c (mirror_in_table c)
