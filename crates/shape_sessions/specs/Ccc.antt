-- The program's combining classes.
use Rattle.std.specs.Prelude.{ℕ, ◌==◌, unwrap_or, if◌then◌else◌}
use Rattle.std.specs.List.{find}
use Rattle.std.specs.Option.{option_map}
use Rattle.shape_sessions.specs.Category.{is_marked}
use Rattle.shape_sessions.specs.declared.unicode_tables.ccc.TheConstants.{CCC}

-- the ccc that the table has for c, 0 if it has none
abbrev pub ccc_in_table : ℕ → ℕ
ccc_in_table c = unwrap_or (option_map (λ entry. entry.1) (find (λ entry. entry.0 == c) CCC)) 0

-- a ccc counts for marks alone
abbrev pub ccc_of : ℕ → ℕ
ccc_of c = if is_marked c then ccc_in_table c else 0
