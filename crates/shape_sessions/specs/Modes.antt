-- The modes of normalising by their numbers.
use Rattle.std.specs.Prelude.{ℕ, ◌==◌, if◌then◌else◌}
use Rattle.shape_sessions.specs.declared.mode.Mode.{Mode}
use Rattle.shape_sessions.specs.declared.mode.Mode.TheVariants.{Shortest, Decomposed, ComposedDiacritics, ComposedDiacriticsNoShortCircuit, Auto}

-- of a number from 0 to 4
abbrev pub mode_of : ℕ → Mode
mode_of number =
    if number == 0 then Shortest
    else (if number == 1 then Decomposed
    else (if number == 2 then ComposedDiacritics
    else (if number == 3 then ComposedDiacriticsNoShortCircuit else Auto)))
