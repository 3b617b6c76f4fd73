-- The modes of normalising by name, and the number of each.
use Rattle.std.specs.Prelude.{ℤ, pos}

abbrev pub MODE_NONE : ℤ
MODE_NONE = pos 0

abbrev pub MODE_DECOMPOSED : ℤ
MODE_DECOMPOSED = pos 1

abbrev pub MODE_COMPOSED_DIACRITICS : ℤ
MODE_COMPOSED_DIACRITICS = pos 2

abbrev pub MODE_COMPOSED_DIACRITICS_NO_SHORT_CIRCUIT : ℤ
MODE_COMPOSED_DIACRITICS_NO_SHORT_CIRCUIT = pos 3

abbrev pub MODE_AUTO : ℤ
MODE_AUTO = pos 4
