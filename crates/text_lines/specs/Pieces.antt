-- The pieces of a line as parts of it.
use Rattle.std.specs.Prelude.{ℕ}
use Rattle.text_lines.specs.Levels.{ByteLevels}
use Rattle.text_lines.specs.Lines.{Shown}
use Rattle.text_lines.specs.declared.pieces.Piece.{Piece}
use Rattle.text_lines.specs.declared.reading.Levels.{Levels}

abbrev pub shown_of : Piece → Shown
shown_of piece = record { start = piece.start; end = piece.end; level = piece.level }

abbrev pub level_in : Piece → ℕ
level_in piece = piece.level

abbrev pub no_piece : Piece
no_piece = record { run = 0; level = 0; first = 0; last = 0; start = 0; end = 0 }

abbrev pub bytes_in : Levels → ByteLevels
bytes_in levels = record { levels = levels.bytes.items; classes = levels.classes.items; bases = levels.bases.items }
