-- The first words of lines, and the words for directions.
use Rattle.std.specs.Prelude.{ℕ, List, Option, Some, None, codes, if◌then◌else◌}
use Rattle.std.specs.Str.{bytes_eq}
use Rattle.shape_common.specs.declared.text_types.Direction.{Direction}
use Rattle.shape_common.specs.declared.text_types.Direction.TheVariants.{Invalid, LeftToRight, RightToLeft, TopToBottom, BottomToTop}
use Rattle.shape_sessions.specs.declared.command.Command.{Command}
use Rattle.shape_sessions.specs.declared.command.Command.TheVariants as command

-- what a line that begins with a word is about
abbrev pub command_of : List ℕ → Option Command
command_of word =
    if bytes_eq word (codes "face") then Some command.Face
    else (if bytes_eq word (codes "glyph") then Some command.Glyph
    else (if bytes_eq word (codes "mode") then Some command.Mode
    else (if bytes_eq word (codes "level") then Some command.Level
    else (if bytes_eq word (codes "dir") then Some command.Dir
    else (if bytes_eq word (codes "flags") then Some command.Flags
    else (if bytes_eq word (codes "text") then Some command.Text
    else (if bytes_eq word (codes "same") then Some command.Same
    else (if bytes_eq word (codes "lines") then Some command.Lines else None))))))))

-- the direction of a word; `auto`, which leaves it to be guessed, is Invalid
abbrev pub direction_of : List ℕ → Option Direction
direction_of word =
    if bytes_eq word (codes "auto") then Some Invalid
    else (if bytes_eq word (codes "ltr") then Some LeftToRight
    else (if bytes_eq word (codes "rtl") then Some RightToLeft
    else (if bytes_eq word (codes "ttb") then Some TopToBottom
    else (if bytes_eq word (codes "btt") then Some BottomToTop else None))))
