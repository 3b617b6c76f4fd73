use Rattle.std.proofs.Common.{◌≡◌, ◌++◌, drop}
use Rattle.text_lines.specs.Levels.{of_bytes}
use Rattle.text_lines.proofs.reading.of_bytes.Given as goal

abbrev pub invariant-loop-place : goal.invariant-loop-place
invariant-loop-place g l = l.bytes.items ++ of_bytes (drop l.place l.characters) (drop l.place l.values) ≡ of_bytes l.characters l.values
