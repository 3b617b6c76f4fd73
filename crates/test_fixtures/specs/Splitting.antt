-- A split that goes two deep.
use Rattle.std.specs.Prelude.{ℕ, ◌==◌, Option, Some, None, if◌then◌else◌}

-- U+1EA4 splits into U+00C2 and U+0301, and U+00C2 into U+0041 and U+0302
abbrev pub stacked_split : ℕ → Option (ℕ × ℕ)
stacked_split c = if c == 0x1EA4 then Some (0xC2, 0x301) else (if c == 0xC2 then Some (0x41, 0x302) else None)
