-- parts of a table that stand at an offset
use Rattle.std.specs.Prelude.{ℕ, List, [], nat_lt, nat_le, length, drop, if◌then◌else◌}

-- the bytes from an offset on; none where it is NULL or leads past the end
abbrev pub part_at : List ℕ → ℕ → List ℕ
part_at t offset = if nat_lt 0 offset then (if nat_le offset (length t) then drop offset t else []) else []
