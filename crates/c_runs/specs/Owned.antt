-- What the pointer of a kept font owns.
use Rattle.std.specs.Prelude.{Option, Some, None}
use base.Fml.{Fml, ftrue}
use denote.RattleType.{RattleType}
use denote.RawPtr.{Ptr}
use mir.Syntax.{Ty}
use Rattle.std.specs.Box.Ownership.{box_owns}

-- nothing, or the value at the pointer and the right to free its block
abbrev pub owns_kept : (Ty → Ptr → Fml) → (R : RattleType) → Ptr → Option R.Denot → Fml
owns_kept holds R at None = ftrue
owns_kept holds R at (Some kept) = box_owns holds R at kept
