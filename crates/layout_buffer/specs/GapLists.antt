-- A list with a gap, as a struct.
use Rattle.std.specs.Prelude.{◌+◌, ◌≤◌, List, length}
use Rattle.layout_buffer.specs.Gap.{around}
use Rattle.layout_buffer.specs.declared.gap.GapList.{GapList}

-- the list
abbrev pub list_of : {T : Type 0} → GapList T → List T
list_of l = around l.at l.room l.stored.items

-- the gap lies in storage
abbrev pub IsGap : {T : Type 0} → GapList T → Type 0
IsGap l = l.at + l.room ≤ length l.stored.items
