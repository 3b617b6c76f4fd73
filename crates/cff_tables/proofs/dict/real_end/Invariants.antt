use Rattle.std.proofs.Common.{◌≡◌, ◌-◌, length}
use Rattle.cff_tables.specs.Dict
use Rattle.cff_tables.proofs.dict.real_end.Given as goal

-- what ends from here on ends from the start
abbrev pub invariant-loop-i : goal.invariant-loop-i
invariant-loop-i l = Dict.real_end (length l.dict - l._i) l.dict l.at ≡ Dict.real_end (length l.dict) l.dict l.start
