use Rattle.std.proofs.Common.{◌≡◌, ◌-◌, length}
use Rattle.cff_tables.specs.Dict
use Rattle.cff_tables.proofs.dict.values.Given as goal

-- what is set from here on is what the whole sets
abbrev pub invariant-loop-i : goal.invariant-loop-i
invariant-loop-i l = Dict.dict_from (length l.dict - l._i) l.dict l.reading ≡ Dict.values_of l.dict
