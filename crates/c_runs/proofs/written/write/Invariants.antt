use Rattle.std.proofs.Common.{◌≡◌, ◌+◌, ◌++◌, map, take, drop}
use Rattle.std.specs.List.{zip}
use Rattle.c_runs.specs.Glyphs.{glyph_of}
use Rattle.c_runs.proofs.written.write.Given as goal

abbrev pub invariant-loop-k : goal.invariant-loop-k
invariant-loop-k l =
    l.room ≡ take l.start l.fn.room ++ (map glyph_of (take l.k (zip l.infos l.positions)) ++ drop (l.start + l.k) l.fn.room)
