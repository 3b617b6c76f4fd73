use Rattle.std.proofs.Common.{◌≡◌, ◌-◌, ℕ, Bool}
use Rattle.shape_font.specs.Search.{first_at}
use Rattle.layout_tables.specs.Variations.{record_holds}
use Rattle.layout_tables.proofs.variations.first_record.Given as goal

-- what is found from here on is what is found from the start
abbrev pub invariant-loop-i : goal.invariant-loop-i
invariant-loop-i l = let p : ℕ → Bool = record_holds l.table l.coordinates l.start in first_at p l.count 0 ≡ first_at p (l.count - l.i) l.i
