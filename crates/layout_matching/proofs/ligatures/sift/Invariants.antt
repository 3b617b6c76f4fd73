use Rattle.std.proofs.Common.{◌≡◌, ◌+◌, ◌-◌, ◌<◌, ◌≤◌, ℕ, true}
use Rattle.shape_font.specs.Bytes.{u16_of, fitting}
use Rattle.layout_matching.specs.Loops.{steps}
use Rattle.layout_matching.specs.Sifted.{is_out}
use Rattle.layout_matching.specs.Work.{part_counted, set_counted}
use Rattle.layout_matching.proofs.ligatures.sift.Given as goal

-- what is counted from here on is what is counted from the first one on; those before the first that may stand there are out
abbrev pub invariant-loop-r : goal.invariant-loop-r
invariant-loop-r l = record {
  made : set_counted l.lookup l.subtable l.left l.set
      ≡ steps (part_counted l.lookup l.subtable l.set)
      (fitting l.lookup.table.now (u16_of l.lookup.table.now l.set) (l.set + 2) 2 - l.r) l.r l.count;
  out : (k : ℕ) → k < l.r → k < l.first → is_out l.lookup.table.now l.second l.set k ≡ true;
  within : l.first ≤ l.many;
  none : l.r ≤ l.first → l.first ≡ l.many;
}
