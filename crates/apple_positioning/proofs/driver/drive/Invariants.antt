use Rattle.std.proofs.Common.{◌≡◌, ◌-◌, ◌<◌, ◌^◌, length}
use Rattle.shape_items.specs.Buffer.{limit_of}
use Rattle.apple_positioning.specs.Driver.{driven_on, first_drive}
use Rattle.apple_positioning.specs.Runs.{source_of}
use Rattle.apple_positioning.proofs.driver.drive.Given as goal

-- what the steps from here on make of the walk is what all make of the first one
abbrev pub invariant-loop-i : goal.invariant-loop-i
invariant-loop-i g l = record {
  made : driven_on (source_of l.kerning) (g.M.Machine.deeds l.machine) (l.most - l._i)
      (record { buffer = l.buffer; memory = l.remembered; walk = l.walk })
      ≡ driven_on (source_of l.kerning) (g.M.Machine.deeds l.machine) l.most (first_drive (source_of l.kerning) l.fn.memory l.fn.buffer);
  state : l.walk.state < 2 ^ 16;
  len : length l.buffer.items ≡ length l.fn.buffer.items;
  limit : limit_of l.buffer ≡ limit_of l.fn.buffer;
}
