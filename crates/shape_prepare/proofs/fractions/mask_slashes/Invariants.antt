use Rattle.std.proofs.Common.{◌≡◌, drop, length}
use Rattle.shape_prepare.specs.Fractions.{slash_places, slashes_masked}
use Rattle.shape_plan.proofs.MaskLemmas.{MasksAlone}
use Rattle.shape_prepare.proofs.fractions.mask_slashes.Given as goal

-- what is left of the slashes makes of the buffer what all of them do
abbrev pub invariant-loop-i : goal.invariant-loop-i
invariant-loop-i l = record {
  same_length : length l.buffer.items ≡ length l.fn.buffer.items;
  alone : MasksAlone l.fn.buffer l.buffer;
  walk : slashes_masked l.masks l.next (slash_places l.i (drop l.i l.fn.buffer.items)) l.buffer
      ≡ slashes_masked l.masks 0 (slash_places 0 l.fn.buffer.items) l.fn.buffer;
}
