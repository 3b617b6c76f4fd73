use Rattle.std.proofs.Common.{◌≡◌, ◌-◌, length}
use Rattle.script_shapers.specs.Modifiers.{stepped_before}
use Rattle.script_shapers.proofs.arabic.modifiers.step_before.Given as goal

abbrev pub invariant-loop-stepped : goal.invariant-loop-stepped
invariant-loop-stepped l = record {
  left : stepped_before l.place (l.from - l.place - l.stepped) l.buffer
      ≡ stepped_before l.place (l.from - l.place) l.fn.buffer;
  len : length l.buffer.items ≡ length l.fn.buffer.items;
}
