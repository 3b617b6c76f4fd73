use Rattle.std.proofs.Common.{◌≡◌, ◌+◌, ◌-◌, length}
use Rattle.script_shapers.specs.Modifiers.{brought_before}
use Rattle.script_shapers.proofs.arabic.modifiers.bring_before.Given as goal

abbrev pub invariant-loop-brought : goal.invariant-loop-brought
invariant-loop-brought l = record {
  left : brought_before l.ccc (l.end - l.from - l.brought) (l.from - l.place) (l.place + l.brought) l.buffer
      ≡ brought_before l.ccc (l.end - l.from) (l.from - l.place) l.place l.fn.buffer;
  len : length l.buffer.items ≡ length l.fn.buffer.items;
}
