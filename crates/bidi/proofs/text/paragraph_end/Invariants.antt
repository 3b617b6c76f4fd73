use Rattle.std.proofs.Common.{◌≡◌, ◌-◌, ◌≤◌, take, drop}
use Rattle.bidi.specs.Text.{parts_from, parts_of}
use Rattle.bidi.proofs.text.paragraph_end.Given as goal

abbrev pub invariant-loop-i : goal.invariant-loop-i
invariant-loop-i l = record {
  from : l.fn.start ≤ l.i;
  same : parts_from (take (l.i - l.fn.start) (drop l.fn.start l.text)) (drop l.i l.text) ≡ parts_of (drop l.fn.start l.text);
}
