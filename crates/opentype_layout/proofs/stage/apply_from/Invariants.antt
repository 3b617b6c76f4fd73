use Rattle.std.proofs.Common.{◌≡◌, ◌≤◌, ◌-◌, length}
use Rattle.layout_context.specs.Digested.{HoldsGlyphs}
use Rattle.opentype_layout.specs.Stage.{made_from}
use Rattle.opentype_layout.proofs.stage.apply_from.Given as goal

abbrev pub invariant-loop-next : goal.invariant-loop-next
invariant-loop-next l = record {
  inside : l.next ≤ length l.stage.maps.now;
  held : HoldsGlyphs l.run l.buffer.items;
  made : made_from l.stage.tables l.stage.maps.now l.next l.buffer l.spot
      ≡ made_from l.stage.tables l.stage.maps.now l.fn.from.next l.fn.buffer
      (record { at = 0; random = 1; left = l.fn.from.left; whole = 0 });
}

abbrev pub decreases-loop-next : goal.decreases-loop-next
decreases-loop-next l = length l.stage.maps.now - l.next
