use Rattle.std.proofs.Common.{◌≡◌, ◌-◌, ◌≤◌, ◌++◌, Bool, List, length, take, drop}
use Rattle.std.specs.Fn.{FnReturnsAt}
use Rattle.shape_items.specs.Items.{Item}
use Rattle.shape_items.specs.Buffer.{Buffer}
use Rattle.shape_items.specs.Delete.{delete_from, deleted}
use Rattle.shape_items.specs.Unwritten.{StandsFor}
use Rattle.shape_items.proofs.Deletion.DeleteLemmas.{standing, with_glyphs}
use Rattle.shape_items.proofs.clusters.delete.delete_items.Given as goal

abbrev pub invariant-loop-i : goal.invariant-loop-i
invariant-loop-i g l = record {
  kept_le : l.kept ≤ l.i;
  runs_le : l.runs ≤ l.kept;
  items_len : length l.infos.items ≡ length l.fn.infos.items;
  positions_len : length l.positions.items ≡ length l.fn.infos.items;
  starts_len : length l.starts ≡ length l.fn.starts;
  left : (given : List Item) × StandsFor (take l.kept l.infos.items) (take l.runs l.starts) given
      × ((picks : Item → Bool) → ((x : Item) (b : Bool) → FnReturnsAt g.F.Fn l.test x b → b ≡ picks x)
      → (b : Buffer) → b.cluster_level ≡ l.level
      → delete_from picks (l.len - l.i) l.kept
      (with_glyphs (given ++ drop l.i l.infos.items) (standing l.kept l.i l.positions.items) l.scratch_flags b)
      ≡ deleted picks (with_glyphs l.fn.infos.items l.fn.positions.items l.fn.scratch_flags b));
}
