use Rattle.std.proofs.Common.{◌≡◌, ◌*◌, Bool, false, take}
use Rattle.std.specs.Fn.{FnReturnsAt}
use Rattle.std.specs.List.{list_any}
use Rattle.shape_items.specs.Items.{Item}
use Rattle.shape_buffer.proofs.passing.passed_over.Given as goal

-- none before the place passes the test
abbrev pub invariant-loop-k : goal.invariant-loop-k
invariant-loop-k g l =
    (p : Item → Bool) → ((x : Item) (y : Bool) → FnReturnsAt g.P.Fn l.is x y → y ≡ p x) → list_any p (take (4 * l.k) l.infos) ≡ false
