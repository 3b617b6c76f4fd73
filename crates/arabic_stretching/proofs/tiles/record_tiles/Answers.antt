use Rattle.std.proofs.Common.{rules}
use Rattle.arabic_stretching.specs.Tiles.{recorded}
use Rattle.arabic_stretching.proofs.tiles.record_tiles.Goals as goal

pub returns : goal.returns
returns c = c.update_items.ensures recorded (λ x y said. search rules)
