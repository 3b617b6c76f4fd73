use Rattle.std.proofs.Common.{◌≡◌, map, take}
use Rattle.shape_items.specs.Items.{char_of}
use Rattle.shape_pipeline.proofs.normalised.characters_of.Given as goal

-- the characters so far are read
abbrev pub invariant-loop-info : goal.invariant-loop-info
invariant-loop-info l = l.characters.items ≡ map char_of (take l.info-index l.infos)
