use Rattle.std.proofs.Common.{refl}
use Rattle.shape_items.specs.Words.{properties_of}
use Rattle.shape_items.proofs.properties.ItemProperties.new.Goals as goal

pub returns : goal.returns
unfolding properties_of
returns c = refl
