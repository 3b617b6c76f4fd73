use Rattle.shape_prepare.proofs.Preservation.CharacterLemmas.{preparing_preserves_characters}
use Rattle.shape_prepare.proofs.laws.preparing_preserves_characters.Goals as goal

pub returns : goal.returns
returns c = preparing_preserves_characters
