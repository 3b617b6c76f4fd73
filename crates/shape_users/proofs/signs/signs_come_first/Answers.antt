use Rattle.shape_users.proofs.SignCharacterLemmas.{characters-stepped}
use Rattle.shape_users.proofs.signs.signs_come_first.Goals as goal

pub returns : goal.returns
returns c = characters-stepped
