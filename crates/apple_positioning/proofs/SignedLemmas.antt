-- what a signed number that fits is after it was kept as bits
use Rattle.std.proofs.lemmas.Int.{to_z-of_z}
use Rattle.std.proofs.lemmas.Bool.Decides.{nat_tests}

pub ruleset kept_bits = (to_z-of_z, nat_tests)
