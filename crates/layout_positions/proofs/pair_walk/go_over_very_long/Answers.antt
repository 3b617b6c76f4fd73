use Rattle.layout_positions.proofs.PairedLemmas.{all_unsought}
use Rattle.layout_positions.proofs.pair_walk.go_over_very_long.Goals as goal

pub go_along-requires-clause-known : goal.go_along-requires-clause-known
go_along-requires-clause-known c = all_unsought c.args.named.now.lookup 512 c.unsought-none.result c.unsought-none.ensures
