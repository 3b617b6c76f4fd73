use Rattle.std.proofs.lemmas.List.Elements.{All-set}
use Rattle.layout_positions.specs.Known.{IsKnown}
use Rattle.layout_positions.proofs.known.keep.Goals as goal

pub returns-then-i-known : goal.returns-then-i-known
returns-then-i-known c = All-set (IsKnown c.args.lookup.now) c.args.known.now _ _ c.requires.new c.requires.all
