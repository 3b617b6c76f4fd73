use Rattle.std.proofs.lemmas.List.Elements.{All-set}
use Rattle.indic_shaper.specs.Consonants.{IsKnown}
use Rattle.indic_shaper.proofs.initial.consonants.keep.Goals as goal

pub returns-then-i-known-clause-known : goal.returns-then-i-known-clause-known
returns-then-i-known-clause-known c = λ lookups facts is known.
    All-set (IsKnown lookups facts) c.args.known.now _ _ (λ set. is) known
