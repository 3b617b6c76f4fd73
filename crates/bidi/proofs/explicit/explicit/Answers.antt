use Rattle.std.proofs.Common.{◌≤◌, subst, sym}
use Rattle.std.specs.List.{All}
use Rattle.bidi.specs.declared.explicit.Placed.{Placed}
use Rattle.bidi.proofs.WithinLemmas.{all_placed}
use Rattle.bidi.proofs.explicit.explicit.Goals as goal

pub returns-clause-within : goal.returns-clause-within
returns-clause-within c =
    λ le. subst (All (λ (p : Placed). p.level ≤ 125)) (sym c.in_ok-placed.ensures) (all_placed c.args.base c.args.classes.now le)
