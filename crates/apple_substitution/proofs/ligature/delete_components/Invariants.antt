use Rattle.std.proofs.Common.{◌≡◌, ◌-◌}
use Rattle.apple_substitution.specs.Ligature.{deleted_from}
use Rattle.apple_substitution.proofs.ligature.delete_components.Given as goal

abbrev pub invariant-loop-k : goal.invariant-loop-k
invariant-loop-k l =
    deleted_from l.places l.k (l.to - l.k) l.buffer ≡ deleted_from l.places l.from (l.to - l.from) l.fn.buffer
