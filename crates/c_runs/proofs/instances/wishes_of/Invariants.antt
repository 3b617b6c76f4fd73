use Rattle.std.proofs.Common.{◌≡◌, map, take}
use Rattle.c_runs.specs.Instances.{variation_of_c}
use Rattle.c_runs.proofs.instances.wishes_of.Given as goal

abbrev pub invariant-loop-wish : goal.invariant-loop-wish
invariant-loop-wish l = l.list.items ≡ map variation_of_c (take l.wish-index l.wishes)
