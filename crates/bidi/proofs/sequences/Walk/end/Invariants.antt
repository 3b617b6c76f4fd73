use Rattle.std.proofs.Common.{◌≡◌, map, reverse, vec_len}
use Rattle.bidi.specs.Sequences.{AreAllWithin, all_made, ended, with_sequence}
use Rattle.bidi.proofs.sequences.Walk.«end».Given as goal

abbrev pub invariant-loop-sequence : goal.invariant-loop-sequence
invariant-loop-sequence l = record {
  same : all_made (with_sequence l.fn.base) (map (λ v. v.items) (reverse l.opened.items)) l.levels.items ≡ ended (with_sequence l.fn.base) l.fn.self;
  within : AreAllWithin (map (λ v. v.items) (reverse l.opened.items));
}

abbrev pub decreases-loop-sequence : goal.decreases-loop-sequence
decreases-loop-sequence l = vec_len l.opened
