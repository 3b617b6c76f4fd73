use Rattle.std.proofs.Common.{◌≡◌, reverse, vec_len}
use Rattle.bidi.specs.Explicit.{up_to_isolate}
use Rattle.bidi.proofs.explicit.Stack.pop_isolate.Given as goal

abbrev pub invariant-loop-status : goal.invariant-loop-status
invariant-loop-status l = record {
  entries : up_to_isolate l.self-inside.top (reverse l.self-inside.below.items) ≡ up_to_isolate l.fn.self.top l.fn.self.below;
  overflow_isolates : l.self-inside.overflow_isolates ≡ l.fn.self.overflow_isolates;
  overflow_embeddings : l.self-inside.overflow_embeddings ≡ l.fn.self.overflow_embeddings;
  isolates : l.self-inside.isolates ≡ l.fn.self.isolates;
}

abbrev pub decreases-loop-status : goal.decreases-loop-status
decreases-loop-status l = vec_len l.self-inside.below
