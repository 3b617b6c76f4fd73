use Rattle.layout_digests.specs.Lookups.{HasFirsts}
use Rattle.layout_digests.proofs.lookups.lookup_digest.Given as goal

abbrev pub invariant-loop-i : goal.invariant-loop-i
invariant-loop-i l = HasFirsts l.lookups.table.now l.lookups.positioning l.place l.reading.digest l.i
