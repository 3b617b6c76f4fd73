use Rattle.layout_digests.specs.Coverages.{HasListed}
use Rattle.layout_digests.specs.Digests.{IsWithin}
use Rattle.layout_digests.proofs.coverage.with_listed.Given as goal

abbrev pub invariant-loop-i : goal.invariant-loop-i
invariant-loop-i l = record {
  glyphs : HasListed l.table l.start l.all l.i;
  kept : IsWithin l.fn.digest l.all;
}
