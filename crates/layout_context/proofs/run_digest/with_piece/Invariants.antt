use Rattle.layout_digests.specs.Digests.{IsWithin}
use Rattle.layout_context.specs.Digested.{HoldsFirst}
use Rattle.layout_context.proofs.run_digest.with_piece.Given as goal

abbrev pub invariant-loop-i : goal.invariant-loop-i
invariant-loop-i l = record {
  held : HoldsFirst l.all l.infos l.i;
  kept : IsWithin l.fn.digest l.all;
}
