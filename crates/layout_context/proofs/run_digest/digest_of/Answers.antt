use Rattle.layout_context.proofs.DigestLemmas.{piece_held}
use Rattle.layout_context.proofs.run_digest.digest_of.Goals as goal

pub loop-at-preserved : goal.loop-at-preserved
loop-at-preserved c = record {
  within = c.piece-piece.ensures.few;
  held = piece_held c.args.items.now c.piece-piece.result.now c.loop-at.all c.with_piece-all.result c.loop-at.at c.loop-at.invariant.held
      c.with_piece-all.ensures.kept c.with_piece-all.ensures.held c.piece-piece.ensures.items;
}
