use Rattle.std.proofs.Common.{ℕ, ◌<◌, ◌≤◌, ◌⊎◌}
use Rattle.shape_users.specs.Paragraph.{cluster_at, EndsIn}
use Rattle.shape_users.proofs.paragraph.next_cluster.Given as goal

abbrev pub invariant-loop-glyph : goal.invariant-loop-glyph
invariant-loop-glyph l = record {
  ends : EndsIn l.glyphs l.text_len l.next;
  above : l.cluster < l.text_len → l.cluster < l.next;
  least : (k : ℕ) → k < l.glyph-index → (cluster_at l.glyphs k ≤ l.cluster) ⊎ (l.next ≤ cluster_at l.glyphs k);
}
