use Rattle.font_shaping.proofs.laws.script_runs_preserve.Goals as goal

pub returns-clause-clusters : goal.returns-clause-clusters
returns-clause-clusters g c = c.texts_preserve.ensures.clusters (record {
  clusters = c.opentype_layout_preserves.ensures.clusters;
  flags = c.opentype_layout_preserves.ensures.flags;
})

pub returns-clause-flags : goal.returns-clause-flags
returns-clause-flags g c = c.texts_preserve.ensures.flags (record {
  clusters = c.opentype_layout_preserves.ensures.clusters;
  flags = c.opentype_layout_preserves.ensures.flags;
})

pub returns-clause-equivalence : goal.returns-clause-equivalence
returns-clause-equivalence g c = c.texts_preserve.ensures.equivalence (record {
  clusters = c.opentype_layout_preserves.ensures.clusters;
  flags = c.opentype_layout_preserves.ensures.flags;
})
