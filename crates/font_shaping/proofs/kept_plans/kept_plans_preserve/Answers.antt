use Rattle.font_shaping.proofs.kept_plans.kept_plans_preserve.Goals as goal

pub returns-clause-clusters : goal.returns-clause-clusters
returns-clause-clusters g c = c.plans_preserve.ensures.clusters (record {
  clusters = c.opentype_layout_preserves.ensures.clusters;
  flags = c.opentype_layout_preserves.ensures.flags;
})

pub returns-clause-flags : goal.returns-clause-flags
returns-clause-flags g c = c.plans_preserve.ensures.flags (record {
  clusters = c.opentype_layout_preserves.ensures.clusters;
  flags = c.opentype_layout_preserves.ensures.flags;
})
