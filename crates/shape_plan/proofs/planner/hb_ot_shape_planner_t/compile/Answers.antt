use Rattle.shape_plan.proofs.DecisionLemmas.{are_lawful-decided}
use Rattle.shape_plan.proofs.planner.hb_ot_shape_planner_t.compile.Goals as goal

-- the engine guarantees that masks lack the defined bits
pub assembled-requires : goal.assembled-requires
assembled-requires g c =
    rw (c.decide.ensures, c.facts-facts.ensures) (are_lawful-decided _ _ _ (g.met.M.hb_ot_layout_t.lawful_masks c.in_ok-ot_map.ot_map))
