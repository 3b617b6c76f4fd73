use Rattle.std.proofs.Common.{◌≡◌, true, sym, ap, subst, ◌∙◌}
use Rattle.layout_digests.specs.Stored.{AreStored}
use Rattle.layout_digests.specs.WholeRules.{HoldWholes}
use Rattle.opentype_layout.specs.declared.face.OpenTypeFace.{OpenTypeFace}
use Rattle.opentype_layout.specs.declared.lookups.LookupTables.{LookupTables}
use Rattle.opentype_layout.proofs.opened_engine.OpenTypeLayouthb_ot_layout_tOpenedOpenTypeFace.position.Goals as goal

pub position_by-requires-clause-stored : goal.position_by-requires-clause-stored
position_by-requires-clause-stored c =
    let same : c.gpos_tables-tables.result.table.now ≡ c.args.face.now.gpos.now =
    ap (λ (t : LookupTables). t.table.now) c.gpos_tables-tables.ensures ∙ ap (λ (f : OpenTypeFace). f.gpos.now) c.face.ensures in
    subst (λ t. AreStored t true c.stored_gpos.result.firsts.now c.stored_gpos.result.lookups.now) (sym same) c.stored_gpos.ensures.stored

pub position_by-requires-clause-wholes : goal.position_by-requires-clause-wholes
position_by-requires-clause-wholes c =
    let same : c.gpos_tables-tables.result.table.now ≡ c.args.face.now.gpos.now =
    ap (λ (t : LookupTables). t.table.now) c.gpos_tables-tables.ensures ∙ ap (λ (f : OpenTypeFace). f.gpos.now) c.face.ensures in
    subst (λ t. HoldWholes t true c.stored_gpos.result.wholes.now) (sym same) c.stored_gpos.ensures.wholes
