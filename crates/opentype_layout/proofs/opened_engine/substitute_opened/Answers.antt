use Rattle.std.proofs.Common.{◌≡◌, false, sym, ap, subst, ◌∙◌}
use Rattle.layout_digests.specs.LigatureSets.{HoldSets}
use Rattle.layout_digests.specs.Stored.{AreStored}
use Rattle.layout_digests.specs.WholeRules.{HoldWholes}
use Rattle.opentype_layout.specs.declared.face.OpenTypeFace.{OpenTypeFace}
use Rattle.opentype_layout.specs.declared.lookups.LookupTables.{LookupTables}
use Rattle.opentype_layout.proofs.opened_engine.substitute_opened.Goals as goal

pub substitute_by-requires-clause-stored : goal.substitute_by-requires-clause-stored
substitute_by-requires-clause-stored c =
    let same : c.gsub_tables.result.table.now ≡ c.args.face.now.gsub.now =
    ap (λ (t : LookupTables). t.table.now) c.gsub_tables.ensures ∙ ap (λ (f : OpenTypeFace). f.gsub.now) c.face.ensures in
    subst (λ t. AreStored t false c.stored_gsub.result.firsts.now c.stored_gsub.result.lookups.now) (sym same) c.stored_gsub.ensures.stored

pub substitute_by-requires-clause-sets : goal.substitute_by-requires-clause-sets
substitute_by-requires-clause-sets c =
    let same : c.gsub_tables.result.table.now ≡ c.args.face.now.gsub.now =
    ap (λ (t : LookupTables). t.table.now) c.gsub_tables.ensures ∙ ap (λ (f : OpenTypeFace). f.gsub.now) c.face.ensures in
    subst (λ t. HoldSets t c.stored_gsub.result.sets.now) (sym same) c.stored_gsub.ensures.sets

pub substitute_by-requires-clause-wholes : goal.substitute_by-requires-clause-wholes
substitute_by-requires-clause-wholes c =
    let same : c.gsub_tables.result.table.now ≡ c.args.face.now.gsub.now =
    ap (λ (t : LookupTables). t.table.now) c.gsub_tables.ensures ∙ ap (λ (f : OpenTypeFace). f.gsub.now) c.face.ensures in
    subst (λ t. HoldWholes t false c.stored_gsub.result.wholes.now) (sym same) c.stored_gsub.ensures.wholes
