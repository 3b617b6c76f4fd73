use Rattle.std.proofs.Common.{true, sym, subst}
use Rattle.layout_digests.specs.Stored.{AreStored}
use Rattle.layout_digests.specs.WholeRules.{HoldWholes}
use Rattle.opentype_layout.specs.declared.face.OpenTypeFace.{OpenTypeFace}
use Rattle.opentype_layout.proofs.opened.OpenedOpenTypeFace.stored_gpos.Goals as goal

pub returns-clause-stored : goal.returns-clause-stored
returns-clause-stored c =
    let s = c.self.inside.positioning in
    subst (λ ls. AreStored c.args.self.now.gpos.now true c.as_slice-2.result.now ls) (sym c.as_slice.ensures.value)
    (subst (λ fs. AreStored c.args.self.now.gpos.now true fs s.lookups.items) (sym c.as_slice-2.ensures.value)
    (subst (λ (f : OpenTypeFace). AreStored f.gpos.now true s.firsts.items s.lookups.items) c.self.view_is c.self.invariant.gpos.lookups))

pub returns-clause-wholes : goal.returns-clause-wholes
returns-clause-wholes c =
    subst (λ ws. HoldWholes c.args.self.now.gpos.now true ws) (sym c.as_slice-3.ensures.value)
    (subst (λ (f : OpenTypeFace). HoldWholes f.gpos.now true c.self.inside.positioning.wholes.items) c.self.view_is c.self.invariant.gpos.wholes)
