use Rattle.std.proofs.Common.{false, sym, subst}
use Rattle.layout_digests.specs.LigatureSets.{HoldSets}
use Rattle.layout_digests.specs.Stored.{AreStored}
use Rattle.layout_digests.specs.WholeRules.{HoldWholes}
use Rattle.opentype_layout.specs.declared.face.OpenTypeFace.{OpenTypeFace}
use Rattle.opentype_layout.proofs.opened.OpenedOpenTypeFace.stored_gsub.Goals as goal

pub returns-clause-stored : goal.returns-clause-stored
returns-clause-stored c =
    let s = c.self.inside.substitution in
    subst (λ ls. AreStored c.args.self.now.gsub.now false c.as_slice-2.result.now ls) (sym c.as_slice.ensures.value)
    (subst (λ fs. AreStored c.args.self.now.gsub.now false fs s.lookups.items) (sym c.as_slice-2.ensures.value)
    (subst (λ (f : OpenTypeFace). AreStored f.gsub.now false s.firsts.items s.lookups.items) c.self.view_is c.self.invariant.gsub.lookups))

pub returns-clause-sets : goal.returns-clause-sets
returns-clause-sets c =
    subst (λ ss. HoldSets c.args.self.now.gsub.now ss) (sym c.as_slice-3.ensures.value)
    (subst (λ (f : OpenTypeFace). HoldSets f.gsub.now c.self.inside.sets.items) c.self.view_is c.self.invariant.ligatures)

pub returns-clause-wholes : goal.returns-clause-wholes
returns-clause-wholes c =
    subst (λ ws. HoldWholes c.args.self.now.gsub.now false ws) (sym c.as_slice-4.ensures.value)
    (subst (λ (f : OpenTypeFace). HoldWholes f.gsub.now false c.self.inside.substitution.wholes.items) c.self.view_is c.self.invariant.gsub.wholes)
