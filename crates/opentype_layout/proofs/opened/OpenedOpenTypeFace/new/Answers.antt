use Rattle.std.proofs.Common.{◌≡◌, true, false, rules, ap, subst}
use Rattle.layout_digests.specs.LigatureSets.{HoldSets}
use Rattle.layout_digests.specs.Stored.{AreStored}
use Rattle.layout_digests.specs.WholeRules.{HoldWholes}
use Rattle.opentype_layout.specs.Classes.{AreProps}
use Rattle.opentype_layout.proofs.opened.OpenedOpenTypeFace.new.Goals as goal

pub invariant_of-result : goal.invariant_of-result
invariant_of-result c =
    let face = c.args.face in
    let substitution = c.in_ok-substitution.substitution in
    let positioning = c.in_ok-positioning.positioning in
    let gdef : c.gdef.result.now ≡ face.gdef.now = ap (λ t. t.now) c.gdef.ensures in
    let gsub : c.gsub.result.now ≡ face.gsub.now = ap (λ t. t.now) c.gsub.ensures in
    let gpos : c.gpos.result.now ≡ face.gpos.now = ap (λ t. t.now) c.gpos.ensures in
    record {
      font = search rules;
      classes = subst (λ t. AreProps t c.in_ok-props.props.items) gdef c.in_ok-props.ensures.ok;
      gsub = record {
        lookups = subst (λ t. AreStored t false substitution.firsts.items substitution.lookups.items) gsub c.in_ok-substitution.ensures.ok;
        wholes = subst (λ t. HoldWholes t false substitution.wholes.items) gsub c.in_ok-substitution.ensures.wholes;
      };
      gpos = record {
        lookups = subst (λ t. AreStored t true positioning.firsts.items positioning.lookups.items) gpos c.in_ok-positioning.ensures.ok;
        wholes = subst (λ t. HoldWholes t true positioning.wholes.items) gpos c.in_ok-positioning.ensures.wholes;
      };
      ligatures = subst (λ t. HoldSets t c.in_ok-sets.sets.items) (ap (λ t. t.now) c.gsub-2.ensures) c.in_ok-sets.ensures.ok;
    }
