use Rattle.std.proofs.Common.{◌≡◌, ◌≢◌, ℕ, true, refl, subst}
use Rattle.layout_tables.specs.Features.{may_hold, tag_place}
use Rattle.layout_tables.proofs.DigestLemmas.{one_more, none_yet, only_more}
use Rattle.layout_tables.proofs.features.first_tags.Goals as goal

pub loop-i-init : goal.loop-i-init
loop-i-init c = (λ tag lacks. refl, none_yet c.args.table.now c.args.lang_sys)

pub loop-i-preserved : goal.loop-i-preserved
loop-i-preserved c = (
  one_more c.args.table.now c.args.lang_sys c.loop-i.i c.loop-i.digest c.with_tag-digest.result c.loop-i.invariant.0
      c.with_tag-digest.ensures.kept
      (subst (λ tag. may_hold c.with_tag-digest.result tag ≡ true) c.listed_tag.ensures c.with_tag-digest.ensures.set),
  only_more c.args.table.now c.args.lang_sys c.loop-i.i c.loop-i.digest c.with_tag-digest.result c.loop-i.invariant.1
      (subst (λ tag. (other : ℕ) → tag_place other ≢ tag_place tag
      → may_hold c.with_tag-digest.result other ≡ may_hold c.loop-i.digest other) c.listed_tag.ensures c.with_tag-digest.ensures.others),
)
