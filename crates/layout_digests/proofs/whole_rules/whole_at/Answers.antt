use Rattle.std.proofs.Common.{◌≡◌, ◌<◌, ◌^◌, ℕ, Option, Some, true, sym, ap, ◌∙◌, subst, arith}
use Rattle.std.proofs.lemmas.Bool.Decides.{nat_tests}
use Rattle.shape_font.specs.Bytes.{u16_of}
use Rattle.layout_tables.specs.Lookups.{subtable_of}
use Rattle.layout_digests.specs.Lookups.{extension_kind, is_context_kind}
use Rattle.layout_digests.specs.WholeRules.{HoldsList}
use Rattle.layout_digests.proofs.WholeRuleLemmas.{whole_held}
use Rattle.layout_digests.proofs.whole_rules.whole_at.Goals as goal

pub returns : goal.returns
returns c =
    let t = c.args.lookups.table.now in
    let positioning = c.args.lookups.positioning in
    let s = c.in_ok-subtable.subtable in
    let there : subtable_of t (extension_kind positioning) c.args.place c.args.i ≡ Some s =
    ap (λ kind. subtable_of t kind c.args.place c.args.i) (sym c.extension_kind.ensures) ∙ sym c.in_ok-subtable.ensures.value in
    let context : is_context_kind positioning s.kind ≡ true = sym c.is_context_kind.ensures ∙ c.if-not-is_context_kind.false in
    let near : s.start < 2 ^ 35 = omega (arith, c.in_ok-subtable.ensures.near) in
    let format : u16_of t s.start ≡ 3 = grind (arith, nat_tests, c.if-u16_at-ne3.false, c.u16_at.ensures) in
    whole_held t positioning c.args.place c.args.i s c.is_chained_kind-is_chain.result c.in_ok-rule.rule c.glyphs_of-rule.result
    c.glyphs_of-rule-2.result there context near format c.is_chained_kind-is_chain.ensures
    c.in_ok-rule.ensures.subtable c.in_ok-rule.ensures.counted
    (subst (λ (o : Option ℕ). HoldsList t o c.glyphs_of-rule.result) c.nearest_lists-lists.ensures.before c.glyphs_of-rule.ensures)
    (subst (λ (o : Option ℕ). HoldsList t o c.glyphs_of-rule-2.result) c.nearest_lists-lists.ensures.after c.glyphs_of-rule-2.ensures)
