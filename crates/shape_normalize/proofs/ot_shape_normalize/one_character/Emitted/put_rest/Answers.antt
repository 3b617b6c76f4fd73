use Rattle.std.proofs.Common.{rules, ◌≡◌, ◌<◌, ◌+◌, ◌++◌, ◌==◌, length, get_or, map, drop, take, subst, sym, ap, ◌∙◌, arith, append_assoc}
use Rattle.shape_items.specs.Items.{ccc_of_item}
use Rattle.shape_plan.specs.Rules.{rules_of}
use Rattle.shape_normalize.specs.RoundOne.{emitted_for, seen_emitted}
use Rattle.shape_normalize.specs.OneWalk.{stands_with_marks, expanded_after, FollowsRuns}
use Rattle.shape_normalize.proofs.RoundTwo.NotedLemmas.{taken_before}
use Rattle.shape_normalize.proofs.RoundOne.OneWalkLemmas.{after_here, seen_here, passed_by_more}
use Rattle.shape_normalize.proofs.ot_shape_normalize.one_character.Emitted.put_rest.Goals as goal

pub loop-i-preserved : goal.loop-i-preserved
loop-i-preserved g c =
    let shaper = g.T.Shaper.hb_ot_shaper_t in
    let planned = rules_of g.T.Unicode.hb_unicode_funcs_t.unicode shaper.constants shaper.hooks g.T.Face.hb_font_t.face c.args.plan.now c.args.face.now in
    let invisible = c.invisible_glyph-invisible.result in
    let items = c.infos-infos.result.now in
    let i = c.loop-i.i in
    let item = c.index-infos-i.result in
    let out = c.loop-i.self.infos.items in
    let within : i < length items = omega (arith, c.loop-i-test.true) in
    let at : item ≡ get_or items i item = c.index-infos-i.is in
    let short : c.is_asked-is_short.result ≡ planned.short (stands_with_marks (i == 0) (drop i items)) =
    c.is_asked-is_short.ensures planned.short c.of-shortest.ensures ∙ ap planned.short c.stands_with_marks_at.ensures in
    let put : c.put_item.new.self.infos.items ≡ out ++ emitted_for planned invisible c.is_asked-is_short.result item =
    search (rules, c.in_ok-put_item.ensures.infos) in
    let seen : c.put_item.new.self.scratch_flags ≡ seen_emitted planned invisible c.is_asked-is_short.result c.loop-i.self.scratch_flags item =
    search (rules, c.in_ok-put_item.ensures.flags) in
    record {
      infos = rw (put, short) (append_assoc out _ _
          ∙ ap (λ xs. out ++ xs) (sym (after_here planned invisible items i item within at)) ∙ c.loop-i.invariant.infos);
      flags = rw (seen, short) (sym (seen_here planned invisible items i item c.loop-i.self.scratch_flags within at) ∙ c.loop-i.invariant.flags);
      within = search (rules, c.in_ok-put_item.ensures.within);
      limit = search (rules, c.in_ok-put_item.ensures.limit);
      runs = search (rules, c.in_ok-follow_from.ensures.runs);
    }

-- what was emitted, and what this item becomes, is a part of the whole
pub returns-in_err-put_item-clause-length : goal.returns-in_err-put_item-clause-length
returns-in_err-put_item-clause-length g c is_length =
    let shaper = g.T.Shaper.hb_ot_shaper_t in
    let planned = rules_of g.T.Unicode.hb_unicode_funcs_t.unicode shaper.constants shaper.hooks g.T.Face.hb_font_t.face c.args.plan.now c.args.face.now in
    let invisible = c.invisible_glyph-invisible.result in
    let items = c.infos-infos.result.now in
    let i = c.loop-i.i in
    let item = c.index-infos-i.result in
    let out = c.loop-i.self.infos.items in
    let short : c.is_asked-is_short.result ≡ planned.short (stands_with_marks (i == 0) (drop i items)) =
    c.is_asked-is_short.ensures planned.short c.of-shortest.ensures ∙ ap planned.short c.stands_with_marks_at.ensures in
    let becomes = emitted_for planned invisible (planned.short (stands_with_marks (i == 0) (drop i items))) item in
    let later = expanded_after planned invisible (i + 1 == 0) (drop (i + 1) items) in
    let skipped : c.loop-i.self.limit < length (out ++ becomes) = rw (← short) (c.in_err-put_item.ensures.length (search rules)) in
    rw (← c.infos-infos.ensures, ← c.loop-i.invariant.limit, ← c.invisible_glyph-invisible.ensures)
    (passed_by_more (out ++ becomes) later _ c.loop-i.self.limit (append_assoc out becomes later
    ∙ ap (λ xs. out ++ xs) (sym (after_here planned invisible items i item (omega (arith, c.loop-i-test.true)) c.index-infos-i.is))
    ∙ c.loop-i.invariant.infos) skipped)

pub follow_from-requires-clause-runs : goal.follow_from-requires-clause-runs
follow_from-requires-clause-runs g c =
    let shaper = g.T.Shaper.hb_ot_shaper_t in
    let planned = rules_of g.T.Unicode.hb_unicode_funcs_t.unicode shaper.constants shaper.hooks g.T.Face.hb_font_t.face c.args.plan.now c.args.face.now in
    let out = c.loop-i.self.infos.items in
    let becomes = emitted_for planned c.invisible_glyph-invisible.result c.is_asked-is_short.result c.index-infos-i.result in
    let put : c.put_item.new.self.infos.items ≡ out ++ becomes = search (rules, c.in_ok-put_item.ensures.infos) in
    let counted : c.len-before.result ≡ length out = omega arith in
    λ yes. subst (λ cccs. FollowsRuns cccs c.loop-i.runs)
    (sym (ap (λ xs. map ccc_of_item (take c.len-before.result xs)) c.deref.ensures.value
    ∙ taken_before out becomes c.put_item.new.self.infos.items c.len-before.result counted put))
    (c.loop-i.invariant.runs yes)
