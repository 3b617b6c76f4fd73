use Rattle.std.proofs.Common.{rules, ◌≡◌, ◌<◌, ◌+◌, ◌==◌, length, get_or, List, map, set, drop, take, subst, sym, ap, ◌∙◌, arith, ◌∷◌, []}
use Rattle.std.proofs.lemmas.Grind.{common_steps}
use Rattle.std.proofs.lemmas.List.{take-set}
use Rattle.shape_items.specs.Buffer.{Buffer}
use Rattle.shape_items.specs.Items.{Item, ccc_of_item}
use Rattle.shape_plan.specs.Rules.{rules_of}
use Rattle.shape_normalize.specs.RoundOne.{emitted_for, seen_emitted}
use Rattle.shape_normalize.specs.OneWalk.{stands_with_marks, FollowsRuns}
use Rattle.shape_normalize.proofs.RoundOne.OneWalkLemmas.{placed_more, seen_more}
use Rattle.shape_normalize.proofs.ot_shape_normalize.one_walk.place_glyphs.Goals as goal

pub loop-i-preserved : goal.loop-i-preserved
loop-i-preserved g c =
    let shaper = g.T.Shaper.hb_ot_shaper_t in
    let planned = rules_of g.T.Unicode.hb_unicode_funcs_t.unicode shaper.constants shaper.hooks g.T.Face.hb_font_t.face c.args.plan.now c.args.face.now in
    let invisible = c.invisible_glyph-invisible.result in
    let items = c.loop-i.buffer.items in
    let i = c.loop-i.i in
    let item = c.index-infos-i.result in
    let whole = c.in-Some.whole in
    let infos_are : c.infos-infos.result.now ≡ items = c.infos-infos.ensures in
    let within : i < length items = omega (arith, c.loop-i-test.true, c.loop-i.invariant.as_many, c.len-i-end.ensures.items) in
    let at : item ≡ get_or items i item = c.index-infos-i.is ∙ ap (λ xs. get_or xs i item) infos_are in
    let short : c.is_asked-is_short.result ≡ planned.short (stands_with_marks (i == 0) (drop i items)) =
    c.is_asked-is_short.ensures planned.short c.of-shortest.ensures
    ∙ ap planned.short (c.stands_with_marks_at.ensures ∙ ap (λ xs. stands_with_marks (i == 0) (drop i xs)) infos_are) in
    let becomes : emitted_for planned invisible c.is_asked-is_short.result item ≡ whole ∷ [] = search (rules, c.in_ok-found.ensures.item) in
    let stays : emitted_for planned invisible (planned.short (stands_with_marks (i == 0) (drop i items))) item ≡ whole ∷ [] =
    rw short at becomes in
    let flags : c.keep_or_expand.new.self.scratch_flags ≡ seen_emitted planned invisible c.is_asked-is_short.result c.loop-i.out.scratch_flags item =
    search (rules, c.in_ok-found.ensures.flags) in
    let written : c.set_info.new.self.items ≡ set items i whole = ap (λ (b : Buffer). b.items) c.set_info.ensures in
    record {
      placed = rw written (placed_more planned invisible items i item whole within at stays ∙ c.loop-i.invariant.placed);
      seen = rw (written, flags, short) (seen_more planned invisible items i item whole c.loop-i.out.scratch_flags within at ∙ c.loop-i.invariant.seen);
      as_many = grind (arith, common_steps, written);
      infos = c.in_ok-found.ensures.infos ∙ c.loop-i.invariant.infos;
      limit = c.in_ok-found.ensures.limit ∙ c.loop-i.invariant.limit;
      rest = c.set_info.ensures ∙ ap (λ (b : Buffer). record b { items = set items i whole }) c.loop-i.invariant.rest
          ∙ ap (λ (xs : List Item). record c.args.buffer.now { items = xs }) (sym written);
      runs = λ yes. subst (λ xs. FollowsRuns (map ccc_of_item (take (i + 1) xs)) c.follow_at.new.self) c.infos.ensures
          (c.in_ok-follow_at.ensures.runs yes);
    }

pub follow_at-requires-clause-runs : goal.follow_at-requires-clause-runs
follow_at-requires-clause-runs g c =
    let items = c.loop-i.buffer.items in
    let written : c.set_info.new.self.items ≡ set items c.loop-i.i c.in-Some.whole = ap (λ (b : Buffer). b.items) c.set_info.ensures in
    λ yes. subst (λ xs. FollowsRuns (map ccc_of_item xs) c.loop-i.runs)
    (sym (ap (take c.loop-i.i) (c.infos.ensures ∙ written) ∙ take-set items c.loop-i.i c.in-Some.whole)) (c.loop-i.invariant.runs yes)
