use Rattle.std.proofs.Common.{◌≡◌, ◌<◌, max, List, length, get_or, set, refl, ap, ap₂, sym, ◌∙◌, arith}
use Rattle.std.proofs.lemmas.List.{length-set}
use Rattle.shape_items.specs.Buffer.{Buffer}
use Rattle.shape_items.specs.Items.{Item, ccc_of_item}
use Rattle.shape_items.specs.UnicodeProps.{with_scratch_of}
use Rattle.shape_common.specs.declared.flags.ScratchFlags.{ScratchFlags}
use Rattle.shape_plan.specs.Rules.{rules_of}
use Rattle.shape_normalize.specs.Recast.{recast_to}
use Rattle.shape_normalize.proofs.RoundThree.RoundThreeWalkLemmas.{some_items, IsRecomposedTo-first, IsRecomposedTo-absorbed, IsRecomposedTo-starter, IsRecomposedTo-mark, walked_items}
use Rattle.shape_normalize.proofs.ot_shape_normalize.round_three.compose_in_place.Goals as goal
use Rattle.shape_normalize.proofs.ot_shape_normalize.round_three.compose_in_place.Goals.{then-ccc-eq0, else-ccc-eq0}

pub loop-place-init : goal.loop-place-init
loop-place-init g c =
    let shaper = g.T.Shaper.hb_ot_shaper_t in
    let rules = rules_of g.T.Unicode.hb_unicode_funcs_t.unicode shaper.constants shaper.hooks g.T.Face.hb_font_t.face c.args.plan.now c.args.face.now in
    let old = c.args.buffer.now in
    let some : 0 < length old.items = some_items old.items c.is_empty.result c.is_empty.ensures.1 c.if-is_empty.false in
    record {
      within = some;
      size = refl;
      walked = rw c.new-spans.ensures.items (IsRecomposedTo-first rules old.items old.scratch_flags some);
      rest = refl;
    }

pub loop-place-preserved-in-Some : goal.loop-place-preserved-in-Some
loop-place-preserved-in-Some g c =
    let shaper = g.T.Shaper.hb_ot_shaper_t in
    let rules = rules_of g.T.Unicode.hb_unicode_funcs_t.unicode shaper.constants shaper.hooks g.T.Face.hb_font_t.face c.args.plan.now c.args.face.now in
    let l = c.loop-place in
    let old = c.args.buffer.now in
    let x = c.index-infos-place.result in
    let s = c.index-infos-starter.result in
    let lt : l.place < length l.buffer.items = omega (arith, c.loop-place-test.true, c.len-place-end.ensures.items, l.invariant.size) in
    let is_x : x ≡ get_or l.buffer.items l.place x = c.index-infos-place.is ∙ ap (λ xs. get_or xs l.place x) c.infos-infos.ensures in
    let is_s : s ≡ get_or l.buffer.items l.starter s = c.index-infos-starter.is ∙ ap (λ xs. get_or xs l.starter s) c.infos-infos.ensures in
    let composed : Item = recast_to rules.unicode rules.face.nominal_glyph s c.in-Some.c in
    let items : List Item = set l.buffer.items l.starter composed in
    let flags : ScratchFlags = with_scratch_of rules.unicode c.in-Some.c l.buffer.scratch_flags in
    let put : c.put_composed.new.buffer ≡ record l.buffer { items = items; scratch_flags = flags } = c.put_composed.ensures s is_s in
    let items_are : c.put_composed.new.buffer.items ≡ items = ap (λ (b : Buffer). b.items) put in
    let flags_are : c.put_composed.new.buffer.scratch_flags ≡ flags = ap (λ (b : Buffer). b.scratch_flags) put in
    let size : length c.put_composed.new.buffer.items ≡ length l.buffer.items =
    ap length items_are ∙ length-set l.buffer.items l.starter composed in
    record {
      within = omega (arith, size, l.invariant.within);
      size = size ∙ l.invariant.size;
      walked = rw (items_are, flags_are, c.in_ok-push.ensures.items)
          (IsRecomposedTo-absorbed rules old.items old.scratch_flags l.place l.buffer.items l.spans.items l.buffer.scratch_flags
          l.starter l.from l.greatest x s lt is_x is_s l.invariant.walked c.in-Some.c c.in-Some.ensures);
      rest =
          put ∙ ap (λ (b : Buffer). record b { items = items; scratch_flags = flags }) l.invariant.rest
          ∙ sym (ap₂ (λ (xs : List Item) (f : ScratchFlags). record old { items = xs; scratch_flags = f }) items_are flags_are);
    }

pub loop-place-preserved : goal.loop-place-preserved
loop-place-preserved g c =
    let shaper = g.T.Shaper.hb_ot_shaper_t in
    let rules = rules_of g.T.Unicode.hb_unicode_funcs_t.unicode shaper.constants shaper.hooks g.T.Face.hb_font_t.face c.args.plan.now c.args.face.now in
    let l = c.loop-place in
    let old = c.args.buffer.now in
    let x = c.index-infos-place.result in
    let s = c.index-infos-starter.result in
    let ccc_is = c._hb_glyph_info_get_modified_combining_class-ccc.ensures in
    let lt : l.place < length l.buffer.items = omega (arith, c.loop-place-test.true, c.len-place-end.ensures.items, l.invariant.size) in
    let is_x : x ≡ get_or l.buffer.items l.place x = c.index-infos-place.is ∙ ap (λ xs. get_or xs l.place x) c.infos-infos.ensures in
    let is_s : s ≡ get_or l.buffer.items l.starter s = c.index-infos-starter.is ∙ ap (λ xs. get_or xs l.starter s) c.infos-infos.ensures in
    elim c.if-ccc-eq0.branch [
      | then-ccc-eq0 w ↦
          record {
            within = omega (arith, w.starter-is, lt);
            size = l.invariant.size;
            walked = rw (w.starter-is, w.from-is, w.greatest-is)
                (IsRecomposedTo-starter rules old.items old.scratch_flags l.place l.buffer.items l.spans.items l.buffer.scratch_flags
                l.starter l.from l.greatest x s lt is_x is_s l.invariant.walked c.in_default.ensures (sym ccc_is ∙ w.if-ccc-eq0.true));
            rest = l.invariant.rest;
          }
      | else-ccc-eq0 w ↦
          let greatest : c.if-ccc-eq0.greatest ≡ max l.greatest (ccc_of_item x) = w.greatest-is ∙ w.max-greatest.ensures ∙ ap (max l.greatest) ccc_is in
          record {
            within = omega (arith, w.starter-is, l.invariant.within);
            size = l.invariant.size;
            walked = rw (w.starter-is, w.from-is, greatest)
                (IsRecomposedTo-mark rules old.items old.scratch_flags l.place l.buffer.items l.spans.items l.buffer.scratch_flags
                l.starter l.from l.greatest x s lt is_x is_s l.invariant.walked c.in_default.ensures
                (λ e. w.if-ccc-eq0.false (ccc_is ∙ e)));
            rest = l.invariant.rest;
          }
    ]

pub returns-clause-items : goal.returns-clause-items
returns-clause-items g c =
    let shaper = g.T.Shaper.hb_ot_shaper_t in
    let rules = rules_of g.T.Unicode.hb_unicode_funcs_t.unicode shaper.constants shaper.hooks g.T.Face.hb_font_t.face c.args.plan.now c.args.face.now in
    let l = c.loop-place in
    walked_items rules c.args.buffer.now.items c.args.buffer.now.scratch_flags l.place l.buffer.items l.spans.items l.buffer.scratch_flags
    l.starter l.from l.greatest (omega (arith, c.loop-place-test.false, c.len-place-end.ensures.items)) l.invariant.walked
