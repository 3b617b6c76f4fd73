use Rattle.std.proofs.Common.{◌≡◌, ◌+◌, ◌≤◌, List, [], ◌∷◌, length, map, reverse, refl, sym, ap, ◌∙◌, arith}
use Rattle.shape_items.specs.Items.{Item}
use Rattle.shape_common.specs.declared.flags.ScratchFlags.{ScratchFlags}
use Rattle.shape_plan.specs.Rules.{rules_of}
use Rattle.shape_normalize.specs.RoundOne.{emitted_for}
use Rattle.shape_normalize.specs.Recast.{recast, seen_mapped}
use Rattle.shape_normalize.specs.declared.ot_shape_normalize.recast.MappedChar.{MappedChar}
use Rattle.shape_normalize.proofs.RoundOne.EmitLemmas.{memory_alone, past_room, within_room, put_as, length_of_parts}
use Rattle.shape_normalize.proofs.ot_shape_normalize.one_character.Emitted.put_item.Goals as goal

pub returns-in_err-found-clause-length : goal.returns-in_err-found-clause-length
returns-in_err-found-clause-length g c is = absurd (memory_alone c.from_residual.result c.from_residual.ensures.1 is)

pub returns-in_err-put_expansion-clause-length : goal.returns-in_err-put_expansion-clause-length
returns-in_err-put_expansion-clause-length g c is =
    absurd (memory_alone c.from_residual-in_err-put_expansion.result c.from_residual-in_err-put_expansion.ensures.1 is)

pub returns-in_err-push_item-clause-length : goal.returns-in_err-push_item-clause-length
returns-in_err-push_item-clause-length g c is =
    absurd (memory_alone c.from_residual-in_err-push_item.result c.from_residual-in_err-push_item.ensures.1 is)

pub returns-then-room-len-clause-length : goal.returns-then-room-len-clause-length
returns-then-room-len-clause-length g c is =
    let shaper = g.T.Shaper.hb_ot_shaper_t in
    let planned = rules_of g.T.Unicode.hb_unicode_funcs_t.unicode shaper.constants shaper.hooks g.T.Face.hb_font_t.face c.args.plan.now c.args.face.now in
    let expansion = c.keep_or_expand.new.self.expansion in
    let out = c.args.self.now.infos in
    let piece = emitted_for planned c.args.invisible c.args.shortest c.args.info.now in
    let many : length piece ≡ length expansion.seconds.items + 1 =
    length_of_parts (recast planned.unicode c.args.info.now) expansion.first expansion.seconds.items piece (rw c.in_default.is at c.in_ok-found.ensures.parts) in
    past_room out.items piece c.args.self.now.limit (omega (arith, out.ok.0)) (omega (arith, many, out.ok.0, expansion.seconds.ok.0))

pub returns-then-room-eq0-clause-length : goal.returns-then-room-eq0-clause-length
returns-then-room-eq0-clause-length g c is =
    let shaper = g.T.Shaper.hb_ot_shaper_t in
    let planned = rules_of g.T.Unicode.hb_unicode_funcs_t.unicode shaper.constants shaper.hooks g.T.Face.hb_font_t.face c.args.plan.now c.args.face.now in
    let out = c.args.self.now.infos in
    let piece = emitted_for planned c.args.invisible c.args.shortest c.args.info.now in
    let many : length piece ≡ 1 = ap length (rw c.in-Some.is at c.in_ok-found.ensures.item) in
    past_room out.items piece c.args.self.now.limit (omega (arith, out.ok.0)) (omega (arith, many, out.ok.0))

pub returns-in_default-clause-infos : goal.returns-in_default-clause-infos
returns-in_default-clause-infos g c =
    let shaper = g.T.Shaper.hb_ot_shaper_t in
    let planned = rules_of g.T.Unicode.hb_unicode_funcs_t.unicode shaper.constants shaper.hooks g.T.Face.hb_font_t.face c.args.plan.now c.args.face.now in
    let expansion = c.keep_or_expand.new.self.expansion in
    let same : c.keep_or_expand.new.self.infos.items ≡ c.args.self.now.infos.items = rw c.in_ok-found.ensures.infos refl in
    put_as c.put_expansion.new.self.infos.items c.keep_or_expand.new.self.infos.items c.args.self.now.infos.items
    (map (recast planned.unicode c.args.info.now) (expansion.first ∷ reverse expansion.seconds.items))
    (emitted_for planned c.args.invisible c.args.shortest c.args.info.now) c.in_ok-put_expansion.ensures.infos same
    (rw c.in_default.is at c.in_ok-found.ensures.parts)

pub returns-in_default-clause-flags : goal.returns-in_default-clause-flags
returns-in_default-clause-flags g c =
    let shaper = g.T.Shaper.hb_ot_shaper_t in
    let planned = rules_of g.T.Unicode.hb_unicode_funcs_t.unicode shaper.constants shaper.hooks g.T.Face.hb_font_t.face c.args.plan.now c.args.face.now in
    let expansion = c.keep_or_expand.new.self.expansion in
    let parts : List MappedChar = expansion.first ∷ reverse expansion.seconds.items in
    let same : c.keep_or_expand.new.self.scratch_flags ≡ c.args.self.now.scratch_flags = rw c.in_default.is at c.in_ok-found.ensures.same in
    c.in_ok-put_expansion.ensures.flags ∙ ap (λ (flags : ScratchFlags). seen_mapped planned.unicode flags parts) same
    ∙ sym (rw c.in_default.is at c.in_ok-found.ensures.seen)

pub returns-in_default-clause-within : goal.returns-in_default-clause-within
returns-in_default-clause-within g c =
    let expansion = c.keep_or_expand.new.self.expansion in
    let unicode = g.T.Unicode.hb_unicode_funcs_t.unicode in
    let kept = c.keep_or_expand.new.self.infos in
    let new = c.put_expansion.new.self.infos in
    let piece : List Item = map (recast unicode c.args.info.now) (expansion.first ∷ reverse expansion.seconds.items) in
    let many : length piece ≡ length expansion.seconds.items + 1 =
    length_of_parts (recast unicode c.args.info.now) expansion.first expansion.seconds.items piece refl in
    let same : length kept.items ≡ length c.args.self.now.infos.items = rw c.in_ok-found.ensures.infos refl in
    let limit : c.put_expansion.new.self.limit ≡ c.args.self.now.limit = c.in_ok-put_expansion.ensures.limit ∙ c.in_ok-found.ensures.limit in
    let within : length new.items ≤ c.args.self.now.limit =
    within_room kept.items piece new.items c.args.self.now.limit (omega (arith, same, c.args.self.now.infos.ok.0))
    (omega (arith, many, same, c.args.self.now.infos.ok.0, expansion.seconds.ok.0)) c.in_ok-put_expansion.ensures.infos in
    omega (arith, within, limit, new.ok.0)

pub returns-clause-infos : goal.returns-clause-infos
returns-clause-infos g c =
    let shaper = g.T.Shaper.hb_ot_shaper_t in
    let planned = rules_of g.T.Unicode.hb_unicode_funcs_t.unicode shaper.constants shaper.hooks g.T.Face.hb_font_t.face c.args.plan.now c.args.face.now in
    let same : c.keep_or_expand.new.self.infos.items ≡ c.args.self.now.infos.items = rw c.in_ok-found.ensures.infos refl in
    put_as c.push_item.new.infos.items c.keep_or_expand.new.self.infos.items c.args.self.now.infos.items
    (c.in-Some.whole ∷ []) (emitted_for planned c.args.invisible c.args.shortest c.args.info.now) c.in_ok-push_item.ensures same
    (rw c.in-Some.is at c.in_ok-found.ensures.item)

pub returns-clause-flags : goal.returns-clause-flags
returns-clause-flags g c = rw c.in-Some.is at c.in_ok-found.ensures.flags
