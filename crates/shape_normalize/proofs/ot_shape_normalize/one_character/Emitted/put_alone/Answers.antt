use Rattle.std.proofs.Common.{rules, ◌≡◌, ◌<◌, false, [], ◌∷◌, ◌++◌, map, flat_map, fold, length}
use Rattle.shape_plan.specs.Rules.{rules_of}
use Rattle.shape_normalize.specs.RoundOne.{emitted_for, seen_emitted, sequences}
use Rattle.shape_normalize.proofs.RoundOne.AloneLemmas.{alone_put, alone_seen, alone_past}
use Rattle.shape_normalize.proofs.ot_shape_normalize.one_character.Emitted.put_alone.Goals as goal

pub returns-in_err-put_items-clause-length : goal.returns-in_err-put_items-clause-length
returns-in_err-put_items-clause-length g c is_length =
    let shaper = g.T.Shaper.hb_ot_shaper_t in
    let planned = rules_of g.T.Unicode.hb_unicode_funcs_t.unicode shaper.constants shaper.hooks g.T.Face.hb_font_t.face c.args.plan.now c.args.face.now in
    let invisible = c.args.buffer.now.invisible_glyph in
    let not_found = c.args.buffer.now.not_found_variation_selector_glyph in
    let items = c.args.infos.now in
    let alone = c.split_at.result.0.now in
    let rest = c.split_at.result.1.now in
    let short : c.goes_short-shortest.result ≡ planned.short false = c.goes_short-shortest.ensures in
    let parts : sequences items ≡ map (λ item. item ∷ []) alone ++ sequences rest =
    rw (c.split_at.ensures.front, c.split_at.ensures.back) c.count_alone-count.ensures.alone in
    let out = c.args.self.now.infos.items in
    let past : c.args.self.now.limit < length (out ++ flat_map (emitted_for planned invisible c.goes_short-shortest.result) alone) =
    c.in_err-put_items.ensures.length (search rules) in
    alone_past planned invisible not_found items alone rest out c.args.self.now.limit parts (rw short at past)

pub returns-clause-infos : goal.returns-clause-infos
returns-clause-infos g c =
    let shaper = g.T.Shaper.hb_ot_shaper_t in
    let planned = rules_of g.T.Unicode.hb_unicode_funcs_t.unicode shaper.constants shaper.hooks g.T.Face.hb_font_t.face c.args.plan.now c.args.face.now in
    let invisible = c.args.buffer.now.invisible_glyph in
    let not_found = c.args.buffer.now.not_found_variation_selector_glyph in
    let items = c.args.infos.now in
    let alone = c.split_at.result.0.now in
    let rest = c.split_at.result.1.now in
    let short : c.goes_short-shortest.result ≡ planned.short false = c.goes_short-shortest.ensures in
    let parts : sequences items ≡ map (λ item. item ∷ []) alone ++ sequences rest =
    rw (c.split_at.ensures.front, c.split_at.ensures.back) c.count_alone-count.ensures.alone in
    let out = c.args.self.now.infos.items in
    let put : c.put_items.new.self.infos.items ≡ out ++ flat_map (emitted_for planned invisible c.goes_short-shortest.result) alone =
    search (rules, c.in_ok-put_items.ensures.infos) in
    alone_put planned invisible not_found items alone rest out c.put_items.new.self.infos.items parts (rw short at put)

pub returns-clause-flags : goal.returns-clause-flags
returns-clause-flags g c =
    let shaper = g.T.Shaper.hb_ot_shaper_t in
    let planned = rules_of g.T.Unicode.hb_unicode_funcs_t.unicode shaper.constants shaper.hooks g.T.Face.hb_font_t.face c.args.plan.now c.args.face.now in
    let invisible = c.args.buffer.now.invisible_glyph in
    let not_found = c.args.buffer.now.not_found_variation_selector_glyph in
    let items = c.args.infos.now in
    let alone = c.split_at.result.0.now in
    let rest = c.split_at.result.1.now in
    let short : c.goes_short-shortest.result ≡ planned.short false = c.goes_short-shortest.ensures in
    let parts : sequences items ≡ map (λ item. item ∷ []) alone ++ sequences rest =
    rw (c.split_at.ensures.front, c.split_at.ensures.back) c.count_alone-count.ensures.alone in
    let seen : c.put_items.new.self.scratch_flags ≡ fold (seen_emitted planned invisible c.goes_short-shortest.result)
    c.args.self.now.scratch_flags alone =
    search (rules, c.in_ok-put_items.ensures.flags) in
    alone_seen planned invisible not_found items alone rest c.args.self.now.scratch_flags c.put_items.new.self.scratch_flags parts
    (rw short at seen)
