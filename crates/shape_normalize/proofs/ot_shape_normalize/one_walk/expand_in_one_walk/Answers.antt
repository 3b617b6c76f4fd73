use Rattle.std.proofs.Common.{rules, ◌≡◌, ◌<◌, ◌≤◌, ◌++◌, ◌==◌, List, length, replicate, vec_len, drop, take, refl, sym, ap, ◌∙◌, arith}
use Rattle.std.proofs.lemmas.List.{length-take-le}
use Rattle.shape_items.specs.Buffer.{Buffer, limit_of}
use Rattle.shape_items.specs.Items.{Item}
use Rattle.shape_common.specs.Positions.{zero_position}
use Rattle.shape_plan.specs.Rules.{rules_of}
use Rattle.shape_normalize.specs.OneWalk.{expanded_after}
use Rattle.shape_normalize.proofs.RoundOne.OneWalkLemmas.{limit-placed, counts_whole, placed_whole, counts_on, placed_on, passed_by_more}
use Rattle.shape_normalize.proofs.ot_shape_normalize.one_walk.expand_in_one_walk.Goals as goal

pub returns-then-out-from-clause-length : goal.returns-then-out-from-clause-length
returns-then-out-from-clause-length g c is_length =
    let shaper = g.T.Shaper.hb_ot_shaper_t in
    let planned = rules_of g.T.Unicode.hb_unicode_funcs_t.unicode shaper.constants shaper.hooks g.T.Face.hb_font_t.face c.args.plan.now c.args.face.now in
    let old = c.args.buffer.now in
    let placed = c.place_glyphs.new.buffer in
    let n = c.in_ok-from.from in
    let all : length placed.items ≤ n = omega (arith, c.len.ensures.items, c.if-from-len.true) in
    let limit : c.place_glyphs.new.out.limit ≡ limit_of old = c.in_ok-from.ensures.limit ∙ c.begin-out.ensures.limit in
    let skipped : limit_of old < length placed.items =
    omega (arith, c.len.ensures.items, c.if-from-len.true, limit, c.if-out-from.true) in
    counts_whole planned old placed n c.requires.expands c.in_ok-from.ensures.placed c.in_ok-from.ensures.rest all (limit_of old) skipped

-- the items that were placed are a part of the whole
pub returns-in_err-put_placed-clause-length : goal.returns-in_err-put_placed-clause-length
returns-in_err-put_placed-clause-length g c is_length =
    let shaper = g.T.Shaper.hb_ot_shaper_t in
    let planned = rules_of g.T.Unicode.hb_unicode_funcs_t.unicode shaper.constants shaper.hooks g.T.Face.hb_font_t.face c.args.plan.now c.args.face.now in
    let old = c.args.buffer.now in
    let placed = c.place_glyphs.new.buffer in
    let n = c.in_ok-from.from in
    let limit : c.place_glyphs.new.out.limit ≡ limit_of old = c.in_ok-from.ensures.limit ∙ c.begin-out.ensures.limit in
    let same : limit_of placed ≡ limit_of old = limit-placed planned old placed n c.requires.expands c.in_ok-from.ensures.placed c.in_ok-from.ensures.rest in
    let passed : c.place_glyphs.new.out.limit < n = c.in_err-put_placed.ensures.length (search rules) in
    let front : length (take n placed.items) ≡ n = length-take-le n placed.items c.in_ok-from.ensures.within in
    let skipped : limit_of placed < length (take n placed.items) = omega (arith, front, passed, limit, same) in
    counts_on planned old placed n c.requires.expands c.in_ok-from.ensures.placed c.in_ok-from.ensures.rest
    (passed_by_more (take n placed.items) (expanded_after planned placed.invisible_glyph (n == 0) (drop n placed.items)) _
    (limit_of placed) refl skipped)

pub returns-in_err-put_rest-clause-length : goal.returns-in_err-put_rest-clause-length
returns-in_err-put_rest-clause-length g c is_length =
    let shaper = g.T.Shaper.hb_ot_shaper_t in
    let planned = rules_of g.T.Unicode.hb_unicode_funcs_t.unicode shaper.constants shaper.hooks g.T.Face.hb_font_t.face c.args.plan.now c.args.face.now in
    let old = c.args.buffer.now in
    let placed = c.place_glyphs.new.buffer in
    let n = c.in_ok-from.from in
    let out = c.put_placed.new.self in
    let same : limit_of placed ≡ limit_of old = limit-placed planned old placed n c.requires.expands c.in_ok-from.ensures.placed c.in_ok-from.ensures.rest in
    let limit : out.limit ≡ limit_of placed =
    c.in_ok-put_placed.ensures.limit ∙ c.in_ok-from.ensures.limit ∙ c.begin-out.ensures.limit ∙ sym same in
    let emitted : out.infos.items ≡ take n placed.items = c.in_ok-put_placed.ensures.infos ∙ ap (λ (xs : List Item). take n xs) c.infos.ensures in
    let many : vec_len out.infos ≡ length out.infos.items = search rules in
    let counted : vec_len out.infos ≡ n = many ∙ ap length emitted ∙ length-take-le n placed.items c.in_ok-from.ensures.within in
    let skipped : out.limit < length (out.infos.items ++ expanded_after planned placed.invisible_glyph (vec_len out.infos == 0) (drop (vec_len out.infos) placed.items)) =
    c.in_err-put_rest.ensures.length (search rules) in
    counts_on planned old placed n c.requires.expands c.in_ok-from.ensures.placed c.in_ok-from.ensures.rest
    (rw (limit, counted, emitted) at skipped)

pub returns-then-from-len-clause-ok : goal.returns-then-from-len-clause-ok
returns-then-from-len-clause-ok g c =
    let shaper = g.T.Shaper.hb_ot_shaper_t in
    let planned = rules_of g.T.Unicode.hb_unicode_funcs_t.unicode shaper.constants shaper.hooks g.T.Face.hb_font_t.face c.args.plan.now c.args.face.now in
    let placed = c.place_glyphs.new.buffer in
    let n = c.in_ok-from.from in
    let all : length placed.items ≤ n = omega (arith, c.len.ensures.items, c.if-from-len.true) in
    c.clear_positions.ensures
    ∙ placed_whole planned c.args.buffer.now placed n c.requires.expands c.in_ok-from.ensures.placed c.in_ok-from.ensures.rest all c.in_ok-from.ensures.seen

pub returns-clause-ok : goal.returns-clause-ok
returns-clause-ok g c =
    let shaper = g.T.Shaper.hb_ot_shaper_t in
    let planned = rules_of g.T.Unicode.hb_unicode_funcs_t.unicode shaper.constants shaper.hooks g.T.Face.hb_font_t.face c.args.plan.now c.args.face.now in
    let placed = c.place_glyphs.new.buffer in
    let out = c.put_rest.new.self in
    let counted : vec_len out.infos ≡ length out.infos.items = search rules in
    c.set_scratch_flags.ensures
    ∙ ap (λ (b : Buffer). record b { scratch_flags = out.scratch_flags }) c.in_ok-replace_infos.ensures.ok
    ∙ ap (λ n. record placed { items = out.infos.items; positions = replicate n zero_position; scratch_flags = out.scratch_flags }) counted
    ∙ placed_on planned c.args.buffer.now placed c.in_ok-from.from c.requires.expands c.in_ok-from.ensures.placed c.in_ok-from.ensures.rest
    out.infos.items out.scratch_flags c.in_ok-from.ensures.seen (search rules) (search rules)
