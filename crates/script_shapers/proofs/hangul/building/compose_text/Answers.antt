use Rattle.std.proofs.Common.{rules, ◌≡◌, length, vec_len, ap, sym, ◌∙◌}
use Rattle.shape_items.specs.Buffer.{Buffer}
use Rattle.script_shapers.specs.Hangul.{composed_text, built, wants_circle, with_items}
use Rattle.shape_buffer.proofs.Steps.ReplaceLemmas.{Outcome-refused}
use Rattle.script_shapers.proofs.AloneLemmas.{alone_outcome}
use Rattle.script_shapers.proofs.ReplaceLemmas.{Outcome-replaced}
use Rattle.script_shapers.proofs.hangul.building.compose_text.Goals as goal

pub returns-then-stays : goal.returns-then-stays
returns-then-stays g c =
    alone_outcome g.U.hb_unicode_funcs_t.unicode (g.F.hb_font_t.face c.args.face.now) c.args.buffer.now c.clear_positions.new.self
    (c.stays.ensures.alone c.if-stays.true) (c.stays.ensures.within c.if-stays.true) c.clear_positions.ensures

pub returns-in_err-items : goal.returns-in_err-items
returns-in_err-items g c =
    Outcome-refused (composed_text g.U.hb_unicode_funcs_t.unicode (g.F.hb_font_t.face c.args.face.now)) c.args.buffer.now
    c.join_each.new.buffer c.from_residual.result (search rules)

pub returns : goal.returns
returns g c =
    let unicode = g.U.hb_unicode_funcs_t.unicode in
    let face = g.F.hb_font_t.face c.args.face.now in
    let mid = c.join_each.new.buffer in
    let items = c.in_ok-items.items in
    let counted : vec_len items ≡ length items.items = search rules in
    let made : items.items ≡ built unicode face mid.cluster_level (wants_circle face mid.flags) 0 mid.items = search rules in
    let does : composed_text unicode face c.args.buffer.now ≡ with_items items.items mid =
    ap (λ (b : Buffer). with_items (built unicode face b.cluster_level (wants_circle face b.flags) 0 b.items) b) (sym c.join_each.ensures.made)
    ∙ ap (λ xs. with_items xs mid) (sym made) in
    Outcome-replaced (composed_text unicode face) c.args.buffer.now mid c.replace_infos.new.self items.items (vec_len items)
    c.replace_infos.result does c.join_each.ensures.limit counted c.replace_infos.ensures.ok c.replace_infos.ensures.past_limit
