use Rattle.std.proofs.Common.{◌≡◌, replicate, length, vec_len, rules, ap, ◌∙◌, arith}
use Rattle.shape_items.specs.Buffer.{Buffer, cleared}
use Rattle.shape_common.specs.Positions.{zero_position}
use Rattle.shape_plan.specs.Rules.{rules_of}
use Rattle.shape_normalize.proofs.RoundOne.SelectorLemmas.{limit-merged, cleared-merged, items-round_one, round_one-from_merged}
use Rattle.shape_normalize.proofs.ot_shape_normalize.round_one.expand.Goals as goal

pub returns-in_err-expanded-clause-length : goal.returns-in_err-expanded-clause-length
returns-in_err-expanded-clause-length g c is_length =
    let shaper = g.T.Shaper.hb_ot_shaper_t in
    let planned = rules_of g.T.Unicode.hb_unicode_funcs_t.unicode shaper.constants shaper.hooks g.T.Face.hb_font_t.face c.args.plan.now c.args.face.now in
    let merged = c.in_ok-merge_variation_sequences.ensures.merged in
    rw (← limit-merged planned c.args.buffer.now c.merge_variation_sequences.new.buffer merged, ← items-round_one planned c.args.buffer.now c.merge_variation_sequences.new.buffer merged)
    (c.in_err-expanded.ensures.length (search rules))

pub returns-in_err-expanded-clause-settings : goal.returns-in_err-expanded-clause-settings
returns-in_err-expanded-clause-settings g c =
    let shaper = g.T.Shaper.hb_ot_shaper_t in
    let planned = rules_of g.T.Unicode.hb_unicode_funcs_t.unicode shaper.constants shaper.hooks g.T.Face.hb_font_t.face c.args.plan.now c.args.face.now in
    let kept = cleared-merged planned c.args.buffer.now c.merge_variation_sequences.new.buffer c.in_ok-merge_variation_sequences.ensures.merged in
    search (rules, kept)

pub returns-in_err-replace_infos-clause-settings : goal.returns-in_err-replace_infos-clause-settings
returns-in_err-replace_infos-clause-settings g c =
    let shaper = g.T.Shaper.hb_ot_shaper_t in
    let planned = rules_of g.T.Unicode.hb_unicode_funcs_t.unicode shaper.constants shaper.hooks g.T.Face.hb_font_t.face c.args.plan.now c.args.face.now in
    let kept : cleared c.replace_infos.new.self ≡ cleared c.args.buffer.now =
    ap cleared c.in_err-replace_infos.ensures.err
    ∙ cleared-merged planned c.args.buffer.now c.merge_variation_sequences.new.buffer c.in_ok-merge_variation_sequences.ensures.merged in
    search (rules, kept)

pub returns-clause-ok : goal.returns-clause-ok
returns-clause-ok g c =
    let shaper = g.T.Shaper.hb_ot_shaper_t in
    let planned = rules_of g.T.Unicode.hb_unicode_funcs_t.unicode shaper.constants shaper.hooks g.T.Face.hb_font_t.face c.args.plan.now c.args.face.now in
    let out = c.in_ok-expanded.expanded in
    let merged = c.merge_variation_sequences.new.buffer in
    let counted : vec_len out.infos ≡ length out.infos.items = search rules in
    c.set_scratch_flags.ensures
    ∙ ap (λ (b : Buffer). record b { scratch_flags = out.scratch_flags }) c.in_ok-replace_infos.ensures.ok
    ∙ ap (λ n. record merged { items = out.infos.items; positions = replicate n zero_position; scratch_flags = out.scratch_flags }) counted
    ∙ round_one-from_merged planned c.args.buffer.now c.merge_variation_sequences.new.buffer c.in_ok-merge_variation_sequences.ensures.merged out.infos.items out.scratch_flags c.in_ok-expanded.ensures.infos c.in_ok-expanded.ensures.flags

pub returns-clause-within : goal.returns-clause-within
returns-clause-within g c =
    let shaper = g.T.Shaper.hb_ot_shaper_t in
    let planned = rules_of g.T.Unicode.hb_unicode_funcs_t.unicode shaper.constants shaper.hooks g.T.Face.hb_font_t.face c.args.plan.now c.args.face.now in
    let same : c.set_scratch_flags.new.self.items
    ≡ c.replace_infos.new.self.items = ap (λ (b : Buffer). b.items) c.set_scratch_flags.ensures in
    let put : c.replace_infos.new.self.items
    ≡ c.in_ok-expanded.expanded.infos.items = ap (λ (b : Buffer). b.items) c.in_ok-replace_infos.ensures.ok in
    let as_many = ap length (same ∙ put) in
    let limit = limit-merged planned c.args.buffer.now c.merge_variation_sequences.new.buffer c.in_ok-merge_variation_sequences.ensures.merged in
    let within = c.in_ok-expanded.ensures.within in
    omega (arith, as_many, limit, within)

pub returns-clause-settings : goal.returns-clause-settings
returns-clause-settings g c =
    let shaper = g.T.Shaper.hb_ot_shaper_t in
    let planned = rules_of g.T.Unicode.hb_unicode_funcs_t.unicode shaper.constants shaper.hooks g.T.Face.hb_font_t.face c.args.plan.now c.args.face.now in
    ap cleared c.set_scratch_flags.ensures ∙ ap cleared c.in_ok-replace_infos.ensures.ok
    ∙ cleared-merged planned c.args.buffer.now c.merge_variation_sequences.new.buffer c.in_ok-merge_variation_sequences.ensures.merged
