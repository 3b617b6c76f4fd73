use Rattle.std.proofs.Common.{rules, ◌≡◌, slice_range, ap, sym, subst, ◌∙◌, arith}
use Rattle.shape_items.specs.Buffer.{Buffer}
use Rattle.shape_items.specs.BufferClusters.{with_glyph_flags}
use Rattle.shape_items.specs.Clusters.{least_cluster, map_range, mark_break}
use Rattle.layout_positions.specs.Flagged.{IsFlagged}
use Rattle.layout_positions.proofs.FlaggedLemmas.{less_further, same_further, part_made}
use Rattle.layout_positions.proofs.flagged.break_further.Goals as goal

pub returns-then-least-flagged-clause-made : goal.returns-then-least-flagged-clause-made
returns-then-least-flagged-clause-made c =
    let m = c.args.flagged in
    let b = c.args.buffer.now in
    let flags : c.set_scratch_flags.new.self ≡ with_glyph_flags b = search rules in
    let least = c.least_cluster-least.ensures
    ∙ ap (λ xs. least_cluster (slice_range xs m.to c.args.to)) (c.infos.ensures ∙ ap (λ (d : Buffer). d.items) flags) in
    let both = less_further m c.args.to c.least_cluster-least.result b.items c.requires.before c.requires.some c.requires.more
    c.requires.within least c.if-least-flagged.true in
    part_made m.from m.low c.args.to c.least_cluster-least.result b c.set_scratch_flags.new.self c.break_others.new.buffer
    (omega (arith, c.requires.some, c.requires.more)) flags c.break_others.ensures both.0

pub returns-then-least-flagged-clause-flagged : goal.returns-then-least-flagged-clause-flagged
returns-then-least-flagged-clause-flagged c =
    let m = c.args.flagged in
    let b = c.args.buffer.now in
    let k = c.least_cluster-least.result in
    let flags : c.set_scratch_flags.new.self ≡ with_glyph_flags b = search rules in
    let least = c.least_cluster-least.ensures
    ∙ ap (λ xs. least_cluster (slice_range xs m.to c.args.to)) (c.infos.ensures ∙ ap (λ (d : Buffer). d.items) flags) in
    let both = less_further m c.args.to k b.items c.requires.before c.requires.some c.requires.more c.requires.within least
    c.if-least-flagged.true in
    let items : c.break_others.new.buffer.items ≡ map_range (mark_break k) m.low c.args.to b.items =
    ap (λ (d : Buffer). d.items) c.break_others.ensures ∙ ap (λ (d : Buffer). map_range (mark_break k) m.low c.args.to d.items) flags in
    subst (IsFlagged (record { from = m.from; low = m.to; to = c.args.to; least = k })) (sym items) both.1

pub returns-clause-made : goal.returns-clause-made
returns-clause-made c =
    let m = c.args.flagged in
    let b = c.args.buffer.now in
    let flags : c.set_scratch_flags.new.self ≡ with_glyph_flags b = search rules in
    let least = c.least_cluster-least.ensures
    ∙ ap (λ xs. least_cluster (slice_range xs m.to c.args.to)) (c.infos.ensures ∙ ap (λ (d : Buffer). d.items) flags) in
    let both = same_further m c.args.to c.least_cluster-least.result b.items c.requires.before c.requires.some c.requires.more
    c.requires.within least (omega (arith, c.if-least-flagged.false)) in
    part_made m.from m.to c.args.to m.least b c.set_scratch_flags.new.self c.break_others-2.new.buffer
    (omega (arith, c.requires.some, c.requires.more)) flags c.break_others-2.ensures both.0

pub returns-clause-flagged : goal.returns-clause-flagged
returns-clause-flagged c =
    let m = c.args.flagged in
    let b = c.args.buffer.now in
    let flags : c.set_scratch_flags.new.self ≡ with_glyph_flags b = search rules in
    let least = c.least_cluster-least.ensures
    ∙ ap (λ xs. least_cluster (slice_range xs m.to c.args.to)) (c.infos.ensures ∙ ap (λ (d : Buffer). d.items) flags) in
    let both = same_further m c.args.to c.least_cluster-least.result b.items c.requires.before c.requires.some c.requires.more
    c.requires.within least (omega (arith, c.if-least-flagged.false)) in
    let items : c.break_others-2.new.buffer.items ≡ map_range (mark_break m.least) m.to c.args.to b.items =
    ap (λ (d : Buffer). d.items) c.break_others-2.ensures ∙ ap (λ (d : Buffer). map_range (mark_break m.least) m.to c.args.to d.items) flags in
    subst (IsFlagged (record { from = m.from; low = m.low; to = c.args.to; least = m.least })) (sym items) both.1
