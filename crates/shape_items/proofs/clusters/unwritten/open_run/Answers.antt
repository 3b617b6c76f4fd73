use Rattle.std.proofs.Common.{◌-◌, length, take, arith, sym, ◌∙◌}
use Rattle.std.proofs.lemmas.List.{take_more_set}
use Rattle.shape_items.proofs.Unwritten.UnwrittenLemmas.{open_first, open_next, more}
use Rattle.shape_items.proofs.clusters.unwritten.open_run.Goals as goal

pub returns-then-len-eq0-clause-stands : goal.returns-then-len-eq0-clause-stands
returns-then-len-eq0-clause-stands c = λ x e given s.
    rw (take_more_set c.args.starts.now c.args.count (length c.args.kept.now) c.requires)
    (open_first c.args.kept.now (take c.args.count c.args.starts.now) given x c.if-len-eq0.true s)

pub returns-then-kept-len-clause-stands : goal.returns-then-kept-len-clause-stands
returns-then-kept-len-clause-stands c = λ x e given s.
    more c.args.kept.now (take c.args.count c.args.starts.now) given x c.index-kept-len.result (length c.args.kept.now - 1)
    (omega (arith, c.if-len-eq0.false))
    (e ∙ sym c.if-kept-len.true) s

pub returns-clause-stands : goal.returns-clause-stands
returns-clause-stands c = λ x e given s.
    rw (take_more_set c.args.starts.now c.args.count (length c.args.kept.now) c.requires)
    (open_next c.args.kept.now (take c.args.count c.args.starts.now) given x c.index-kept-len.result (length c.args.kept.now - 1)
    (omega (arith, c.if-len-eq0.false))
    (λ same. c.if-kept-len.false (sym same ∙ e)) s)
