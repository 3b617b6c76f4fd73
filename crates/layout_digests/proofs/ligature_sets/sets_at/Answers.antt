use Rattle.std.proofs.Common.{sym}
use Rattle.layout_digests.proofs.LigatureSetLemmas.{all_at}
use Rattle.layout_digests.proofs.ligature_sets.sets_at.Goals as goal

pub returns-then-lookup_type-ne-LIGATURE-clause-ok : goal.returns-then-lookup_type-ne-LIGATURE-clause-ok
returns-then-lookup_type-ne-LIGATURE-clause-ok c = λ place is. c.none-then-lookup_type-ne-LIGATURE.ensures c.args.table.now place

pub returns-in_default-offset16-clause-ok : goal.returns-in_default-offset16-clause-ok
returns-in_default-offset16-clause-ok c = λ place is. c.none-in_default-offset16.ensures c.args.table.now place

pub returns-in-None-clause-ok : goal.returns-in-None-clause-ok
returns-in-None-clause-ok c = λ place is. c.none-in-None.ensures c.args.table.now place

pub returns-in-Some-offset16-2-clause-ok : goal.returns-in-Some-offset16-2-clause-ok
returns-in-Some-offset16-2-clause-ok c =
    all_at c.args.table.now c.args.index c.in-Some.place c.in-Some-offset16.start c.sets_of.result (sym c.in-Some.ensures.value)
    (sym c.in-Some-offset16.ensures.value) c.sets_of.ensures.ok
