use Rattle.shape_normalize.proofs.RoundOne.AloneLemmas.{alone_at}
use Rattle.shape_normalize.proofs.ot_shape_normalize.round_one.sequences.count_alone.Goals as goal

pub returns-in-Some-clause-alone : goal.returns-in-Some-clause-alone
returns-in-Some-clause-alone c =
    alone_at c.args.infos.now c.in-Some.field-0-0.now c.in-Some.after.now c.count_unmarked.result c.in-Some.ensures.cases.0 c.count_unmarked.ensures.value
