use Rattle.line_breaks.proofs.RisingLemmas.{breaks_rise}
use Rattle.line_breaks.proofs.breaking.line_breaks.Goals as goal

pub returns-clause-rise : goal.returns-clause-rise
returns-clause-rise c = breaks_rise c.args.text.now c.in_ok-breaks.breaks c.utf8.text c.in_ok-breaks.ensures
