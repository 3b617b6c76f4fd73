use Rattle.opentype_layout.proofs.CallLemmas.{never-raises}
use Rattle.opentype_layout.specs.Tries.{NeverRaises}
use Rattle.shape_buffer.specs.Preservation.{EachLookup}
use Rattle.std.proofs.Common.{sym, subst}
use Rattle.font_shaping.proofs.RunTriesLemmas.{calls, lookups-try, run-tries}
use Rattle.font_shaping.proofs.WorkStaysLemmas.{others-never}
use Rattle.font_shaping.proofs.laws.runs_try_no_more_than_they_may.Goals as goal

pub returns-clause-calls : goal.returns-clause-calls
returns-clause-calls c = calls

pub returns-clause-lookups : goal.returns-clause-lookups
returns-clause-lookups c = lookups-try

pub returns-clause-within : goal.returns-clause-within
returns-clause-within c = λ map face run is hooks.
    run-tries map face run is
    (λ target. others-never run target (subst (EachLookup NeverRaises) (sym is) (never-raises map face)) hooks)
