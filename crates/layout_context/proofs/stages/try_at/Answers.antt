use Rattle.std.proofs.Common.{◌≡◌, Some}
use Rattle.layout_context.proofs.KeptLemmas.{attempt_kept}
use Rattle.layout_context.proofs.stages.try_at.Goals as goal

pub returns-in-Ok-Some-clause-kept : goal.returns-in-Ok-Some-clause-kept
returns-in-Ok-Some-clause-kept c = λ kept unasked.
    let t = c.in-Ok-Some.tried in
    let is = c.in-Ok-Some.field-0-is in
    let some : c.in-Ok-Some.field-0 ≡ Some t = cc in
    attempt_kept c.args.levels c.args.indexed.now.lookup.now c.args.spot c.args.buffer.now c.apply_charged.new.buffer c.in-Ok-Some.field-0 t
    c.in-Ok-Some.ensures.ok some (c.gone_on.ensures.kept kept) unasked
