use Rattle.std.proofs.Common.{◌≡◌, subst, sym}
use Rattle.bidi.specs.Sequences.{IsWithin, returned, with_sequence}
use Rattle.bidi.proofs.SequenceLemmas.{within_returned}
use Rattle.bidi.proofs.sequences.Walk.step.Goals as goal

pub join-requires : goal.join-requires
join-requires c =
    let old = c.args.self.now in
    let is_new : c.return_to.new.self ≡ returned (with_sequence c.args.base) c.args.member old = c.in_ok-return_to.ensures in
    (subst IsWithin (sym is_new) (within_returned (with_sequence c.args.base) c.args.member old c.requires)).current
