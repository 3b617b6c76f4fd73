use Rattle.std.proofs.Common.{◌≡◌, ◌<◌, ◌∙◌, length, get_or, subst, sym, arith}
use Rattle.bidi.specs.Sequences.{IsWithin, walk_step, with_sequence}
use Rattle.bidi.proofs.BracketLemmas.{no_member}
use Rattle.bidi.proofs.SequenceLemmas.{walked_on, within_at, within_on, within_step}
use Rattle.bidi.proofs.sequences.resolve_sequences.Goals as goal

pub loop-i-preserved : goal.loop-i-preserved
loop-i-preserved c =
    let ms = c.args.members.now in
    let n = c.loop-i.i in
    let lt : n < length ms = omega arith in
    let is_new : c.step.new.self ≡ walk_step (with_sequence c.args.base) (get_or ms n no_member) c.loop-i.walk = c.in_ok-step.ensures in
    record {
      same = walked_on (with_sequence c.args.base) n ms c.loop-i.walk c.step.new.self lt is_new ∙ c.loop-i.invariant.same;
      walk = subst IsWithin (sym is_new)
          (within_step (with_sequence c.args.base) (get_or ms n no_member) c.loop-i.walk (within_at n ms lt c.loop-i.invariant.members) c.loop-i.invariant.walk);
      members = within_on n ms lt c.loop-i.invariant.members;
    }
