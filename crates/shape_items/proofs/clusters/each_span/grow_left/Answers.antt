use Rattle.std.proofs.Common.{◌-◌, length, arith, refl, subst}
use Rattle.std.proofs.lemmas.List.{take_all}
use Rattle.shape_items.specs.Items.{Item}
use Rattle.shape_items.specs.Unwritten.{StandsFor}
use Rattle.shape_items.proofs.MergingInOrder.GrownLeftLemmas.{grown_left-none, grown_left-apart, grown_left-given}
use Rattle.shape_items.proofs.clusters.each_span.grow_left.Goals as goal

pub returns-then-len-eq0-clause-stands : goal.returns-then-len-eq0-clause-stands
returns-then-len-eq0-clause-stands c = λ given s.
    rw (
      take_all (length c.args.starts.now) c.args.starts.now (omega arith),
      grown_left-none c.args.kept.now c.args.starts.now given c.args.first c.args.least c.if-len-eq0.true s,
    ) s

pub returns-then-taken-first-clause-stands : goal.returns-then-taken-first-clause-stands
returns-then-taken-first-clause-stands c = λ given s.
    rw (
      take_all (length c.args.starts.now) c.args.starts.now (omega arith),
      grown_left-apart c.args.kept.now c.args.starts.now given c.index-kept-len.result (length c.args.kept.now - 1)
          c.args.first c.args.least (omega (arith, c.if-len-eq0.false)) c.index-kept-len.is c.if-taken-first.true s,
    ) s

pub returns-clause-stands : goal.returns-clause-stands
returns-clause-stands c = λ given s.
    let x = c.index-kept-len.result in
    let taken : Item = record x { cluster = c.args.least; mask = 0 } in
    subst (StandsFor c.give_to_last.new.infos _)
    (grown_left-given c.args.kept.now c.args.starts.now given taken x (length c.args.kept.now - 1) c.args.first
    (omega (arith, c.if-len-eq0.false)) c.index-kept-len.is c.if-taken-first.false (omega (arith, c.if-first-least.false)) refl s)
    (c.give_to_last.ensures.stands given s)
