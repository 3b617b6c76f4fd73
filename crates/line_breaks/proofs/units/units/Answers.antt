use Rattle.std.proofs.Common.{length, ap, arith}
use Rattle.std.proofs.lemmas.Grind.{common_steps}
use Rattle.std.proofs.lemmas.Iterator.{YieldsList-from_chars}
use Rattle.std.proofs.lemmas.Iterator.Consumers.{YieldsList-turn, YieldsList-end}
use Rattle.std.proofs.lemmas.List.{length_push, at_drop_all}
use Rattle.std.specs.Str.{chars}
use Rattle.line_breaks.specs.Units.{units_from}
use Rattle.line_breaks.proofs.TextLemmas.{sum_by-chars, bytes_step, units_step}
use Rattle.line_breaks.proofs.units.units.Goals as goal

pub loop-c-init : goal.loop-c-init
loop-c-init c = record {
  bytes = grind (arith, sum_by-chars c.args.text.now c.utf8.text);
  units_are = ap (λ l. units_from _ _ 0 l (chars c.args.text.now)) c.new-units.ensures.items;
}

pub overflow_add-offset : goal.overflow_add-offset
overflow_add-offset c =
    let t = YieldsList-turn (YieldsList-from_chars c.args.text.now c.utf8.text cc) c.loop-c.yielded _ c.loop-c.yielded_by _ _ c.in-Some.c c.in-Some.is c.next.ensures.steps in
    let e = bytes_step _ _ _ t in
    omega (arith, c.loop-c.invariant.bytes, c.len_utf8.ensures.value, c.requires)

pub loop-c-preserved : goal.loop-c-preserved
loop-c-preserved c =
    let t = YieldsList-turn (YieldsList-from_chars c.args.text.now c.utf8.text cc) c.loop-c.yielded _ c.loop-c.yielded_by _ _ c.in-Some.c c.in-Some.is c.next.ensures.steps in
    let e = bytes_step _ _ _ t in
    let n = length_push c.loop-c.yielded c.in-Some.c in
    let i = units_step _ _ _ c.loop-c.offset c.loop-c.takes c.loop-c.joined c.loop-c.units.items t in
    record {
      bytes = grind arith;
      units_are = grind (arith, common_steps);
    }

pub returns : goal.returns
returns c =
    let t = YieldsList-end (YieldsList-from_chars c.args.text.now c.utf8.text cc) c.loop-c.yielded _ c.loop-c.yielded_by _ _ c.in-None.is c.next.ensures.steps in
    let e = at_drop_all (units_from c.loop-c.takes c.loop-c.joined c.loop-c.offset c.loop-c.units.items) (chars c.args.text.now) (length c.loop-c.yielded) (omega (arith, t.1)) in
    grind (arith, common_steps)
