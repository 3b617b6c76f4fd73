use Rattle.std.proofs.Common.{length, arith}
use Rattle.std.proofs.lemmas.Grind.{common_steps}
use Rattle.std.proofs.lemmas.Iterator.{YieldsList-from_chars}
use Rattle.std.proofs.lemmas.Iterator.Consumers.{YieldsList-turn, YieldsList-end}
use Rattle.std.proofs.lemmas.List.{length_push, take_all}
use Rattle.std.proofs.lemmas.Bool.Decides.{nat_tests}
use Rattle.std.specs.Str.{chars}
use Rattle.shape_buffer.proofs.TextLemmas.{last_more}
use Rattle.shape_buffer.proofs.buffer.context.Context.from_end.Goals as goal

pub loop-c-preserved : goal.loop-c-preserved
loop-c-preserved c =
    let t = YieldsList-turn (YieldsList-from_chars c.args.text.now c.utf8.text cc) c.loop-c.yielded _ c.loop-c.yielded_by _ _ c.in-Some.c c.in-Some.is c.next.ensures.steps in
    let n = length_push c.loop-c.yielded c.in-Some.c in
    let e = last_more (chars c.args.text.now) (length c.loop-c.yielded) c.in-Some.c t.0 t.1 in
    record {
      value = grind (arith, common_steps);
      size = grind (arith, common_steps, nat_tests);
      count = grind (arith, common_steps, nat_tests);
    }

pub returns : goal.returns
returns c =
    let t = YieldsList-end (YieldsList-from_chars c.args.text.now c.utf8.text cc) c.loop-c.yielded _ c.loop-c.yielded_by _ _ c.in-None.is c.next.ensures.steps in
    let whole = take_all (length c.loop-c.yielded) (chars c.args.text.now) (omega (arith, t.1)) in
    grind (arith, common_steps)
