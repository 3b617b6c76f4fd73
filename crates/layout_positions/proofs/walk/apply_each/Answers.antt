use Rattle.std.proofs.Common.{fold, ap, ◌∙◌}
use Rattle.layout_digests.specs.declared.digested.Digested.{Digested}
use Rattle.layout_positions.specs.Digested.{lookups_in}
use Rattle.layout_positions.specs.Walk.{Budgeted, lookup_applied, budgeted}
use Rattle.layout_positions.proofs.DigestLemmas.{applied_on}
use Rattle.layout_positions.proofs.walk.apply_each.Goals as goal

pub loop-named-preserved : goal.loop-named-preserved
loop-named-preserved c =
    let here : Budgeted = record { buffer = c.loop-named.buffer; left = c.loop-named.left } in
    let next : Budgeted = record { buffer = c.apply_within-left.new.buffer; left = c.apply_within-left.result } in
    record {
      made = applied_on c.args.lookups.now c.loop-named.named-index c.named-item.result here next
          (fold lookup_applied (budgeted c.args.buffer.now) (lookups_in c.args.lookups.now)) c.loop-named-test.true
          c.loop-named.invariant.made
          (c.apply_within-left.ensures.made ∙ ap (λ (d : Digested). lookup_applied here d.lookup) c.named-item.is);
      run = c.apply_within-left.ensures.run;
    }
