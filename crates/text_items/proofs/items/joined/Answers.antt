use Rattle.std.proofs.Common.{sym, ◌∙◌}
use Rattle.text_items.proofs.ItemLemmas.{run_goes_on, run_ends, no_cluster}
use Rattle.text_items.proofs.items.joined.Goals as goal
use Rattle.text_items.proofs.items.joined.Goals.{then-is_same, else-is_same+in_ok-push}

pub loop-cluster-preserved : goal.loop-cluster-preserved
loop-cluster-preserved c =
    let n = c.loop-cluster.cluster-index in
    let clusters = c.in-Some.rest.now in
    let lt = c.loop-cluster-test.true in
    let before = c.loop-cluster.context in
    let after = c.single-in-loop-cluster.new.context in
    let item = c.loop-cluster.item in
    let next = c.in_ok-next.next in
    let done = c.loop-cluster.items.items in
    elim c.if-is_same.branch [
      | then-is_same w ↦
          rw (w.items-is, w.item-is)
          (run_goes_on n clusters no_cluster before after item next lt c.in_ok-next.ensures.context c.in_ok-next.ensures.item done
          (sym c.is_same.ensures ∙ w.if-is_same.true)
          ∙ c.loop-cluster.invariant)
      | else-is_same+in_ok-push w ↦
          rw (w.items-is, w.item-is, w.in_ok-push.ensures.items)
          (run_ends n clusters no_cluster before after item next lt c.in_ok-next.ensures.context c.in_ok-next.ensures.item done
          (sym c.is_same.ensures ∙ w.if-is_same.false)
          ∙ c.loop-cluster.invariant)
    ]
