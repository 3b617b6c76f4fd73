use Rattle.std.proofs.Common.{◌≡◌, ◌+◌, ◌<◌, ◌-◌, true, false, length, get_or, drop, ap, sym, ◌∙◌, arith}
use Rattle.std.proofs.lemmas.List.{length-set, get_or-set_other}
use Rattle.text_items.specs.Scripts.{first_script, is_explicit, with_next}
use Rattle.text_items.specs.declared.clusters.Cluster.{Cluster}
use Rattle.text_items.proofs.AheadLemmas.{ahead_set, first_is_here, first_is_later}
use Rattle.text_items.proofs.ItemLemmas.{no_cluster}
use Rattle.text_items.proofs.clusters.look_ahead.Goals as goal

pub loop-count-preserved-then-is_explicit : goal.loop-count-preserved-then-is_explicit
loop-count-preserved-then-is_explicit c =
    let n = c.loop-count.count - 1 in
    let old = c.args.clusters.now in
    let now = c.loop-count.clusters in
    let inv = c.loop-count.invariant in
    let one : n + 1 ≡ c.loop-count.count = omega arith in
    let lt : n < length now = omega arith in
    let lt' : n < length old = omega arith in
    let v = record (get_or now n no_cluster) { next = c.loop-count.next } in
    let long = length-set now n v in
    let same : get_or now n no_cluster ≡ get_or old n no_cluster = inv.left n (omega arith) in
    let same_script : (get_or now n no_cluster).script ≡ (get_or old n no_cluster).script = ap (λ (x : Cluster). x.script) same in
    let is_next : c.loop-count.next ≡ first_script (drop (n + 1) old) = inv.next ∙ ap (λ k. first_script (drop k old)) (sym one) in
    let on : is_explicit (get_or old n no_cluster).script ≡ true = ap is_explicit (sym same_script) ∙ sym c.is_explicit.ensures ∙ c.if-is_explicit.true in
    record {
      within = omega arith;
      same_length = omega arith;
      left = λ k below. get_or-set_other now n k v no_cluster (omega arith) ∙ inv.left k (omega arith);
      done = ahead_set old now n lt' lt c.loop-count.next is_next same
          (ap (λ k. drop k now) one ∙ inv.done ∙ ap (λ k. with_next (drop k old)) (sym one));
      next = same_script ∙ first_is_here old now n lt' lt on;
    }

pub loop-count-preserved : goal.loop-count-preserved
loop-count-preserved c =
    let n = c.loop-count.count - 1 in
    let old = c.args.clusters.now in
    let now = c.loop-count.clusters in
    let inv = c.loop-count.invariant in
    let one : n + 1 ≡ c.loop-count.count = omega arith in
    let lt : n < length now = omega arith in
    let lt' : n < length old = omega arith in
    let v = record (get_or now n no_cluster) { next = c.loop-count.next } in
    let long = length-set now n v in
    let same : get_or now n no_cluster ≡ get_or old n no_cluster = inv.left n (omega arith) in
    let same_script : (get_or now n no_cluster).script ≡ (get_or old n no_cluster).script = ap (λ (x : Cluster). x.script) same in
    let is_next : c.loop-count.next ≡ first_script (drop (n + 1) old) = inv.next ∙ ap (λ k. first_script (drop k old)) (sym one) in
    let off : is_explicit (get_or old n no_cluster).script ≡ false = ap is_explicit (sym same_script) ∙ sym c.is_explicit.ensures ∙ c.if-is_explicit.false in
    record {
      within = omega arith;
      same_length = omega arith;
      left = λ k below. get_or-set_other now n k v no_cluster (omega arith) ∙ inv.left k (omega arith);
      done = ahead_set old now n lt' lt c.loop-count.next is_next same
          (ap (λ k. drop k now) one ∙ inv.done ∙ ap (λ k. with_next (drop k old)) (sym one));
      next = is_next ∙ first_is_later old now n lt' lt off;
    }
