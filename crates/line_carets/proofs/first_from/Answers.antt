use Rattle.std.proofs.Common.{ℕ, ltb, ltb-true, ltb-false, arith, rules}
use Rattle.std.proofs.lemmas.List.Sorted.{IsPartitionPoint-from_clause, IsPartitionedBy-ltb}
use Rattle.line_carets.proofs.first_from.Goals as goal

pub returns-clause-below : goal.returns-clause-below
returns-clause-below c =
    let parted = IsPartitionedBy-ltb (λ (n : ℕ). n) _ c.args.offset c.requires in
    let point = IsPartitionPoint-from_clause (λ n. ltb n c.args.offset) _ _ c.partition_point.ensures.partitioned parted (λ a r q k. search rules) in
    λ k lt. ltb-true _ _ (point.0 k 0 (omega arith) lt)

pub returns-clause-reached : goal.returns-clause-reached
returns-clause-reached c =
    let parted = IsPartitionedBy-ltb (λ (n : ℕ). n) _ c.args.offset c.requires in
    let point = IsPartitionPoint-from_clause (λ n. ltb n c.args.offset) _ _ c.partition_point.ensures.partitioned parted (λ a r q k. search rules) in
    λ k ge lt. ltb-false _ _ (point.1 k 0 ge lt)
