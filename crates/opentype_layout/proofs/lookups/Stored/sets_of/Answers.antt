use Rattle.std.proofs.Common.{◌<◌, Bor, IfSome, Option, length, slice_index_or, sym, subst, arith}
use Rattle.std.proofs.lemmas.Bool.Decides.{nat_tests}
use Rattle.layout_matching.specs.declared.ligature_sets.StoredSets.{StoredSets}
use Rattle.layout_digests.specs.LigatureSets.{AreSetsAt}
use Rattle.opentype_layout.proofs.lookups.Stored.sets_of.Goals as goal

pub returns-then-i-self : goal.returns-then-i-self
returns-then-i-self c = λ table hold x is.
    let sets = c.args.self.now.sets.now in
    let any = c.index-self-i.result in
    let inside : c.args.index < length sets = grind (arith, nat_tests, c.if-i-self.true, c.from-i.ensures) in
    subst (λ (o : Option (Bor StoredSets)). IfSome o (λ s. AreSetsAt table c.args.index s.now)) is
    (subst (λ n. AreSetsAt table c.args.index (slice_index_or sets n any)) (sym c.from-i.ensures) (hold c.args.index any inside))
