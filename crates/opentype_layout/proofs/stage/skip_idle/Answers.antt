use Rattle.std.proofs.Common.{◌≡◌, length, refl, subst, arith}
use Rattle.opentype_layout.specs.Stage.{SkipsTo}
use Rattle.opentype_layout.proofs.StageLemmas.{skips_on}
use Rattle.opentype_layout.proofs.stage.skip_idle.Goals as goal

pub loop-next-init : goal.loop-next-init
loop-next-init c = λ items held many b spot is. refl

pub loop-next-preserved : goal.loop-next-preserved
loop-next-preserved c = λ items held many.
    skips_on c.args.stage.now.tables c.args.stage.now.maps.now items c.args.from c.loop-next.next c.loop-next.left c.in-Some.rest _ c.loop-next-test.true
    (c.in-Some.ensures items held many) (c.loop-next.invariant items held many)

pub returns-in-None-clause-skipped : goal.returns-in-None-clause-skipped
returns-in-None-clause-skipped c = λ items held many. c.loop-next.invariant items held many

pub returns-clause-skipped : goal.returns-clause-skipped
returns-clause-skipped c = λ items held many.
    let t = c.args.stage.now.tables in
    let maps = c.args.stage.now.maps.now in
    let over : c.loop-next.next ≡ length maps = omega (arith, c.loop-next-test.false, c.loop-next.auto.next-end c.requires.inside) in
    subst (λ n. SkipsTo t maps items c.args.from (record { next = n; left = c.loop-next.left })) over (c.loop-next.invariant items held many)
