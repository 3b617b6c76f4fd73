use Rattle.std.proofs.Common.{◌+◌, false, sym, subst, slice_index_or, arith}
use Rattle.layout_map.specs.declared.lookups.LookupMap.{LookupMap}
use Rattle.opentype_layout.specs.Stage.{Skips}
use Rattle.opentype_layout.specs.declared.stage.Progress.{Progress}
use Rattle.opentype_layout.proofs.StageLemmas.{skips_on, skips_further}
use Rattle.opentype_layout.proofs.stage.first_met.Goals as goal

pub loop-met-smaller : goal.loop-met-smaller
loop-met-smaller c = omega (arith, c.loop-met-test.true, c.skip-met-in-Some.ensures.further, c.skip-met-in-Some.ensures.inside)

pub loop-met-preserved : goal.loop-met-preserved
loop-met-preserved c =
    let t = c.args.stage.now.tables in
    let maps = c.args.stage.now.maps.now in
    let items = c.args.buffer.now.items in
    let met = c.loop-met.met in
    let none : LookupMap = record { index = 0; mask = 0; auto_zwnj = false; auto_zwj = false; random = false; per_syllable = false } in
    let first : Progress = record { next = 0; left = c.args.buffer.now.max_ops } in
    let on : Progress = record { next = met.next + 1; left = c.in-Some.left } in
    record {
      inside = c.skip-met-in-Some.ensures.inside;
      skipped = skips_further t maps items first on c.skip-met-in-Some.result
          (skips_on t maps items first met.next met.left c.in-Some.left none c.loop-met-test.true
          (subst (λ xs. Skips t (slice_index_or maps met.next none) xs met.left c.in-Some.left) c.infos.ensures c.in-Some.ensures)
          c.loop-met.invariant.skipped)
          (c.skip-met-in-Some.ensures.skipped items c.requires.run (sym c.len-in-Some.ensures.items));
    }
