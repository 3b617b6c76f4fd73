use Rattle.std.proofs.Common.{◌+◌, ◌*◌, ℕ, arith}
use Rattle.shape_font.specs.Bytes.{u16_of}
use Rattle.layout_tables.specs.Coverage.{listed}
use Rattle.layout_tables.proofs.SearchLemmas.{before, behind, there}
use Rattle.layout_tables.proofs.coverage.in_list.Goals as goal

pub loop-from-preserved-then-glyph-there : goal.loop-from-preserved-then-glyph-there
loop-from-preserved-then-glyph-there c =
    let l = c.loop-from in
    let glyph-at : ℕ → ℕ = λ i. u16_of c.args.table.now (c.args.start + 4 + 2 * i) in
    record {
      one = omega (arith, l.invariant.one, c.halfway-middle.ensures);
      within = omega (arith, l.invariant.within, c.loop-from-test.true, c.halfway-middle.ensures);
      same = before glyph-at glyph-at c.args.glyph l.from l.end c.halfway-middle.result (listed c.args.table.now c.args.start c.args.glyph) l.invariant.one c.loop-from-test.true c.halfway-middle.ensures
          (omega (arith, c.if-glyph-there.true, c.nth_listed-there.ensures)) l.invariant.same;
    }

pub loop-from-preserved : goal.loop-from-preserved
loop-from-preserved c =
    let l = c.loop-from in
    let glyph-at : ℕ → ℕ = λ i. u16_of c.args.table.now (c.args.start + 4 + 2 * i) in
    record {
      one = omega (arith, l.invariant.one, c.halfway-middle.ensures);
      within = l.invariant.within;
      same = behind glyph-at glyph-at c.args.glyph l.from l.end c.halfway-middle.result (listed c.args.table.now c.args.start c.args.glyph) l.invariant.one c.loop-from-test.true c.halfway-middle.ensures
          (omega (arith, c.if-glyph-there.false, c.nth_listed-there.ensures))
          (omega (arith, c.if-there-glyph.true, c.nth_listed-there.ensures)) l.invariant.same;
    }

pub returns-else-there-glyph : goal.returns-else-there-glyph
returns-else-there-glyph c =
    let l = c.loop-from in
    let glyph-at : ℕ → ℕ = λ i. u16_of c.args.table.now (c.args.start + 4 + 2 * i) in
    there glyph-at glyph-at c.args.glyph l.from l.end c.halfway-middle.result (listed c.args.table.now c.args.start c.args.glyph) l.invariant.one c.loop-from-test.true c.halfway-middle.ensures
    (omega (arith, c.if-glyph-there.false, c.nth_listed-there.ensures))
    (omega (arith, c.if-there-glyph.false, c.nth_listed-there.ensures)) l.invariant.same
