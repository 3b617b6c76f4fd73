use Rattle.std.proofs.Common.{◌+◌, ◌*◌, ℕ, arith}
use Rattle.shape_font.specs.Bytes.{u16_of}
use Rattle.layout_tables.specs.Coverage.{ranged}
use Rattle.layout_tables.proofs.SearchLemmas.{before, behind, there}
use Rattle.layout_tables.proofs.coverage.range.Goals as goal

pub loop-from-preserved-then-glyph-nth_first : goal.loop-from-preserved-then-glyph-nth_first
loop-from-preserved-then-glyph-nth_first c =
    let l = c.loop-from in
    let first : ℕ → ℕ = λ i. u16_of c.args.table.now (c.args.start + 4 + 6 * i) in
    let last : ℕ → ℕ = λ i. u16_of c.args.table.now (c.args.start + 4 + 6 * i + 2) in
    record {
      one = omega (arith, l.invariant.one, c.halfway-middle.ensures);
      within = omega (arith, l.invariant.within, c.loop-from-test.true, c.halfway-middle.ensures);
      same = before first last c.args.glyph l.from l.end c.halfway-middle.result (ranged c.args.table.now c.args.start c.args.glyph) l.invariant.one c.loop-from-test.true c.halfway-middle.ensures
          (omega (arith, c.if-glyph-nth_first.true, c.nth_first.ensures)) l.invariant.same;
    }

pub loop-from-preserved : goal.loop-from-preserved
loop-from-preserved c =
    let l = c.loop-from in
    let first : ℕ → ℕ = λ i. u16_of c.args.table.now (c.args.start + 4 + 6 * i) in
    let last : ℕ → ℕ = λ i. u16_of c.args.table.now (c.args.start + 4 + 6 * i + 2) in
    record {
      one = omega (arith, l.invariant.one, c.halfway-middle.ensures);
      within = l.invariant.within;
      same = behind first last c.args.glyph l.from l.end c.halfway-middle.result (ranged c.args.table.now c.args.start c.args.glyph) l.invariant.one c.loop-from-test.true c.halfway-middle.ensures
          (omega (arith, c.if-glyph-nth_first.false, c.nth_first.ensures))
          (omega (arith, c.if-nth_last-glyph.true, c.nth_last.ensures)) l.invariant.same;
    }

pub returns-else-nth_last-glyph : goal.returns-else-nth_last-glyph
returns-else-nth_last-glyph c =
    let l = c.loop-from in
    let first : ℕ → ℕ = λ i. u16_of c.args.table.now (c.args.start + 4 + 6 * i) in
    let last : ℕ → ℕ = λ i. u16_of c.args.table.now (c.args.start + 4 + 6 * i + 2) in
    there first last c.args.glyph l.from l.end c.halfway-middle.result (ranged c.args.table.now c.args.start c.args.glyph) l.invariant.one c.loop-from-test.true c.halfway-middle.ensures
    (omega (arith, c.if-glyph-nth_first.false, c.nth_first.ensures))
    (omega (arith, c.if-nth_last-glyph.false, c.nth_last.ensures)) l.invariant.same
