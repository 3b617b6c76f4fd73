use Rattle.std.proofs.Common.{◌≡◌, ◌+◌, ◌-◌, ◌≤◌, ◌++◌, length, get_or, take, arith, ap, sym, ◌∙◌}
use Rattle.std.proofs.lemmas.Grind.{common_steps}
use Rattle.std.proofs.lemmas.List.{take_all, drop_all, append-nil}
use Rattle.shape_items.specs.Unwritten.{written_runs}
use Rattle.shape_items.proofs.Unwritten.UnwrittenLemmas.{write_last-in_place, write_ends, start_before}
use Rattle.shape_items.proofs.clusters.unwritten.write_runs.Goals as goal

pub slice_bounds-write_run-count : goal.slice_bounds-write_run-count
slice_bounds-write_run-count c =
    let n = c.loop-count.count - 1 in
    let at : n + 1 ≡ c.loop-count.count = omega arith in
    let left = c.loop-count.invariant.left c.requires.0 c.requires.1 in
    start_before c.loop-count.infos c.requires.0 c.args.starts.now c.loop-count.end n left.0 c.loop-count.invariant.within
    (omega (arith, c.loop-count.invariant.counted))
    left.1 (ap (λ k. take k c.args.starts.now) at ∙ left.2) left.3

pub offset_bounds-infos-start : goal.offset_bounds-infos-start
offset_bounds-infos-start c =
    let before = slice_bounds-write_run-count c in
    let within = c.loop-count.invariant.within in
    grind (arith, common_steps)

pub slice_bounds-write_run-start : goal.slice_bounds-write_run-start
slice_bounds-write_run-start c =
    let before = slice_bounds-write_run-count c in
    let within = c.loop-count.invariant.within in
    grind (arith, common_steps)

pub loop-count-init : goal.loop-count-init
loop-count-init c = record {
  within = omega arith;
  counted = omega arith;
  left = λ given s. (
    s.runs,
    take_all (length c.args.infos.now) c.args.infos.now (omega arith) ∙ s.items_are,
    take_all (length c.args.starts.now) c.args.starts.now (omega arith) ∙ s.places_are,
    s.given_are ∙ sym (ap (λ z. written_runs s.runs ++ z) (drop_all (length c.args.infos.now) c.args.infos.now (omega arith))
        ∙ append-nil (written_runs s.runs)),
  );
}

pub loop-count-preserved : goal.loop-count-preserved
loop-count-preserved c =
    let n = c.loop-count.count - 1 in
    let at : n + 1 ≡ c.loop-count.count = omega arith in
    let start = get_or c.args.starts.now n 0 in
    let first = c.loop-count.invariant.left c.requires.0 c.requires.1 in
    let before : start ≤ c.loop-count.end =
    start_before c.loop-count.infos c.requires.0 c.args.starts.now c.loop-count.end n first.0 c.loop-count.invariant.within
    (omega (arith, c.loop-count.invariant.counted))
    first.1 (ap (λ k. take k c.args.starts.now) at ∙ first.2) first.3 in
    let within = c.loop-count.invariant.within in
    record {
      within = grind (arith, common_steps);
      counted = omega (arith, c.loop-count.invariant.counted);
      left = λ given s.
          let left = c.loop-count.invariant.left given s in
          write_last-in_place c.loop-count.infos given c.write_run.new.infos c.args.starts.now c.loop-count.end n left.0 c.loop-count.invariant.within
          (omega (arith, c.loop-count.invariant.counted)) left.1
          (ap (λ k. take k c.args.starts.now) at ∙ left.2) left.3 c.write_run.ensures;
    }

pub returns : goal.returns
returns c = λ given s.
    let left = c.loop-count.invariant.left given s in
    let none : c.loop-count.count ≡ 0 = omega arith in
    write_ends c.loop-count.infos given c.args.starts.now c.loop-count.end left.0 c.loop-count.invariant.within left.1
    (ap (λ k. take k c.args.starts.now) (sym none) ∙ left.2) left.3
