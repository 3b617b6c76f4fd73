use Rattle.std.proofs.Common.{◌≡◌, ◌<◌, ◌+◌, None, sym, subst, arith}
use Rattle.std.proofs.lemmas.Bool.Decides.{nat_tests}
use Rattle.shape_items.specs.Items.{Item}
use Rattle.layout_tables.specs.Lookups.{subtable_count_of}
use Rattle.layout_matching.specs.Firsts.{AreOut}
use Rattle.layout_matching.specs.Loops.{steps}
use Rattle.layout_substitution.specs.Edits.{item_at}
use Rattle.layout_substitution.specs.Sought.{sought_step}
use Rattle.layout_substitution.proofs.SoughtLemmas.{sought_begun, sought_next}
use Rattle.layout_substitution.proofs.ligature_sought.seek_in_each.Goals as goal

pub loop-i-init : goal.loop-i-init
loop-i-init c =
    let l = c.args.indexed.now.lookup.now in
    let b = c.args.buffer.now in
    let there = c.at.ensures in
    let items = c.items.ensures in
    let same : c.at.result.now ≡ item_at b c.args.at = cc in
    record {
      within = c.next_begun-i.ensures.few;
      made = sought_begun l b c.args.at c.requires.substitution c.requires.four c.subtable_count-count.result c.next_begun-i.result
          (record { left = c.args.left; found = None }) c.subtable_count-count.ensures.value c.next_begun-i.ensures.few
          (subst (λ (x : Item). AreOut l 0 c.next_begun-i.result x.glyph_id) same c.next_begun-i.ensures.out);
      last = tt;
      far = tt;
    }

pub loop-i-preserved : goal.loop-i-preserved
loop-i-preserved c =
    let l = c.args.indexed.now.lookup.now in
    let b = c.args.buffer.now in
    let there = c.at.ensures in
    let items = c.items.ensures in
    let same : c.at.result.now ≡ item_at b c.args.at = cc in
    let n = c.subtable_count-count.result in
    let i = c.loop-i.i in
    let j = c.next_begun-i-in-loop-i.result in
    let more : i < n = grind (arith, nat_tests, c.loop-i-test.true) in
    record {
      within = c.next_begun-i-in-loop-i.ensures.few;
      made = sought_next l b c.args.at c.requires.substitution c.requires.four n i j
          (steps (sought_step l b c.args.at) (subtable_count_of l.table.now l.place) 0 (record { left = c.args.left; found = None }))
          c.loop-i.sought c.in-Some.more more c.next_begun-i-in-loop-i.ensures.from c.next_begun-i-in-loop-i.ensures.few
          (subst (λ (x : Item). AreOut l (i + 1) j x.glyph_id) same c.next_begun-i-in-loop-i.ensures.out)
          (sym c.in-Some.ensures.value) c.loop-i.invariant.made;
      last = c.in-Some.ensures.last;
      far = c.in-Some.ensures.far;
    }
