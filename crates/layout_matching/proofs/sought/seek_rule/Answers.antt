use Rattle.std.proofs.Common.{◌≡◌, ◌<◌, ◌≤◌, ◌+◌, ◌-◌, Option, Some, refl, ap, sym, ◌∙◌, subst, arith}
use Rattle.std.proofs.lemmas.Bool.Decides.{nat_tests}
use Rattle.shape_items.specs.Items.{Item}
use Rattle.layout_matching.specs.Firsts.{AreOut}
use Rattle.layout_matching.specs.Loops.{steps}
use Rattle.layout_matching.specs.Sought.{sought, sought_at_subtable, unfound, unless_found}
use Rattle.layout_matching.specs.declared.found.Found.{Found}
use Rattle.layout_matching.specs.declared.sought.Sought.{Sought}
use Rattle.layout_matching.proofs.SoughtLemmas.{found_there, none_of, seek_begun, seek_end, seek_next, sought_finds}
use Rattle.layout_matching.proofs.sought.seek_rule.Goals as goal

pub loop-i-init : goal.loop-i-init
loop-i-init c =
    let l = c.args.indexed.now.lookup.now in
    let items = c.args.items.now in
    let first = c.next_begun-i.result in
    record {
      within = c.next_begun-i.ensures.few;
      made = subst (λ left. sought l items c.args.origin c.args.left
          ≡ steps (unless_found (sought_at_subtable l items c.args.origin)) (c.subtable_count-count.result - first) first (unfound left))
          (ap (λ (s : Sought). s.left) (sym c.unfound-sought.ensures))
          (seek_begun l items c.args.origin c.subtable_count-count.result first c.args.left
          c.subtable_count-count.ensures.value c.next_begun-i.ensures.few
          (subst (λ (there : Item). AreOut l 0 first there.glyph_id) c.at.ensures c.next_begun-i.ensures.out));
      none = ap (λ (s : Sought). s.found) c.unfound-sought.ensures;
      known = tt;
    }

pub loop-i-preserved-in_default : goal.loop-i-preserved-in_default
loop-i-preserved-in_default c =
    let l = c.args.indexed.now.lookup.now in
    let more : c.loop-i.i < c.subtable_count-count.result = grind (arith, nat_tests, c.loop-i-test.true) in
    record {
      within = c.next_begun-i-in_default.ensures.few;
      made = seek_next l c.args.items.now c.args.origin c.subtable_count-count.result c.loop-i.i c.next_begun-i-in_default.result
          c.args.left c.loop-i.sought.left (unfound c.begun_at-begun.new.left) more
          c.next_begun-i-in_default.ensures.from c.next_begun-i-in_default.ensures.few
          (subst (λ (there : Item). AreOut l (c.loop-i.i + 1) c.next_begun-i-in_default.result there.glyph_id) c.at.ensures
          c.next_begun-i-in_default.ensures.out)
          (c.in_default.ensures.missed refl) refl c.loop-i.invariant.made;
      none = c.loop-i.invariant.none;
      known = c.in_default.ensures.known;
    }

pub loop-i-preserved : goal.loop-i-preserved
loop-i-preserved c =
    let l = c.args.indexed.now.lookup.now in
    let next = c.seek_begun.new.sought in
    let more : c.loop-i.i < c.subtable_count-count.result = grind (arith, nat_tests, c.loop-i-test.true) in
    record {
      within = c.next_begun-i-in-loop-i.ensures.few;
      made = seek_next l c.args.items.now c.args.origin c.subtable_count-count.result c.loop-i.i c.next_begun-i-in-loop-i.result
          c.args.left c.loop-i.sought.left next more
          c.next_begun-i-in-loop-i.ensures.from c.next_begun-i-in-loop-i.ensures.few
          (subst (λ (there : Item). AreOut l (c.loop-i.i + 1) c.next_begun-i-in-loop-i.result there.glyph_id) c.at.ensures
          c.next_begun-i-in-loop-i.ensures.out)
          (c.in-Some.ensures.begun ∙ c.seek_begun.ensures.paid c.if-not-seek_begun.false)
          (sym c.is_some.ensures ∙ c.if-is_some.false) c.loop-i.invariant.made;
      none = none_of next.found (sym c.is_some.ensures ∙ c.if-is_some.false);
      known = c.in-Some.ensures.known;
    }

pub returns-then-is_some-clause-found : goal.returns-then-is_some-clause-found
returns-then-is_some-clause-found c =
    let l = c.args.indexed.now.lookup.now in
    let n = c.subtable_count-count.result in
    let next = c.seek_begun.new.sought in
    let more : c.loop-i.i < n = grind (arith, nat_tests, c.loop-i-test.true) in
    sought_finds l c.args.items.now c.args.origin c.args.left next
    (c.loop-i.invariant.made
    ∙ found_there (sought_at_subtable l c.args.items.now c.args.origin) n c.loop-i.i c.loop-i.sought.left next more
    (c.in-Some.ensures.begun ∙ c.seek_begun.ensures.paid c.if-not-seek_begun.false) (sym c.is_some.ensures ∙ c.if-is_some.true))

pub returns-clause-found : goal.returns-clause-found
returns-clause-found c =
    let l = c.args.indexed.now.lookup.now in
    let n = c.subtable_count-count.result in
    let over : n ≤ c.loop-i.i = grind (arith, nat_tests, c.loop-i-test.false) in
    sought_finds l c.args.items.now c.args.origin c.args.left c.loop-i.sought
    (seek_end l c.args.items.now c.args.origin n c.loop-i.i c.args.left c.loop-i.sought.left over c.loop-i.invariant.made
    ∙ ap (λ (o : Option Found). Some (record { left = c.loop-i.sought.left; found = o })) (sym c.loop-i.invariant.none))
