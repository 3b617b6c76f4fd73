use Rattle.std.proofs.Common.{◌≡◌, ◌<◌, ◌≤◌, ◌+◌, ◌-◌, Some, None, sym, ap, subst, ◌∙◌, length, arith}
use Rattle.shape_items.specs.Buffer.{limit_of}
use Rattle.shape_buffer.specs.Outcome.{IsWithinLimit}
use Rattle.layout_tables.specs.Lookups.{subtable_count_of}
use Rattle.layout_substitution.specs.Applied.{Applied}
use Rattle.layout_substitution.specs.Edits.{is_past}
use Rattle.layout_substitution.specs.Kinds.{subtable_applied, subtables_applied, lookup_applied}
use Rattle.layout_substitution.proofs.KindLemmas.{subtables_found, subtables_next, past_is_false}
use Rattle.layout_substitution.proofs.kinds.first_applied.Goals as goal

pub returns-in-Ok-Some-clause-made : goal.returns-in-Ok-Some-clause-made
returns-in-Ok-Some-clause-made c =
    let l = c.args.indexed.now.lookup.now in
    let spot = c.args.spot in
    let b = c.loop-i.buffer in
    let i = c.loop-i.i in
    let n = subtable_count_of l.table.now l.place in
    let said = c.in-Ok-Some.ensures.next in
    let is = c.in-Ok-Some.field-0-is in
    let there : (subtable_applied l i spot b).next ≡ Some c.in-Ok-Some.next = cc in
    let more : i < n = omega (arith, c.loop-i-test.true, c.subtable_count-i-end.ensures.value) in
    let whole : lookup_applied l spot c.args.buffer.now ≡ subtable_applied l i spot b =
    c.loop-i.invariant.made ∙ subtables_found l spot n i b c.in-Ok-Some.next more there in
    c.in-Ok-Some.ensures.made ∙ sym (ap (λ (a : Applied). a.buffer) whole)

pub returns-in-Ok-Some-clause-next : goal.returns-in-Ok-Some-clause-next
returns-in-Ok-Some-clause-next c =
    let l = c.args.indexed.now.lookup.now in
    let spot = c.args.spot in
    let b = c.loop-i.buffer in
    let i = c.loop-i.i in
    let n = subtable_count_of l.table.now l.place in
    let said = c.in-Ok-Some.ensures.next in
    let is = c.in-Ok-Some.field-0-is in
    let there : (subtable_applied l i spot b).next ≡ Some c.in-Ok-Some.next = cc in
    let more : i < n = omega (arith, c.loop-i-test.true, c.subtable_count-i-end.ensures.value) in
    let whole : lookup_applied l spot c.args.buffer.now ≡ subtable_applied l i spot b =
    c.loop-i.invariant.made ∙ subtables_found l spot n i b c.in-Ok-Some.next more there in
    sym (ap (λ (a : Applied). a.next) whole ∙ there)

pub loop-i-preserved : goal.loop-i-preserved
loop-i-preserved c =
    let l = c.args.indexed.now.lookup.now in
    let spot = c.args.spot in
    let b = c.loop-i.buffer in
    let d = c.apply_subtable.new.buffer in
    let i = c.loop-i.i in
    let n = subtable_count_of l.table.now l.place in
    let said = c.in-Ok-None.ensures.next in
    let is = c.in-Ok-None.field-0-is in
    let none : c.in-Ok-None.field-0 ≡ None = cc in
    let there : (subtable_applied l i spot b).next ≡ None = cc in
    let more : i < n = omega (arith, c.loop-i-test.true, c.subtable_count-i-end.ensures.value) in
    let many : length d.items ≡ length b.items = c.in-Ok-None.ensures.as_many none in
    let limit : limit_of d ≡ limit_of b = c.in-Ok-None.ensures.limit none in
    let within : IsWithinLimit d = subst (λ k. length d.items ≤ k) (sym limit)
    (subst (λ k. k ≤ limit_of b) (sym many) c.loop-i.invariant.within) in
    let left : d ≡ (subtable_applied l i spot b).buffer = c.in-Ok-None.ensures.made in
    record {
      inside = subst (λ k. spot.at < k) (sym many) c.loop-i.invariant.inside;
      within = within;
      made = c.loop-i.invariant.made ∙ subtables_next l spot n i b more (ap is_past (sym left) ∙ past_is_false d within) there
          ∙ ap (subtables_applied l spot (n - (i + 1)) (i + 1)) (sym left);
    }
