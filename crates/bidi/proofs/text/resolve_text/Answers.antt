use Rattle.std.proofs.Common.{◌≡◌, ◌+◌, ◌-◌, ◌≤◌, ◌++◌, ◌∙◌, length, take, drop, ap, arith, length-drop, length-take-le}
use Rattle.bidi.specs.Levels.{classes_of, paragraph_level}
use Rattle.bidi.specs.Text.{level_in, levels_in, levels_of, paragraphs_of, part_levels, parts_of}
use Rattle.bidi.proofs.TextLemmas.{classes_part, levels_next, paragraphs_next}
use Rattle.bidi.proofs.text.resolve_text.Goals as goal

pub loop-start-preserved : goal.loop-start-preserved
loop-start-preserved c =
    let text = c.args.text.now in
    let base = c.args.base in
    let start = c.loop-start.start in
    let stop = c.paragraph_end-end.result in
    let count = stop - start in
    let part = take count (drop start text) in
    let level = c.paragraph_level-level.result in
    let rest = parts_of (drop stop text) in
    let parts = parts_of (drop start text) in
    let is_level : level ≡ level_in base part =
    c.paragraph_level-level.ensures.level
    ∙ ap (λ l. paragraph_level base (take count (drop start l))) (c.deref-in-loop-start.ensures.value ∙ c.in_ok-classes.ensures)
    ∙ ap (paragraph_level base) (classes_part text start count) in
    let is_part : c.in_ok-part.part.items ≡ part_levels base part =
    c.in_ok-part.ensures
    ∙ ap (λ l. levels_in level part (take count (drop start l))) (c.deref-in-loop-start-2.ensures.value ∙ c.in_ok-classes.ensures)
    ∙ ap (levels_in level part) (classes_part text start count) ∙ ap (λ k. levels_in k part (classes_of part)) is_level in
    let after = c.paragraph_end-end.ensures.after in
    let within = c.paragraph_end-end.ensures.within in
    let left = length-drop start text in
    let enough : count ≤ length (drop start text) = omega (arith, after, within, left) in
    let long = length-take-le count (drop start text) enough in
    let sum : start + length part ≡ stop = omega (arith, after, long) in
    record {
      within = within;
      levels = ap (λ l. l ++ levels_of base rest)
          (c.in_ok-extend_from_slice.ensures.items ∙ ap (λ l. c.loop-start.levels.items ++ l) (c.deref-in-loop-start-3.ensures.value ∙ is_part))
          ∙ levels_next base c.loop-start.levels.items part rest parts c.paragraph_end-end.ensures.part ∙ c.loop-start.invariant.levels;
      paragraphs = ap (λ l. l ++ paragraphs_of base stop rest) c.in_ok-push.ensures.items
          ∙ paragraphs_next base start stop level c.loop-start.paragraphs.items part rest parts c.paragraph_end-end.ensures.part sum is_level
          ∙ c.loop-start.invariant.paragraphs;
    }
