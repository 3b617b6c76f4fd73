use Rattle.std.proofs.Common.{◌≡◌, ◌≤◌, [], ◌∷◌, ◌++◌, false, map, All, sym, ap, ap₂, subst, ◌∙◌, arith}
use Rattle.std.proofs.lemmas.List.{map_push, map_more}
use Rattle.std.proofs.lemmas.List.Elements.{All-push}
use Rattle.shape_lines.specs.declared.allowed.LineAt.{LineAt}
use Rattle.text_lines.specs.Lines.{AreLines, cut_text, line_text}
use Rattle.text_lines.specs.Levels.{IsLevelled}
use Rattle.text_lines.specs.Pieces.{bytes_in}
use Rattle.text_lines.specs.Reach.{Reaches}
use Rattle.text_lines.proofs.PartLemmas.{AreLines-push}
use Rattle.text_lines.proofs.layout.lines.Goals as goal

-- what is read past the end of a list
abbrev none : LineAt
none = record { line = record { glyph_start = 0; glyph_end = 0; text_start = 0; text_end = 0 }; ends_safely = false }

pub loop-place-preserved : goal.loop-place-preserved
loop-place-preserved g c =
    let lines = c.loop-place.lines.items in
    let line = c.in_ok-line.field-0 in
    let span = c.span_of-line.result in
    let begins : line.start ≡ c.loop-place.start = c.in_ok-line.ensures.start ∙ c.if-line-start.false in
    let ends : line.end ≡ span.end = c.in_ok-line.ensures.end in
    let after : c.loop-place.start ≤ line.end = omega (arith, ends, c.if-line-start-2.false) in
    let texts : line_text line ≡ (span.start, span.end) = ap₂ (λ a b. (a, b)) c.in_ok-line.ensures.start ends in
    let cut_start = c.span_of-line.ensures.start in
    let cut_end = c.span_of-line.ensures.end in
    let reaches = c.args.laid.now.reaches.now in
    let bytes = bytes_in c.args.laid.now.levels.now in
    record {
      follow = subst (AreLines 0 span.end) (sym c.in_ok-push.ensures.items)
          (subst (λ n. AreLines 0 n (lines ++ line ∷ [])) ends
          (AreLines-push 0 c.loop-place.start lines line c.loop-place.invariant.follow begins after c.in_ok-line.ensures.order c.in_ok-line.ensures.measured));
      texts = ap (map line_text) c.in_ok-push.ensures.items ∙ map_push line_text lines line
          ∙ ap₂ (λ ls t. ls ++ t ∷ []) c.loop-place.invariant.texts (texts ∙ ap₂ (λ a b. (a, b)) cut_start cut_end)
          ∙ sym (map_more cut_text c.args.cut.now c.loop-place.place none c.loop-place-test.true);
      reach = subst (All (Reaches reaches)) (sym c.in_ok-push.ensures.items)
          (All-push (Reaches reaches) lines line c.loop-place.invariant.reach c.in_ok-line.ensures.reach);
      levels = subst (All (IsLevelled bytes)) (sym c.in_ok-push.ensures.items)
          (All-push (IsLevelled bytes) lines line c.loop-place.invariant.levels c.in_ok-line.ensures.levels);
    }
