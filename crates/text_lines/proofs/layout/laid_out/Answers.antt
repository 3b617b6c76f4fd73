use Rattle.std.proofs.Common.{◌≡◌, map, All, ap, subst, ◌∙◌}
use Rattle.std.proofs.lemmas.Result.{IfOk-weaker}
use Rattle.std.specs.Str.{chars}
use Rattle.text_lines.specs.Levels.{IsLevelled, byte_levels}
use Rattle.text_lines.specs.Pieces.{bytes_in}
use Rattle.text_lines.specs.Lines.{AreCutBy, cut_text, line_text}
use Rattle.text_lines.specs.Reach.{Reaches, reaches_in, size_of}
use Rattle.text_lines.proofs.layout.laid_out.Goals as goal

pub returns-clause-cut : goal.returns-clause-cut
returns-clause-cut g c =
    IfOk-weaker c.lines.result (λ lines. map line_text lines.items ≡ map cut_text c.deref-9.result.now)
    (λ lines. AreCutBy c.args.text.now c.args.options.now.width lines.items)
    (λ lines texts. record {
      glyphs = c.in_ok-cut.ensures.0;
      breaks = c.in_ok-breaks.breaks;
      spaces = c.in_ok-cut.ensures.1;
      cut = c.in_ok-cut.cut.items;
      breaks_of = c.in_ok-breaks.ensures.breaks;
      lines_at = c.in_ok-cut.ensures.2;
      texts = texts ∙ ap (map cut_text) c.deref-9.ensures.value;
    })
    c.lines.ensures.texts

pub returns-clause-reach : goal.returns-clause-reach
returns-clause-reach g c =
    let fonts = g.S.PartShaper.fonts c.args.shaper.now in
    let are = c.deref-8.ensures.value ∙ c.in_ok-reaches.ensures ∙ ap (λ s. reaches_in s fonts) c.size_or_first-size.ensures in
    IfOk-weaker c.lines.result (λ lines. All (Reaches c.deref-8.result.now) lines.items)
    (λ lines. All (Reaches (reaches_in (size_of c.args.options.now.size fonts) fonts)) lines.items)
    (λ lines all. subst (λ reaches. All (Reaches reaches) lines.items) are all)
    c.lines.ensures.reach

pub returns-clause-levels : goal.returns-clause-levels
returns-clause-levels g c =
    let bytes = byte_levels c.args.options.now.direction (chars c.args.text.now) in
    IfOk-weaker c.lines.result (λ lines. All (IsLevelled (bytes_in c.in_ok-levels.levels)) lines.items)
    (λ lines. All (IsLevelled bytes) lines.items)
    (λ lines all. subst (λ is. All (IsLevelled is) lines.items) c.in_ok-levels.ensures.bytes all)
    c.lines.ensures.levels
