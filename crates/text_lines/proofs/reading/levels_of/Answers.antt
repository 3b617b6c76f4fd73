use Rattle.std.proofs.Common.{◌≡◌, length, ap, ap₂, sym, ◌∙◌, arith}
use Rattle.std.proofs.lemmas.Grind.{common_steps}
use Rattle.std.specs.Str.{chars}
use Rattle.bidi.specs.Text.{text_levels, text_paragraphs}
use Rattle.bidi.specs.Levels.{classes_of}
use Rattle.text_lines.specs.Levels.{of_bytes, paragraph_levels}
use Rattle.text_lines.proofs.LevelLemmas.{same_bytes}
use Rattle.text_lines.proofs.reading.levels_of.Goals as goal

pub returns-clause-bytes : goal.returns-clause-bytes
returns-clause-bytes c =
    let text = c.in_ok-read.ensures in
    let are = c.deref.ensures.value ∙ text in
    let direction = c.args.direction in
    let bytes = c.in_ok-bytes.ensures ∙ ap₂ of_bytes (c.deref-5.ensures.value ∙ text)
    (c.deref-6.ensures.value ∙ c.in_ok-made.ensures.levels ∙ ap (text_levels direction) are) in
    let classes = c.in_ok-classes.ensures ∙ ap₂ of_bytes (c.deref-7.ensures.value ∙ text)
    (c.deref-8.ensures.value ∙ c.in_ok-made.ensures.classes ∙ ap classes_of are) in
    let bases = c.in_ok-bases-2.ensures ∙ ap₂ of_bytes (c.deref-9.ensures.value ∙ text)
    (c.deref-10.ensures.value ∙ c.in_ok-bases.ensures
    ∙ ap (paragraph_levels 0) (c.deref-2.ensures.value ∙ c.in_ok-made.ensures.paragraphs ∙ ap (text_paragraphs direction) are)) in
    λ i. record { levels = bytes i; classes = classes i; bases = bases i }

pub returns-clause-same : goal.returns-clause-same
returns-clause-same c =
    let text = c.in_ok-read.ensures in
    let bytes = c.in_ok-bytes.ensures ∙ ap₂ of_bytes (c.deref-5.ensures.value ∙ text) c.deref-6.ensures.value in
    let classes = c.in_ok-classes.ensures ∙ ap₂ of_bytes (c.deref-7.ensures.value ∙ text) c.deref-8.ensures.value in
    let as_many : length c.in_ok-made.made.levels.items ≡ length c.in_ok-made.made.classes.items
    = grind (arith, common_steps, c.in_ok-made.ensures.count, c.in_ok-made.ensures.classes) in
    ap length bytes ∙ same_bytes (chars c.args.text.now) c.in_ok-made.made.levels.items c.in_ok-made.made.classes.items as_many
    ∙ sym (ap length classes)
