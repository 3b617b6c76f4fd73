use Rattle.std.proofs.Common.{◌≡◌, pos, w64, to_z, of_z, ap₂, ◌∙◌, rules}
use Rattle.text_lines.specs.Lines.{pen_after}
use Rattle.text_lines.proofs.PartLemmas.{follow_pushed}
use Rattle.text_lines.proofs.visual.Row.push.Goals as goal

pub returns-clause-follow : goal.returns-clause-follow
returns-clause-follow c = λ before.
    let x = c.args.self.now.end in
    let same : to_z w64 (of_z w64 x) ≡ x = search rules in
    let fits : to_z w64 (of_z w64 c.in_ok-end.end) ≡ c.in_ok-end.end = search rules in
    let moved : c.in_ok-end.end ≡ pen_after 0 x c.args.run.glyphs.items =
    c.in_ok-end.ensures ∙ ap₂ (λ m glyphs. pen_after 0 m glyphs) same c.deref.ensures.value in
    follow_pushed (pos 0) x (to_z w64 (of_z w64 c.in_ok-end.end)) c.args.self.now.runs.items _ _
    before same c.requires c.in_ok-push.ensures.items (fits ∙ moved)
