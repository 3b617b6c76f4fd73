use Rattle.std.proofs.Common.{rules, ◌≡◌, ◌∙◌, ap}
use Rattle.std.proofs.lemmas.Int.{to_z-of_z}
use Rattle.charstrings.specs.Outline.{merged, offset, together}
use Rattle.charstrings.specs.declared.bounds.Bounds.{Bounds}
use Rattle.charstrings.proofs.bounds.together.Goals as goal
use mir.Syntax.{w64}
use mir.Val.{SFits}

pub returns : goal.returns
unfolding together
returns c =
    let x : SFits w64 c.args.dx = search rules in
    let y : SFits w64 c.args.dy = search rules in
    let moved : c.offset-moved.result ≡ offset c.args.second c.args.dx c.args.dy = simp to_z-of_z at c.offset-moved.ensures in
    c.merged-2.ensures
    ∙ (ap (λ (m : Bounds). merged m c.offset-moved.result) c.merged.ensures
    ∙ ap (λ (o : Bounds). merged (merged c.args.bounds c.args.first) o) moved)
