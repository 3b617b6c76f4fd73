use Rattle.std.proofs.Common.{rules, ◌≡◌, ◌||◌, sym, ap, ◌∙◌}
use Rattle.std.proofs.lemmas.Int.{to_z-of_z}
use Rattle.font_sizes.specs.Scales.{times}
use Rattle.layout_positions.specs.Values.{vanishes}
use Rattle.layout_positions.proofs.values.sized_at.Goals as goal
use Rattle.layout_positions.proofs.values.sized_at.Goals.{then-x_vanishes, else-x_vanishes}
use mir.Syntax.{w32}

pub returns : goal.returns
returns c =
    let s = c.args.scale.now in
    let v = c.args.value in
    let x_is = to_z-of_z w32 v.x_placement (search rules) in
    let y_is = to_z-of_z w32 v.y_placement (search rules) in
    let x_advance_is = to_z-of_z w32 v.x_advance (search rules) in
    let y_advance_is = to_z-of_z w32 v.y_advance (search rules) in
    let x = to_z-of_z w32 c.times.result (search rules) ∙ c.times.ensures ∙ ap (times s.across) x_is in
    let y = to_z-of_z w32 c.times-2.result (search rules) ∙ c.times-2.ensures ∙ ap (times s.up) y_is in
    let x_advance = to_z-of_z w32 c.times-3.result (search rules) ∙ c.times-3.ensures ∙ ap (times s.across) x_advance_is in
    let y_advance = to_z-of_z w32 c.times-4.result (search rules) ∙ c.times-4.ensures ∙ ap (times s.up) y_advance_is in
    let x_gone : c.vanishes-x_vanishes.result ≡ vanishes s.across v.x_placement = c.vanishes-x_vanishes.ensures ∙ ap (vanishes s.across) x_is in
    let y_gone : c.vanishes-y_vanishes.result ≡ vanishes s.up v.y_placement = c.vanishes-y_vanishes.ensures ∙ ap (vanishes s.up) y_is in
    let placed : c.if-x_vanishes.result ≡ (vanishes s.across v.x_placement || vanishes s.up v.y_placement) = elim c.if-x_vanishes.branch [
      | then-x_vanishes w ↦ w.result-is ∙ w.if-x_vanishes.true
          ∙ ap (λ t. t || vanishes s.up v.y_placement) (sym w.if-x_vanishes.true ∙ x_gone)
      | else-x_vanishes w ↦ w.result-is ∙ y_gone ∙ ap (λ t. t || vanishes s.up v.y_placement) (sym w.if-x_vanishes.false ∙ x_gone)
    ] in
    let x_advance_gone = c.vanishes.ensures ∙ ap (vanishes s.across) x_advance_is in
    let y_advance_gone = c.vanishes-2.ensures ∙ ap (vanishes s.up) y_advance_is in
    λ i. record {
      x_placement = x i;
      y_placement = y i;
      x_advance = x_advance i;
      y_advance = y_advance i;
      counted = record { placement = placed i; x_advance = x_advance_gone i; y_advance = y_advance_gone i };
    }
