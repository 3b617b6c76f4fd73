use Rattle.std.proofs.Common.{arith, refl}
use Rattle.std.proofs.lemmas.Grind.{common_steps}
use Rattle.shape_buffer.proofs.passing.is_in_four.Goals as goal
use Rattle.shape_buffer.proofs.passing.is_in_four.Goals.{then-is, else-is, then-is-2, else-is-2}

pub returns-then-is-3 : goal.returns-then-is-3
returns-then-is-3 g c = λ p tells d.
    let a = tells _ c.is.result (record { shown = _; shows = refl; says = record { met = c.is.ensures } }) in
    elim c.if-is-2.branch [
      | then-is-2 w ↦ elim c.if-is.branch [
        | then-is v ↦ grind (arith, common_steps)
        | else-is v ↦
            let b = tells _ v.is-else-is.result (record { shown = _; shows = refl; says = record { met = v.is-else-is.ensures } }) in
            grind (arith, common_steps)
      ]
      | else-is-2 w ↦
          let third = tells _ w.is-else-is-2.result (record { shown = _; shows = refl; says = record { met = w.is-else-is-2.ensures } }) in
          elim c.if-is.branch [
            | then-is v ↦ grind (arith, common_steps)
            | else-is v ↦
                let b = tells _ v.is-else-is.result (record { shown = _; shows = refl; says = record { met = v.is-else-is.ensures } }) in
                grind (arith, common_steps)
          ]
    ]

pub returns-else-is-3 : goal.returns-else-is-3
returns-else-is-3 g c = λ p tells d.
    let a = tells _ c.is.result (record { shown = _; shows = refl; says = record { met = c.is.ensures } }) in
    let fourth = tells _ c.is-else-is-3.result (record { shown = _; shows = refl; says = record { met = c.is-else-is-3.ensures } }) in
    elim c.if-is-2.branch [
      | then-is-2 w ↦ grind (arith, common_steps)
      | else-is-2 w ↦
          let third = tells _ w.is-else-is-2.result (record { shown = _; shows = refl; says = record { met = w.is-else-is-2.ensures } }) in
          elim c.if-is.branch [
            | then-is v ↦ grind (arith, common_steps)
            | else-is v ↦
                let b = tells _ v.is-else-is.result (record { shown = _; shows = refl; says = record { met = v.is-else-is.ensures } }) in
                grind (arith, common_steps)
          ]
    ]
