use Rattle.std.proofs.Common.{rules, ◌≡◌, ◌<◌, ◌+◌, ◌-◌, ℕ, max, ap, subst, ◌∙◌}
use Rattle.shape_font.specs.Bytes.{u16_of, fitting}
use Rattle.layout_matching.specs.Loops.{along}
use Rattle.layout_matching.proofs.PassingLemmas.{along_next}
use Rattle.layout_positions.specs.Devices.{columns_of}
use Rattle.layout_positions.proofs.devices.most_columns.Goals as goal

pub loop-outer-preserved : goal.loop-outer-preserved
loop-outer-preserved c =
    let t = c.args.store.now in
    let n = fitting t (u16_of t 6) 8 4 in
    let i = c.loop-outer.outer in
    let f : ℕ → ℕ → ℕ = λ outer most. max most (columns_of t outer) in
    let made : f i c.loop-outer.most ≡ c.max-most.result = search rules in
    let count = c.records-outer-end.ensures.value ∙ ap (λ said. fitting t said 8 4) (c.from.ensures ∙ c.u16_at.ensures) in
    let below : i < n = subst (λ m. i < m) count c.loop-outer-test.true in
    c.loop-outer.invariant ∙ along_next f n i c.loop-outer.most below ∙ ap (along f (n - (i + 1)) (i + 1)) made
