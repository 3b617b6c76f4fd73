use Rattle.std.proofs.Common.{◌≡◌, ◌∙◌, ap}
use Rattle.layout_map.specs.Map.{compiled}
use Rattle.opentype_layout.specs.Chosen.{chosen_in}
use Rattle.opentype_layout.proofs.engine.compiled.Goals as goal

pub returns-in-Ok : goal.returns-in-Ok
returns-in-Ok c =
    let face = c.args.face.now in
    let b = c.args.builder.now in
    let there = face.coordinates.now in
    let gsub = chosen_in face.gsub.now there b.gsub_script b.language in
    let gpos = chosen_in face.gpos.now there b.gpos_script b.language in
    let gsub_is : c.chosen_for-gsub.result ≡ gsub =
    c.chosen_for-gsub.ensures
    ∙ ap (λ t. chosen_in t.now c.coordinates-coordinates.result.now b.gsub_script b.language) c.gsub.ensures
    ∙ ap (λ r. chosen_in face.gsub.now r.now b.gsub_script b.language) c.coordinates-coordinates.ensures in
    let gpos_is : c.chosen_for-gpos.result ≡ gpos =
    c.chosen_for-gpos.ensures
    ∙ ap (λ t. chosen_in t.now c.coordinates-coordinates.result.now b.gpos_script b.language) c.gpos.ensures
    ∙ ap (λ r. chosen_in face.gpos.now r.now b.gpos_script b.language) c.coordinates-coordinates.ensures in
    c.in-Ok.ensures.ok
    ∙ ap (λ t. compiled t c.chosen_for-gpos.result c.requests.result.now) gsub_is
    ∙ ap (λ t. compiled gsub t c.requests.result.now) gpos_is
    ∙ ap (λ requests. compiled gsub gpos requests) c.requests.ensures
