use Rattle.std.proofs.Common.{◌≡◌, take, ap, ◌∙◌, refl, arith}
use Rattle.std.proofs.lemmas.List.{take_all}
use Rattle.std.specs.List.{flat_map}
use Rattle.test_fixtures.specs.Rules.{two_for_one, multiplied}
use Rattle.shape_buffer.proofs.Steps.ReplaceLemmas.{Outcome-replaced, Outcome-refused}
use Rattle.test_fixtures.proofs.lookups.multiply.Goals as goal

pub returns-in_err-append : goal.returns-in_err-append
returns-in_err-append c =
    Outcome-refused (multiplied c.args.rule.now) c.args.buffer.now c.args.buffer.now c.from_residual.result c.from_residual.ensures.1

pub returns : goal.returns
unfolding multiplied
returns c =
    let rule = c.args.rule.now in
    let infos = c.loop-info.infos in
    let shown = c.infos-info-items.ensures in
    let all : take c.loop-info.info-index c.infos-info-items.result.now
    ≡ c.infos-info-items.result.now = take_all c.loop-info.info-index c.infos-info-items.result.now (omega arith) in
    let is = c.loop-info.invariant ∙ ap (flat_map (two_for_one rule)) (all ∙ shown) in
    Outcome-replaced (two_for_one rule) (multiplied rule) c.args.buffer.now c.replace_infos.new.self infos.items infos.len
    c.replace_infos.result refl is infos.ok.0 c.replace_infos.ensures.ok c.replace_infos.ensures.past_limit
