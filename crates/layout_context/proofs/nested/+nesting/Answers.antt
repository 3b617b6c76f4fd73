use Rattle.std.proofs.Common.{◌≡◌, sym, ◌∙◌, subst, true, arith}
use Rattle.std.specs.Prelude.{OnOk, IfOk, IsErrOf}
use Rattle.shape_buffer.specs.declared.buffer.error.ShapeError.TheVariants.{Length}
use Rattle.layout_substitution.specs.Applied.{Applied}
use Rattle.layout_substitution.specs.Edits.{is_past}
use Rattle.layout_context.specs.Nested.{Nest}
use Rattle.layout_context.proofs.AttemptLemmas.{found_some}
use Rattle.layout_context.proofs.NestedLemmas.{past_records}
use Rattle.layout_context.proofs.nested.+nesting.Goals as goal

pub apply_records-returns-in-Err-clause-length : goal.apply_records-returns-in-Err-clause-length
apply_records-returns-in-Err-clause-length t c =
    let first : Nest = record { buffer = c.args.buffer.now; places = c.args.places.now.items; progress = c.args.progress } in
    let here : Nest = record { buffer = c.loop-i.buffer; places = c.loop-i.places.items; progress = c.loop-i.progress } in
    λ is. past_records c.args.level c.args.named.now c.args.named.now.rule.count c.loop-i._i first here c.loop-i-test.true
    c.loop-i.invariant.made (c.in-Err.ensures.length is)

pub apply_found-returns-in-Some-clause-made : goal.apply_found-returns-in-Some-clause-made
apply_found-returns-in-Some-clause-made t c =
    let is = found_some c.args.level c.args.indexed.now.lookup.now c.args.spot c.args.buffer.now c.args.found c.in-Some.found
    c.length_limit.result c.len.result (omega (arith, c.if-level-eq0.false)) c.length_limit.ensures c.len.ensures.items (omega (arith, c.if-length_limit-len.false))
    c.requires.inside c.requires.context (sym c.asks_for_concat.ensures ∙ c.if-asks_for_concat.false) c.requires.found c.in-Some.is in
    subst (λ (m : Applied). OnOk c.apply_rule.result (c.apply_rule.new.buffer ≡ m.buffer)) (sym is) c.apply_rule.ensures.made

pub apply_found-returns-in-Some-clause-next : goal.apply_found-returns-in-Some-clause-next
apply_found-returns-in-Some-clause-next t c =
    let is = found_some c.args.level c.args.indexed.now.lookup.now c.args.spot c.args.buffer.now c.args.found c.in-Some.found
    c.length_limit.result c.len.result (omega (arith, c.if-level-eq0.false)) c.length_limit.ensures c.len.ensures.items (omega (arith, c.if-length_limit-len.false))
    c.requires.inside c.requires.context (sym c.asks_for_concat.ensures ∙ c.if-asks_for_concat.false) c.requires.found c.in-Some.is in
    subst (λ (m : Applied). IfOk c.apply_rule.result (λ next. next ≡ m.next)) (sym is) c.apply_rule.ensures.next

pub apply_found-returns-in-Some-clause-length : goal.apply_found-returns-in-Some-clause-length
apply_found-returns-in-Some-clause-length t c =
    let is = found_some c.args.level c.args.indexed.now.lookup.now c.args.spot c.args.buffer.now c.args.found c.in-Some.found
    c.length_limit.result c.len.result (omega (arith, c.if-level-eq0.false)) c.length_limit.ensures c.len.ensures.items (omega (arith, c.if-length_limit-len.false))
    c.requires.inside c.requires.context (sym c.asks_for_concat.ensures ∙ c.if-asks_for_concat.false) c.requires.found c.in-Some.is in
    subst (λ (m : Applied). IsErrOf c.apply_rule.result Length → is_past m.buffer ≡ true) (sym is) c.apply_rule.ensures.length
