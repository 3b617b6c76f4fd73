use Rattle.std.proofs.Common.{rules, ◌≡◌, ◌+◌, ◌-◌, ◌++◌, ◌∷◌, [], suc, length, List, ap, sym, ◌∙◌, arith, Err}
use Rattle.std.proofs.lemmas.List.{append_assoc, length-append}
use Rattle.arabic_stretching.specs.Copying.{copies_of, moved, moved_by, placed}
use Rattle.arabic_stretching.proofs.OutcomeLemmas.{past_on}
use Rattle.arabic_stretching.specs.declared.fitting.Glyph.{Glyph}
use Rattle.arabic_stretching.proofs.copying.put_copies.Goals as goal

pub loop-preserved : goal.loop-preserved
loop-preserved c =
    let left = c.args.count - (c.loop.counter + 1) in
    let one : c.args.count - c.loop.counter ≡ suc left = omega (arith, c.loop-test.true) in
    let pen = c.loop.pen in
    let tile = c.args.tile.now in
    let then : c.moved-pen.result ≡ moved pen = c.moved-pen.ensures in
    let put : c.push.new.out.items ≡ c.loop.out.items ++ placed pen tile ∷ [] =
    c.in_ok-push.ensures.ok ∙ ap (λ (g : Glyph). c.loop.out.items ++ g ∷ []) c.placed.ensures in
    record {
      made = ap (λ p. c.push.new.out.items ++ copies_of p tile left) then
          ∙ ap (λ (gs : List Glyph). gs ++ copies_of (moved pen) tile left) put
          ∙ append_assoc c.loop.out.items (placed pen tile ∷ []) (copies_of (moved pen) tile left)
          ∙ ap (λ n. c.loop.out.items ++ copies_of pen tile n) (sym one)
          ∙ c.loop.invariant.made;
      pen = ap (moved_by left) then ∙ ap (λ n. moved_by n pen) (sym one) ∙ c.loop.invariant.pen;
      within = c.in_ok-push.ensures.within;
    }

pub returns-in_err-push-clause-past : goal.returns-in_err-push-clause-past
returns-in_err-push-clause-past c =
    let left = c.args.count - (c.loop.counter + 1) in
    let one : c.args.count - c.loop.counter ≡ suc left = omega (arith, c.loop-test.true) in
    let pen = c.loop.pen in
    let tile = c.args.tile.now in
    let many : length c.loop.out.items + length (copies_of pen tile (suc left))
    ≡ length c.args.out.now.items + length (copies_of c.args.pen tile c.args.count)
    = sym (length-append c.loop.out.items (copies_of pen tile (suc left)))
    ∙ ap (λ n. length (c.loop.out.items ++ copies_of pen tile n)) (sym one) ∙ ap length c.loop.invariant.made
    ∙ length-append c.args.out.now.items (copies_of c.args.pen tile c.args.count) in
    past_on c.from_residual.result c.in_err-push.field-0.0 _ (search rules)
    (λ long. let full = c.in_err-push.ensures.past (ap (λ e. Err e) long) in omega (arith, full, many))
