use Rattle.std.proofs.Common.{◌+◌, ◌-◌, ap, ◌∙◌, length}
use Rattle.shape_items.specs.Buffer.{Buffer}
use Rattle.layout_substitution.specs.Ligatures.{id_given, ligated}
use Rattle.layout_substitution.specs.declared.ligature.Ligation.{Ligation}
use Rattle.layout_substitution.proofs.ligature.put_ligature.Goals as goal

pub returns-clause-made : goal.returns-clause-made
returns-clause-made c =
    let l = c.args.lookup.now in
    let spot = c.args.spot in
    let m = c.args.found in
    let b = c.args.buffer.now in
    let made = c.how_to_ligate-made.result in
    c.ligate.ensures.made
    ∙ ap (λ (d : Buffer). (ligated l spot made m c.count_behind-left.result d).buffer) c.how_to_ligate-made.ensures.given
    ∙ ap (λ n. (ligated l spot made m n (id_given made.own b)).buffer) c.count_behind-left.ensures
    ∙ ap (λ (h : Ligation). (ligated l spot h m (length b.items - (m.last + 1)) (id_given h.own b)).buffer) c.how_to_ligate-made.ensures.how

pub returns-clause-next : goal.returns-clause-next
returns-clause-next c =
    let l = c.args.lookup.now in
    let spot = c.args.spot in
    let m = c.args.found in
    let b = c.args.buffer.now in
    let made = c.how_to_ligate-made.result in
    c.ligate.ensures.next
    ∙ ap (λ (d : Buffer). (ligated l spot made m c.count_behind-left.result d).next) c.how_to_ligate-made.ensures.given
    ∙ ap (λ n. (ligated l spot made m n (id_given made.own b)).next) c.count_behind-left.ensures
    ∙ ap (λ (h : Ligation). (ligated l spot h m (length b.items - (m.last + 1)) (id_given h.own b)).next) c.how_to_ligate-made.ensures.how
