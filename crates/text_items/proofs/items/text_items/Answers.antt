use Rattle.std.proofs.Common.{length, sym, subst}
use Rattle.std.specs.Prelude.{All}
use Rattle.text_items.specs.Laws.{AreApart, BeginsCluster, Covers}
use Rattle.text_items.proofs.LawLemmas.{items_are_apart, items_begin, items_cover}
use Rattle.text_items.proofs.items.text_items.Goals as goal

pub returns-clause-cover : goal.returns-clause-cover
returns-clause-cover c =
    subst (λ l. Covers 0 l (length c.args.text.now)) (sym c.in_ok-items.ensures)
    (items_cover c.args.options.now.levels.now c.args.options.now.languages.now c.args.options.now.features.now c.args.text.now c.utf8.text)

pub returns-clause-clusters : goal.returns-clause-clusters
returns-clause-clusters c =
    subst (All (BeginsCluster c.args.text.now)) (sym c.in_ok-items.ensures)
    (items_begin c.args.options.now.levels.now c.args.options.now.languages.now c.args.options.now.features.now c.args.text.now)

pub returns-clause-longest : goal.returns-clause-longest
returns-clause-longest c = subst AreApart (sym c.in_ok-items.ensures)
    (items_are_apart c.args.options.now.levels.now c.args.options.now.languages.now c.args.options.now.features.now c.args.text.now)
