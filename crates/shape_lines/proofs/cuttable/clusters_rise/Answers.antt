use Rattle.std.proofs.Common.{rules}
use Rattle.std.proofs.lemmas.List.Sorted.{answers_always}
use Rattle.shape_lines.proofs.NeighbourLemmas.{answers, rises_to, rises-pairs}
use Rattle.shape_lines.proofs.cuttable.clusters_rise.Goals as goal

pub returns : goal.returns
returns c =
    let items = c.args.infos.now in
    let asked = answers rises_to items c.is_sorted_by.result (c.is_sorted_by.ensures.cases rises_to (answers_always _ _ _ (λ f a r g called. search rules))) in
    (λ yes. (rises-pairs items).0 (asked.0 yes), λ holds. asked.1 ((rises-pairs items).1 holds))
