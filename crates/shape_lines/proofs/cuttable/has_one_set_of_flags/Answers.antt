use Rattle.std.proofs.Common.{rules}
use Rattle.std.proofs.lemmas.List.Sorted.{answers_always}
use Rattle.shape_lines.proofs.NeighbourLemmas.{answers, shares_flags, flags-pairs}
use Rattle.shape_lines.proofs.cuttable.has_one_set_of_flags.Goals as goal

pub returns : goal.returns
returns c =
    let items = c.args.infos.now in
    let asked = answers shares_flags items c.is_sorted_by.result (c.is_sorted_by.ensures.cases shares_flags (answers_always _ _ _ (λ f a r g called. search rules))) in
    (λ yes. (flags-pairs items).0 (asked.0 yes), λ holds. asked.1 ((flags-pairs items).1 holds))
