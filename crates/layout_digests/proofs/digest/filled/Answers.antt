use Rattle.layout_matching.proofs.FirstLemmas.{all_set, set_before, set_after}
use Rattle.layout_digests.proofs.digest.filled.Goals as goal

pub returns-clause-set : goal.returns-clause-set
returns-clause-set c = λ n. set_after c.args.word 18446744073709551615 n (all_set n)

pub returns-clause-kept : goal.returns-clause-kept
returns-clause-kept c = λ n is. set_before c.args.word 18446744073709551615 n is
