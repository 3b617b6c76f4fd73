use Rattle.std.proofs.Common.{arith}
use Rattle.shape_carets.proofs.LawLemmas.{returns-to, none_there}
use Rattle.shape_carets.proofs.laws.offsets_return.Goals as goal

pub returns-clause-last : goal.returns-clause-last
returns-clause-last c = returns-to

pub returns-clause-one_way : goal.returns-clause-one_way
returns-clause-one_way c = λ carets k offset x rise goes lt differ stands near.
    returns-to carets k offset x rise (omega arith) (none_there carets goes k lt differ) stands near
