use Rattle.std.proofs.Common.{◌≡◌, ◌%◌, true, sym, subst, bit_or, arith}
use Rattle.std.proofs.lemmas.Nat.{one_shl}
use Rattle.layout_matching.specs.Firsts.{has_bit}
use Rattle.layout_matching.proofs.FirstLemmas.{bit_set}
use Rattle.layout_matching.proofs.firsts.with_bit.Goals as goal

pub returns-clause-set : goal.returns-clause-set
returns-clause-set c = subst (λ m. has_bit (bit_or c.args.word m) c.args.n ≡ true) (sym (one_shl (c.args.n % 64) 64 (omega arith)))
    (bit_set c.args.word c.args.n)
