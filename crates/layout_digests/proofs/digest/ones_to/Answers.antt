use Rattle.std.proofs.Common.{◌≡◌, ◌-◌, ◌+◌, ◌^◌, ◌≤◌, ◌%◌, true, sym, ap, subst, arith}
use Rattle.std.proofs.lemmas.Nat.{one_shl}
use Rattle.layout_matching.specs.Firsts.{has_bit}
use Rattle.layout_digests.proofs.WordLemmas.{up_to}
use Rattle.layout_digests.proofs.digest.ones_to.Goals as goal

pub returns : goal.returns
returns c = λ n within. subst (λ m. has_bit (m - 1 + m) n ≡ true) (sym (one_shl c.args.k 64 (omega (arith, c.requires))))
    (up_to c.args.k n within)
