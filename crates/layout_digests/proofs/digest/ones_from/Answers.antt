use Rattle.std.proofs.Common.{◌≡◌, ◌-◌, ◌^◌, ◌≤◌, ◌%◌, true, sym, ap, subst, arith}
use Rattle.std.proofs.lemmas.Nat.{one_shl}
use Rattle.layout_matching.specs.Firsts.{has_bit}
use Rattle.layout_digests.proofs.WordLemmas.{from_on}
use Rattle.layout_digests.proofs.digest.ones_from.Goals as goal

pub returns : goal.returns
returns c = λ n within. subst (λ m. has_bit (18446744073709551615 - (m - 1)) n ≡ true) (sym (one_shl c.args.k 64 (omega (arith, c.requires))))
    (from_on c.args.k n (omega (arith, c.requires)) within)
