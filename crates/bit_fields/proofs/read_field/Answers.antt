use Rattle.std.proofs.Common.{◌-◌, ◌/◌, ◌^◌, bit_and, ap, ◌∙◌, arith}
use Rattle.std.proofs.lemmas.Nat.{and_mask, one_shl}
use Rattle.bit_fields.proofs.read_field.Goals as goal

pub returns : goal.returns
returns c =
    ap (λ m. bit_and (c.args.word / 2 ^ c.args.place) (m - 1)) (one_shl c.args.width 32 (omega arith))
    ∙ and_mask (c.args.word / 2 ^ c.args.place) c.args.width
