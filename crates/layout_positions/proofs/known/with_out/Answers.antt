use Rattle.std.proofs.Common.{bit_or, sym, subst}
use Rattle.layout_positions.specs.Known.{AreOut}
use Rattle.layout_positions.proofs.KnownLemmas.{one_out}
use Rattle.layout_positions.proofs.known.with_out.Goals as goal

pub returns-then-k-lt64 : goal.returns-then-k-lt64
returns-then-k-lt64 c =
    subst (λ x. AreOut c.args.lookup.now c.args.glyph (bit_or c.args.out x)) (sym c.bit.ensures)
    (one_out c.args.lookup.now c.args.glyph c.args.out c.args.k c.requires.out c.requires.new)
