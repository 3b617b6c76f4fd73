use Rattle.std.proofs.Common.{subst, slice_index_or, ◌%◌}
use Rattle.layout_positions.specs.Known.{AreOut}
use Rattle.layout_positions.specs.declared.known.Known.{Known}
use Rattle.layout_positions.proofs.known.recalled.Goals as goal

pub returns-then-known-i : goal.returns-then-known-i
returns-then-known-i c =
    let there : Known = slice_index_or c.args.known.now (c.args.glyph % 16) (record { glyph = 0; out = 0 }) in
    subst (λ g. AreOut c.args.lookup.now g there.out) c.if-known-i.true
    (c.requires (c.args.glyph % 16) (record { glyph = 0; out = 0 }) c.if-i-known.true)
